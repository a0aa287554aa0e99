-- A comparison of two forms is so exactly where that of their values is.
use Rattle.std.proofs.Common.{◌≡◌, ◌≢◌, ℕ, suc, ◌<◌, ◌≤◌, ◌+◌, ◌^◌, ℤ, pos, negsuc, ◌+ℤ◌, ◌*ℤ◌, ◌≤ℤ◌, nat_eq, int_eq, unsigned_abs, Bool, true, false, map, Option, Some, Result, Ok, refl, ap, subst, arith}
use Rattle.std.specs.Prelude.{not, int_lt, int_le}
use Rattle.std.proofs.lemmas.Int.{ints}
use Rattle.std.proofs.lemmas.Bool.Decides.{nat_tests}
use Rattle.std.proofs.lemmas.List.Elements.{All-map, All-nil}
use lib.IntN.{pred_ℤ-*ℤ, zero-*ℤ}
use Rattle.pl_syntax.specs.declared.expr.BinOp.{BinOp}
use Rattle.pl_syntax.specs.declared.expr.BinOp.TheVariants.{Add, Sub, Mul, Div, Rem, Lt, Le, Gt, Ge, Eq, Ne, And, Or, Implies}
use Rattle.pl_syntax.specs.Values.{Value, Number, Block}
use Rattle.pl_syntax.specs.Values as v
use Rattle.pl_forms.specs.declared.form.Form.{Form}
use Rattle.pl_forms.specs.declared.form.TermError.{TermError}
use Rattle.pl_forms.specs.declared.fact.Shape.TheVariants.{Zero, Below, Differs}
use Rattle.pl_forms.specs.Forms.{value, parts_value, merge, excess, IsForm}
use Rattle.pl_forms.specs.Steps.{times_part}
use Rattle.pl_forms.specs.Goals.{Goal, Plain, Says}
use Rattle.pl_forms.specs.Goals as goal
use Rattle.pl_forms.specs.Places.{Within}
use Rattle.pl_forms.proofs.FormSums.{value-merge}
use Rattle.pl_forms.proofs.FormLimits.{limited_ok, small_from, ascends-merge}
use Rattle.pl_forms.proofs.FormSteps.{times_value, ascends_times}
use Rattle.pl_forms.proofs.PlaceLaws.{below_merge}
use Rattle.pl_normal.specs.Evaluation.{of_numbers, of_truths, of_pointers, same_truth, of_values, number_of}
use Rattle.pl_normal.specs.Normal.{Made, WithGoal, difference, zero_form, less, at_most, equal, compared}
use Rattle.pl_normal.specs.Meaning.{agreeing}
use Rattle.pl_normal.proofs.Growing.{plain_goal_is}

-- ---- differences

minus_time : (z : ℤ) → (negsuc 0 *ℤ z) +ℤ z ≡ pos 0
minus_time z = omega (arith, ints, pred_ℤ-*ℤ (pos 0) z, zero-*ℤ z)

pub difference_value : (f g d : Form) (k : ℤ) → difference f g k ≡ Ok d → (u : ℕ → ℤ) → value u d +ℤ value u g ≡ value u f +ℤ k
difference_value f g d k h u =
    let ps = merge f.parts (map (times_part (negsuc 0)) g.parts) in
    let o = limited_ok (excess ps) ps ((f.constant +ℤ (negsuc 0 *ℤ g.constant)) +ℤ k) d h in
    rw (o.1, o.2) (omega (arith, ints, value-merge u f.parts (map (times_part (negsuc 0)) g.parts), times_value u (negsuc 0) g.parts, minus_time (parts_value u g.parts), minus_time g.constant))

pub difference_form : (f g d : Form) (k : ℤ) → difference f g k ≡ Ok d → IsForm f → IsForm g → IsForm d
difference_form f g d k h p q =
    let ps = merge f.parts (map (times_part (negsuc 0)) g.parts) in
    let o = limited_ok (excess ps) ps ((f.constant +ℤ (negsuc 0 *ℤ g.constant)) +ℤ k) d h in
    record {
      ascends = rw o.1 (ascends-merge 0 f.parts (map (times_part (negsuc 0)) g.parts) p.ascends (ascends_times (negsuc 0) 0 g.parts refl q.ascends));
      small = rw o.1 (small_from ps o.0);
      bounded = rw o.2 o.3;
    }

pub difference_within : (n : ℕ) (f g d : Form) (k : ℤ) → difference f g k ≡ Ok d → Within n f → Within n g → Within n d
difference_within n f g d k h p q =
    let ps = merge f.parts (map (times_part (negsuc 0)) g.parts) in
    let o = limited_ok (excess ps) ps ((f.constant +ℤ (negsuc 0 *ℤ g.constant)) +ℤ k) d h in
    rw o.1 (below_merge n f.parts (map (times_part (negsuc 0)) g.parts) p (All-map (λ p. p.atom + 1 < n) (times_part (negsuc 0)) g.parts q))

-- ---- what a comparison says of two numbers

-- these operations connect conditions
abbrev pub connects : BinOp → Bool
connects And = true
connects Or = true
connects Implies = true
connects _ = false

abbrev pub IfSo : Bool → Type 0 → Type 0 → Type 0
IfSo true P Q = P
IfSo false P Q = Q

-- where the comparison is so, and where it isn't; the others aren't comparisons
abbrev pub Compares : BinOp → ℤ → ℤ → Bool → Type 0
Compares Lt a b t = IfSo t ((a +ℤ pos 1) ≤ℤ b) (b ≤ℤ a)
Compares Le a b t = IfSo t (a ≤ℤ b) ((b +ℤ pos 1) ≤ℤ a)
Compares Gt a b t = IfSo t ((b +ℤ pos 1) ≤ℤ a) (a ≤ℤ b)
Compares Ge a b t = IfSo t (b ≤ℤ a) ((a +ℤ pos 1) ≤ℤ b)
Compares Eq a b t = IfSo t (a ≡ b) (a ≢ b)
Compares Ne a b t = IfSo t (a ≢ b) (a ≡ b)
Compares _ a b t = ⊥

lt_so : (a b : ℤ) (t : Bool) → int_lt a b ≡ t → IfSo t ((a +ℤ pos 1) ≤ℤ b) (b ≤ℤ a)
lt_so a b true e = grind (arith, ints)
lt_so a b false e = grind (arith, ints)

le_so : (a b : ℤ) (t : Bool) → int_le a b ≡ t → IfSo t (a ≤ℤ b) ((b +ℤ pos 1) ≤ℤ a)
le_so a b true e = grind (arith, ints)
le_so a b false e = grind (arith, ints)

eq_so : (a b : ℤ) (t : Bool) → int_eq a b ≡ t → IfSo t (a ≡ b) (a ≢ b)
eq_so a b true e = grind (arith, ints)
eq_so a b false e = λ q. grind (arith, ints)

opposite_so : (b t : Bool) (P Q : Type 0) → ((s : Bool) → b ≡ s → IfSo s P Q) → not b ≡ t → IfSo t Q P
opposite_so true true P Q h e = absurd cc
opposite_so true false P Q h e = h true refl
opposite_so false true P Q h e = h false refl
opposite_so false false P Q h e = absurd cc

truth_is : (b t : Bool) → ◌≡◌ {A = Option Value} (Some (v.Truth b)) (Some (v.Truth t)) → b ≡ t
truth_is b t e = cc

numbers_compare : (op : BinOp) (a b : ℤ) (t : Bool) → connects op ≡ false → of_numbers op a b ≡ Some (v.Truth t) → Compares op a b t
numbers_compare Lt a b t c h = lt_so a b t (truth_is (int_lt a b) t h)
numbers_compare Le a b t c h = le_so a b t (truth_is (int_le a b) t h)
numbers_compare Gt a b t c h = lt_so b a t (truth_is (int_lt b a) t h)
numbers_compare Ge a b t c h = le_so b a t (truth_is (int_le b a) t h)
numbers_compare Eq a b t c h = eq_so a b t (truth_is (int_eq a b) t h)
numbers_compare Ne a b t c h = opposite_so (int_eq a b) t (a ≡ b) (a ≢ b) (λ s e. eq_so a b s e) (truth_is (not (int_eq a b)) t h)
numbers_compare Add a b t c h = absurd cc
numbers_compare Sub a b t c h = absurd cc
numbers_compare Mul a b t c h = absurd cc
numbers_compare Div a b t c h = absurd cc
numbers_compare Rem a b t c h = absurd cc
numbers_compare And a b t c h = absurd cc
numbers_compare Or a b t c h = absurd cc
numbers_compare Implies a b t c h = absurd cc

truths_so : (a b t : Bool) → same_truth a b ≡ t → IfSo t (number_of (v.Truth a) ≡ number_of (v.Truth b)) (number_of (v.Truth a) ≢ number_of (v.Truth b))
truths_so true true true e = refl
truths_so true true false e = absurd cc
truths_so true false true e = absurd cc
truths_so true false false e = λ q. absurd cc
truths_so false true true e = absurd cc
truths_so false true false e = λ q. absurd cc
truths_so false false true e = refl
truths_so false false false e = absurd cc

truths_compare : (op : BinOp) (a b t : Bool) → connects op ≡ false → of_truths op a b ≡ Some (v.Truth t) → Compares op (number_of (v.Truth a)) (number_of (v.Truth b)) t
truths_compare Eq a b t c h = truths_so a b t (truth_is (same_truth a b) t h)
truths_compare Ne a b t c h = opposite_so (same_truth a b) t (number_of (v.Truth a) ≡ number_of (v.Truth b)) (number_of (v.Truth a) ≢ number_of (v.Truth b)) (λ s e. truths_so a b s e) (truth_is (not (same_truth a b)) t h)
truths_compare Add a b t c h = absurd cc
truths_compare Sub a b t c h = absurd cc
truths_compare Mul a b t c h = absurd cc
truths_compare Div a b t c h = absurd cc
truths_compare Rem a b t c h = absurd cc
truths_compare Lt a b t c h = absurd cc
truths_compare Le a b t c h = absurd cc
truths_compare Gt a b t c h = absurd cc
truths_compare Ge a b t c h = absurd cc
truths_compare And a b t c h = absurd cc
truths_compare Or a b t c h = absurd cc
truths_compare Implies a b t c h = absurd cc

pointers_so : (i j : ℕ) (t : Bool) → nat_eq i j ≡ t → IfSo t (pos i ≡ pos j) (pos i ≢ pos j)
pointers_so i j true e = let q : i ≡ j = grind (arith, nat_tests) in ap pos q
pointers_so i j false e = λ q. let r : i ≡ j = cc in grind (arith, nat_tests)

pointers_compare : (op : BinOp) (i j : ℕ) (t : Bool) → connects op ≡ false → of_pointers op i j ≡ Some (v.Truth t) → Compares op (pos i) (pos j) t
pointers_compare Eq i j t c h = pointers_so i j t (truth_is (nat_eq i j) t h)
pointers_compare Ne i j t c h = opposite_so (nat_eq i j) t (pos i ≡ pos j) (pos i ≢ pos j) (λ s e. pointers_so i j s e) (truth_is (not (nat_eq i j)) t h)
pointers_compare Add i j t c h = absurd cc
pointers_compare Sub i j t c h = absurd cc
pointers_compare Mul i j t c h = absurd cc
pointers_compare Div i j t c h = absurd cc
pointers_compare Rem i j t c h = absurd cc
pointers_compare Lt i j t c h = absurd cc
pointers_compare Le i j t c h = absurd cc
pointers_compare Gt i j t c h = absurd cc
pointers_compare Ge i j t c h = absurd cc
pointers_compare And i j t c h = absurd cc
pointers_compare Or i j t c h = absurd cc
pointers_compare Implies i j t c h = absurd cc

pub values_compare : (op : BinOp) (x y : Value) (t : Bool) → connects op ≡ false → of_values op x y ≡ Some (v.Truth t) → Compares op (number_of x) (number_of y) t
values_compare op (Number a) (Number b) t c h = numbers_compare op a b t c h
values_compare op (v.Truth a) (v.Truth b) t c h = truths_compare op a b t c h
values_compare op v.Null v.Null t c h = pointers_compare op 0 0 t c h
values_compare op v.Null (Block b) t c h = pointers_compare op 0 (suc b) t c h
values_compare op (Block a) v.Null t c h = pointers_compare op (suc a) 0 t c h
values_compare op (Block a) (Block b) t c h = pointers_compare op (suc a) (suc b) t c h
values_compare op (Number a) (v.Truth b) t c h = absurd cc
values_compare op (Number a) v.Null t c h = absurd cc
values_compare op (Number a) (Block b) t c h = absurd cc
values_compare op (v.Truth a) (Number b) t c h = absurd cc
values_compare op (v.Truth a) v.Null t c h = absurd cc
values_compare op (v.Truth a) (Block b) t c h = absurd cc
values_compare op v.Null (Number b) t c h = absurd cc
values_compare op v.Null (v.Truth b) t c h = absurd cc
values_compare op (Block a) (Number b) t c h = absurd cc
values_compare op (Block a) (v.Truth b) t c h = absurd cc

-- ---- what a comparison of two forms says

-- a duty of the atoms of two forms, and nothing was made
pub record ComparesForms (f g : Form) (m : Made) (r : WithGoal) (So : ℤ → ℤ → Bool → Type 0) : Type 0 where
  pub made : r.made ≡ m
  pub form : IsForm f → IsForm g → goal.IsGoal r.goal
  pub within : (n : ℕ) → Within n f → Within n g → goal.GoalWithin n r.goal
  pub says : (u : ℕ → ℤ) (t : Bool) → So (value u f) (value u g) t → Says u r.goal t

below_says : (u : ℕ → ℤ) (d : Form) (a b k : ℤ) (t : Bool) → value u d +ℤ b ≡ a +ℤ k → IfSo t ((a +ℤ k) ≤ℤ b) ((b +ℤ pos 1) ≤ℤ (a +ℤ k)) → Says u (Plain Below d) t
below_says u d a b k true e h = omega (arith, ints, e, h)
below_says u d a b k false e h = omega (arith, ints, e, h)

zero_says : (u : ℕ → ℤ) (d : Form) (a b : ℤ) (t : Bool) → value u d +ℤ b ≡ a +ℤ pos 0 → IfSo t (a ≡ b) (a ≢ b) → Says u (Plain Zero d) t
zero_says u d a b true e h = omega (arith, ints, e, h)
zero_says u d a b false e h = λ q. h (omega (arith, ints, e, q))

differs_says : (u : ℕ → ℤ) (d : Form) (a b : ℤ) (t : Bool) → value u d +ℤ b ≡ a +ℤ pos 0 → IfSo t (a ≢ b) (a ≡ b) → Says u (Plain Differs d) t
differs_says u d a b true e h = λ q. h (omega (arith, ints, e, q))
differs_says u d a b false e h = omega (arith, ints, e, h)

less_is : (f g : Form) (m : Made) (r : WithGoal) → less f g m ≡ Ok r → ComparesForms f g m r (λ a b t. IfSo t ((a +ℤ pos 1) ≤ℤ b) (b ≤ℤ a))
less_is f g m r h =
    let q = plain_goal_is m Below (difference f g (pos 1)) r h in
    subst (λ r. ComparesForms f g m r (λ a b t. IfSo t ((a +ℤ pos 1) ≤ℤ b) (b ≤ℤ a))) q.2 (record {
      made = refl;
      form = λ p s. difference_form f g q.0 (pos 1) q.1 p s;
      within = λ n p s. difference_within n f g q.0 (pos 1) q.1 p s;
      says = λ u t so. below_says u q.0 (value u f) (value u g) (pos 1) t (difference_value f g q.0 (pos 1) q.1 u) (one (value u f) (value u g) t so);
    })
  where
    one : (a b : ℤ) (t : Bool) → IfSo t ((a +ℤ pos 1) ≤ℤ b) (b ≤ℤ a) → IfSo t ((a +ℤ pos 1) ≤ℤ b) ((b +ℤ pos 1) ≤ℤ (a +ℤ pos 1))
    one a b true h = h
    one a b false h = omega (arith, ints, h)

at_most_is : (f g : Form) (m : Made) (r : WithGoal) → at_most f g m ≡ Ok r → ComparesForms f g m r (λ a b t. IfSo t (a ≤ℤ b) ((b +ℤ pos 1) ≤ℤ a))
at_most_is f g m r h =
    let q = plain_goal_is m Below (difference f g (pos 0)) r h in
    subst (λ r. ComparesForms f g m r (λ a b t. IfSo t (a ≤ℤ b) ((b +ℤ pos 1) ≤ℤ a))) q.2 (record {
      made = refl;
      form = λ p s. difference_form f g q.0 (pos 0) q.1 p s;
      within = λ n p s. difference_within n f g q.0 (pos 0) q.1 p s;
      says = λ u t so. below_says u q.0 (value u f) (value u g) (pos 0) t (difference_value f g q.0 (pos 0) q.1 u) (none (value u f) (value u g) t so);
    })
  where
    none : (a b : ℤ) (t : Bool) → IfSo t (a ≤ℤ b) ((b +ℤ pos 1) ≤ℤ a) → IfSo t ((a +ℤ pos 0) ≤ℤ b) ((b +ℤ pos 1) ≤ℤ (a +ℤ pos 0))
    none a b true h = omega (arith, ints, h)
    none a b false h = omega (arith, ints, h)

-- equal, or different
abbrev Equals : Bool → ℤ → ℤ → Bool → Type 0
Equals true a b t = IfSo t (a ≡ b) (a ≢ b)
Equals false a b t = IfSo t (a ≢ b) (a ≡ b)

equal_is : (h : Bool) (f g : Form) (m : Made) (r : WithGoal) → equal h f g m ≡ Ok r → ComparesForms f g m r (Equals h)
equal_is true f g m r h =
    let q = plain_goal_is m Zero (difference f g (pos 0)) r h in
    subst (λ r. ComparesForms f g m r (Equals true)) q.2 (record {
      made = refl;
      form = λ p s. difference_form f g q.0 (pos 0) q.1 p s;
      within = λ n p s. difference_within n f g q.0 (pos 0) q.1 p s;
      says = λ u t so. zero_says u q.0 (value u f) (value u g) t (difference_value f g q.0 (pos 0) q.1 u) so;
    })
equal_is false f g m r h =
    let q = plain_goal_is m Differs (difference f g (pos 0)) r h in
    subst (λ r. ComparesForms f g m r (Equals false)) q.2 (record {
      made = refl;
      form = λ p s. difference_form f g q.0 (pos 0) q.1 p s;
      within = λ n p s. difference_within n f g q.0 (pos 0) q.1 p s;
      says = λ u t so. differs_says u q.0 (value u f) (value u g) t (difference_value f g q.0 (pos 0) q.1 u) so;
    })

-- the same of other conditions on the numbers
compares_so : (f g : Form) (m : Made) (r : WithGoal) (P Q : ℤ → ℤ → Bool → Type 0) → ((a b : ℤ) (t : Bool) → Q a b t → P a b t) → ComparesForms f g m r P → ComparesForms f g m r Q
compares_so f g m r P Q h c = record { made = c.made; form = c.form; within = c.within; says = λ u t so. c.says u t (h (value u f) (value u g) t so) }

-- .. of the two forms the other way round
compares_back : (f g : Form) (m : Made) (r : WithGoal) (P Q : ℤ → ℤ → Bool → Type 0) → ((a b : ℤ) (t : Bool) → Q a b t → P b a t) → ComparesForms g f m r P → ComparesForms f g m r Q
compares_back f g m r P Q h c = record { made = c.made; form = λ p q. c.form q p; within = λ n p q. c.within n q p; says = λ u t so. c.says u t (h (value u f) (value u g) t so) }

-- a comparison or its opposite
abbrev pub Turns : BinOp → Bool → ℤ → ℤ → Bool → Type 0
Turns op h a b t = Compares op a b (agreeing h t)

over : (P Q : Type 0) (t : Bool) → IfSo (not t) P Q → IfSo t Q P
over P Q true h = h
over P Q false h = h

zero_is : IsForm zero_form
zero_is = record { ascends = tt; small = All-nil (λ p. unsigned_abs p.coeff ≤ 2 ^ 40); bounded = omega arith }

none_is : (h : Bool) (f g : Form) (m : Made) (r : WithGoal) (So : ℤ → ℤ → Bool → Type 0) → ((a b : ℤ) (t : Bool) → So a b t → ⊥) → ◌≡◌ {A = Result WithGoal TermError} (Ok (record { goal = goal.Truth zero_form h; made = m })) (Ok r) → ComparesForms f g m r So
none_is h f g m r So none e =
    let same : (record { goal = goal.Truth zero_form h; made = m }) ≡ r = cc in
    subst (λ r. ComparesForms f g m r So) same (record {
      made = refl;
      form = λ p s. zero_is;
      within = λ n p s. All-nil (λ p. p.atom + 1 < n);
      says = λ u t so. absurd (none (value u f) (value u g) t so);
    })

pub compared_is : (op : BinOp) (h : Bool) (f g : Form) (m : Made) (r : WithGoal) → compared op h f g m ≡ Ok r → ComparesForms f g m r (Turns op h)
compared_is Lt true f g m r e = less_is f g m r e
compared_is Lt false f g m r e = compares_back f g m r (λ a b t. IfSo t (a ≤ℤ b) ((b +ℤ pos 1) ≤ℤ a)) (Turns Lt false) (λ a b t q. over ((a +ℤ pos 1) ≤ℤ b) (b ≤ℤ a) t q) (at_most_is g f m r e)
compared_is Le true f g m r e = at_most_is f g m r e
compared_is Le false f g m r e = compares_back f g m r (λ a b t. IfSo t ((a +ℤ pos 1) ≤ℤ b) (b ≤ℤ a)) (Turns Le false) (λ a b t q. over (a ≤ℤ b) ((b +ℤ pos 1) ≤ℤ a) t q) (less_is g f m r e)
compared_is Gt true f g m r e = compares_back f g m r (λ a b t. IfSo t ((a +ℤ pos 1) ≤ℤ b) (b ≤ℤ a)) (Turns Gt true) (λ a b t q. q) (less_is g f m r e)
compared_is Gt false f g m r e = compares_so f g m r (λ a b t. IfSo t (a ≤ℤ b) ((b +ℤ pos 1) ≤ℤ a)) (Turns Gt false) (λ a b t q. over ((b +ℤ pos 1) ≤ℤ a) (a ≤ℤ b) t q) (at_most_is f g m r e)
compared_is Ge true f g m r e = compares_back f g m r (λ a b t. IfSo t (a ≤ℤ b) ((b +ℤ pos 1) ≤ℤ a)) (Turns Ge true) (λ a b t q. q) (at_most_is g f m r e)
compared_is Ge false f g m r e = compares_so f g m r (λ a b t. IfSo t ((a +ℤ pos 1) ≤ℤ b) (b ≤ℤ a)) (Turns Ge false) (λ a b t q. over (b ≤ℤ a) ((a +ℤ pos 1) ≤ℤ b) t q) (less_is f g m r e)
compared_is Eq true f g m r e = equal_is true f g m r e
compared_is Eq false f g m r e = compares_so f g m r (Equals false) (Turns Eq false) (λ a b t q. over (a ≡ b) (a ≢ b) t q) (equal_is false f g m r e)
compared_is Ne true f g m r e = equal_is false f g m r e
compared_is Ne false f g m r e = compares_so f g m r (Equals true) (Turns Ne false) (λ a b t q. over (a ≢ b) (a ≡ b) t q) (equal_is true f g m r e)
compared_is Add h f g m r e = none_is h f g m r (Turns Add h) (λ a b t q. q) e
compared_is Sub h f g m r e = none_is h f g m r (Turns Sub h) (λ a b t q. q) e
compared_is Mul h f g m r e = none_is h f g m r (Turns Mul h) (λ a b t q. q) e
compared_is Div h f g m r e = none_is h f g m r (Turns Div h) (λ a b t q. q) e
compared_is Rem h f g m r e = none_is h f g m r (Turns Rem h) (λ a b t q. q) e
compared_is And h f g m r e = none_is h f g m r (Turns And h) (λ a b t q. q) e
compared_is Or h f g m r e = none_is h f g m r (Turns Or h) (λ a b t q. q) e
compared_is Implies h f g m r e = none_is h f g m r (Turns Implies h) (λ a b t q. q) e
