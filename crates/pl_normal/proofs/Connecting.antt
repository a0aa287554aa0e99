-- Conditions that are made of others, and the booleans that they are.
use Rattle.std.proofs.Common.{◌≡◌, ℕ, suc, ◌<◌, ◌≤◌, ◌+◌, ◌^◌, ℤ, int_eq, nat_eq, unsigned_abs, Bool, true, false, ◌&&◌, ◌||◌, not, List, length, Option, Some, None, Result, Ok, Err, inl, inr, refl, ap, sym, subst, ◌∙◌, arith}
use Rattle.std.specs.Prelude.{int_lt, int_le}
use Rattle.std.proofs.lemmas.Int.{ints}
use Rattle.std.proofs.lemmas.List.Elements.{All-nil}
use Rattle.pl_syntax.specs.declared.expr.BinOp.{BinOp}
use Rattle.pl_syntax.specs.declared.expr.BinOp.TheVariants.{Add, Lt, Le, Gt, Ge, Eq, Ne, And, Or, Implies}
use Rattle.pl_syntax.specs.Tree.{Expr}
use Rattle.pl_syntax.specs.Values.{Value, Number, Block, Vars}
use Rattle.pl_syntax.specs.Values as v
use Rattle.pl_forms.specs.declared.form.Form.{Form}
use Rattle.pl_forms.specs.declared.form.TermError.{TermError}
use Rattle.pl_forms.specs.declared.fact.Shape.{Shape}
use Rattle.pl_forms.specs.declared.fact.Shape.TheVariants.{Zero, Below, Differs}
use Rattle.pl_forms.specs.Forms.{value, IsForm}
use Rattle.pl_forms.specs.Facts.{MeetsShape}
use Rattle.pl_forms.specs.Goals.{Goal, Truth, Plain, Both, Either, When, EachForm, IsGoal, GoalWithin, MissesShape, IsTruth, Says}
use Rattle.pl_forms.specs.Places.{Within}
use Rattle.pl_normal.specs.declared.scope.Binding.{Binding}
use Rattle.pl_normal.specs.Evaluation.{of_numbers, of_truths, of_pointers, same_truth, of_values, applied, number_of}
use Rattle.pl_normal.specs.Normal.{Made, WithForm, WithGoal, form_goal, then_goal, zero_form, compared, both, either, guarded, implied, boolean}
use Rattle.pl_normal.specs.Meaning.{InOrder, Agrees, Grows, agreeing}
use Rattle.pl_normal.proofs.NumbersBelow.{value_same, says_same}
use Rattle.pl_normal.proofs.Growing.{then_goal_is, form_goal_is, within_more, goal_more, grows_then, grows_length, Has, has_so, has_last, has_both, FormGoes, GoalGoes, FormStep, GoalStep}
use Rattle.pl_normal.proofs.Comparing.{connects, Compares, values_compare, compared_is}
use Rattle.pl_normal.proofs.Calculating.{calculates, applied_is, two_forms}
use Rattle.pl_normal.proofs.NewAtoms.{boolean_is}

-- ---- what duties say together

shape_not_both : (u : ℕ → ℤ) (s : Shape) (f : Form) → MeetsShape u s f → MissesShape u s f → ⊥
shape_not_both u Zero f m n = n m
shape_not_both u Below f m n = omega (arith, ints, m, n)
shape_not_both u Differs f m n = m n

truth_not_both : (u : ℕ → ℤ) (b : Form) → IsTruth u b true → IsTruth u b false → ⊥
truth_not_both u b m n = omega (arith, ints, m, n)

-- a duty isn't so together with its negation
pub says_not_both : (u : ℕ → ℤ) (goal : Goal) → Says u goal true → Says u goal false → ⊥
says_not_both u (Truth b true) m n = truth_not_both u b m n
says_not_both u (Truth b false) m n = truth_not_both u b n m
says_not_both u (Plain s f) m n = shape_not_both u s f m n
says_not_both u (Both a b) m (inl n) = says_not_both u a m.0 n
says_not_both u (Both a b) m (inr n) = says_not_both u b m.1 n
says_not_both u (Either a b) m n = says_not_both u b (m n.0) n.1
says_not_both u (When k e) m n = says_not_both u e (m n.0) n.1

both_says : (u : ℕ → ℤ) (a b : Goal) (p q : Bool) → Says u a p → Says u b q → Says u (Both a b) (p && q)
both_says u a b true true s t = (s, t)
both_says u a b true false s t = inr t
both_says u a b false true s t = inl s
both_says u a b false false s t = inl s

either_says : (u : ℕ → ℤ) (a b : Goal) (p q : Bool) → Says u a p → Says u b q → Says u (Either a b) (p || q)
either_says u a b true q s t = λ k. absurd (says_not_both u a s k)
either_says u a b false true s t = λ k. t
either_says u a b false false s t = (s, t)

when_says : (u : ℕ → ℤ) (g : Form) (e : Goal) (p q : Bool) → value u g ≡ number_of (v.Truth p) → Says u e q → Says u (When g e) (not p || q)
when_says u g e true true n s = λ k. s
when_says u g e true false n s = (n, s)
when_says u g e false q n s = λ k. absurd (omega (arith, ints, n, k))

-- the guard is so and the duty isn't
unmet_says : (u : ℕ → ℤ) (g : Form) (e : Goal) (p q : Bool) → value u g ≡ number_of (v.Truth p) → Says u e (not q) → Says u (guarded false g e) (not (not p || q))
unmet_says u g e true true n s = (refl, inr s)
unmet_says u g e true false n s = λ k. (n, s)
unmet_says u g e false q n s = (refl, inl n)

guarded_says : (u : ℕ → ℤ) (h : Bool) (g : Form) (e : Goal) (p q : Bool) → value u g ≡ number_of (v.Truth p) → Says u e (agreeing h q) → Says u (guarded h g e) (agreeing h (not p || q))
guarded_says u true g e p q n s = when_says u g e p q n s
guarded_says u false g e p q n s = unmet_says u g e p q n s

each_guarded : (P : Form → Type 0) (h : Bool) (g : Form) (e : Goal) → P zero_form → P g → EachForm P e → EachForm P (guarded h g e)
each_guarded P true g e z p q = (p, q)
each_guarded P false g e z p q = (z, (p, q))

-- ---- truths of operations

abbrev pub connected_truth : BinOp → Bool → Bool → Bool
connected_truth And p q = p && q
connected_truth Or p q = p || q
connected_truth _ p q = not p || q

truths_connect : (op : BinOp) (p q t : Bool) → connects op ≡ true → of_truths op p q ≡ Some (v.Truth t) → connected_truth op p q ≡ t
truths_connect And p q t c h = cc
truths_connect Or p q t c h = cc
truths_connect Implies p q t c h = cc
truths_connect _ p q t c h = absurd cc

numbers_none : (op : BinOp) (a b : ℤ) (w : Value) → connects op ≡ true → of_numbers op a b ≡ Some w → ⊥
numbers_none Add a b w c h = absurd cc
numbers_none _ a b w c h = absurd cc

pointers_none : (op : BinOp) (i j : ℕ) (w : Value) → connects op ≡ true → of_pointers op i j ≡ Some w → ⊥
pointers_none Add i j w c h = absurd cc
pointers_none _ i j w c h = absurd cc

-- both operands are truths
pub record AreTruths (op : BinOp) (x y : Option Value) (t : Bool) : Type 0 where
  pub left : Bool
  pub right : Bool
  pub left_is : x ≡ Some (v.Truth left)
  pub right_is : y ≡ Some (v.Truth right)
  pub truth : connected_truth op left right ≡ t

values_connect : (op : BinOp) (x y : Value) (t : Bool) → connects op ≡ true → of_values op x y ≡ Some (v.Truth t) → AreTruths op (Some x) (Some y) t
values_connect op (v.Truth p) (v.Truth q) t c h = record { left = p; right = q; left_is = refl; right_is = refl; truth = truths_connect op p q t c h }
values_connect op (Number a) (Number b) t c h = absurd (numbers_none op a b (v.Truth t) c h)
values_connect op v.Null v.Null t c h = absurd (pointers_none op 0 0 (v.Truth t) c h)
values_connect op v.Null (Block b) t c h = absurd (pointers_none op 0 (suc b) (v.Truth t) c h)
values_connect op (Block a) v.Null t c h = absurd (pointers_none op (suc a) 0 (v.Truth t) c h)
values_connect op (Block a) (Block b) t c h = absurd (pointers_none op (suc a) (suc b) (v.Truth t) c h)
values_connect op (Number a) (v.Truth b) t c h = absurd cc
values_connect op (Number a) v.Null t c h = absurd cc
values_connect op (Number a) (Block b) t c h = absurd cc
values_connect op (v.Truth a) (Number b) t c h = absurd cc
values_connect op (v.Truth a) v.Null t c h = absurd cc
values_connect op (v.Truth a) (Block b) t c h = absurd cc
values_connect op v.Null (Number b) t c h = absurd cc
values_connect op v.Null (v.Truth b) t c h = absurd cc
values_connect op (Block a) (Number b) t c h = absurd cc
values_connect op (Block a) (v.Truth b) t c h = absurd cc

applied_connect : (op : BinOp) (x y : Option Value) (t : Bool) → connects op ≡ true → applied op x y ≡ Some (v.Truth t) → AreTruths op x y t
applied_connect op (Some x) (Some y) t c h = values_connect op x y t c h
applied_connect op (Some x) None t c h = absurd cc
applied_connect op None (Some y) t c h = absurd cc
applied_connect op None None t c h = absurd cc

-- an operation that calculates no number has a truth
numbers_truth : (op : BinOp) (a b : ℤ) (w : Value) → calculates op ≡ false → of_numbers op a b ≡ Some w → (t : Bool) × (v.Truth t ≡ w)
numbers_truth Lt a b w c h = (int_lt a b, cc)
numbers_truth Le a b w c h = (int_le a b, cc)
numbers_truth Gt a b w c h = (int_lt b a, cc)
numbers_truth Ge a b w c h = (int_le b a, cc)
numbers_truth Eq a b w c h = (int_eq a b, cc)
numbers_truth Ne a b w c h = (not (int_eq a b), cc)
numbers_truth _ a b w c h = absurd cc

truths_truth : (op : BinOp) (a b : Bool) (w : Value) → calculates op ≡ false → of_truths op a b ≡ Some w → (t : Bool) × (v.Truth t ≡ w)
truths_truth Eq a b w c h = (same_truth a b, cc)
truths_truth Ne a b w c h = (not (same_truth a b), cc)
truths_truth And a b w c h = (a && b, cc)
truths_truth Or a b w c h = (a || b, cc)
truths_truth Implies a b w c h = (not a || b, cc)
truths_truth _ a b w c h = absurd cc

pointers_truth : (op : BinOp) (i j : ℕ) (w : Value) → calculates op ≡ false → of_pointers op i j ≡ Some w → (t : Bool) × (v.Truth t ≡ w)
pointers_truth Eq i j w c h = (nat_eq i j, cc)
pointers_truth Ne i j w c h = (not (nat_eq i j), cc)
pointers_truth _ i j w c h = absurd cc

values_truth : (op : BinOp) (x y w : Value) → calculates op ≡ false → of_values op x y ≡ Some w → (t : Bool) × (v.Truth t ≡ w)
values_truth op (Number a) (Number b) w c h = numbers_truth op a b w c h
values_truth op (v.Truth p) (v.Truth q) w c h = truths_truth op p q w c h
values_truth op v.Null v.Null w c h = pointers_truth op 0 0 w c h
values_truth op v.Null (Block b) w c h = pointers_truth op 0 (suc b) w c h
values_truth op (Block a) v.Null w c h = pointers_truth op (suc a) 0 w c h
values_truth op (Block a) (Block b) w c h = pointers_truth op (suc a) (suc b) w c h
values_truth op (Number a) (v.Truth b) w c h = absurd cc
values_truth op (Number a) v.Null w c h = absurd cc
values_truth op (Number a) (Block b) w c h = absurd cc
values_truth op (v.Truth a) (Number b) w c h = absurd cc
values_truth op (v.Truth a) v.Null w c h = absurd cc
values_truth op (v.Truth a) (Block b) w c h = absurd cc
values_truth op v.Null (Number b) w c h = absurd cc
values_truth op v.Null (v.Truth b) w c h = absurd cc
values_truth op (Block a) (Number b) w c h = absurd cc
values_truth op (Block a) (v.Truth b) w c h = absurd cc

pub applied_truth : (op : BinOp) (x y : Option Value) (w : Value) → calculates op ≡ false → applied op x y ≡ Some w → (t : Bool) × (v.Truth t ≡ w)
applied_truth op (Some x) (Some y) w c h = values_truth op x y w c h
applied_truth op (Some x) None w c h = absurd cc
applied_truth op None (Some y) w c h = absurd cc
applied_truth op None None w c h = absurd cc

-- ---- two conditions, one made after the other

-- a duty of two, whose truth is that of theirs
pub record Joins (names : List Binding) (a b : Vars → Option Value) (j g : Bool) (m : Made) (r : WithGoal) (join : Goal → Goal → Goal) : Type 0 where
  pub first : Goal
  pub second : Goal
  pub grows : Grows names m r.made
  pub is : r.goal ≡ join first second
  pub first_is : IsGoal first
  pub second_is : IsGoal second
  pub first_in : GoalWithin (length r.made.atoms + 1) first
  pub second_in : GoalWithin (length r.made.atoms + 1) second
  pub has : (u : ℕ → ℤ) (vars : Vars) (p q : Bool) → Agrees u vars names m → a vars ≡ Some (v.Truth p) → b vars ≡ Some (v.Truth q) → Has u vars names m r.made (λ w. Says w first (agreeing j p) × Says w second (agreeing g q))

joins :
    (names : List Binding) (a b : Vars → Option Value) (goal_a goal_b : Bool → Made → Result WithGoal TermError) → GoalStep names a goal_a → GoalStep names b goal_b
    → (join : Goal → Goal → Goal) (j g : Bool) (m : Made) (r : WithGoal) → InOrder names m
    → then_goal (goal_a j m) (λ x n. then_goal (goal_b g n) (λ y k. Ok (record { goal = join x y; made = k }))) ≡ Ok r → Joins names a b j g m r join
joins names a b goal_a goal_b step_a step_b join j g m r i h =
    let p = then_goal_is (goal_a j m) (λ x n. then_goal (goal_b g n) (λ y k. Ok (record { goal = join x y; made = k }))) r h in
    let q = then_goal_is (goal_b g p.0.made) (λ y k. Ok (record { goal = join p.0.goal y; made = k })) r p.2 in
    let same : (record { goal = join p.0.goal q.0.goal; made = q.0.made }) ≡ r = cc in
    let s = step_a j m p.0 i p.1 in
    let t = step_b g p.0.made q.0 s.in_order.0.in_order q.1 in
    let le : length p.0.made.atoms ≤ length q.0.made.atoms = grows_length names p.0.made q.0.made t.in_order.0 in
    subst (λ r. Joins names a b j g m r join) same (record {
      first = p.0.goal;
      second = q.0.goal;
      grows = grows_then names m p.0.made q.0.made s.in_order.0 t.in_order.0;
      is = refl;
      first_is = s.in_order.1;
      second_is = t.in_order.1;
      first_in = goal_more (length p.0.made.atoms + 1) (length q.0.made.atoms + 1) p.0.goal (omega arith) s.in_order.2;
      second_in = t.in_order.2;
      has = λ u vars x y k ea eb.
          has_both u vars names m p.0.made q.0.made (λ w. Says w p.0.goal (agreeing j x)) (λ w. Says w q.0.goal (agreeing g y)) s.in_order.0
          (λ w z below e. says_same (length p.0.made.atoms) w z p.0.goal (agreeing j x) s.in_order.2 below e) (s.has u vars x k ea) (λ w k. t.has w vars y k eb);
    })

-- an operation that connects two conditions
connects_goes :
    (names : List Binding) (op : BinOp) (h : Bool) (a b : Vars → Option Value) (j g : Bool) (m : Made) (r : WithGoal) (join : Goal → Goal → Goal)
    → connects op ≡ true → ((P : Form → Type 0) (x y : Goal) → EachForm P x → EachForm P y → EachForm P (join x y))
    → ((u : ℕ → ℤ) (x y : Goal) (p q : Bool) → Says u x (agreeing j p) → Says u y (agreeing g q) → Says u (join x y) (agreeing h (connected_truth op p q)))
    → Joins names a b j g m r join → GoalGoes names (λ vars. applied op (a vars) (b vars)) h m r
connects_goes names op h a b j g m r join c each says k = record {
  in_order = (k.grows, subst IsGoal (sym k.is) (each IsForm k.first k.second k.first_is k.second_is), subst (GoalWithin (length r.made.atoms + 1)) (sym k.is) (each (Within (length r.made.atoms + 1)) k.first k.second k.first_in k.second_in));
  has = λ u vars t agrees e.
      let truths = applied_connect op (a vars) (b vars) t c e in
      has_so u vars names m r.made (λ w. Says w k.first (agreeing j truths.left) × Says w k.second (agreeing g truths.right)) (λ w. Says w r.goal (agreeing h t))
      (λ w s. subst (λ x. Says w x (agreeing h t)) (sym k.is) (subst (λ x. Says w (join k.first k.second) (agreeing h x)) truths.truth (says w k.first k.second truths.left truths.right s.0 s.1)))
      (k.has u vars truths.left truths.right agrees truths.left_is truths.right_is);
}

not_both : (p q : Bool) → (not p || not q) ≡ not (p && q)
not_both true q = refl
not_both false q = refl

not_either : (p q : Bool) → (not p && not q) ≡ not (p || q)
not_either true q = refl
not_either false q = refl

pub and_goes :
    (names : List Binding) (a b : Vars → Option Value) (goal_a goal_b : Bool → Made → Result WithGoal TermError) → GoalStep names a goal_a → GoalStep names b goal_b
    → (m : Made) (r : WithGoal) → InOrder names m → both (goal_a true m) (λ n. goal_b true n) ≡ Ok r → GoalGoes names (λ vars. applied And (a vars) (b vars)) true m r
and_goes names a b goal_a goal_b step_a step_b m r i h =
    connects_goes names And true a b true true m r Both refl (λ P x y p q. (p, q)) (λ u x y p q s t. both_says u x y p q s t) (joins names a b goal_a goal_b step_a step_b Both true true m r i h)

pub not_and_goes :
    (names : List Binding) (a b : Vars → Option Value) (goal_a goal_b : Bool → Made → Result WithGoal TermError) → GoalStep names a goal_a → GoalStep names b goal_b
    → (m : Made) (r : WithGoal) → InOrder names m → either (goal_a false m) (λ n. goal_b false n) ≡ Ok r → GoalGoes names (λ vars. applied And (a vars) (b vars)) false m r
not_and_goes names a b goal_a goal_b step_a step_b m r i h =
    connects_goes names And false a b false false m r Either refl (λ P x y p q. (p, q)) (λ u x y p q s t. subst (λ k. Says u (Either x y) k) (not_both p q) (either_says u x y (not p) (not q) s t))
    (joins names a b goal_a goal_b step_a step_b Either false false m r i h)

pub or_goes :
    (names : List Binding) (a b : Vars → Option Value) (goal_a goal_b : Bool → Made → Result WithGoal TermError) → GoalStep names a goal_a → GoalStep names b goal_b
    → (m : Made) (r : WithGoal) → InOrder names m → either (goal_a true m) (λ n. goal_b true n) ≡ Ok r → GoalGoes names (λ vars. applied Or (a vars) (b vars)) true m r
or_goes names a b goal_a goal_b step_a step_b m r i h =
    connects_goes names Or true a b true true m r Either refl (λ P x y p q. (p, q)) (λ u x y p q s t. either_says u x y p q s t) (joins names a b goal_a goal_b step_a step_b Either true true m r i h)

pub not_or_goes :
    (names : List Binding) (a b : Vars → Option Value) (goal_a goal_b : Bool → Made → Result WithGoal TermError) → GoalStep names a goal_a → GoalStep names b goal_b
    → (m : Made) (r : WithGoal) → InOrder names m → both (goal_a false m) (λ n. goal_b false n) ≡ Ok r → GoalGoes names (λ vars. applied Or (a vars) (b vars)) false m r
not_or_goes names a b goal_a goal_b step_a step_b m r i h =
    connects_goes names Or false a b false false m r Both refl (λ P x y p q. (p, q)) (λ u x y p q s t. subst (λ k. Says u (Both x y) k) (not_either p q) (both_says u x y (not p) (not q) s t))
    (joins names a b goal_a goal_b step_a step_b Both false false m r i h)

-- ---- a condition under a guard

zero_is : IsForm zero_form
zero_is = record { ascends = tt; small = All-nil (λ p. unsigned_abs p.coeff ≤ 2 ^ 40); bounded = omega arith }

zero_within : (n : ℕ) → Within n zero_form
zero_within n = All-nil (λ p. p.atom + 1 < n)

pub implies_goes :
    (names : List Binding) (h : Bool) (a b : Vars → Option Value) (form_a : Made → Result WithForm TermError) (goal_b : Bool → Made → Result WithGoal TermError) → FormStep names a form_a → GoalStep names b goal_b
    → (m : Made) (r : WithGoal) → InOrder names m → implied h (form_a m) (λ n. goal_b h n) ≡ Ok r → GoalGoes names (λ vars. applied Implies (a vars) (b vars)) h m r
implies_goes names h a b form_a goal_b step_a step_b m r i e =
    let p = form_goal_is (form_a m) (λ g n. then_goal (goal_b h n) (λ x k. Ok (record { goal = guarded h g x; made = k }))) r e in
    let q = then_goal_is (goal_b h p.0.made) (λ x k. Ok (record { goal = guarded h p.0.form x; made = k })) r p.2 in
    let same : (record { goal = guarded h p.0.form q.0.goal; made = q.0.made }) ≡ r = cc in
    let s = step_a m p.0 i p.1 in
    let t = step_b h p.0.made q.0 s.in_order.0.in_order q.1 in
    let le : length p.0.made.atoms ≤ length q.0.made.atoms = grows_length names p.0.made q.0.made t.in_order.0 in
    subst (λ r. GoalGoes names (λ vars. applied Implies (a vars) (b vars)) h m r) same (record {
      in_order = (
        grows_then names m p.0.made q.0.made s.in_order.0 t.in_order.0,
        each_guarded IsForm h p.0.form q.0.goal zero_is s.in_order.1 t.in_order.1,
        each_guarded (Within (length q.0.made.atoms + 1)) h p.0.form q.0.goal (zero_within (length q.0.made.atoms + 1)) (within_more (length p.0.made.atoms + 1) (length q.0.made.atoms + 1) p.0.form (omega arith) s.in_order.2) t.in_order.2,
      );
      has = λ u vars x k z.
          let truths = applied_connect Implies (a vars) (b vars) x refl z in
          has_so u vars names m q.0.made (λ w. (value w p.0.form ≡ number_of (v.Truth truths.left)) × Says w q.0.goal (agreeing h truths.right)) (λ w. Says w (guarded h p.0.form q.0.goal) (agreeing h x))
          (λ w n. subst (λ l. Says w (guarded h p.0.form q.0.goal) (agreeing h l)) truths.truth (guarded_says w h p.0.form q.0.goal truths.left truths.right n.0 n.1))
          (has_both u vars names m p.0.made q.0.made (λ w. value w p.0.form ≡ number_of (v.Truth truths.left)) (λ w. Says w q.0.goal (agreeing h truths.right)) s.in_order.0
          (λ w l below n. value_same (length p.0.made.atoms) w l p.0.form s.in_order.2 below ∙ n) (s.has u vars (v.Truth truths.left) k truths.left_is) (λ w k. t.has w vars truths.right k truths.right_is));
    })

-- ---- comparisons

agreeing_so : (P : Bool → Type 0) (h t : Bool) → P t → P (agreeing h (agreeing h t))
agreeing_so P true t p = p
agreeing_so P false true p = p
agreeing_so P false false p = p

pub compared_goes :
    (names : List Binding) (op : BinOp) (h : Bool) (a b : Vars → Option Value) (form_a form_b : Made → Result WithForm TermError) → connects op ≡ false → FormStep names a form_a → FormStep names b form_b
    → (m : Made) (r : WithGoal) → InOrder names m → form_goal (form_a m) (λ f n. form_goal (form_b n) (λ g k. compared op h f g k)) ≡ Ok r → GoalGoes names (λ vars. applied op (a vars) (b vars)) h m r
compared_goes names op h a b form_a form_b c step_a step_b m r i e =
    let p = form_goal_is (form_a m) (λ f n. form_goal (form_b n) (λ g k. compared op h f g k)) r e in
    let q = form_goal_is (form_b p.0.made) (λ g k. compared op h p.0.form g k) r p.2 in
    let two = two_forms names a b form_a form_b step_a step_b m p.0 q.0 i p.1 q.1 in
    let last = compared_is op h p.0.form q.0.form q.0.made r q.2 in
    record {
      in_order = (
        subst (λ k. Grows names m k) (sym last.made) two.grows,
        last.form two.left two.right,
        subst (λ k. GoalWithin (length k.atoms + 1) r.goal) (sym last.made) (last.within (length q.0.made.atoms + 1) two.left_in two.right_in),
      );
      has = λ u vars t k z.
          let w = applied_is op (a vars) (b vars) (v.Truth t) z in
          let so : Compares op (number_of w.0) (number_of w.1) t = values_compare op w.0 w.1 t c w.4 in
          subst (λ k. Has u vars names m k (λ n. Says n r.goal (agreeing h t))) (sym last.made)
          (has_so u vars names m q.0.made (λ n. (value n p.0.form ≡ number_of w.0) × (value n q.0.form ≡ number_of w.1)) (λ n. Says n r.goal (agreeing h t))
          (λ n x. last.says n (agreeing h t) (agreeing_so (λ l. Compares op (value n p.0.form) (value n q.0.form) l) h t (rw (x.0, x.1) so))) (two.has u vars w.0 w.1 k w.2 w.3));
    }

-- ---- booleans

boolean_result : (e : Expr) (c : Result WithGoal TermError) (r : WithForm) → boolean e c ≡ Ok r → (q : WithGoal) × (c ≡ Ok q) × (boolean e (Ok q) ≡ Ok r)
boolean_result e (Err x) r h = absurd cc
boolean_result e (Ok q) r h = (q, refl, h)

-- the form of a condition, whose value is a truth
pub boolean_goes :
    (names : List Binding) (e : Expr) (z : Vars → Option Value) (c : Result WithGoal TermError) (m : Made) (r : WithForm) → ((q : WithGoal) → c ≡ Ok q → GoalGoes names z true m q)
    → ((vars : Vars) (w : Value) → z vars ≡ Some w → (t : Bool) × (v.Truth t ≡ w)) → boolean e c ≡ Ok r → FormGoes names z m r
boolean_goes names e z c m r step truth h =
    let q = boolean_result e c r h in
    let s = step q.0 q.1 in
    let b = boolean_is names e q.0 r s.in_order.0.in_order s.in_order.1 s.in_order.2 q.2 in
    record {
      in_order = (grows_then names m q.0.made r.made s.in_order.0 b.in_order.0, b.in_order.1, b.in_order.2);
      has = λ u vars w k x.
          let t = truth vars w x in
          has_last u vars names m q.0.made r.made (λ n. Says n q.0.goal t.0) (λ n. value n r.form ≡ number_of w) s.in_order.0 (s.has u vars t.0 k (x ∙ ap (λ y. Some y) (sym t.1)))
          (λ n k so. has_so n vars names q.0.made r.made (λ l. value l r.form ≡ number_of (v.Truth t.0)) (λ l. value l r.form ≡ number_of w) (λ l y. y ∙ ap number_of t.1) (b.has n vars t.0 k so));
    }
