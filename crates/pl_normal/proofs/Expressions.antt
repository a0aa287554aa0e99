-- The laws of forms and conditions, by induction on the expression.
use Rattle.std.proofs.Common.{◌≡◌, ℕ, ◌<◌, ◌≤◌, ◌+◌, ◌^◌, ℤ, pos, negsuc, ◌+ℤ◌, ◌-ℤ◌, ◌*ℤ◌, unsigned_abs, Bool, true, false, not, cond, List, [], length, Option, Some, None, Result, Ok, refl, ap, subst, ◌∙◌, arith}
use Rattle.std.specs.Prelude.{neg_ℤ}
use Rattle.std.proofs.lemmas.Int.{ints}
use Rattle.std.proofs.lemmas.List.Elements.{All-nil}
use Rattle.pl_base.specs.declared.pos.Pos.{Pos}
use Rattle.pl_syntax.specs.declared.expr.BinOp.{BinOp}
use Rattle.pl_syntax.specs.declared.expr.BinOp.TheVariants.{Add, Sub, Mul, Div, Rem, Lt, Le, Gt, Ge, Eq, Ne, And, Or, Implies}
use Rattle.pl_syntax.specs.Tree.{Name, Expr, Int, Truth, Null, Var, Neg, Not, Bin}
use Rattle.pl_syntax.specs.Values.{Value, Number, Block, Vars}
use Rattle.pl_syntax.specs.Values as v
use Rattle.pl_forms.specs.declared.form.Form.{Form}
use Rattle.pl_forms.specs.declared.form.TermError.{TermError}
use Rattle.pl_forms.specs.Forms.{value, IsForm, limited, excess, scaled, sum}
use Rattle.pl_forms.specs.Steps.{plus}
use Rattle.pl_forms.specs.Goals as goal
use Rattle.pl_forms.specs.Goals.{Goal, IsGoal, GoalWithin, IsTruth, Says}
use Rattle.pl_forms.specs.Assuming.{one_form, one_less}
use Rattle.pl_forms.specs.Places.{Within}
use Rattle.pl_forms.proofs.AssumingLaws.{rest_value, rest_form, one_is, one_within}
use Rattle.pl_forms.proofs.FormLimits.{limited_ok}
use Rattle.pl_forms.proofs.PlaceLaws.{plus_within}
use Rattle.pl_normal.specs.declared.scope.Binding.{Binding}
use Rattle.pl_normal.specs.Scope.{form_of}
use Rattle.pl_normal.specs.Evaluation.{applied, negated, denied, value_of, number_of}
use Rattle.pl_normal.specs.Normal.{Made, WithForm, WithGoal, put, then_form, truth_goal, zero_form, truth_form, or_zero, product, opaque, boolean, is_plain, connected, operated, normal, condition}
use Rattle.pl_normal.specs.Meaning.{calculated, InOrder, NameAgrees, NormalLaw, ConditionLaw, agreeing}
use Rattle.pl_normal.proofs.NumbersBelow.{form_of_is}
use Rattle.pl_normal.proofs.Growing.{then_form_is, truth_goal_is, grows_not, grows_then, has_none, has_so, has_last, Makes, put_makes, FormGoes, GoalGoes, FormStep, GoalStep}
use Rattle.pl_normal.proofs.NewAtoms.{opaque_is}
use Rattle.pl_normal.proofs.Calculating.{calculates, minus_time, sum_makes, minus_makes, scaled_makes, product_makes, calculates_goes}
use Rattle.pl_normal.proofs.Connecting.{applied_truth, and_goes, not_and_goes, or_goes, not_or_goes, implies_goes, compared_goes, boolean_goes}

-- ---- operations

connected_goes :
    (names : List Binding) (op : BinOp) (a b : Vars → Option Value) (form_a form_b : Made → Result WithForm TermError) (goal_a goal_b : Bool → Made → Result WithGoal TermError)
    → FormStep names a form_a → FormStep names b form_b → GoalStep names a goal_a → GoalStep names b goal_b
    → (h : Bool) (m : Made) (r : WithGoal) → InOrder names m → connected op h form_a form_b goal_a goal_b m ≡ Ok r → GoalGoes names (λ vars. applied op (a vars) (b vars)) h m r
connected_goes names And a b form_a form_b goal_a goal_b s t p q true m r i e = and_goes names a b goal_a goal_b p q m r i e
connected_goes names And a b form_a form_b goal_a goal_b s t p q false m r i e = not_and_goes names a b goal_a goal_b p q m r i e
connected_goes names Or a b form_a form_b goal_a goal_b s t p q true m r i e = or_goes names a b goal_a goal_b p q m r i e
connected_goes names Or a b form_a form_b goal_a goal_b s t p q false m r i e = not_or_goes names a b goal_a goal_b p q m r i e
connected_goes names Implies a b form_a form_b goal_a goal_b s t p q h m r i e = implies_goes names h a b form_a goal_b s q m r i e
connected_goes names Add a b form_a form_b goal_a goal_b s t p q h m r i e = compared_goes names Add h a b form_a form_b refl s t m r i e
connected_goes names Sub a b form_a form_b goal_a goal_b s t p q h m r i e = compared_goes names Sub h a b form_a form_b refl s t m r i e
connected_goes names Mul a b form_a form_b goal_a goal_b s t p q h m r i e = compared_goes names Mul h a b form_a form_b refl s t m r i e
connected_goes names Div a b form_a form_b goal_a goal_b s t p q h m r i e = compared_goes names Div h a b form_a form_b refl s t m r i e
connected_goes names Rem a b form_a form_b goal_a goal_b s t p q h m r i e = compared_goes names Rem h a b form_a form_b refl s t m r i e
connected_goes names Lt a b form_a form_b goal_a goal_b s t p q h m r i e = compared_goes names Lt h a b form_a form_b refl s t m r i e
connected_goes names Le a b form_a form_b goal_a goal_b s t p q h m r i e = compared_goes names Le h a b form_a form_b refl s t m r i e
connected_goes names Gt a b form_a form_b goal_a goal_b s t p q h m r i e = compared_goes names Gt h a b form_a form_b refl s t m r i e
connected_goes names Ge a b form_a form_b goal_a goal_b s t p q h m r i e = compared_goes names Ge h a b form_a form_b refl s t m r i e
connected_goes names Eq a b form_a form_b goal_a goal_b s t p q h m r i e = compared_goes names Eq h a b form_a form_b refl s t m r i e
connected_goes names Ne a b form_a form_b goal_a goal_b s t p q h m r i e = compared_goes names Ne h a b form_a form_b refl s t m r i e

pub opaque_makes :
    (names : List Binding) (e : Expr) (op : BinOp) (f g : Form) (m : Made) (r : WithForm) → InOrder names m → IsForm f → IsForm g → Within (length m.atoms + 1) f → Within (length m.atoms + 1) g
    → ◌≡◌ {A = Result WithForm TermError} (Ok (opaque e op f g m)) (Ok r) → Makes names m r (λ u. calculated op (value u f) (value u g))
opaque_makes names e op f g m r i pf pg wf wg h =
    let same : opaque e op f g m ≡ r = cc in
    subst (λ r. Makes names m r (λ u. calculated op (value u f) (value u g))) same (opaque_is names e op f g m i pf pg wf wg)

-- a new boolean of an operation
operated_boolean :
    (names : List Binding) (e : Expr) (op : BinOp) (a b : Vars → Option Value) (form_a form_b : Made → Result WithForm TermError) (goal_a goal_b : Bool → Made → Result WithGoal TermError)
    → calculates op ≡ false → FormStep names a form_a → FormStep names b form_b → GoalStep names a goal_a → GoalStep names b goal_b
    → (m : Made) (r : WithForm) → InOrder names m → boolean e (connected op true form_a form_b goal_a goal_b m) ≡ Ok r → FormGoes names (λ vars. applied op (a vars) (b vars)) m r
operated_boolean names e op a b form_a form_b goal_a goal_b c s t p q m r i h =
    boolean_goes names e (λ vars. applied op (a vars) (b vars)) (connected op true form_a form_b goal_a goal_b m) m r
    (λ g x. connected_goes names op a b form_a form_b goal_a goal_b s t p q true m g i x) (λ vars w x. applied_truth op (a vars) (b vars) w c x) h

operated_goes :
    (names : List Binding) (e : Expr) (op : BinOp) (a b : Vars → Option Value) (form_a form_b : Made → Result WithForm TermError) (goal_a goal_b : Bool → Made → Result WithGoal TermError)
    → FormStep names a form_a → FormStep names b form_b → GoalStep names a goal_a → GoalStep names b goal_b
    → FormStep names (λ vars. applied op (a vars) (b vars)) (λ m. operated e op form_a form_b goal_a goal_b m)
operated_goes names e Add a b form_a form_b goal_a goal_b s t p q m r i h =
    calculates_goes names Add a b form_a form_b (λ f g k. put k (sum f g)) refl s t (λ f g k r i pf pg wf wg h. sum_makes names f g k r i pf pg wf wg h) m r i h
operated_goes names e Sub a b form_a form_b goal_a goal_b s t p q m r i h =
    calculates_goes names Sub a b form_a form_b (λ f g k. put k (plus f (negsuc 0) g)) refl s t (λ f g k r i pf pg wf wg h. minus_makes names f g k r i pf pg wf wg h) m r i h
operated_goes names e Mul a b form_a form_b goal_a goal_b s t p q m r i h =
    calculates_goes names Mul a b form_a form_b (λ f g k. product e f g k) refl s t (λ f g k r i pf pg wf wg h. product_makes names e f g k r i pf pg wf wg h) m r i h
operated_goes names e Div a b form_a form_b goal_a goal_b s t p q m r i h =
    calculates_goes names Div a b form_a form_b (λ f g k. Ok (opaque e Div f g k)) refl s t (λ f g k r i pf pg wf wg h. opaque_makes names e Div f g k r i pf pg wf wg h) m r i h
operated_goes names e Rem a b form_a form_b goal_a goal_b s t p q m r i h =
    calculates_goes names Rem a b form_a form_b (λ f g k. Ok (opaque e Rem f g k)) refl s t (λ f g k r i pf pg wf wg h. opaque_makes names e Rem f g k r i pf pg wf wg h) m r i h
operated_goes names e Lt a b form_a form_b goal_a goal_b s t p q m r i h = operated_boolean names e Lt a b form_a form_b goal_a goal_b refl s t p q m r i h
operated_goes names e Le a b form_a form_b goal_a goal_b s t p q m r i h = operated_boolean names e Le a b form_a form_b goal_a goal_b refl s t p q m r i h
operated_goes names e Gt a b form_a form_b goal_a goal_b s t p q m r i h = operated_boolean names e Gt a b form_a form_b goal_a goal_b refl s t p q m r i h
operated_goes names e Ge a b form_a form_b goal_a goal_b s t p q m r i h = operated_boolean names e Ge a b form_a form_b goal_a goal_b refl s t p q m r i h
operated_goes names e Eq a b form_a form_b goal_a goal_b s t p q m r i h = operated_boolean names e Eq a b form_a form_b goal_a goal_b refl s t p q m r i h
operated_goes names e Ne a b form_a form_b goal_a goal_b s t p q m r i h = operated_boolean names e Ne a b form_a form_b goal_a goal_b refl s t p q m r i h
operated_goes names e And a b form_a form_b goal_a goal_b s t p q m r i h = operated_boolean names e And a b form_a form_b goal_a goal_b refl s t p q m r i h
operated_goes names e Or a b form_a form_b goal_a goal_b s t p q m r i h = operated_boolean names e Or a b form_a form_b goal_a goal_b refl s t p q m r i h
operated_goes names e Implies a b form_a form_b goal_a goal_b s t p q m r i h = operated_boolean names e Implies a b form_a form_b goal_a goal_b refl s t p q m r i h

-- ---- literals and names

makes_goes : (names : List Binding) (z : Vars → Option Value) (m : Made) (r : WithForm) (n : ℤ) → ((vars : Vars) (w : Value) → z vars ≡ Some w → n ≡ number_of w) → Makes names m r (λ u. n) → FormGoes names z m r
makes_goes names z m r n e k = record { in_order = k.in_order; has = λ u vars w a x. has_so u vars names m r.made (λ l. value l r.form ≡ n) (λ l. value l r.form ≡ number_of w) (λ l y. y ∙ e vars w x) (k.has u vars a) }

zero_is : IsForm zero_form
zero_is = record { ascends = tt; small = All-nil (λ p. unsigned_abs p.coeff ≤ 2 ^ 40); bounded = omega arith }

zero_within : (n : ℕ) → Within n zero_form
zero_within n = All-nil (λ p. p.atom + 1 < n)

value_is : (x w : Value) → ◌≡◌ {A = Option Value} (Some x) (Some w) → number_of x ≡ number_of w
value_is x w e = let q : x ≡ w = cc in ap number_of q

zero_plus : (n : ℤ) → pos 0 +ℤ n ≡ n
zero_plus n = omega (arith, ints)

int_goes : (names : List Binding) (n : ℤ) → FormStep names (λ vars. Some (Number n)) (λ m. put m (limited [] n))
int_goes names n m r i h = makes_goes names (λ vars. Some (Number n)) m r n (λ vars w e. value_is (Number n) w e) (put_makes names m (limited [] n) r (λ u. n) i (λ s e. made s e) h)
  where
    made : (s : Form) → limited [] n ≡ Ok s → IsForm s × Within (length m.atoms + 1) s × ((u : ℕ → ℤ) → value u s ≡ n)
    made s e =
        let k = limited_ok (excess []) [] n s e in
        (record { ascends = rw k.1 tt; small = rw k.1 (All-nil (λ p. unsigned_abs p.coeff ≤ 2 ^ 40)); bounded = rw k.2 k.3 }, rw k.1 (All-nil (λ p. p.atom + 1 < length m.atoms + 1)), λ u. rw (k.1, k.2) (zero_plus n))

-- a form that stands for this number whatever those of the atoms are
form_goes :
    (names : List Binding) (x : Value) (f : Form) → IsForm f → ((n : ℕ) → Within n f) → ((u : ℕ → ℤ) → value u f ≡ number_of x) → FormStep names (λ vars. Some x) (λ m. put m (Ok f))
form_goes names x f p w e m r i h =
    makes_goes names (λ vars. Some x) m r (number_of x) (λ vars y q. value_is x y q)
    (put_makes names m (Ok f) r (λ u. number_of x) i (λ s q. let same : f ≡ s = cc in subst (λ s. IsForm s × Within (length m.atoms + 1) s × ((u : ℕ → ℤ) → value u s ≡ number_of x)) same (p, w (length m.atoms + 1), e)) h)

truth_goes : (names : List Binding) (b : Bool) → FormStep names (λ vars. Some (v.Truth b)) (λ m. put m (Ok (truth_form b)))
truth_goes names true = form_goes names (v.Truth true) one_form one_is (λ n. one_within n) (λ u. refl)
truth_goes names false = form_goes names (v.Truth false) zero_form zero_is (λ n. zero_within n) (λ u. refl)

null_goes : (names : List Binding) → FormStep names (λ vars. Some v.Null) (λ m. put m (Ok zero_form))
null_goes names = form_goes names v.Null zero_form zero_is (λ n. zero_within n) (λ u. refl)

name_is : (P : Form → Type 0) (o : Option Form) → P zero_form → ((f : Form) → o ≡ Some f → P f) → P (or_zero o)
name_is P (Some f) z h = h f refl
name_is P None z h = z

name_value : (u : ℕ → ℤ) (o : Option Form) (z : Option Value) (w : Value) → NameAgrees u o z → z ≡ Some w → value u (or_zero o) ≡ number_of w
name_value u (Some f) (Some x) w a e = a ∙ value_is x w e
name_value u None (Some x) w a e = absurd a
name_value u (Some f) None w a e = absurd cc
name_value u None None w a e = absurd cc

var_goes : (names : List Binding) (x : Name) → FormStep names (λ vars. vars x) (λ m. put m (Ok (or_zero (form_of names x))))
var_goes names x m r i h =
    let f = or_zero (form_of names x) in
    let same : (record { form = f; made = m }) ≡ r = cc in
    subst (λ r. FormGoes names (λ vars. vars x) m r) same (record {
      in_order = (
        grows_not names m i,
        name_is IsForm (form_of names x) zero_is (λ g e. form_of_is IsForm names x g i.names_are e),
        name_is (Within (length m.atoms + 1)) (form_of names x) (zero_within (length m.atoms + 1)) (λ g e. form_of_is (Within (length m.atoms + 1)) names x g i.names_within e),
      );
      has = λ u vars w a e. has_none u vars names m (λ n. value n f ≡ number_of w) a (name_value u (form_of names x) (vars x) w (a.bound x) e);
    })

-- ---- operations of one operand

unary_goes :
    (names : List Binding) (z y : Vars → Option Value) (form : Made → Result WithForm TermError) (next : Form → Made → Result WithForm TermError) (result : ℤ → ℤ) → FormStep names z form
    → ((f : Form) (k : Made) (r : WithForm) → InOrder names k → IsForm f → Within (length k.atoms + 1) f → next f k ≡ Ok r → Makes names k r (λ u. result (value u f)))
    → ((vars : Vars) (w : Value) → y vars ≡ Some w → (x : Value) × (z vars ≡ Some x) × (result (number_of x) ≡ number_of w))
    → FormStep names y (λ m. then_form (form m) (λ f n. next f n))
unary_goes names z y form next result step last same m r i h =
    let p = then_form_is (form m) (λ f n. next f n) r h in
    let s = step m p.0 i p.1 in
    let made = last p.0.form p.0.made r s.in_order.0.in_order s.in_order.1 s.in_order.2 p.2 in
    record {
      in_order = (grows_then names m p.0.made r.made s.in_order.0 made.in_order.0, made.in_order.1, made.in_order.2);
      has = λ u vars w k e.
          let x = same vars w e in
          has_last u vars names m p.0.made r.made (λ n. value n p.0.form ≡ number_of x.0) (λ n. value n r.form ≡ number_of w) s.in_order.0 (s.has u vars x.0 k x.1)
          (λ n k so. has_so n vars names p.0.made r.made (λ l. value l r.form ≡ result (value n p.0.form)) (λ l. value l r.form ≡ number_of w) (λ l y. y ∙ ap result so ∙ x.2) (made.has n vars k));
    }

negated_is : (p : Option Value) (w : Value) → negated p ≡ Some w → (x : Value) × (p ≡ Some x) × (negsuc 0 *ℤ number_of x ≡ number_of w)
negated_is (Some (Number n)) w h = (Number n, refl, minus_time n ∙ value_is (Number (neg_ℤ n)) w h)
negated_is (Some (v.Truth b)) w h = absurd cc
negated_is (Some v.Null) w h = absurd cc
negated_is (Some (Block b)) w h = absurd cc
negated_is None w h = absurd cc

denied_is : (p : Option Value) (w : Value) → denied p ≡ Some w → (t : Bool) × (p ≡ Some (v.Truth t)) × (v.Truth (not t) ≡ w)
denied_is (Some (v.Truth t)) w h = (t, refl, cc)
denied_is (Some (Number n)) w h = absurd cc
denied_is (Some v.Null) w h = absurd cc
denied_is (Some (Block b)) w h = absurd cc
denied_is None w h = absurd cc

not_number : (t : Bool) → pos 1 -ℤ number_of (v.Truth t) ≡ number_of (v.Truth (not t))
not_number true = refl
not_number false = refl

neg_goes : (names : List Binding) (z : Vars → Option Value) (form : Made → Result WithForm TermError) → FormStep names z form → FormStep names (λ vars. negated (z vars)) (λ m. then_form (form m) (λ f n. put n (scaled (negsuc 0) f)))
neg_goes names z form step = unary_goes names z (λ vars. negated (z vars)) form (λ f n. put n (scaled (negsuc 0) f)) (λ a. negsuc 0 *ℤ a) step (λ f k r i p w h. scaled_makes names (negsuc 0) f k r i p w h) (λ vars w e. negated_is (z vars) w e)

rest_makes : (names : List Binding) (f : Form) (m : Made) (r : WithForm) → InOrder names m → IsForm f → Within (length m.atoms + 1) f → put m (one_less f) ≡ Ok r → Makes names m r (λ u. pos 1 -ℤ value u f)
rest_makes names f m r i p w h =
    put_makes names m (one_less f) r (λ u. pos 1 -ℤ value u f) i
    (λ s e. (rest_form f s p e, plus_within (length m.atoms + 1) one_form f s (negsuc 0) (one_within (length m.atoms + 1)) w e, λ u. omega (arith, ints, rest_value u f s e))) h

plain_not_goes : (names : List Binding) (z : Vars → Option Value) (form : Made → Result WithForm TermError) → FormStep names z form → FormStep names (λ vars. denied (z vars)) (λ m. then_form (form m) (λ f n. put n (one_less f)))
plain_not_goes names z form step =
    unary_goes names z (λ vars. denied (z vars)) form (λ f n. put n (one_less f)) (λ a. pos 1 -ℤ a) step (λ f k r i p w h. rest_makes names f k r i p w h)
    (λ vars w e. let d = denied_is (z vars) w e in (v.Truth d.0, d.1, not_number d.0 ∙ ap number_of d.2))

agreeing_not : (h s t : Bool) → not s ≡ t → agreeing (not h) s ≡ agreeing h t
agreeing_not true s t e = e
agreeing_not false true true e = absurd cc
agreeing_not false true false e = refl
agreeing_not false false true e = refl
agreeing_not false false false e = absurd cc

denied_goes : (names : List Binding) (z : Vars → Option Value) (h : Bool) (m : Made) (r : WithGoal) → GoalGoes names z (not h) m r → GoalGoes names (λ vars. denied (z vars)) h m r
denied_goes names z h m r k = record {
  in_order = k.in_order;
  has = λ u vars t a e.
      let d = denied_is (z vars) (v.Truth t) e in
      let same : not d.0 ≡ t = let q : v.Truth (not d.0) ≡ v.Truth t = d.2 in cc in
      has_so u vars names m r.made (λ n. Says n r.goal (agreeing (not h) d.0)) (λ n. Says n r.goal (agreeing h t)) (λ n s. subst (λ l. Says n r.goal l) (agreeing_not h d.0 t same) s) (k.has u vars d.0 a d.1);
}

-- ---- a form as a condition

truth_says : (u : ℕ → ℤ) (f : Form) (h t : Bool) → value u f ≡ number_of (v.Truth t) → Says u (goal.Truth f h) (agreeing h t)
truth_says u f true true e = e
truth_says u f true false e = e
truth_says u f false true e = e
truth_says u f false false e = e

form_condition : (names : List Binding) (z : Vars → Option Value) (form : Made → Result WithForm TermError) → FormStep names z form → GoalStep names z (λ h m. truth_goal (form m) h)
form_condition names z form step h m r i e =
    let q = truth_goal_is (form m) h r e in
    let s = step m q.0 i q.1 in
    subst (λ r. GoalGoes names z h m r) q.2 (record {
      in_order = s.in_order;
      has = λ u vars t a x. has_so u vars names m q.0.made (λ n. value n q.0.form ≡ number_of (v.Truth t)) (λ n. Says n (goal.Truth q.0.form h) (agreeing h t)) (λ n y. truth_says n q.0.form h t y) (s.has u vars (v.Truth t) a x);
    })

-- ---- the induction

pub record Goes (names : List Binding) (e : Expr) : Type 0 where
  pub form : FormStep names (λ vars. value_of vars e) (λ m. normal names e m)
  pub goal : GoalStep names (λ vars. value_of vars e) (λ h m. condition names e h m)

not_goes : (names : List Binding) (place : Pos) (e : Expr) → Goes names e → FormStep names (λ vars. denied (value_of vars e)) (λ m. normal names (Not place e) m)
not_goes names place e g m r i h =
    (elim (is_plain e) as (λ b. cond b (then_form (normal names e m) (λ f n. put n (one_less f))) (boolean (Not place e) (condition names e false m)) ≡ Ok r → FormGoes names (λ vars. denied (value_of vars e)) m r) [
      | true ↦ λ q. plain_not_goes names (λ vars. value_of vars e) (λ m. normal names e m) g.form m r i q
      | false ↦ λ q.
          boolean_goes names (Not place e) (λ vars. denied (value_of vars e)) (condition names e false m) m r (λ c x. denied_goes names (λ vars. value_of vars e) true m c (g.goal false m c i x))
          (λ vars w x. let d = denied_is (value_of vars e) w x in (not d.0, d.2)) q
    ]) h

-- where a condition is its form
by_form : (names : List Binding) (z : Vars → Option Value) (form : Made → Result WithForm TermError) → FormStep names z form → FormStep names z form × GoalStep names z (λ h m. truth_goal (form m) h)
by_form names z form step = (step, form_condition names z form step)

pub goes : (names : List Binding) (e : Expr) → Goes names e
goes names (Int place n) = let s = by_form names (λ vars. Some (Number n)) (λ m. put m (limited [] n)) (int_goes names n) in record { form = s.0; goal = s.1 }
goes names (Truth place b) = let s = by_form names (λ vars. Some (v.Truth b)) (λ m. put m (Ok (truth_form b))) (truth_goes names b) in record { form = s.0; goal = s.1 }
goes names (Null place) = let s = by_form names (λ vars. Some v.Null) (λ m. put m (Ok zero_form)) (null_goes names) in record { form = s.0; goal = s.1 }
goes names (Var place x) = let s = by_form names (λ vars. vars x) (λ m. put m (Ok (or_zero (form_of names x)))) (var_goes names x) in record { form = s.0; goal = s.1 }
goes names (Neg place e) =
    let g = goes names e in
    let s = by_form names (λ vars. negated (value_of vars e)) (λ m. then_form (normal names e m) (λ f n. put n (scaled (negsuc 0) f))) (neg_goes names (λ vars. value_of vars e) (λ m. normal names e m) g.form) in
    record { form = s.0; goal = s.1 }
goes names (Not place e) =
    let g = goes names e in
    record { form = not_goes names place e g; goal = λ h m r i q. denied_goes names (λ vars. value_of vars e) h m r (g.goal (not h) m r i q) }
goes names (Bin place op a b) =
    let x = goes names a in
    let y = goes names b in
    record {
      form = operated_goes names (Bin place op a b) op (λ vars. value_of vars a) (λ vars. value_of vars b) (λ n. normal names a n) (λ n. normal names b n) (λ h n. condition names a h n) (λ h n. condition names b h n) x.form y.form x.goal y.goal;
      goal = connected_goes names op (λ vars. value_of vars a) (λ vars. value_of vars b) (λ n. normal names a n) (λ n. normal names b n) (λ h n. condition names a h n) (λ h n. condition names b h n) x.form y.form x.goal y.goal;
    }

pub normal_law : NormalLaw
normal_law names e m r i h =
    let g = goes names e in
    let s = g.form m r i h in
    (s.in_order, λ u vars w a x. let k = s.has u vars w a x in record { numbers = k.numbers; same = k.same; agrees = k.agrees; value_is = k.so })

pub condition_law : ConditionLaw
condition_law names e t m r i h =
    let g = goes names e in
    let s = g.goal t m r i h in
    (s.in_order, λ u vars b a x. let k = s.has u vars b a x in record { numbers = k.numbers; same = k.same; agrees = k.agrees; says = k.so })
