-- Forms of sums, multiples and products.
use Rattle.std.proofs.Common.{◌≡◌, ℕ, suc, ◌<◌, ◌≤◌, ◌+◌, ℤ, pos, negsuc, ◌+ℤ◌, ◌-ℤ◌, ◌*ℤ◌, nat_eq, Bool, true, false, cond, List, [], ◌∷◌, length, Option, Some, None, Result, Ok, refl, ap, sym, subst, ◌∙◌, arith, All}
use Rattle.std.specs.Prelude.{neg_ℤ}
use Rattle.std.proofs.lemmas.Int.{ints}
use Rattle.std.proofs.lemmas.Bool.{eqb-true}
use Rattle.std.proofs.lemmas.List.Elements.{All-cons, All-nil}
use lib.IntN.{pred_ℤ-*ℤ, zero-*ℤ, *ℤ_comm}
use Rattle.pl_syntax.specs.declared.expr.BinOp.{BinOp}
use Rattle.pl_syntax.specs.declared.expr.BinOp.TheVariants.{Add, Sub, Mul, Div, Rem}
use Rattle.pl_syntax.specs.Tree.{Expr}
use Rattle.pl_syntax.specs.Values.{Value, Number, Block, Vars}
use Rattle.pl_syntax.specs.Values as v
use Rattle.pl_forms.specs.declared.form.Part.{Part}
use Rattle.pl_forms.specs.declared.form.Form.{Form}
use Rattle.pl_forms.specs.declared.form.TermError.{TermError}
use Rattle.pl_forms.specs.Forms.{value, parts_value, IsForm, is_zero, sum, scaled, merge, excess, all_limited, limited_part, with_constant, limited_constant}
use Rattle.pl_forms.specs.Steps.{plus}
use Rattle.pl_forms.specs.Places.{Within}
use Rattle.pl_forms.proofs.FormMultiples.{after_is, part_is, with_is, scaled_is}
use Rattle.pl_forms.proofs.FormLimits.{limited_ok, sum_value, sum_form}
use Rattle.pl_forms.proofs.FormSteps.{plus_value, plus_form}
use Rattle.pl_forms.proofs.PlaceLaws.{below_merge, plus_within}
use Rattle.pl_normal.specs.declared.scope.Binding.{Binding}
use Rattle.pl_normal.specs.Evaluation.{quotient, remainder, of_numbers, of_truths, of_pointers, of_values, applied, number_of}
use Rattle.pl_normal.specs.Normal.{Made, WithForm, put, then_form, is_constant, opaque, product}
use Rattle.pl_normal.specs.Meaning.{InOrder, Grows, calculated, Agrees}
use Rattle.pl_normal.proofs.NumbersBelow.{value_same}
use Rattle.pl_normal.proofs.Growing.{then_form_is, within_more, grows_then, grows_length, Has, has_so, has_last, has_both, Makes, put_makes, FormStep}
use Rattle.pl_normal.proofs.NewAtoms.{opaque_is}

-- ---- values

-- these operations calculate numbers
abbrev pub calculates : BinOp → Bool
calculates Add = true
calculates Sub = true
calculates Mul = true
calculates Div = true
calculates Rem = true
calculates _ = false

abbrev pub result_of : BinOp → ℤ → ℤ → ℤ
result_of Add a b = a +ℤ b
result_of Sub a b = a -ℤ b
result_of op a b = calculated op a b

numbers_calculate : (op : BinOp) (a b : ℤ) (w : Value) → calculates op ≡ true → of_numbers op a b ≡ Some w → number_of w ≡ result_of op a b
numbers_calculate Add a b w c h = let e : Number (a +ℤ b) ≡ w = cc in ap number_of (sym e)
numbers_calculate Sub a b w c h = let e : Number (a -ℤ b) ≡ w = cc in ap number_of (sym e)
numbers_calculate Mul a b w c h = let e : Number (a *ℤ b) ≡ w = cc in ap number_of (sym e)
numbers_calculate Div a b w c h = let e : Number (quotient a b) ≡ w = cc in ap number_of (sym e)
numbers_calculate Rem a b w c h = let e : Number (remainder a b) ≡ w = cc in ap number_of (sym e)
numbers_calculate _ a b w c h = absurd cc

truths_none : (op : BinOp) (a b : Bool) (w : Value) → calculates op ≡ true → of_truths op a b ≡ Some w → ⊥
truths_none Add a b w c h = absurd cc
truths_none _ a b w c h = absurd cc

pointers_none : (op : BinOp) (i j : ℕ) (w : Value) → calculates op ≡ true → of_pointers op i j ≡ Some w → ⊥
pointers_none Add i j w c h = absurd cc
pointers_none _ i j w c h = absurd cc

pub values_calculate : (op : BinOp) (x y w : Value) → calculates op ≡ true → of_values op x y ≡ Some w → number_of w ≡ result_of op (number_of x) (number_of y)
values_calculate op (Number a) (Number b) w c h = numbers_calculate op a b w c h
values_calculate op (v.Truth a) (v.Truth b) w c h = absurd (truths_none op a b w c h)
values_calculate op v.Null v.Null w c h = absurd (pointers_none op 0 0 w c h)
values_calculate op v.Null (Block b) w c h = absurd (pointers_none op 0 (suc b) w c h)
values_calculate op (Block a) v.Null w c h = absurd (pointers_none op (suc a) 0 w c h)
values_calculate op (Block a) (Block b) w c h = absurd (pointers_none op (suc a) (suc b) w c h)
values_calculate op (Number a) (v.Truth b) w c h = absurd cc
values_calculate op (Number a) v.Null w c h = absurd cc
values_calculate op (Number a) (Block b) w c h = absurd cc
values_calculate op (v.Truth a) (Number b) w c h = absurd cc
values_calculate op (v.Truth a) v.Null w c h = absurd cc
values_calculate op (v.Truth a) (Block b) w c h = absurd cc
values_calculate op v.Null (Number b) w c h = absurd cc
values_calculate op v.Null (v.Truth b) w c h = absurd cc
values_calculate op (Block a) (Number b) w c h = absurd cc
values_calculate op (Block a) (v.Truth b) w c h = absurd cc

pub applied_is : (op : BinOp) (p q : Option Value) (w : Value) → applied op p q ≡ Some w → (x : Value) × (y : Value) × (p ≡ Some x) × (q ≡ Some y) × (of_values op x y ≡ Some w)
applied_is op (Some x) (Some y) w h = (x, y, refl, refl, h)
applied_is op (Some x) None w h = absurd cc
applied_is op None (Some y) w h = absurd cc
applied_is op None None w h = absurd cc

-- ---- multiples and sums

all_within : (n : ℕ) (k : ℤ) (ps qs : List Part) → All (λ p. p.atom + 1 < n) ps → all_limited k ps ≡ Ok qs → All (λ p. p.atom + 1 < n) qs
all_within n k [] qs w h = let e : [] ≡ qs = cc in subst (All (λ p. p.atom + 1 < n)) e w
all_within n k (p ∷ ps) qs w h =
    let m = after_is (limited_part k p) (all_limited k ps) qs h in
    let q = part_is k p m.0 m.2 in
    let lt : p.atom + 1 < n = w 0 p (omega arith) in
    let at : m.0.atom + 1 < n = rw q.1 lt in
    rw m.4 (All-cons (λ p. p.atom + 1 < n) m.0 m.1 at (all_within n k ps m.1 (λ i d lt. w (suc i) d (omega arith)) m.3))

pub scaled_within : (n : ℕ) (k : ℤ) (f r : Form) → Within n f → scaled k f ≡ Ok r → Within n r
scaled_within n k f r w h =
    (elim (is_zero k) as (λ s. cond s (Ok (record { parts = []; constant = pos 0 })) (with_constant (all_limited k f.parts) (limited_constant (k *ℤ f.constant))) ≡ Ok r → Within n r) [
      | true ↦ λ q.
          let e : (record { parts = []; constant = pos 0 }) ≡ r = cc in
          subst (Within n) e (All-nil (λ p. p.atom + 1 < n))
      | false ↦ λ q. all_within n k f.parts r.parts w (with_is (all_limited k f.parts) (limited_constant (k *ℤ f.constant)) r q).0
    ]) h

sum_within : (n : ℕ) (f g s : Form) → Within n f → Within n g → sum f g ≡ Ok s → Within n s
sum_within n f g s p q h =
    let o = limited_ok (excess (merge f.parts g.parts)) (merge f.parts g.parts) (f.constant +ℤ g.constant) s h in
    rw o.1 (below_merge n f.parts g.parts p q)

pub minus_time : (z : ℤ) → negsuc 0 *ℤ z ≡ neg_ℤ z
minus_time z = omega (arith, ints, pred_ℤ-*ℤ (pos 0) z, zero-*ℤ z)

less_is : (a b : ℤ) → a +ℤ (negsuc 0 *ℤ b) ≡ a -ℤ b
less_is a b = omega (arith, ints, pred_ℤ-*ℤ (pos 0) b, zero-*ℤ b)

pub sum_makes :
    (names : List Binding) (f g : Form) (m : Made) (r : WithForm) → InOrder names m → IsForm f → IsForm g → Within (length m.atoms + 1) f → Within (length m.atoms + 1) g
    → put m (sum f g) ≡ Ok r → Makes names m r (λ u. value u f +ℤ value u g)
sum_makes names f g m r i pf pg wf wg h =
    put_makes names m (sum f g) r (λ u. value u f +ℤ value u g) i (λ s e. (sum_form f g (Ok s) pf pg (sym e), sum_within (length m.atoms + 1) f g s wf wg e, λ u. sum_value f g (Ok s) (sym e) u)) h

pub minus_makes :
    (names : List Binding) (f g : Form) (m : Made) (r : WithForm) → InOrder names m → IsForm f → IsForm g → Within (length m.atoms + 1) f → Within (length m.atoms + 1) g
    → put m (plus f (negsuc 0) g) ≡ Ok r → Makes names m r (λ u. value u f -ℤ value u g)
minus_makes names f g m r i pf pg wf wg h =
    put_makes names m (plus f (negsuc 0) g) r (λ u. value u f -ℤ value u g) i
    (λ s e. (plus_form f g (negsuc 0) (Ok s) (λ q. absurd cc) pf pg e, plus_within (length m.atoms + 1) f g s (negsuc 0) wf wg e, λ u. plus_value f g (negsuc 0) (Ok s) e u ∙ less_is (value u f) (value u g))) h

pub scaled_makes :
    (names : List Binding) (k : ℤ) (f : Form) (m : Made) (r : WithForm) → InOrder names m → IsForm f → Within (length m.atoms + 1) f
    → put m (scaled k f) ≡ Ok r → Makes names m r (λ u. k *ℤ value u f)
scaled_makes names k f m r i p w h =
    put_makes names m (scaled k f) r (λ u. k *ℤ value u f) i (λ s e. ((scaled_is (λ n. pos 0) k f s p e).1, scaled_within (length m.atoms + 1) k f s w e, λ u. (scaled_is u k f s p e).0)) h

-- the same number, said otherwise
pub makes_same : (names : List Binding) (m : Made) (r : WithForm) (y z : (ℕ → ℤ) → ℤ) → ((u : ℕ → ℤ) → y u ≡ z u) → Makes names m r y → Makes names m r z
makes_same names m r y z e k = record { in_order = k.in_order; has = λ u vars a. has_so u vars names m r.made (λ w. value w r.form ≡ y u) (λ w. value w r.form ≡ z u) (λ w q. q ∙ e u) (k.has u vars a) }

constant_parts : (u : ℕ → ℤ) (c : ℤ) (ps : List Part) → nat_eq (length ps) 0 ≡ true → parts_value u ps +ℤ c ≡ c
constant_parts u c [] h = omega (arith, ints)
constant_parts u c (p ∷ ps) h = absurd (let e : suc (length ps) ≡ 0 = eqb-true (suc (length ps)) 0 h in omega (arith, e))

constant_value : (u : ℕ → ℤ) (f : Form) → is_constant f ≡ true → value u f ≡ f.constant
constant_value u f h = constant_parts u f.constant f.parts h

pub product_makes :
    (names : List Binding) (e : Expr) (f g : Form) (m : Made) (r : WithForm) → InOrder names m → IsForm f → IsForm g → Within (length m.atoms + 1) f → Within (length m.atoms + 1) g
    → product e f g m ≡ Ok r → Makes names m r (λ u. value u f *ℤ value u g)
product_makes names e f g m r i pf pg wf wg h =
    (elim (is_constant f) as (λ b. is_constant f ≡ b → cond b (put m (scaled f.constant g)) (cond (is_constant g) (put m (scaled g.constant f)) (Ok (opaque e Mul f g m))) ≡ Ok r → Makes names m r (λ u. value u f *ℤ value u g)) [
      | true ↦ λ t q. makes_same names m r (λ u. f.constant *ℤ value u g) (λ u. value u f *ℤ value u g) (λ u. ap (λ z. z *ℤ value u g) (sym (constant_value u f t))) (scaled_makes names f.constant g m r i pg wg q)
      | false ↦ λ t q.
          (elim (is_constant g) as (λ b. is_constant g ≡ b → cond b (put m (scaled g.constant f)) (Ok (opaque e Mul f g m)) ≡ Ok r → Makes names m r (λ u. value u f *ℤ value u g)) [
            | true ↦ λ t2 q2.
                makes_same names m r (λ u. g.constant *ℤ value u f) (λ u. value u f *ℤ value u g) (λ u. ap (λ z. z *ℤ value u f) (sym (constant_value u g t2)) ∙ *ℤ_comm (value u g) (value u f)) (scaled_makes names g.constant f m r i pf wf q2)
            | false ↦ λ t2 q2. let same : opaque e Mul f g m ≡ r = cc in subst (λ r. Makes names m r (λ u. value u f *ℤ value u g)) same (opaque_is names e Mul f g m i pf pg wf wg)
          ]) refl q
    ]) refl h

-- ---- two forms, one made after the other

pub record TwoForms (names : List Binding) (a b : Vars → Option Value) (m : Made) (f g : Form) (k : Made) : Type 0 where
  pub grows : Grows names m k
  pub left : IsForm f
  pub right : IsForm g
  pub left_in : Within (length k.atoms + 1) f
  pub right_in : Within (length k.atoms + 1) g
  pub has : (u : ℕ → ℤ) (vars : Vars) (x y : Value) → Agrees u vars names m → a vars ≡ Some x → b vars ≡ Some y → Has u vars names m k (λ w. (value w f ≡ number_of x) × (value w g ≡ number_of y))

pub two_forms :
    (names : List Binding) (a b : Vars → Option Value) (form_a form_b : Made → Result WithForm TermError) → FormStep names a form_a → FormStep names b form_b
    → (m : Made) (p q : WithForm) → InOrder names m → form_a m ≡ Ok p → form_b p.made ≡ Ok q → TwoForms names a b m p.form q.form q.made
two_forms names a b form_a form_b step_a step_b m p q i e1 e2 =
    let s = step_a m p i e1 in
    let t = step_b p.made q s.in_order.0.in_order e2 in
    let le : length p.made.atoms ≤ length q.made.atoms = grows_length names p.made q.made t.in_order.0 in
    record {
      grows = grows_then names m p.made q.made s.in_order.0 t.in_order.0;
      left = s.in_order.1;
      right = t.in_order.1;
      left_in = within_more (length p.made.atoms + 1) (length q.made.atoms + 1) p.form (omega arith) s.in_order.2;
      right_in = t.in_order.2;
      has = λ u vars x y g ea eb.
          has_both u vars names m p.made q.made (λ w. value w p.form ≡ number_of x) (λ w. value w q.form ≡ number_of y) s.in_order.0
          (λ w z below e. value_same (length p.made.atoms) w z p.form s.in_order.2 below ∙ e) (s.has u vars x g ea) (λ w k. t.has w vars y k eb);
    }

-- an operation that calculates, made of its operands' forms
pub calculates_goes :
    (names : List Binding) (op : BinOp) (a b : Vars → Option Value) (form_a form_b : Made → Result WithForm TermError) (next : Form → Form → Made → Result WithForm TermError)
    → calculates op ≡ true → FormStep names a form_a → FormStep names b form_b
    → ((f g : Form) (k : Made) (r : WithForm) → InOrder names k → IsForm f → IsForm g → Within (length k.atoms + 1) f → Within (length k.atoms + 1) g → next f g k ≡ Ok r → Makes names k r (λ u. result_of op (value u f) (value u g)))
    → FormStep names (λ vars. applied op (a vars) (b vars)) (λ m. then_form (form_a m) (λ f n. then_form (form_b n) (λ g k. next f g k)))
calculates_goes names op a b form_a form_b next c step_a step_b last m r i h =
    let p = then_form_is (form_a m) (λ f n. then_form (form_b n) (λ g k. next f g k)) r h in
    let q = then_form_is (form_b p.0.made) (λ g k. next p.0.form g k) r p.2 in
    let two = two_forms names a b form_a form_b step_a step_b m p.0 q.0 i p.1 q.1 in
    let made = last p.0.form q.0.form q.0.made r two.grows.in_order two.left two.right two.left_in two.right_in q.2 in
    record {
      in_order = (grows_then names m q.0.made r.made two.grows made.in_order.0, made.in_order.1, made.in_order.2);
      has = λ u vars w g e.
          let v = applied_is op (a vars) (b vars) w e in
          has_last u vars names m q.0.made r.made (λ n. (value n p.0.form ≡ number_of v.0) × (value n q.0.form ≡ number_of v.1)) (λ n. value n r.form ≡ number_of w) two.grows (two.has u vars v.0 v.1 g v.2 v.3)
          (λ n k so. has_so n vars names q.0.made r.made (λ o. value o r.form ≡ result_of op (value n p.0.form) (value n q.0.form)) (λ o. value o r.form ≡ number_of w)
          (λ o x. x ∙ ap (λ l. result_of op l (value n q.0.form)) so.0 ∙ ap (λ l. result_of op (number_of v.0) l) so.1 ∙ sym (values_calculate op v.0 v.1 w c v.4)) (made.has n vars k));
    }
