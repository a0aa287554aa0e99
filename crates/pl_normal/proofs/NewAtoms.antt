-- Numbers for new atoms: of products, quotients and remainders, and of booleans.
use Rattle.std.proofs.Common.{◌≡◌, ℕ, suc, ◌<◌, ◌≤◌, ◌+◌, ◌^◌, ℤ, pos, negsuc, ◌+ℤ◌, nat_eq, nat_lt, int_eq, unsigned_abs, Bool, true, false, ◌&&◌, cond, List, [], ◌∷◌, ◌++◌, length, Option, Some, None, Result, Ok, Err, refl, ap, sym, subst, ◌∙◌, arith, All}
use Rattle.std.proofs.lemmas.Int.{ints}
use Rattle.std.proofs.lemmas.Bool.Decides.{nat_tests}
use Rattle.std.proofs.lemmas.List.Elements.{All-cons, All-nil, All-append}
use lib.IntN.{suc_ℤ-*ℤ, zero-*ℤ}
use Rattle.pl_syntax.specs.declared.expr.BinOp.{BinOp}
use Rattle.pl_syntax.specs.declared.expr.BinOp.TheVariants.{Mul, Div, Rem}
use Rattle.pl_syntax.specs.Tree.{Expr}
use Rattle.pl_syntax.specs.Values.{Value, Vars}
use Rattle.pl_syntax.specs.Values as v
use Rattle.pl_forms.specs.declared.form.Part.{Part}
use Rattle.pl_forms.specs.declared.form.Form.{Form}
use Rattle.pl_forms.specs.declared.form.TermError.{TermError}
use Rattle.pl_forms.specs.declared.fact.Fact.{Fact}
use Rattle.pl_forms.specs.Forms.{value, parts_value, IsForm, atom_form}
use Rattle.pl_forms.specs.Facts.{MeetsAll, IsFact, IsGuard}
use Rattle.pl_forms.specs.Goals.{Goal, EachForm, IsGoal, GoalWithin, Says}
use Rattle.pl_forms.specs.Goals as goal
use Rattle.pl_forms.specs.Places.{Within}
use Rattle.pl_forms.specs.Assuming.{one_form, one_less, with_fact, assumed}
use Rattle.pl_forms.proofs.AssumingLaws.{assumed_met, assumed_keeps, rest_value, less_form, rest_form, fact_more, few_more, one_within}
use Rattle.pl_forms.proofs.PlaceLaws.{plus_within}
use Rattle.pl_normal.specs.declared.scope.Operands.{Operands}
use Rattle.pl_normal.specs.declared.scope.Binding.{Binding}
use Rattle.pl_normal.specs.Scope.{Atom, Opaque}
use Rattle.pl_normal.specs.Evaluation.{number_of}
use Rattle.pl_normal.specs.Normal.{Made, WithForm, WithGoal, same_parts, same_form, same_op, same_operands, find, found, opaque, with_facts, then_known, facts_of, boolean}
use Rattle.pl_normal.specs.Meaning.{GuardWithin, FactWithin, InOrder, calculated, Means, EachMeans, Agrees, SameBelow, FormInOrder}
use Rattle.pl_normal.proofs.NumbersBelow.{value_same, says_same, agrees_same, met_same}
use Rattle.pl_normal.proofs.Growing.{goal_more, facts_more, with_atom, one_more, order_last, means_last, grows_not, Has, has_none, Makes}

-- ---- an atom's form

pub atom_value : (u : ℕ → ℤ) (k : ℕ) → value u (atom_form k) ≡ u k
atom_value u k = omega (arith, ints, suc_ℤ-*ℤ (pos 0) (u k), zero-*ℤ (u k))

pub atom_is : (k : ℕ) → IsForm (atom_form k)
atom_is k = record { ascends = (omega arith, refl, tt); small = All-cons (λ p. unsigned_abs p.coeff ≤ 2 ^ 40) (record { coeff = pos 1; atom = k }) [] (omega arith) (All-nil (λ p. unsigned_abs p.coeff ≤ 2 ^ 40)); bounded = omega arith }

pub atom_within : (k n : ℕ) → k + 1 < n → Within n (atom_form k)
atom_within k n h = All-cons (λ p. p.atom + 1 < n) (record { coeff = pos 1; atom = k }) [] h (All-nil (λ p. p.atom + 1 < n))

-- ---- one number changed

abbrev pub updated : (ℕ → ℤ) → ℕ → ℤ → ℕ → ℤ
updated u n z = λ k. cond (nat_eq k n) z (u k)

updated_at : (u : ℕ → ℤ) (n : ℕ) (z : ℤ) → updated u n z n ≡ z
updated_at u n z = let e : nat_eq n n ≡ true = grind (arith, nat_tests) in rw e refl

updated_below : (u : ℕ → ℤ) (n : ℕ) (z : ℤ) → SameBelow n u (updated u n z)
updated_below u n z = record { same = λ k lt. let e : nat_eq k n ≡ false = grind (arith, nat_tests) in ap (λ b. cond b z (u k)) e }

-- ---- the same operands

part_same : (x y : Part) → (int_eq x.coeff y.coeff && nat_eq x.atom y.atom) ≡ true → (x.coeff ≡ y.coeff) × (x.atom ≡ y.atom)
part_same x y h = grind (arith, ints)

if_both : (a b : Bool) → cond a b false ≡ true → (a ≡ true) × (b ≡ true)
if_both true b h = (refl, h)
if_both false b h = absurd cc

parts_same : (u : ℕ → ℤ) (xs ys : List Part) → same_parts xs ys ≡ true → parts_value u xs ≡ parts_value u ys
parts_same u [] [] h = refl
parts_same u [] (y ∷ ys) h = absurd cc
parts_same u (x ∷ xs) [] h = absurd cc
parts_same u (x ∷ xs) (y ∷ ys) h =
    let k = if_both (int_eq x.coeff y.coeff && nat_eq x.atom y.atom) (same_parts xs ys) h in
    let p = part_same x y k.0 in
    rw (p.0, p.1, parts_same u xs ys k.1) refl

int_same : (a b : ℤ) → int_eq a b ≡ true → a ≡ b
int_same a b h = grind (arith, ints)

form_same : (u : ℕ → ℤ) (f g : Form) → same_form f g ≡ true → value u f ≡ value u g
form_same u f g h =
    let k = if_both (int_eq f.constant g.constant) (same_parts f.parts g.parts) h in
    rw (int_same f.constant g.constant k.0, parts_same u f.parts g.parts k.1) refl

op_same : (a b : BinOp) → same_op a b ≡ true → a ≡ b
op_same Mul Mul h = refl
op_same Div Div h = refl
op_same Rem Rem h = refl
op_same _ _ h = absurd cc

-- an atom with the same operands has the number that is calculated
operands_same : (u : ℕ → ℤ) (z : ℤ) (op : BinOp) (f g : Form) (o : Option Operands) → same_operands op f g o ≡ true → Means u z o → z ≡ calculated op (value u f) (value u g)
operands_same u z op f g None h m = absurd cc
operands_same u z op f g (Some o) h m =
    let k = if_both (same_op op o.op) (cond (same_form f o.left) (same_form g o.right) false) h in
    let l = if_both (same_form f o.left) (same_form g o.right) k.1 in
    rw (op_same op o.op k.0, form_same u f o.left l.0, form_same u g o.right l.1) m

found_same : (u : ℕ → ℤ) (op : BinOp) (f g : Form) (i k : ℕ) (atoms : List Atom) → EachMeans u i atoms → find op f g i atoms ≡ Some k → u k ≡ calculated op (value u f) (value u g)
found_same u op f g i k [] m h = absurd cc
found_same u op f g i k (a ∷ atoms) m h =
    (elim (same_operands op f g a.operands) as (λ b. same_operands op f g a.operands ≡ b → cond b (Some i) (find op f g (i + 1) atoms) ≡ Some k → u k ≡ calculated op (value u f) (value u g)) [
      | true ↦ λ e q. let j : i ≡ k = cc in subst (λ n. u n ≡ calculated op (value u f) (value u g)) j (operands_same u (u i) op f g a.operands e m.0)
      | false ↦ λ e q. found_same u op f g (i + 1) k atoms m.1 q
    ]) refl h

found_before : (op : BinOp) (f g : Form) (i k : ℕ) (atoms : List Atom) → find op f g i atoms ≡ Some k → k < i + length atoms
found_before op f g i k [] h = absurd cc
found_before op f g i k (a ∷ atoms) h =
    (elim (same_operands op f g a.operands) as (λ b. cond b (Some i) (find op f g (i + 1) atoms) ≡ Some k → k < i + suc (length atoms)) [
      | true ↦ λ q. let j : i ≡ k = cc in omega (arith, j)
      | false ↦ λ q. let lt : k < i + 1 + length atoms = found_before op f g (i + 1) k atoms q in omega arith
    ]) h

-- ---- a new atom

-- a form of the new atom, in order
new_in_order : (names : List Binding) (m : Made) (a : Atom) (facts : List Fact) → InOrder names (with_atom m a facts) → FormInOrder names m (record { form = atom_form (length m.atoms); made = with_atom m a facts })
new_in_order names m a facts i =
    (record { more = a ∷ []; atoms = refl; in_order = i }, atom_is (length m.atoms), atom_within (length m.atoms) (length (m.atoms ++ a ∷ []) + 1) (let e : length (m.atoms ++ a ∷ []) ≡ length m.atoms + 1 = one_more m a facts in omega arith))

-- a number for it
new_has :
    (u : ℕ → ℤ) (vars : Vars) (names : List Binding) (m : Made) (a : Atom) (facts : List Fact) (z : ℤ) → InOrder names m → Agrees u vars names m
    → Means (updated u (length m.atoms) z) z a.operands → MeetsAll (updated u (length m.atoms) z) facts
    → Has u vars names m (with_atom m a facts) (λ w. value w (atom_form (length m.atoms)) ≡ z)
new_has u vars names m a facts z i g means met =
    let s = updated_below u (length m.atoms) z in
    let k = agrees_same u (updated u (length m.atoms) z) vars names m i s g in
    let at : updated u (length m.atoms) z (length m.atoms) ≡ z = updated_at u (length m.atoms) z in
    let n : length m.atoms ≡ 0 + length m.atoms = omega arith in
    let last : Means (updated u (length m.atoms) z) (updated u (length m.atoms) z (length m.atoms)) a.operands = subst (λ x. Means (updated u (length m.atoms) z) x a.operands) (sym at) means in
    record {
      numbers = updated u (length m.atoms) z;
      same = s;
      agrees = record { bound = k.bound; opaque = means_last (updated u (length m.atoms) z) 0 m.atoms a k.opaque (subst (λ j. Means (updated u (length m.atoms) z) (updated u (length m.atoms) z j) a.operands) n last); facts = met };
      so = atom_value (updated u (length m.atoms) z) (length m.atoms) ∙ at;
    }

-- ---- operations of which nothing is said but that they are the same where their operands are

abbrev pub Calculates : List Binding → BinOp → Form → Form → Made → WithForm → Type 0
Calculates names op f g m r = Makes names m r (λ u. calculated op (value u f) (value u g))

found_is :
    (names : List Binding) (e : Expr) (op : BinOp) (f g : Form) (m : Made) (o : Option ℕ) → find op f g 0 m.atoms ≡ o → InOrder names m → IsForm f → IsForm g
    → Within (length m.atoms + 1) f → Within (length m.atoms + 1) g → Calculates names op f g m (found o e op f g m)
found_is names e op f g m (Some k) q i pf pg wf wg =
    let lt : k < 0 + length m.atoms = found_before op f g 0 k m.atoms q in
    record {
      in_order = (grows_not names m i, atom_is k, atom_within k (length m.atoms + 1) (omega arith));
      has = λ u vars a. has_none u vars names m (λ w. value w (atom_form k) ≡ calculated op (value u f) (value u g)) a (atom_value u k ∙ found_same u op f g 0 k m.atoms a.opaque q);
    }
found_is names e op f g m None q i pf pg wf wg =
    let o : Operands = record { op = op; left = f; right = g } in
    let a : Atom = record { origin = Opaque e; operands = Some o } in
    record {
      in_order = new_in_order names m a m.facts (order_last names m a m.facts i (pf, pg, wf, wg) i.facts_are (facts_more (length m.atoms + 1) (length m.atoms + 1 + 1) m.facts (omega arith) i.facts_within) i.few);
      has = λ u vars h.
          let z = calculated op (value u f) (value u g) in
          let s = updated_below u (length m.atoms) z in
          new_has u vars names m a m.facts z i h
          (rw (value_same (length m.atoms) u (updated u (length m.atoms) z) f wf s, value_same (length m.atoms) u (updated u (length m.atoms) z) g wg s) refl)
          (met_same (length m.atoms) u (updated u (length m.atoms) z) m.facts i.facts_within s h.facts);
    }

pub opaque_is :
    (names : List Binding) (e : Expr) (op : BinOp) (f g : Form) (m : Made) → InOrder names m → IsForm f → IsForm g
    → Within (length m.atoms + 1) f → Within (length m.atoms + 1) g → Calculates names op f g m (opaque e op f g m)
opaque_is names e op f g m i pf pg wf wg = found_is names e op f g m (find op f g 0 m.atoms) refl i pf pg wf wg

-- ---- new booleans

fact_last : (n : ℕ) (facts : List Fact) (f : Fact) → All (FactWithin n) facts → GuardWithin n f.guard → Within n f.form → All (FactWithin n) (with_fact facts f)
fact_last n facts f p g h =
    elim (nat_lt (length facts) 1024) as (λ b. All (FactWithin n) (cond b (facts ++ f ∷ []) facts)) [ true ↦ All-append (FactWithin n) facts (f ∷ []) p (All-cons (FactWithin n) f [] (g, h) (All-nil (FactWithin n))) | false ↦ p ]

-- facts that are in order, of n atoms
record AreKnown (n : ℕ) (facts : List Fact) : Type 0 where
  are : All IsFact facts
  within : All (FactWithin n) facts
  few : length facts ≤ 1024

known_more : (n : ℕ) (facts : List Fact) (f : Fact) → AreKnown n facts → IsGuard f.guard × GuardWithin n f.guard → IsForm f.form × Within n f.form → AreKnown n (with_fact facts f)
known_more n facts f p g h = record { are = fact_more facts f p.are g.0 h.0; within = fact_last n facts f p.within g.1 h.1; few = few_more facts f p.few }

both_forms : (n : ℕ) (goal : Goal) → IsGoal goal → GoalWithin n goal → EachForm (λ f. IsForm f × Within n f) goal
both_forms n (goal.Truth b t) p w = (p, w)
both_forms n (goal.Plain s f) p w = (p, w)
both_forms n (goal.Both a b) p w = (both_forms n a p.0 w.0, both_forms n b p.1 w.1)
both_forms n (goal.Either a b) p w = (both_forms n a p.0 w.0, both_forms n b p.1 w.1)
both_forms n (goal.When k e) p w = ((p.0, w.0), both_forms n e p.1 w.1)

assumed_known :
    (n : ℕ) (facts now : List Fact) (b : Form) (goal : Goal) (h : Bool) → AreKnown n facts → IsForm b → Within n b → IsGoal goal → GoalWithin n goal
    → assumed facts None (Some b) goal h ≡ Ok now → AreKnown n now
assumed_known n facts now b goal h p i w g k q =
    assumed_keeps (AreKnown n) (λ f. IsForm f × Within n f) (λ g. IsGuard g × GuardWithin n g) (known_more n)
    (λ b f p e. (less_form b f p.0 e, plus_within n b one_form f (negsuc 0) p.1 (one_within n) e)) (λ b f p e. (rest_form b f p.0 e, plus_within n one_form b f (negsuc 0) (one_within n) p.1 e)) (λ k f. f)
    facts None (Some b) goal h now p (i, w) (both_forms n goal g k) q

with_facts_is : (b : Form) (atoms : List Atom) (r : Result (List Fact) TermError) (w : WithForm) → with_facts b atoms r ≡ Ok w → (facts : List Fact) × (r ≡ Ok facts) × ((record { form = b; made = record { atoms = atoms; facts = facts } }) ≡ w)
with_facts_is b atoms (Err e) w h = absurd cc
with_facts_is b atoms (Ok facts) w h = (facts, refl, cc)

then_known_is : (r : Result (List Fact) TermError) (f : List Fact → Result (List Fact) TermError) (now : List Fact) → then_known r f ≡ Ok now → (mid : List Fact) × (r ≡ Ok mid) × (f mid ≡ Ok now)
then_known_is (Err e) f now h = absurd cc
then_known_is (Ok mid) f now h = (mid, refl, h)

facts_of_is :
    (b : Form) (r : Result Form TermError) (c : Goal) (facts now : List Fact) → facts_of b r c facts ≡ Ok now
    → (other : Form) × (mid : List Fact) × (r ≡ Ok other) × (assumed facts None (Some b) c true ≡ Ok mid) × (assumed mid None (Some other) c false ≡ Ok now)
facts_of_is b (Err e) c facts now h = absurd cc
facts_of_is b (Ok other) c facts now h =
    let q = then_known_is (assumed facts None (Some b) c true) (λ more. assumed more None (Some other) c false) now h in
    (other, q.0, refl, q.1, q.2)

-- where the boolean has the truth's number, both kinds of facts are met
known_met :
    (u : ℕ → ℤ) (b other : Form) (c : Goal) (t : Bool) (facts mid now : List Fact) → value u b ≡ number_of (v.Truth t) → one_less b ≡ Ok other → Says u c t → MeetsAll u facts
    → assumed facts None (Some b) c true ≡ Ok mid → assumed mid None (Some other) c false ≡ Ok now → MeetsAll u now
known_met u b other c t facts mid now n o s m p q =
    assumed_met u mid None (Some other) c false now (assumed_met u facts None (Some b) c true mid m (λ k. when_one t n s k) p) (λ k. when_none t n s (rest_value u b other o) k) q
  where
    when_one : (t : Bool) → value u b ≡ number_of (v.Truth t) → Says u c t → value u b ≡ pos 1 → Says u c true
    when_one true n s k = s
    when_one false n s k = absurd (omega (arith, ints, n, k))

    when_none : (t : Bool) → value u b ≡ number_of (v.Truth t) → Says u c t → value u other +ℤ value u b ≡ pos 1 → value u other ≡ pos 1 → Says u c false
    when_none true n s r k = absurd (omega (arith, ints, n, r, k))
    when_none false n s r k = s

-- the form of a new boolean is in order, and there are numbers that give it that of its condition's truth
pub record IsBoolean (names : List Binding) (c : WithGoal) (r : WithForm) : Type 0 where
  pub in_order : FormInOrder names c.made r
  pub has : (u : ℕ → ℤ) (vars : Vars) (t : Bool) → Agrees u vars names c.made → Says u c.goal t → Has u vars names c.made r.made (λ w. value w r.form ≡ number_of (v.Truth t))

pub boolean_is : (names : List Binding) (e : Expr) (c : WithGoal) (r : WithForm) → InOrder names c.made → IsGoal c.goal → GoalWithin (length c.made.atoms + 1) c.goal → boolean e (Ok c) ≡ Ok r → IsBoolean names c r
boolean_is names e c r i g w h =
    let n = length c.made.atoms in
    let a : Atom = record { origin = Opaque e; operands = None } in
    let b = atom_form n in
    let p = with_facts_is b (c.made.atoms ++ a ∷ []) (facts_of b (one_less b) c.goal c.made.facts) r h in
    let q = facts_of_is b (one_less b) c.goal c.made.facts p.0 p.1 in
    let before : AreKnown (n + 1 + 1) c.made.facts = record { are = i.facts_are; within = facts_more (n + 1) (n + 1 + 1) c.made.facts (omega arith) i.facts_within; few = i.few } in
    let b_in : Within (n + 1 + 1) b = atom_within n (n + 1 + 1) (omega arith) in
    let goal_in : GoalWithin (n + 1 + 1) c.goal = goal_more (n + 1) (n + 1 + 1) c.goal (omega arith) w in
    let other_is : IsForm q.0 = rest_form b q.0 (atom_is n) q.2 in
    let other_in : Within (n + 1 + 1) q.0 = plus_within (n + 1 + 1) one_form b q.0 (negsuc 0) (one_within (n + 1 + 1)) b_in q.2 in
    let mid = assumed_known (n + 1 + 1) c.made.facts q.1 b c.goal true before (atom_is n) b_in g goal_in q.3 in
    let now = assumed_known (n + 1 + 1) q.1 p.0 q.0 c.goal false mid other_is other_in g goal_in q.4 in
    subst (λ r. IsBoolean names c r) p.2 (record {
      in_order = new_in_order names c.made a p.0 (order_last names c.made a p.0 i tt now.are now.within now.few);
      has = λ u vars t k s.
          let z = number_of (v.Truth t) in
          let below = updated_below u n z in
          new_has u vars names c.made a p.0 z i k tt
          (known_met (updated u n z) b q.0 c.goal t c.made.facts q.1 p.0 (atom_value (updated u n z) n ∙ updated_at u n z) q.2 (says_same n u (updated u n z) c.goal t w below s) (met_same n u (updated u n z) c.made.facts i.facts_within below k.facts) q.3 q.4);
    })
