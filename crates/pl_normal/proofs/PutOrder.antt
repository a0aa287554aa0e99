-- What is put in the places of variables, and order.
use Rattle.std.proofs.Common.{◌≡◌, ◌∙◌, ℕ, zero, suc, ◌<◌, ◌≤◌, ◌+◌, ◌^◌, pos, unsigned_abs, nat_eq, Bool, true, false, ◌&&◌, cond, List, [], ◌∷◌, length, get_or, Option, Some, None, Result, Ok, Err, IfOk, refl, ap, sym, subst, arith, All}
use Rattle.std.specs.List.{slice_get}
use Rattle.std.proofs.lemmas.List.Elements.{All-nil}
use Rattle.pl_syntax.specs.declared.expr.BinOp.{BinOp}
use Rattle.pl_syntax.specs.declared.expr.BinOp.TheVariants.{Mul}
use Rattle.pl_syntax.specs.Tree.{Expr}
use Rattle.pl_forms.specs.declared.form.Part.{Part}
use Rattle.pl_forms.specs.declared.form.Form.{Form}
use Rattle.pl_forms.specs.declared.form.TermError.{TermError}
use Rattle.pl_forms.specs.declared.fact.Fact.{Fact}
use Rattle.pl_forms.specs.declared.fact.Facts.{Facts}
use Rattle.pl_forms.specs.Forms.{is_zero, Ascends, IsForm, atom_form}
use Rattle.pl_forms.specs.Facts.{IsFact}
use Rattle.pl_forms.specs.Steps.{plus}
use Rattle.pl_forms.specs.Places.{Within}
use Rattle.pl_forms.proofs.FormSteps.{plus_form}
use Rattle.pl_forms.proofs.PlaceLaws.{plus_within}
use Rattle.pl_normal.specs.declared.scope.Operands.{Operands}
use Rattle.pl_normal.specs.declared.scope.Binding.{Binding}
use Rattle.pl_normal.specs.Scope.{Atom, Origin, Variable, Opaque}
use Rattle.pl_normal.specs.Scope as origin
use Rattle.pl_normal.specs.Normal.{Made, WithForm, Forms, put, then_form, same_form}
use Rattle.pl_normal.specs.Meaning.{AreOlder, EachOlder, FactWithin, InOrder, FormInOrder}
use Rattle.pl_normal.specs.Putting.{Shown, shown_as, shown_atom, solved_for, is_older, stays, put_parts, put_form, again, changed, put_inside, put_solved, put_newer, put_atom, put_in}
use Rattle.pl_normal.proofs.Growing.{then_form_is, within_more, facts_more, grows_not, grows_then, grows_length}
use Rattle.pl_normal.proofs.NewAtoms.{atom_is, atom_within}
use Rattle.pl_normal.proofs.Calculating.{product_makes}
use Rattle.pl_normal.proofs.Expressions.{opaque_makes}

-- what stands for an atom is in order
abbrev PutStep : List Binding → List Form → (ℕ → Made → Result WithForm TermError) → Type 0
PutStep names solved one = (a : ℕ) (m : Made) (r : WithForm) → InOrder names m → All (Within (length m.atoms + 1)) solved → a < length m.atoms → one a m ≡ Ok r → FormInOrder names m r

all_more : (m n : ℕ) (forms : List Form) → m ≤ n → All (Within m) forms → All (Within n) forms
all_more m n forms le h = λ k d lt. within_more m n (get_or forms k d) le (h k d lt)

-- ---- sums

put_then : (m : Made) (r : Result Form TermError) (f : Form → Made → Result WithForm TermError) (w : WithForm) → then_form (put m r) f ≡ Ok w → (g : Form) × (r ≡ Ok g) × (f g m ≡ Ok w)
put_then m (Err e) f w h = absurd cc
put_then m (Ok g) f w h = (g, refl, h)

parts_order :
    (names : List Binding) (solved : List Form) (one : ℕ → Made → Result WithForm TermError) → PutStep names solved one → (low : ℕ) (ps : List Part) (f : Form) (m : Made) (r : WithForm) → InOrder names m
    → All (Within (length m.atoms + 1)) solved → Ascends low ps → All (λ p. p.atom + 1 < length m.atoms + 1) ps → IsForm f → Within (length m.atoms + 1) f → put_parts one ps f m ≡ Ok r → FormInOrder names m r
parts_order names solved one step low [] f m r i s a w pf wf h =
    let same : (record { form = f; made = m }) ≡ r = cc in
    subst (FormInOrder names m) same (grows_not names m i, pf, wf)
parts_order names solved one step low (p ∷ ps) f m r i s a w pf wf h =
    let x = then_form_is (one p.atom m) (λ g n. then_form (put n (plus f p.coeff g)) (λ h k. put_parts one ps h k)) r h in
    let y = put_then x.0.made (plus f p.coeff x.0.form) (λ h k. put_parts one ps h k) r x.2 in
    let made : p.atom + 1 < length m.atoms + 1 = w 0 p (omega arith) in
    let o = step p.atom m x.0 i s (omega arith) x.1 in
    let le : length m.atoms ≤ length x.0.made.atoms = grows_length names m x.0.made o.0 in
    let wide : length m.atoms + 1 ≤ length x.0.made.atoms + 1 = omega arith in
    let some : p.coeff ≡ pos 0 → ⊥ = λ e. let z : true ≡ false = sym (ap is_zero e) ∙ a.1 in absurd cc in
    let last = parts_order names solved one step (p.atom + 1) ps y.0 x.0.made r o.0.in_order (all_more (length m.atoms + 1) (length x.0.made.atoms + 1) solved wide s) a.2
    (λ k d lt. let q : (get_or ps k d).atom + 1 < length m.atoms + 1 = w (suc k) d (omega arith) in omega arith)
    (plus_form f x.0.form p.coeff (Ok y.0) some pf o.1 y.1)
    (plus_within (length x.0.made.atoms + 1) f x.0.form y.0 p.coeff (within_more (length m.atoms + 1) (length x.0.made.atoms + 1) f wide wf) o.2 y.1) y.2 in
    (grows_then names m x.0.made r.made o.0 last.0, last.1, last.2)

form_order :
    (names : List Binding) (solved : List Form) (one : ℕ → Made → Result WithForm TermError) → PutStep names solved one → (f : Form) (m : Made) (r : WithForm) → InOrder names m
    → All (Within (length m.atoms + 1)) solved → IsForm f → Within (length m.atoms + 1) f → put_form one f m ≡ Ok r → FormInOrder names m r
form_order names solved one step f m r i s pf wf h =
    parts_order names solved one step 0 f.parts (record { parts = []; constant = f.constant }) m r i s pf.ascends wf
    (record { ascends = tt; small = All-nil (λ p. unsigned_abs p.coeff ≤ 2 ^ 40); bounded = pf.bounded }) (All-nil (λ p. p.atom + 1 < length m.atoms + 1)) h

-- ---- an atom

stays_order : (names : List Binding) (a : ℕ) (m : Made) (r : WithForm) → InOrder names m → a < length m.atoms → stays a m ≡ Ok r → FormInOrder names m r
stays_order names a m r i lt h =
    let same : (record { form = atom_form a; made = m }) ≡ r = cc in
    subst (FormInOrder names m) same (grows_not names m i, atom_is a, atom_within a (length m.atoms + 1) (omega arith))

again_order :
    (names : List Binding) (e : Expr) (op : BinOp) (f g : Form) (m : Made) (r : WithForm) → InOrder names m → IsForm f → IsForm g → Within (length m.atoms + 1) f → Within (length m.atoms + 1) g
    → again e op f g m ≡ Ok r → FormInOrder names m r
again_order names e Mul f g m r i pf pg wf wg h = (product_makes names e f g m r i pf pg wf wg h).in_order
again_order names e op f g m r i pf pg wf wg h = (opaque_makes names e op f g m r i pf pg wf wg h).in_order

changed_order :
    (names : List Binding) (same : Bool) (e : Expr) (op : BinOp) (f g : Form) (a : ℕ) (m : Made) (r : WithForm) → InOrder names m → a < length m.atoms → IsForm f → IsForm g
    → Within (length m.atoms + 1) f → Within (length m.atoms + 1) g → changed same e op f g a m ≡ Ok r → FormInOrder names m r
changed_order names true e op f g a m r i lt pf pg wf wg h = stays_order names a m r i lt h
changed_order names false e op f g a m r i lt pf pg wf wg h = again_order names e op f g m r i pf pg wf wg h

-- the operands of an atom are older
abbrev ShownOlder : ℕ → Option Shown → Type 0
ShownOlder a None = Unit {0}
ShownOlder a (Some s) = AreOlder a (Some s.operands)

as_older : (a : ℕ) (x : Origin) (o : Option Operands) → AreOlder a o → ShownOlder a (shown_as x o)
as_older a (Opaque e) (Some o) h = h
as_older a (Opaque e) None h = tt
as_older a (Variable x sort) o h = tt
as_older a (origin.Part part var) o h = tt

shown_older : (i k : ℕ) (atoms : List Atom) → EachOlder i atoms → ShownOlder (i + k) (shown_atom (slice_get atoms k))
shown_older i k [] h = tt
shown_older i zero (a ∷ atoms) h = let e : i ≡ i + 0 = omega arith in subst (λ n. ShownOlder n (shown_as a.origin a.operands)) e (as_older i a.origin a.operands h.0)
shown_older i (suc k) (a ∷ atoms) h = let e : i + 1 + k ≡ i + suc k = omega arith in subst (λ n. ShownOlder n (shown_atom (slice_get atoms k))) e (shown_older (i + 1) k atoms h.1)

inside_order :
    (names : List Binding) (solved : List Form) (one : ℕ → Made → Result WithForm TermError) → PutStep names solved one → (o : Option Shown) (a : ℕ) (m : Made) (r : WithForm) → InOrder names m
    → All (Within (length m.atoms + 1)) solved → a < length m.atoms → ShownOlder a o → put_inside one o a m ≡ Ok r → FormInOrder names m r
inside_order names solved one step None a m r i s lt older h = stays_order names a m r i lt h
inside_order names solved one step (Some o) a m r i s lt older h =
    let left = o.operands.left in
    let right = o.operands.right in
    let last : Form → Form → Made → Result WithForm TermError = λ f g k. changed (same_form f left && same_form g right) o.e o.operands.op f g a k in
    let x = then_form_is (put_form one left m) (λ f n. then_form (put_form one right n) (λ g k. last f g k)) r h in
    let y = then_form_is (put_form one right x.0.made) (λ g k. last x.0.form g k) r x.2 in
    let below : a + 1 ≤ length m.atoms + 1 = omega arith in
    let p = form_order names solved one step left m x.0 i s older.0 (within_more (a + 1) (length m.atoms + 1) left below older.2) x.1 in
    let more : length m.atoms ≤ length x.0.made.atoms = grows_length names m x.0.made p.0 in
    let wide : length m.atoms + 1 ≤ length x.0.made.atoms + 1 = omega arith in
    let q = form_order names solved one step right x.0.made y.0 p.0.in_order (all_more (length m.atoms + 1) (length x.0.made.atoms + 1) solved wide s) older.1
    (within_more (a + 1) (length x.0.made.atoms + 1) right (omega arith) older.3) y.1 in
    let still : length x.0.made.atoms ≤ length y.0.made.atoms = grows_length names x.0.made y.0.made q.0 in
    let z = changed_order names (same_form x.0.form left && same_form y.0.form right) o.e o.operands.op x.0.form y.0.form a y.0.made r q.0.in_order (omega arith) p.1 q.1
    (within_more (length x.0.made.atoms + 1) (length y.0.made.atoms + 1) x.0.form (omega arith) p.2) q.2 y.2 in
    (grows_then names m x.0.made r.made p.0 (grows_then names x.0.made y.0.made r.made q.0 z.0), z.1, z.2)

-- what is so of all solved forms is so of that of a variable
solved_is : (P : Form → Type 0) (ks : List ℕ) (ss : List Form) (a : ℕ) (f : Form) → All P ss → solved_for ks ss a ≡ Some f → P f
solved_is P [] ss a f h e = absurd cc
solved_is P (k ∷ ks) [] a f h e = absurd cc
solved_is P (k ∷ ks) (s ∷ ss) a f h e =
    (elim (nat_eq k a) as (λ b. cond b (Some s) (solved_for ks ss a) ≡ Some f → P f) [
      | true ↦ λ q. let same : s ≡ f = cc in subst P same (h 0 s (omega arith))
      | false ↦ λ q. solved_is P ks ss a f (λ k d lt. h (suc k) d (omega arith)) q
    ]) e

solved_order :
    (names : List Binding) (solved : List Form) (one : ℕ → Made → Result WithForm TermError) → PutStep names solved one → (o : Option Form) (a : ℕ) (m : Made) (r : WithForm) → InOrder names m
    → All (Within (length m.atoms + 1)) solved → a < length m.atoms → ((f : Form) → o ≡ Some f → IsForm f × Within (length m.atoms + 1) f) → put_solved one o a m ≡ Ok r → FormInOrder names m r
solved_order names solved one step (Some f) a m r i s lt of h =
    let same : (record { form = f; made = m }) ≡ r = cc in
    let k = of f refl in
    subst (FormInOrder names m) same (grows_not names m i, k.0, k.1)
solved_order names solved one step None a m r i s lt of h =
    let e : 0 + a ≡ a = omega arith in
    inside_order names solved one step (shown_atom (slice_get m.atoms a)) a m r i s lt (subst (λ n. ShownOlder n (shown_atom (slice_get m.atoms a))) e (shown_older 0 a m.atoms i.operands)) h

newer_order :
    (names : List Binding) (fresh : List ℕ) (solved : List Form) (one : ℕ → Made → Result WithForm TermError) → All IsForm solved → PutStep names solved one → PutStep names solved (λ a m. put_newer one fresh solved a m)
newer_order names fresh solved one are step a m r i s lt h =
    (elim (is_older fresh a) as (λ b. cond b (stays a m) (put_solved one (solved_for fresh solved a) a m) ≡ Ok r → FormInOrder names m r) [
      | true ↦ λ q. stays_order names a m r i lt q
      | false ↦ λ q. solved_order names solved one step (solved_for fresh solved a) a m r i s lt (λ f e. (solved_is IsForm fresh solved a f are e, solved_is (Within (length m.atoms + 1)) fresh solved a f s e)) q
    ]) h

atom_order : (names : List Binding) (fresh : List ℕ) (solved : List Form) (n : ℕ) → All IsForm solved → PutStep names solved (λ a m. put_atom fresh solved n a m)
atom_order names fresh solved zero are a m r i s lt h = stays_order names a m r i lt h
atom_order names fresh solved (suc n) are a m r i s lt h = newer_order names fresh solved (λ b k. put_atom fresh solved n b k) are (atom_order names fresh solved n are) a m r i s lt h

-- ---- whatever is known

without_facts : (names : List Binding) (atoms : List Atom) (facts : List Fact) → InOrder names (record { atoms = atoms; facts = facts }) → InOrder names (record { atoms = atoms; facts = [] })
without_facts names atoms facts i = record {
  names_are = i.names_are;
  names_within = i.names_within;
  operands = i.operands;
  facts_are = All-nil IsFact;
  facts_within = All-nil (FactWithin (length atoms + 1));
  few = omega arith;
}

with_facts :
    (names : List Binding) (before after : List Atom) (facts : List Fact) (f : Form) → InOrder names (record { atoms = before; facts = facts })
    → FormInOrder names (record { atoms = before; facts = [] }) (record { form = f; made = record { atoms = after; facts = [] } })
    → FormInOrder names (record { atoms = before; facts = facts }) (record { form = f; made = record { atoms = after; facts = facts } })
with_facts names before after facts f i h =
    let le : length before ≤ length after = grows_length names (record { atoms = before; facts = [] }) (record { atoms = after; facts = [] }) h.0 in
    let o : InOrder names (record { atoms = after; facts = facts }) = record {
      names_are = h.0.in_order.names_are;
      names_within = h.0.in_order.names_within;
      operands = h.0.in_order.operands;
      facts_are = i.facts_are;
      facts_within = facts_more (length before + 1) (length after + 1) facts (omega arith) i.facts_within;
      few = i.few;
    } in
    (record { more = h.0.more; atoms = h.0.atoms; in_order = o }, h.1, h.2)

pub put_in_order :
    (names : List Binding) (fresh : List ℕ) (solved : List Form) (f : Form) (before now : List Atom) (r : Result Form TermError) → All IsForm solved → IsForm f
    → Forms r (record { atoms = now; facts = [] }) (put_in fresh solved f (record { atoms = before; facts = [] }))
    → IfOk r (λ g. (facts : Facts) → InOrder names (record { atoms = before; facts = facts.list }) → All (Within (length before + 1)) solved → Within (length before + 1) f
    → FormInOrder names (record { atoms = before; facts = facts.list }) (record { form = g; made = record { atoms = now; facts = facts.list } }))
put_in_order names fresh solved f before now (Err e) are pf h = tt
put_in_order names fresh solved f before now (Ok g) are pf h = λ facts i s w.
    with_facts names before now facts.list g i
    (form_order names solved (λ a m. put_atom fresh solved (length before) a m) (atom_order names fresh solved (length before) are) f (record { atoms = before; facts = [] })
    (record { form = g; made = record { atoms = now; facts = [] } }) (without_facts names before facts.list i) s pf w h)
