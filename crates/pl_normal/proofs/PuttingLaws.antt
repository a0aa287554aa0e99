-- What is put in the places of variables, part by part.
use Rattle.std.proofs.Common.{◌≡◌, ◌∙◌, ℕ, zero, suc, ◌<◌, ◌+◌, pos, nat_eq, true, false, cond, List, [], ◌∷◌, length, drop, get_or, map, Option, Some, None, Result, Ok, Err, refl, ap, sym, subst, arith}
use Rattle.std.proofs.lemmas.Bool.Decides.{nat_tests}
use Rattle.pl_forms.specs.declared.form.Part.{Part}
use Rattle.pl_forms.specs.declared.form.Form.{Form}
use Rattle.pl_forms.specs.declared.form.TermError.{TermError}
use Rattle.pl_forms.specs.declared.form.TermError.TheVariants.{TooLarge, Memory}
use Rattle.pl_forms.specs.Forms.{is_zero, Ascends, Answers}
use Rattle.pl_forms.specs.Steps.{plus}
use Rattle.pl_normal.specs.Normal.{Made, WithForm, Forms}
use Rattle.pl_normal.specs.declared.scope.Operands.{Operands}
use Rattle.pl_normal.specs.declared.scope.Atom as atom
use Rattle.pl_normal.specs.Scope.{plain_atom}
use Rattle.pl_normal.specs.Meaning.{AreOlder, EachOlder}
use Rattle.pl_normal.specs.Putting.{solved_for, put_parts, AreForms, AllForms}
use Rattle.std.proofs.lemmas.List.Elements.{All-cons, All-nil}

pub nonzero_at : (low i : ℕ) (ps : List Part) (d : Part) → Ascends low ps → i < length ps → (get_or ps i d).coeff ≡ pos 0 → ⊥
nonzero_at low i [] d a lt e = absurd (omega arith)
nonzero_at low zero (p ∷ ps) d a lt e = let z : true ≡ false = sym (ap is_zero e) ∙ a.1 in absurd cc
nonzero_at low (suc i) (p ∷ ps) d a lt e = nonzero_at (p.atom + 1) i ps d a.2 (omega arith) e

-- the first variable isn't the atom
skipped : (b : Form) (k a : ℕ) (r : Option Form) → (k ≡ a → ⊥) → cond (nat_eq k a) (Some b) r ≡ r
skipped b k a r ne = (elim (nat_eq k a) as (λ t. nat_eq k a ≡ t → cond t (Some b) r ≡ r) [ true ↦ λ e. absurd (ne (grind (arith, nat_tests))) | false ↦ λ e. refl ]) refl

pub skip : (i a : ℕ) (ks : List ℕ) (ss : List Form) (d : ℕ) → i < length ks → length ss ≡ length ks → (get_or ks i d ≡ a → ⊥) → solved_for (drop i ks) (drop i ss) a ≡ solved_for (drop (suc i) ks) (drop (suc i) ss) a
skip i a [] ss d lt e ne = absurd (omega arith)
skip i a (k ∷ ks) [] d lt e ne = absurd (omega (arith, e))
skip zero a (k ∷ ks) (s ∷ ss) d lt e ne = skipped s k a (solved_for ks ss a) ne
skip (suc i) a (k ∷ ks) (s ∷ ss) d lt e ne = skip i a ks ss d (omega arith) (omega (arith, e)) ne

-- a sum past its limit
stops : (x : TermError) (one : ℕ → Made → Result WithForm TermError) (p : Part) (rest : List Part) (f g : Form) (m n k : Made) → one p.atom m ≡ Ok (record { form = g; made = n }) → Answers (Err x) (plus f p.coeff g) → Forms (Err x) k (put_parts one (p ∷ rest) f m)
stops (TooLarge z) one p rest f g m n k q h = rw (q, h) refl
stops Memory one p rest f g m n k q h = tt

pub sum_refused :
    (x : TermError) (one : ℕ → Made → Result WithForm TermError) (i : ℕ) (ps : List Part) (d : Part) (whole : Result WithForm TermError) (f g : Form) (m n k : Made) → i < length ps
    → whole ≡ put_parts one (drop i ps) f m → one (get_or ps i d).atom m ≡ Ok (record { form = g; made = n }) → Answers (Err x) (plus f (get_or ps i d).coeff g) → Forms (Err x) k whole
sum_refused x one i [] d whole f g m n k lt w q h = absurd (omega arith)
sum_refused x one zero (p ∷ ps) d whole f g m n k lt w q h = subst (Forms (Err x) k) (sym w) (stops x one p ps f g m n k q h)
sum_refused x one (suc i) (p ∷ ps) d whole f g m n k lt w q h = sum_refused x one i ps d whole f g m n k (omega arith) w q h

pub skip_one : (i a : ℕ) (ks : List ℕ) (ss : List Form) (d : ℕ) → i < length ks → length ss ≡ length ks → (get_or ks i d ≡ a → ⊥) → solved_for (drop i ks) (drop i ss) a ≡ solved_for (drop (i + 1) ks) (drop (i + 1) ss) a
skip_one i a ks ss d lt e ne = let next : suc i ≡ i + 1 = omega arith in subst (λ j. solved_for (drop i ks) (drop i ss) a ≡ solved_for (drop j ks) (drop j ss) a) next (skip i a ks ss d lt e ne)

older_are : (i : ℕ) (o : Option Operands) → AreOlder i o → AreForms o
older_are i None h = tt
older_are i (Some o) h = (h.0, h.1)

pub all_forms : (i : ℕ) (atoms : List atom.Atom) → EachOlder i (map plain_atom atoms) → AllForms atoms
all_forms i [] h = All-nil (λ a. AreForms a.operands)
all_forms i (a ∷ atoms) h = All-cons (λ a. AreForms a.operands) a atoms (older_are i a.operands h.0) (all_forms (i + 1) atoms h.1)
