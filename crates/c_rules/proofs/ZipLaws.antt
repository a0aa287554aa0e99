-- Laws of tests over two lists.
use Rattle.std.proofs.Common.{◌≡◌, ◌∙◌, sym, ap, ℕ, ◌+◌, ◌&&◌, Bool, true, false, not, Option, Some, None, List, [], ◌∷◌, drop, refl}
use Rattle.std.specs.List.{slice_get}
use Rattle.std.specs.Option.{is_some}
use Rattle.std.specs.Borrow.{Bor}
use Rattle.c_forms.specs.declared.source.Param.{Param}
use Rattle.c_forms.specs.declared.source.Slot.{Slot}
use Rattle.c_rules.specs.Groups.{same_param, same_params, same_slot, same_slots}
use Rattle.c_rules.specs.Lent.{lent}
use Rattle.c_rules.proofs.Drops.{slice_get_drop, drop-drop_one}

-- a step, by the test of the elements at that place
pub params_step : (rest all qs : List Param) (i : ℕ) (p : Param) (test : Bool) → all ≡ p ∷ rest → test ≡ same_param p (slice_get qs i) →
    same_params all (drop i qs) ≡ (test && same_params rest (drop (i + 1) qs))
params_step rest all qs i p test e t =
    ap (λ xs. same_params xs (drop i qs)) e
    ∙ ap (λ q. same_param p q && same_params rest (drop 1 (drop i qs))) (slice_get_drop qs i)
    ∙ ap (λ b. b && same_params rest (drop 1 (drop i qs))) (sym t)
    ∙ ap (λ xs. test && same_params rest xs) (drop-drop_one qs i)

pub slots_step : (k : ℕ) (rest all : List Slot) (qs : List Param) (i : ℕ) (s : Slot) (test : Bool) → all ≡ s ∷ rest → test ≡ same_slot k s (slice_get qs i) →
    same_slots k all (drop i qs) ≡ (test && same_slots (k + 1) rest (drop (i + 1) qs))
slots_step k rest all qs i s test e t =
    ap (λ xs. same_slots k xs (drop i qs)) e
    ∙ ap (λ q. same_slot k s q && same_slots (k + 1) rest (drop 1 (drop i qs))) (slice_get_drop qs i)
    ∙ ap (λ b. b && same_slots (k + 1) rest (drop 1 (drop i qs))) (sym t)
    ∙ ap (λ xs. test && same_slots (k + 1) rest xs) (drop-drop_one qs i)

pub params_end : (all qs : List Param) (i : ℕ) → all ≡ [] → same_params all (drop i qs) ≡ not (is_some (slice_get qs i))
params_end all qs i e = ap (λ xs. same_params xs (drop i qs)) e ∙ ap (λ o. not (is_some o)) (slice_get_drop qs i)

pub slots_end : (k : ℕ) (all : List Slot) (qs : List Param) (i : ℕ) → all ≡ [] → same_slots k all (drop i qs) ≡ not (is_some (slice_get qs i))
slots_end k all qs i e = ap (λ xs. same_slots k xs (drop i qs)) e ∙ ap (λ o. not (is_some o)) (slice_get_drop qs i)

pub lent_some : {X : Type 0} (o : Option (Bor X)) → is_some (lent o) ≡ is_some o
lent_some None = refl
lent_some (Some b) = refl

pub flip : (a b : Bool) → a ≡ not b → b ≡ not a
flip a true e = sym (ap not e)
flip a false e = sym (ap not e)
