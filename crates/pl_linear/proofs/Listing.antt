-- Steps of the functions that list inequalities and nodes.
use Rattle.std.proofs.Common.{◌≡◌, ◌≢◌, ℕ, zero, suc, ◌<◌, ◌≤◌, ◌+◌, ℤ, neg_ℤ, true, false, cond, List, [], ◌∷◌, ◌++◌, drop, length, slice_get, Some, Ok, refl, ap, ◌∙◌, arith}
use Rattle.std.proofs.lemmas.List.Elements.{All-append, All-cons, All-nil}
use Rattle.pl_forms.specs.declared.form.Part.{Part}
use Rattle.pl_forms.specs.declared.form.Form.{Form}
use Rattle.pl_forms.specs.declared.fact.Fact.{Fact}
use Rattle.pl_forms.specs.declared.equation.Solution.{Solution}
use Rattle.pl_forms.specs.Forms.{IsForm}
use Rattle.pl_linear.specs.declared.bounds.Bound.{Bound}
use Rattle.pl_linear.specs.Duty.{opposite_form, look, look_all, then_forms}
use Rattle.pl_linear.specs.Bounds.{IsGiven, GivenBy, AreGiven}
use Rattle.pl_linear.specs.Nodes.{same_part, same_parts, place_of}
use Rattle.pl_linear.proofs.BackRows.{opposite_is}
use Rattle.pl_linear.proofs.Numbers.{place_is}

pub lengths_differ : (xs ys : List Part) → length xs ≢ length ys → same_parts xs ys ≡ false
lengths_differ [] [] h = absurd (h refl)
lengths_differ [] (q ∷ qs) h = refl
lengths_differ (p ∷ ps) [] h = refl
lengths_differ (p ∷ ps) (q ∷ qs) h =
    elim (same_part p q) as (λ b. cond b (same_parts ps qs) false ≡ false) [ true ↦ lengths_differ ps qs (λ e. h (ap suc e)) | false ↦ refl ]

got_within : (ys : List (List Part)) (j : ℕ) (x : List Part) → slice_get ys j ≡ Some x → j < length ys
got_within [] j x h = absurd cc
got_within (y ∷ ys) zero x h = omega arith
got_within (y ∷ ys) (suc j) x h = let r = got_within ys j x h in omega arith

pub place_small : (k : ℕ) (x : List Part) (nodes : List (List Part)) → place_of 0 x nodes ≡ Some k → length nodes ≤ 4096 → k < 4096
place_small k x nodes h few = let t = place_is 0 k x nodes h in let w = got_within nodes t.0 x t.2 in omega (arith, t.1)

pub opposite_made : (f : Form) (ps : List Part) (c : ℤ) → IsForm f → ps ≡ (opposite_form f).parts → c ≡ neg_ℤ f.constant → IsForm (record { parts = ps; constant = c })
opposite_made f ps c p e q = rw (e, q) (opposite_is f p)

drop_step : (xs : List Fact) (i : ℕ) (x : Fact) → slice_get xs i ≡ Some x → drop i xs ≡ x ∷ drop (suc i) xs
drop_step [] i x h = absurd cc
drop_step (y ∷ ys) zero x h = let e : y ≡ x = cc in ap (λ (z : Fact). z ∷ ys) e
drop_step (y ∷ ys) (suc i) x h = drop_step ys i x h

-- one more fact is looked at
pub look_more : (eqs : List Solution) (facts : List Fact) (i : ℕ) (f : Fact) (before now : List Form) → slice_get facts i ≡ Some f → look eqs before f.shape f ≡ Ok now → look_all eqs [] facts ≡ look_all eqs before (drop i facts) → look_all eqs [] facts ≡ look_all eqs now (drop (i + 1) facts)
look_more eqs facts i f before now at_i h so_far =
    let next : suc i ≡ i + 1 = omega arith in
    so_far ∙ ap (look_all eqs before) (drop_step facts i f at_i ∙ ap (λ (k : ℕ). f ∷ drop k facts) next) ∙ ap (λ r. then_forms r (λ now. look_all eqs now (drop (i + 1) facts))) h

pub all_given : (eqs : List Solution) (facts : List Fact) (goal : Form) (bs : List Bound) (b : Bound) (now : List Bound) → now ≡ bs ++ b ∷ [] → GivenBy eqs facts bs → IsGiven eqs facts goal b → AreGiven eqs facts goal now
all_given eqs facts goal bs b now e g h = rw e (All-append (IsGiven eqs facts goal) bs (b ∷ []) (λ k d lt. g k d lt goal) (All-cons (IsGiven eqs facts goal) b [] h (All-nil (IsGiven eqs facts goal))))
