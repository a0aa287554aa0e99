-- What a point gives a node, the last of the inequalities, and disequalities that are known.
use Rattle.std.proofs.Common.{◌≡◌, ℕ, zero, suc, ◌≤◌, ◌+◌, ◌-◌, Bool, true, cond, List, [], ◌∷◌, map, drop, length, slice_get, Option, Some, Result, Err, refl, ap, sym, ◌∙◌, arith}
use Rattle.std.proofs.lemmas.List.{drop_all}
use Rattle.pl_forms.specs.declared.form.Part.{Part}
use Rattle.pl_forms.specs.declared.form.Form.{Form}
use Rattle.pl_forms.specs.declared.form.TermError.{TermError}
use Rattle.pl_forms.specs.declared.form.TermError.TheVariants.{TooLarge, Memory}
use Rattle.pl_forms.specs.declared.fact.Fact.{Fact}
use Rattle.pl_forms.specs.declared.equation.Solution.{Solution}
use Rattle.pl_diffs.specs.Differences.{at}
use Rattle.pl_linear.specs.declared.found.NodeValue.{NodeValue}
use Rattle.pl_forms.specs.declared.fact.Cert as CertOf
use Rattle.pl_linear.specs.declared.found.Found.{Found}
use Rattle.pl_linear.specs.declared.found.Found.TheVariants.{Cert, Point}
use Rattle.pl_linear.specs.Duty.{Done}
use Rattle.pl_linear.specs.Findings.{Settles}
use Rattle.pl_linear.specs.declared.bounds.Bound.{Bound}
use Rattle.pl_linear.specs.declared.differing.Match.{Match}
use Rattle.pl_linear.specs.Nodes.{same_parts, place_of, or_zero, value_at}
use Rattle.pl_linear.specs.Bounds.{forms_of}
use Rattle.pl_linear.specs.Decisions.{last_form, sign_shape, or_later, differing}
use Rattle.pl_linear.specs.Differing.{Signs, Matches}

drop_step : {A : Type 0} (xs : List A) (i : ℕ) (x : A) → slice_get xs i ≡ Some x → drop i xs ≡ x ∷ drop (suc i) xs
drop_step [] i x h = absurd cc
drop_step (y ∷ ys) zero x h = let e : y ≡ x = cc in ap (λ z. z ∷ ys) e
drop_step (y ∷ ys) (suc i) x h = drop_step ys i x h

value_there : (p : List NodeValue) (i : ℕ) (v : NodeValue) → slice_get p i ≡ Some v → at (map (λ v. v.value) p) i ≡ v.value
value_there [] i v h = absurd cc
value_there (w ∷ p) zero v h = let e : w ≡ v = cc in ap (λ (x : NodeValue). x.value) e
value_there (w ∷ p) (suc i) v h = value_there p i v h

pub value_here : (p : List NodeValue) (x : List Part) (i : ℕ) (v : NodeValue) → slice_get p i ≡ Some v → same_parts v.node.parts x ≡ true → place_of 0 x (map (λ v. v.node.parts) p) ≡ place_of i x (map (λ v. v.node.parts) (drop i p)) → v.value ≡ value_at p x
value_here p x i v h s e =
    let here : place_of i x (map (λ v. v.node.parts) (drop i p)) ≡ Some i = rw (drop_step p i v h) (ap (λ b. cond b (Some i) (place_of (i + 1) x (map (λ v. v.node.parts) (drop (suc i) p)))) s) in
    sym (ap (λ o. at (map (λ v. v.value) p) (or_zero o)) (e ∙ here) ∙ value_there p i v h)

pub value_nowhere : (p : List NodeValue) (x : List Part) (i : ℕ) → length p ≤ i → place_of 0 x (map (λ v. v.node.parts) p) ≡ place_of i x (map (λ v. v.node.parts) (drop i p)) → value_at p x ≡ at (map (λ v. v.value) p) 0
value_nowhere p x i h e = ap (λ o. at (map (λ v. v.value) p) (or_zero o)) (e ∙ ap (λ l. place_of i x (map (λ v. v.node.parts) l)) (drop_all i p h))

pub last_is : (bs : List Bound) (b : Bound) → slice_get bs (length bs - 1) ≡ Some b → last_form (forms_of bs) ≡ b.form
last_is [] b h = absurd cc
last_is (c ∷ []) b h = let e : c ≡ b = cc in ap (λ (x : Bound). x.form) e
last_is (c ∷ d ∷ bs) b h =
    let next : length (c ∷ d ∷ bs) - 1 ≡ suc (length (d ∷ bs) - 1) = omega arith in
    let there : slice_get (c ∷ d ∷ bs) (suc (length (d ∷ bs) - 1)) ≡ Some b = ap (slice_get (c ∷ d ∷ bs)) (sym next) ∙ h in
    last_is (d ∷ bs) b there

pub differing_step : (eqs : List Solution) (g : Form) (i : ℕ) (f : Fact) (facts : List Fact) → slice_get facts i ≡ Some f → differing eqs g 0 facts ≡ differing eqs g i (drop i facts) → differing eqs g 0 facts ≡ or_later i (sign_shape f.shape eqs g f) (differing eqs g (i + 1) (drop (i + 1) facts))
differing_step eqs g i f facts h e =
    let next : suc i ≡ i + 1 = omega arith in
    e ∙ ap (differing eqs g i) (drop_step facts i f h ∙ ap (λ (k : ℕ). f ∷ drop k facts) next)

pub differing_err : (w : Result (Option Bool) TermError) (later : Result (Option Match) TermError) (i : ℕ) (e : TermError) → Signs (Err e) w → Matches (Err e) (or_later i w later)
differing_err w later i (TooLarge n) h = rw h refl
differing_err w later i Memory h = tt

pub settled_done : (f : Found) (c : CertOf.Cert) (fs : List Form) → f ≡ Cert c → Settles f fs → Done fs
settled_done (Cert d) c fs e h = h
settled_done (Point p) c fs e h = absurd cc
