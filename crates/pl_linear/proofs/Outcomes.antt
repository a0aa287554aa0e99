-- From the graph's answer to what is found.
use Rattle.std.proofs.Common.{◌≡◌, ◌↔◌, ℕ, zero, suc, ◌<◌, ◌≤◌, ◌+◌, ◌^◌, ℤ, neg_ℤ, ◌-ℤ◌, unsigned_abs, List, [], ◌∷◌, ◌++◌, map, take, length, slice_get, Some, ap, sym, subst, ◌∙◌, arith, All}
use Rattle.std.proofs.lemmas.Int.{ints}
use Rattle.std.proofs.lemmas.List.{map-append}
use Rattle.std.proofs.lemmas.List.Elements.{All-map}
use Rattle.pl_forms.specs.declared.form.Part.{Part}
use Rattle.pl_forms.specs.declared.form.Form.{Form}
use Rattle.pl_forms.specs.declared.fact.CertItem.{CertItem}
use Rattle.pl_forms.specs.Forms.{IsForm}
use Rattle.pl_diffs.specs.declared.Edge.{Edge}
use Rattle.pl_diffs.specs.declared.Solved.{Solved}
use Rattle.pl_diffs.specs.declared.Solved.TheVariants.{Cycle, Potentials}
use Rattle.pl_diffs.specs.Outcome.{IsCycle, IfCycle, IfPotentials}
use Rattle.pl_diffs.specs.Differences.{at, Meets, NoneMeets, AreDistances, IsNegativeCycle}
use Rattle.pl_linear.specs.declared.bounds.Bound.{Bound}
use Rattle.pl_linear.specs.declared.found.NodeValue.{NodeValue}
use Rattle.pl_linear.specs.Duty.{Done}
use Rattle.pl_linear.specs.Nodes.{nodes_of, edge_of, edges_of, node_form, IsLeastPoint}
use Rattle.pl_linear.specs.Bounds.{bound_at, forms_of, IsCycleOf}
use Rattle.pl_linear.proofs.Numbers.{number_within, some_nodes}
use Rattle.pl_linear.proofs.Graph.{done_from, least_point}
use Rattle.pl_linear.proofs.Settling.{cycle_within}

pub some_first : (fs : List Form) (nodes : List (List Part)) → nodes ≡ nodes_of fs → 0 < length nodes
some_first fs nodes e = rw e (some_nodes fs)

pub froms_within : (fs : List Form) (nodes : List (List Part)) (es : List Edge) → nodes ≡ nodes_of fs → es ≡ edges_of fs → All (λ e. e.from < length nodes) es
froms_within fs nodes es n e = rw (n, e) (All-map (λ e. e.from < length (nodes_of fs)) (edge_of (nodes_of fs)) fs (λ k d lt. number_within (nodes_of fs) _ (some_nodes fs)))

pub tos_within : (fs : List Form) (nodes : List (List Part)) (es : List Edge) → nodes ≡ nodes_of fs → es ≡ edges_of fs → All (λ e. e.to < length nodes) es
tos_within fs nodes es n e = rw (n, e) (All-map (λ e. e.to < length (nodes_of fs)) (edge_of (nodes_of fs)) fs (λ k d lt. number_within (nodes_of fs) _ (some_nodes fs)))

opposite_weight : (c : ℤ) → unsigned_abs c ≤ 2 ^ 80 → unsigned_abs (neg_ℤ c) ≤ 2 ^ 81
opposite_weight c h = grind (arith, ints)

pub weights_small : (bs : List Bound) (es : List Edge) → All (λ b. IsForm b.form) bs → es ≡ edges_of (forms_of bs) → All (λ e. unsigned_abs e.most ≤ 2 ^ 81) es
weights_small bs es p e =
    rw e (All-map (λ e. unsigned_abs e.most ≤ 2 ^ 81) (edge_of (nodes_of (forms_of bs))) (forms_of bs)
    (All-map (λ f. unsigned_abs (neg_ℤ f.constant) ≤ 2 ^ 81) (λ b. b.form) bs (λ k d lt. opposite_weight _ ((p k d lt).bounded))))

cycle_fact : (s : Solved) (places : List ℕ) (P : List ℕ → Type 0) → s ≡ Cycle places → IfCycle s P → P places
cycle_fact (Cycle q) places P e h = let same : q ≡ places = cc in subst P same h
cycle_fact (Potentials d) places P e h = absurd cc

distances_fact : (s : Solved) (d : List ℤ) (P : List ℤ → Type 0) → s ≡ Potentials d → IfPotentials s P → P d
distances_fact (Cycle q) d P e h = absurd cc
distances_fact (Potentials x) d P e h = let same : x ≡ d = cc in subst P same h

it_is : (s : Solved) (places : List ℕ) → s ≡ Cycle places → IsCycle s
it_is (Cycle q) places e = tt
it_is (Potentials d) places e = absurd cc

pub places_within : (bs : List Bound) (es : List Edge) (s : Solved) (places : List ℕ) → s ≡ Cycle places → es ≡ edges_of (forms_of bs) → IfCycle s (IsNegativeCycle es) → All (λ i. i < length bs) places
places_within bs es s places c e h = cycle_within bs places (rw e at (cycle_fact s places (IsNegativeCycle es) c h))

pub done_by : (fs : List Form) (es : List Edge) (s : Solved) (places : List ℕ) → s ≡ Cycle places → es ≡ edges_of fs → (IsCycle s ↔ NoneMeets es) → Done fs
done_by fs es s places c e h = done_from fs (rw e at (h.0 (it_is s places c)))

pub cycle_by : (bs : List Bound) (es : List Edge) (s : Solved) (places : List ℕ) (n : ℕ) (items : List CertItem) → s ≡ Cycle places → es ≡ edges_of (forms_of bs) → n ≤ 4096 → IfCycle s (IsNegativeCycle es) → IfCycle s (λ places. length places ≤ n) → items ≡ map (λ i. (bound_at bs i).item) places → IsCycleOf bs items
cycle_by bs es s places n items c e few h k q =
    let short : length places ≤ n = cycle_fact s places (λ places. length places ≤ n) c k in
    record { places = places; cycle = rw e at (cycle_fact s places (IsNegativeCycle es) c h); short = omega arith; are = q }

pub point_long : (s : Solved) (d : List ℤ) (es : List Edge) (n : ℕ) → s ≡ Potentials d → IfPotentials s (AreDistances es n) → length d ≡ n
point_long s d es n c h = (distances_fact s d (AreDistances es n) c h).count

pub point_small : (s : Solved) (d : List ℤ) → s ≡ Potentials d → IfPotentials s (All (λ x. unsigned_abs x ≤ 2 ^ 106)) → All (λ x. unsigned_abs x ≤ 2 ^ 106) d
point_small s d c h = distances_fact s d (All (λ x. unsigned_abs x ≤ 2 ^ 106)) c h

pub point_by : (fs : List Form) (nodes : List (List Part)) (es : List Edge) (s : Solved) (d : List ℤ) (p : List NodeValue) → s ≡ Potentials d → nodes ≡ nodes_of fs → es ≡ edges_of fs → IfPotentials s (AreDistances es (length nodes)) → IfPotentials s (λ d. Meets es (at d)) → map (λ v. v.node) p ≡ map node_form nodes → map (λ v. v.value) p ≡ map (λ y. y -ℤ at d 0) d → IsLeastPoint fs p
point_by fs nodes es s d p c n e a m q r =
    least_point fs p d (rw (n, e) at (distances_fact s d (AreDistances es (length nodes)) c a)) (rw e at (distances_fact s d (λ d. Meets es (at d)) c m)) (q ∙ ap (map node_form) n) r

take_step : {A : Type 0} (xs : List A) (i : ℕ) (x : A) → slice_get xs i ≡ Some x → take (suc i) xs ≡ take i xs ++ x ∷ []
take_step [] i x h = absurd cc
take_step (y ∷ ys) zero x h = let e : y ≡ x = cc in ap (λ z. z ∷ []) e
take_step (y ∷ ys) (suc i) x h = ap (λ l. y ∷ l) (take_step ys i x h)

-- one more is mapped to what it should be
pub mapped_more : {A B C : Type 0} (f : A → C) (g : B → C) (out now : List A) (e : A) (xs : List B) (i : ℕ) (x : B) → now ≡ out ++ e ∷ [] → slice_get xs i ≡ Some x → f e ≡ g x → map f out ≡ map g (take i xs) → map f now ≡ map g (take (i + 1) xs)
mapped_more f g out now e xs i x n at_i same so_far =
    let next : suc i ≡ i + 1 = omega arith in
    ap (map f) n ∙ map-append f out (e ∷ []) ∙ ap (λ l. l ++ f e ∷ []) so_far ∙ ap (λ y. map g (take i xs) ++ y ∷ []) same
    ∙ sym (map-append g (take i xs) (x ∷ [])) ∙ ap (map g) (sym (take_step xs i x at_i)) ∙ ap (λ (k : ℕ). map g (take k xs)) next
