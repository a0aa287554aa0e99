-- Numbers for the nodes meet the inequalities exactly where they meet the edges.
use Rattle.std.proofs.Common.{◌≡◌, ℕ, ◌<◌, ℤ, pos, neg_ℤ, ◌+ℤ◌, ◌-ℤ◌, ◌≤ℤ◌, List, [], ◌∷◌, map, length, get_or, slice_index_or, refl, ap, subst, ◌∙◌, arith, All}
use Rattle.std.proofs.lemmas.Int.{ints}
use Rattle.std.proofs.lemmas.Option.{get_or_from_slice_get}
use Rattle.std.proofs.lemmas.List.{length-map, get_or-map}
use Rattle.std.proofs.lemmas.List.Elements.{All-map}
use Rattle.pl_forms.specs.declared.form.Part.{Part}
use Rattle.pl_forms.specs.declared.form.Form.{Form}
use Rattle.pl_diffs.specs.Differences.{at, Meets, NoneMeets, AreDistances}
use Rattle.pl_linear.specs.declared.found.NodeValue.{NodeValue}
use Rattle.pl_linear.specs.Ends.{split}
use Rattle.pl_linear.specs.Duty.{MeetsForm, Done}
use Rattle.pl_linear.specs.Nodes.{number_of, or_zero, nodes_of, edge_of, edges_of, node_form, value_at, IsLeastPoint}
use Rattle.pl_linear.proofs.Numbers.{Stands, HasEnds, all_stand, number_is, number_within, some_nodes, zero_first}

abbrev pub node_at : List (List Part) → ℕ → List Part
node_at nodes k = get_or nodes k []

pub node_number : (nodes : List (List Part)) (x : List Part) → Stands nodes x → node_at nodes (number_of nodes x) ≡ x
node_number nodes x s = get_or_from_slice_get nodes (number_of nodes x) x [] (number_is nodes x s)

over : (a b c : ℤ) → ((a -ℤ b) +ℤ c) ≤ℤ pos 0 → (a -ℤ b) ≤ℤ neg_ℤ c
over a b c h = omega (arith, ints)

under : (a b c z : ℤ) → (a -ℤ b) ≤ℤ neg_ℤ c → (((a -ℤ z) -ℤ (b -ℤ z)) +ℤ c) ≤ℤ pos 0
under a b c z h = omega (arith, ints)

edge_met : (nodes : List (List Part)) (u : List Part → ℤ) (f : Form) → HasEnds nodes f → MeetsForm u f → (u (node_at nodes (number_of nodes (split f.parts).to)) -ℤ u (node_at nodes (number_of nodes (split f.parts).from))) ≤ℤ neg_ℤ f.constant
edge_met nodes u f e h =
    let a = node_number nodes (split f.parts).to e.to in
    let b = node_number nodes (split f.parts).from e.from in
    rw (a, b) (over (u (split f.parts).to) (u (split f.parts).from) f.constant h)

all_met : (nodes : List (List Part)) (u : List Part → ℤ) (fs : List Form) → All (HasEnds nodes) fs → All (MeetsForm u) fs → Meets (map (edge_of nodes) fs) (λ k. u (node_at nodes k))
all_met nodes u fs e h = All-map (λ e. (u (node_at nodes e.to) -ℤ u (node_at nodes e.from)) ≤ℤ e.most) (edge_of nodes) fs (λ k d lt. edge_met nodes u (slice_index_or fs k d) (e k d lt) (h k d lt))

-- where no numbers meet all edges the duty is done
pub done_from : (fs : List Form) → NoneMeets (edges_of fs) → Done fs
done_from fs n = λ u z m. n (λ k. u (node_at (nodes_of fs) k)) (all_met (nodes_of fs) u fs (all_stand ([] ∷ []) fs) m)

-- what is said of all that a list is mapped to
pub All-unmap : {A B : Type 0} (P : B → Type 0) (f : A → B) (xs : List A) → All P (map f xs) → All (λ x. P (f x)) xs
All-unmap P f xs h = λ k d lt. subst P (get_or-map f xs k d (f d) lt) (h k (f d) (rw (length-map xs f) lt))

numbers_meet : (nodes : List (List Part)) (d : List ℤ) (z : ℤ) (fs : List Form) → Meets (map (edge_of nodes) fs) (at d) → All (MeetsForm (λ x. at d (number_of nodes x) -ℤ z)) fs
numbers_meet nodes d z fs h = λ k f lt. under (at d (number_of nodes (split (slice_index_or fs k f).parts).to)) (at d (number_of nodes (split (slice_index_or fs k f).parts).from)) (slice_index_or fs k f).constant z (All-unmap (λ e. (at d e.to -ℤ at d e.from) ≤ℤ e.most) (edge_of nodes) fs h k f lt)

abbrev parts_of : List NodeValue → List (List Part)
parts_of p = map (λ v. v.node.parts) p

parts_first : (p : List NodeValue) → map (λ v. v.node.parts) p ≡ map (λ (f : Form). f.parts) (map (λ v. v.node) p)
parts_first [] = refl
parts_first (v ∷ p) = ap (λ (l : List (List Part)). v.node.parts ∷ l) (parts_first p)

parts_back : (nodes : List (List Part)) → map (λ (f : Form). f.parts) (map node_form nodes) ≡ nodes
parts_back [] = refl
parts_back (x ∷ xs) = ap (λ (l : List (List Part)). x ∷ l) (parts_back xs)

value_is : (nodes : List (List Part)) (p : List NodeValue) (d : List ℤ) (z : ℤ) (x : List Part) → 0 < length nodes → length d ≡ length nodes → map (λ v. v.node) p ≡ map node_form nodes → map (λ v. v.value) p ≡ map (λ y. y -ℤ z) d → value_at p x ≡ at d (number_of nodes x) -ℤ z
value_is nodes p d z x some long q r =
    let same : map (λ v. v.node.parts) p ≡ nodes = parts_first p ∙ ap (map (λ (f : Form). f.parts)) q ∙ parts_back nodes in
    let inside : number_of nodes x < length d = rw long (number_within nodes x some) in
    ap (λ (l : List (List Part)). at (map (λ v. v.value) p) (number_of l x)) same
    ∙ ap (λ (l : List ℤ). at l (number_of nodes x)) r
    ∙ get_or-map (λ y. y -ℤ z) d (number_of nodes x) (pos 0) (pos 0) inside

met_by : (u w : List Part → ℤ) (f : Form) → ((x : List Part) → w x ≡ u x) → MeetsForm u f → MeetsForm w f
met_by u w f e h = let a = e (split f.parts).to in let b = e (split f.parts).from in rw (a, b) h

nought : (z : ℤ) → z -ℤ z ≡ pos 0
nought z = omega (arith, ints)

-- the distances less that of zero are the point
pub least_point : (fs : List Form) (p : List NodeValue) (d : List ℤ) → AreDistances (edges_of fs) (length (nodes_of fs)) d → Meets (edges_of fs) (at d) → map (λ v. v.node) p ≡ map node_form (nodes_of fs) → map (λ v. v.value) p ≡ map (λ y. y -ℤ at d 0) d → IsLeastPoint fs p
least_point fs p d a m q r =
    let value = λ (x : List Part). value_is (nodes_of fs) p d (at d 0) x (some_nodes fs) a.count q r in
    let first : number_of (nodes_of fs) [] ≡ 0 = ap or_zero (zero_first fs) in
    record {
      distances = d;
      least = a;
      nodes = q;
      values = r;
      zero = value [] ∙ ap (λ (k : ℕ). at d k -ℤ at d 0) first ∙ nought (at d 0);
      meets = λ k f lt. met_by (λ x. at d (number_of (nodes_of fs) x) -ℤ at d 0) (value_at p) (slice_index_or fs k f) value (numbers_meet (nodes_of fs) d (at d 0) fs m k f lt);
    }
