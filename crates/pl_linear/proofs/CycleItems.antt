-- The items of a negative cycle of inequalities are a certificate.
use Rattle.std.proofs.Common.{◌≡◌, ℕ, zero, suc, ◌<◌, ◌≤◌, ◌+◌, ◌^◌, ℤ, pos, neg_ℤ, ◌+ℤ◌, ◌-ℤ◌, ◌<ℤ◌, unsigned_abs, nat_eq, true, false, cond, List, [], ◌∷◌, map, length, get_or, slice_get, Some, Contains, refl, ap, sym, subst, ◌∙◌, arith, All, inl, inr}
use Rattle.std.specs.List.{AllZip}
use Rattle.std.proofs.lemmas.Int.{ints}
use Rattle.std.proofs.lemmas.Bool.{cases_lt, eqb-true}
use Rattle.std.proofs.lemmas.List.{get_or_past}
use Rattle.std.proofs.lemmas.List.Elements.{All-cons}
use Rattle.pl_forms.specs.declared.form.Part.{Part}
use Rattle.pl_forms.specs.declared.form.Form.{Form}
use Rattle.pl_forms.specs.declared.fact.Fact.{Fact}
use Rattle.pl_forms.specs.declared.fact.CertItem.{CertItem}
use Rattle.pl_forms.specs.declared.equation.Solution.{Solution}
use Rattle.pl_forms.specs.Forms.{IsForm, Small}
use Rattle.pl_forms.specs.Equations.{coeff_of}
use Rattle.pl_forms.specs.Rows.{at}
use Rattle.pl_forms.specs.Places.{Within, AllWithin, AllSolvedWithin}
use Rattle.pl_forms.proofs.Reducing.{coeff_small}
use Rattle.pl_diffs.specs.declared.Edge.{Edge}
use Rattle.pl_diffs.specs.Differences.{IsNegativeCycle}
use Rattle.pl_diffs.specs.Differences as graph
use Rattle.pl_linear.specs.declared.bounds.Bound.{Bound}
use Rattle.pl_linear.specs.Certificates.{is_certificate}
use Rattle.pl_linear.specs.Ends.{split}
use Rattle.pl_linear.specs.FormRow.{multiples, row_of}
use Rattle.pl_linear.specs.Nodes.{number_of, nodes_of, edge_of, edges_of}
use Rattle.pl_linear.specs.Bounds.{no_bound, bound_at, forms_of, AreGiven, IsCycleOf}
use Rattle.pl_linear.proofs.Multiples.{length-multiples}
use Rattle.pl_linear.proofs.FormRows.{at_place}
use Rattle.pl_linear.proofs.Opposites.{split_apart}
use Rattle.pl_linear.proofs.Numbers.{HasEnds, all_stand, AllSmall, nodes_small}
use Rattle.pl_linear.proofs.Graph.{node_at, node_number, All-unmap}
use Rattle.pl_linear.proofs.Cycles.{Arc, Path, total, Items, cycle_cert}

-- the inequality at a place as an arc
abbrev arc_of : List Bound → ℕ → Arc
arc_of bs i = record {
  from = number_of (nodes_of (forms_of bs)) (split (bound_at bs i).form.parts).from;
  to = number_of (nodes_of (forms_of bs)) (split (bound_at bs i).form.parts).to;
  most = neg_ℤ (bound_at bs i).form.constant;
}

-- an edge of the list is that of the inequality at its place
record Placed (nodes : List (List Part)) (bs : List Bound) (i : ℕ) (e : Edge) : Type 0 where
  inside : i < length bs
  is : e ≡ edge_of nodes (bound_at bs i).form

placed : (nodes : List (List Part)) (bs : List Bound) (i : ℕ) (e : Edge) → slice_get (map (edge_of nodes) (map (λ b. b.form) bs)) i ≡ Some e → Placed nodes bs i e
placed nodes [] i e h = absurd cc
placed nodes (b ∷ bs) zero e h = let same : edge_of nodes b.form ≡ e = cc in record { inside = omega arith; is = sym same }
placed nodes (b ∷ bs) (suc i) e h = let r = placed nodes bs i e h in let w = r.inside in record { inside = omega arith; is = r.is }

record Follows (bs : List Bound) (places : List ℕ) (path : List Edge) (first last : ℕ) : Type 0 where
  leads : Path (length bs) (arc_of bs) places first last
  sum : total (arc_of bs) places ≡ graph.total path

follows : (bs : List Bound) (places : List ℕ) (path : List Edge) (first last : ℕ) → AllZip (λ i e. slice_get (edges_of (forms_of bs)) i ≡ Some e) places path → graph.Path (Contains (edges_of (forms_of bs))) path first last → Follows bs places path first last
follows bs [] [] first last z p = record { leads = p; sum = refl }
follows bs [] (e ∷ path) first last z p = absurd z
follows bs (i ∷ places) [] first last z p = absurd z
follows bs (i ∷ places) (e ∷ path) first last z p =
    let h = placed (nodes_of (forms_of bs)) bs i e z.0 in
    let to : e.to ≡ (arc_of bs i).to = ap (λ (x : Edge). x.to) h.is in
    let from : e.from ≡ (arc_of bs i).from = ap (λ (x : Edge). x.from) h.is in
    let most : e.most ≡ (arc_of bs i).most = ap (λ (x : Edge). x.most) h.is in
    let r = follows bs places path e.to last z.1 p.2 in
    record {
      leads = (h.inside, sym from ∙ p.1, subst (λ (x : ℕ). Path (length bs) (arc_of bs) places x last) to r.leads);
      sum = ap (λ (x : ℤ). x +ℤ total (arc_of bs) places) (sym most) ∙ ap (λ (x : ℤ). e.most +ℤ x) r.sum;
    }

-- a node's multiple at a place of a row
abbrev node_multiple : List (List Part) → ℕ → ℕ → ℤ
node_multiple nodes x zero = pos 0
node_multiple nodes x (suc k) = coeff_of k (node_at nodes x)

coeff_past : (n a : ℕ) (ps : List Part) → All (λ p. p.atom + 1 < n + 1) ps → n ≤ a → coeff_of a ps ≡ pos 0
coeff_past n a [] w h = refl
coeff_past n a (p ∷ ps) w h =
    let low : p.atom + 1 < n + 1 = w 0 p (omega arith) in
    (elim (nat_eq p.atom a) as (λ b. nat_eq p.atom a ≡ b → cond b p.coeff (coeff_of a ps) ≡ pos 0) [
      | true ↦ λ e. let same : p.atom ≡ a = eqb-true p.atom a e in absurd (omega arith)
      | false ↦ λ e. coeff_past n a ps (λ k d lt. w (suc k) d (omega arith)) h
    ]) refl

pub row_place : (n a : ℕ) (f : Form) → Within (n + 1) f → at (row_of n f) (suc a) ≡ coeff_of a f.parts
row_place n a f w =
    elim (cases_lt a n) [
      | inl lt ↦ at_place n a f.parts lt
      | inr ge ↦ get_or_past (multiples n 0 f.parts) a (pos 0) (omega (arith, length-multiples n 0 f.parts)) ∙ sym (coeff_past n a f.parts w (omega arith))
    ]

-- at each place but the first the row is the one node less the other
node_places : (nodes : List (List Part)) (n a : ℕ) (f : Form) → IsForm f → Within (n + 1) f → HasEnds nodes f → at (row_of n f) (suc a) ≡ coeff_of a (node_at nodes (number_of nodes (split f.parts).to)) -ℤ coeff_of a (node_at nodes (number_of nodes (split f.parts).from))
node_places nodes n a f p w e =
    let to = node_number nodes (split f.parts).to e.to in
    let from = node_number nodes (split f.parts).from e.from in
    rw (to, from) (row_place n a f w ∙ (split_apart a 0 f.parts p.ascends).is)

node_small : (nodes : List (List Part)) (x k : ℕ) → AllSmall nodes → unsigned_abs (node_multiple nodes x k) ≤ 2 ^ 41
node_small nodes x zero s = omega arith
node_small nodes x (suc k) s =
    elim (cases_lt x (length nodes)) [
      | inl lt ↦ let h : unsigned_abs (coeff_of k (get_or nodes x [])) ≤ 2 ^ 40 = coeff_small k (get_or nodes x []) (s x [] lt) in omega arith
      | inr ge ↦ let none : get_or nodes x [] ≡ [] = get_or_past nodes x [] (omega arith) in rw none (omega arith)
    ]

nothing_left : (c : ℤ) → c +ℤ neg_ℤ c ≡ pos 0
nothing_left c = omega (arith, ints)

opposite_weight : (c : ℤ) → unsigned_abs c ≤ 2 ^ 80 → unsigned_abs (neg_ℤ c) ≤ 2 ^ 81
opposite_weight c h = grind (arith, ints)

items_of : (eqs : List Solution) (facts : List Fact) (goal : Form) (bs : List Bound) (n : ℕ) → AreGiven eqs facts goal bs → AllSolvedWithin (n + 1) eqs → AllWithin (n + 1) facts → Within (n + 1) goal → All (λ b. HasEnds (nodes_of (forms_of bs)) b.form) bs → AllSmall (nodes_of (forms_of bs)) → Items (length bs) (arc_of bs) eqs facts goal (n + 1)
items_of eqs facts goal bs n g we w wg e s = record {
  item = λ i. (bound_at bs i).item;
  row = λ i. row_of n (bound_at bs i).form;
  node = node_multiple (nodes_of (forms_of bs));
  once = λ i lt. (g i no_bound lt).once;
  made_row = λ i lt. (g i no_bound lt).row n we w wg;
  long = λ i lt. omega (arith, length-multiples n 0 (bound_at bs i).form.parts);
  constant = λ i lt. nothing_left (bound_at bs i).form.constant;
  weights = λ i lt. opposite_weight (bound_at bs i).form.constant ((g i no_bound lt).form.bounded);
  places = λ i lt k some. at_each i lt k some;
  sizes = λ x k. node_small (nodes_of (forms_of bs)) x k s;
}
  where
    at_each : (i : ℕ) → i < length bs → (k : ℕ) → 0 < k → at (row_of n (bound_at bs i).form) k ≡ node_multiple (nodes_of (forms_of bs)) (arc_of bs i).to k -ℤ node_multiple (nodes_of (forms_of bs)) (arc_of bs i).from k
    at_each i lt zero some = absurd (omega arith)
    at_each i lt (suc k) some = node_places (nodes_of (forms_of bs)) n k (bound_at bs i).form ((g i no_bound lt).form) ((g i no_bound lt).within (n + 1) we w wg) (e i no_bound lt)

forms_given : (eqs : List Solution) (facts : List Fact) (goal : Form) (bs : List Bound) → AreGiven eqs facts goal bs → All (λ f. Small f.parts) (forms_of bs)
forms_given eqs facts goal [] g = λ k d lt. absurd (omega arith)
forms_given eqs facts goal (b ∷ bs) g = All-cons (λ f. Small f.parts) b.form (forms_of bs) ((g 0 b (omega arith)).form.small) (forms_given eqs facts goal bs (λ k d lt. g (suc k) d (omega arith)))

pub are_forms : (eqs : List Solution) (facts : List Fact) (goal : Form) (bs : List Bound) → AreGiven eqs facts goal bs → All (λ b. IsForm b.form) bs
are_forms eqs facts goal bs g = λ k d lt. (g k d lt).form

pub cycle_of : (eqs : List Solution) (facts : List Fact) (goal : Form) (bs : List Bound) (atoms : ℕ) (items : List CertItem) → AreGiven eqs facts goal bs → IsCycleOf bs items → AllSolvedWithin (atoms + 1) eqs → AllWithin (atoms + 1) facts → Within (atoms + 1) goal → is_certificate eqs facts goal items atoms ≡ true
unfolding items_of
cycle_of eqs facts goal bs atoms items g c we w wg =
    let cycle = c.cycle in
    let stand = All-unmap (HasEnds (nodes_of (forms_of bs))) (λ (b : Bound). b.form) bs (all_stand ([] ∷ []) (forms_of bs)) in
    let t = items_of eqs facts goal bs atoms g we w wg stand (nodes_small (forms_of bs) (forms_given eqs facts goal bs g)) in
    let f = follows bs c.places cycle.path cycle.closed.node cycle.closed.node cycle.named cycle.closed.leads in
    let negative : total (arc_of bs) c.places <ℤ pos 0 = rw f.sum cycle.negative in
    rw c.are (cycle_cert (length bs) (arc_of bs) eqs facts goal atoms t c.places cycle.closed.node f.leads negative c.short)
