-- The nodes of inequalities stand in their list.
use Rattle.std.proofs.Common.{◌≡◌, ℕ, zero, suc, ◌<◌, ◌≤◌, ◌+◌, ◌^◌, ℤ, unsigned_abs, int_eq, nat_eq, Bool, true, false, ◌&&◌, cond, List, [], ◌∷◌, ◌++◌, length, slice_get, Option, Some, None, refl, ap, ◌∙◌, arith, All, le_trans}
use Rattle.std.proofs.lemmas.Int.{ints}
use Rattle.std.proofs.lemmas.Bool.{eqb-true, eq-eqb}
use Rattle.std.proofs.lemmas.List.{length-append}
use Rattle.std.proofs.lemmas.List.Elements.{All-cons, All-nil, All-push}
use Rattle.pl_forms.specs.declared.form.Part.{Part}
use Rattle.pl_forms.specs.declared.form.Form.{Form}
use Rattle.pl_forms.specs.Forms.{Small}
use Rattle.pl_linear.specs.Ends.{split}
use Rattle.pl_linear.specs.Nodes.{same_part, same_parts, place_of, or_zero, number_of, push_new, with_node, with_ends, with_all, nodes_of}
use Rattle.pl_linear.proofs.Opposites.{split_small}

same_number : (c d : ℤ) → int_eq c d ≡ true → c ≡ d
same_number c d h = grind (arith, ints)

number_itself : (c : ℤ) → int_eq c c ≡ true
number_itself c = grind (arith, ints)

both : (a b : Bool) → a && b ≡ true → (a ≡ true) × (b ≡ true)
both true b h = (refl, h)
both false b h = absurd cc

if_both : (a b : Bool) → cond a b false ≡ true → (a ≡ true) × (b ≡ true)
if_both true b h = (refl, h)
if_both false b h = absurd cc

made_same : (c d : ℤ) (m n : ℕ) → c ≡ d → m ≡ n → ◌≡◌ {A = Part} (record { coeff = c; atom = m }) (record { coeff = d; atom = n })
made_same c d m n e f = rw (e, f) refl

part_is : (p q : Part) → same_part p q ≡ true → p ≡ q
part_is p q h =
    let t = both (int_eq p.coeff q.coeff) (nat_eq p.atom q.atom) h in
    made_same p.coeff q.coeff p.atom q.atom (same_number p.coeff q.coeff t.0) (eqb-true p.atom q.atom t.1)

part_itself : (p : Part) → same_part p p ≡ true
part_itself p = rw (number_itself p.coeff, eq-eqb p.atom p.atom refl) refl

pub parts_are : (xs ys : List Part) → same_parts xs ys ≡ true → xs ≡ ys
parts_are [] [] h = refl
parts_are [] (q ∷ qs) h = absurd cc
parts_are (p ∷ ps) [] h = absurd cc
parts_are (p ∷ ps) (q ∷ qs) h =
    let t = if_both (same_part p q) (same_parts ps qs) h in
    ap (λ (x : Part). x ∷ ps) (part_is p q t.0) ∙ ap (λ (l : List Part). q ∷ l) (parts_are ps qs t.1)

pub parts_themselves : (xs : List Part) → same_parts xs xs ≡ true
parts_themselves [] = refl
parts_themselves (p ∷ ps) = rw (part_itself p) (parts_themselves ps)

-- what stands there is the node
pub place_is : (i k : ℕ) (x : List Part) (ys : List (List Part)) → place_of i x ys ≡ Some k → (j : ℕ) × (k ≡ i + j) × (slice_get ys j ≡ Some x)
place_is i k x [] h = absurd cc
place_is i k x (y ∷ ys) h =
    (elim (same_parts y x) as (λ b. same_parts y x ≡ b → cond b (Some i) (place_of (i + 1) x ys) ≡ Some k → (j : ℕ) × (k ≡ i + j) × (slice_get (y ∷ ys) j ≡ Some x)) [
      | true ↦ λ e q. let here : i ≡ k = cc in (0, omega arith, ap Some (parts_are y x e))
      | false ↦ λ e q. let r = place_is (i + 1) k x ys q in (suc r.0, omega (arith, r.1), r.2)
    ]) refl h

place_before : (i k : ℕ) (x : List Part) (ys zs : List (List Part)) → place_of i x ys ≡ Some k → place_of i x (ys ++ zs) ≡ Some k
place_before i k x [] zs h = absurd cc
place_before i k x (y ∷ ys) zs h = (elim (same_parts y x) as (λ b. cond b (Some i) (place_of (i + 1) x ys) ≡ Some k → cond b (Some i) (place_of (i + 1) x (ys ++ zs)) ≡ Some k) [ true ↦ λ q. q | false ↦ λ q. place_before (i + 1) k x ys zs q ]) h

-- a node stands in a list
abbrev pub Stands : List (List Part) → List Part → Type 0
Stands nodes x = (k : ℕ) × (place_of 0 x nodes ≡ Some k)

place_last : (i : ℕ) (x : List Part) (ys : List (List Part)) → (k : ℕ) × (place_of i x (ys ++ x ∷ []) ≡ Some k)
place_last i x [] = (i, rw (parts_themselves x) refl)
place_last i x (y ∷ ys) = elim (same_parts y x) as (λ b. (k : ℕ) × (cond b (Some i) (place_of (i + 1) x (ys ++ x ∷ [])) ≡ Some k)) [ true ↦ (i, refl) | false ↦ place_last (i + 1) x ys ]

pushed : (o : Option ℕ) (nodes : List (List Part)) (x : List Part) → place_of 0 x nodes ≡ o → Stands (push_new o nodes x) x
pushed None nodes x h = place_last 0 x nodes
pushed (Some k) nodes x h = (k, h)

kept : (o : Option ℕ) (nodes : List (List Part)) (x y : List Part) (k : ℕ) → place_of 0 y nodes ≡ Some k → place_of 0 y (push_new o nodes x) ≡ Some k
kept None nodes x y k h = place_before 0 k y nodes (x ∷ []) h
kept (Some j) nodes x y k h = h

node_kept : (nodes : List (List Part)) (x y : List Part) (k : ℕ) → place_of 0 y nodes ≡ Some k → place_of 0 y (with_node nodes x) ≡ Some k
node_kept nodes x y k h = kept (place_of 0 x nodes) nodes x y k h

ends_kept : (nodes : List (List Part)) (f : Form) (y : List Part) (k : ℕ) → place_of 0 y nodes ≡ Some k → place_of 0 y (with_ends nodes f) ≡ Some k
ends_kept nodes f y k h = node_kept (with_node nodes (split f.parts).to) (split f.parts).from y k (node_kept nodes (split f.parts).to y k h)

all_kept : (nodes : List (List Part)) (fs : List Form) (y : List Part) (k : ℕ) → place_of 0 y nodes ≡ Some k → place_of 0 y (with_all nodes fs) ≡ Some k
all_kept nodes [] y k h = h
all_kept nodes (f ∷ fs) y k h = all_kept (with_ends nodes f) fs y k (ends_kept nodes f y k h)

-- both nodes of an inequality stand in a list
pub record HasEnds (nodes : List (List Part)) (f : Form) : Type 0 where
  pub to : Stands nodes (split f.parts).to
  pub from : Stands nodes (split f.parts).from

ends_stand : (nodes : List (List Part)) (f : Form) → HasEnds (with_ends nodes f) f
ends_stand nodes f =
    let t = pushed (place_of 0 (split f.parts).to nodes) nodes (split f.parts).to refl in
    record {
      to = (t.0, node_kept (with_node nodes (split f.parts).to) (split f.parts).from (split f.parts).to t.0 t.1);
      from = pushed (place_of 0 (split f.parts).from (with_node nodes (split f.parts).to)) (with_node nodes (split f.parts).to) (split f.parts).from refl;
    }

pub all_stand : (nodes : List (List Part)) (fs : List Form) → All (HasEnds (with_all nodes fs)) fs
all_stand nodes [] = All-nil (HasEnds nodes)
all_stand nodes (f ∷ fs) =
    let e = ends_stand nodes f in
    All-cons (HasEnds (with_all (with_ends nodes f) fs)) f fs
    (record { to = (e.to.0, all_kept (with_ends nodes f) fs (split f.parts).to e.to.0 e.to.1); from = (e.from.0, all_kept (with_ends nodes f) fs (split f.parts).from e.from.0 e.from.1) })
    (all_stand (with_ends nodes f) fs)

-- zero has the number 0
pub zero_first : (fs : List Form) → place_of 0 [] (nodes_of fs) ≡ Some 0
zero_first fs = all_kept ([] ∷ []) fs [] 0 refl

pub number_is : (nodes : List (List Part)) (x : List Part) → Stands nodes x → slice_get nodes (number_of nodes x) ≡ Some x
number_is nodes x s =
    let t = place_is 0 s.0 x nodes s.1 in
    let same : number_of nodes x ≡ t.0 = ap or_zero s.1 ∙ (omega (arith, t.1)) in
    ap (λ (k : ℕ). slice_get nodes k) same ∙ t.2

got_within : (ys : List (List Part)) (j : ℕ) (x : List Part) → slice_get ys j ≡ Some x → j < length ys
got_within [] j x h = absurd cc
got_within (y ∷ ys) zero x h = omega arith
got_within (y ∷ ys) (suc j) x h = let r = got_within ys j x h in omega arith

or_zero_within : (o : Option ℕ) (nodes : List (List Part)) (x : List Part) → place_of 0 x nodes ≡ o → 0 < length nodes → or_zero o < length nodes
or_zero_within None nodes x h some = some
or_zero_within (Some k) nodes x h some = let t = place_is 0 k x nodes h in let w = got_within nodes t.0 x t.2 in omega (arith, t.1)

pub number_within : (nodes : List (List Part)) (x : List Part) → 0 < length nodes → number_of nodes x < length nodes
number_within nodes x some = or_zero_within (place_of 0 x nodes) nodes x refl some

-- how many there are
pushed_count : (o : Option ℕ) (nodes : List (List Part)) (x : List Part) → (length nodes ≤ length (push_new o nodes x)) × (length (push_new o nodes x) ≤ length nodes + 1)
pushed_count None nodes x = (omega (arith, length-append nodes (x ∷ [])), omega (arith, length-append nodes (x ∷ [])))
pushed_count (Some k) nodes x = (omega arith, omega arith)

pub ends_count : (nodes : List (List Part)) (f : Form) → (length nodes ≤ length (with_ends nodes f)) × (length (with_ends nodes f) ≤ length nodes + 2)
ends_count nodes f =
    let a = pushed_count (place_of 0 (split f.parts).to nodes) nodes (split f.parts).to in
    let b = pushed_count (place_of 0 (split f.parts).from (with_node nodes (split f.parts).to)) (with_node nodes (split f.parts).to) (split f.parts).from in
    (le_trans a.0 b.0, omega (arith, a.1, b.1))

all_count : (nodes : List (List Part)) (fs : List Form) → length nodes ≤ length (with_all nodes fs)
all_count nodes [] = omega arith
all_count nodes (f ∷ fs) = le_trans ((ends_count nodes f).0) (all_count (with_ends nodes f) fs)

pub some_nodes : (fs : List Form) → 0 < length (nodes_of fs)
some_nodes fs = let h : 1 ≤ length (nodes_of fs) = all_count ([] ∷ []) fs in omega arith

-- a node that stands there adds none
stands_still : (o : Option ℕ) (nodes : List (List Part)) (x : List Part) (k : ℕ) → o ≡ Some k → push_new o nodes x ≡ nodes
stands_still None nodes x k h = absurd cc
stands_still (Some j) nodes x k h = refl

pub node_there : (nodes : List (List Part)) (x : List Part) → Stands nodes x → with_node nodes x ≡ nodes
node_there nodes x s = stands_still (place_of 0 x nodes) nodes x s.0 s.1

pub both_there : (nodes : List (List Part)) (f g : Form) → (split g.parts).to ≡ (split f.parts).from → (split g.parts).from ≡ (split f.parts).to → with_ends (with_ends nodes f) g ≡ with_ends nodes f
both_there nodes f g a b =
    let e = ends_stand nodes f in
    let one : with_node (with_ends nodes f) (split g.parts).to ≡ with_ends nodes f = rw a (node_there (with_ends nodes f) (split f.parts).from e.from) in
    ap (λ (l : List (List Part)). with_node l (split g.parts).from) one
    ∙ rw b (node_there (with_ends nodes f) (split f.parts).to e.to)

-- the nodes' multiples keep their limit
abbrev pub AllSmall : List (List Part) → Type 0
AllSmall nodes = All Small nodes

pushed_small : (o : Option ℕ) (nodes : List (List Part)) (x : List Part) → AllSmall nodes → Small x → AllSmall (push_new o nodes x)
pushed_small None nodes x a s = All-push Small nodes x a s
pushed_small (Some k) nodes x a s = a

with_all_small : (nodes : List (List Part)) (fs : List Form) → AllSmall nodes → All (λ f. Small f.parts) fs → AllSmall (with_all nodes fs)
with_all_small nodes [] a s = a
with_all_small nodes (f ∷ fs) a s =
    let e = split_small f.parts (s 0 f (omega arith)) in
    with_all_small (with_ends nodes f) fs
    (pushed_small (place_of 0 (split f.parts).from (with_node nodes (split f.parts).to)) (with_node nodes (split f.parts).to) (split f.parts).from (pushed_small (place_of 0 (split f.parts).to nodes) nodes (split f.parts).to a e.to) e.from)
    (λ k d lt. s (suc k) d (omega arith))

pub nodes_small : (fs : List Form) → All (λ f. Small f.parts) fs → AllSmall (nodes_of fs)
nodes_small fs s = with_all_small ([] ∷ []) fs (All-cons Small [] [] (All-nil (λ p. unsigned_abs p.coeff ≤ 2 ^ 40)) (All-nil Small)) s
