-- Paths of edges, and what they show.
use Rattle.std.proofs.Common.{◌≡◌, ℕ, ◌<◌, inl, inr, ℤ, pos, ◌+ℤ◌, ◌-ℤ◌, ◌≤ℤ◌, ◌<ℤ◌, List, [], ◌∷◌, ◌++◌, reverse, length, map, slice_get, Some, Contains, refl, ap, sym, arith}
use Rattle.std.specs.List.{AllZip}
use Rattle.std.proofs.lemmas.Int.{ints}
use Rattle.std.proofs.lemmas.Grind.{reverse_onto}
use Rattle.std.proofs.lemmas.List.{get_or_past}
use Rattle.std.proofs.lemmas.List.Elements.{All-contains, Contains-get_or}
use Rattle.std.proofs.lemmas.Option.{slice_get-get_or}
use Rattle.pl_diffs.specs.declared.Edge.{Edge}
use Rattle.pl_diffs.specs.Differences.{at, total, Meets, NoneMeets, Path, IsRootedEdge, IsDistance}
use Rattle.pl_diffs.specs.Rounds.{edge, weight, Back, Attained}

-- places of edges that lead on from one node to another, in order
abbrev pub Along : List Edge → List ℕ → ℕ → ℕ → Type 0
Along es [] first last = first ≡ last
Along es (i ∷ p) first last = (i < length es) × ((edge es i).from ≡ first) × Along es p (edge es i).to last

along_append : (es : List Edge) (p q : List ℕ) (a b c : ℕ) → Along es p a b → Along es q b c → Along es (p ++ q) a c
along_append es [] q a b c h k = rw h k
along_append es (i ∷ p) q a b c h k = (h.0, h.1, along_append es p q (edge es i).to b c h.2 k)

pub along_reverse : (es : List Edge) (p : List ℕ) (k s : ℕ) → Back es p k s → Along es (reverse p) s k
along_reverse es [] k s h = sym h
along_reverse es (i ∷ p) k s h =
    rw (reverse_onto p i []) (along_append es (reverse p) (i ∷ []) s (edge es i).from k (along_reverse es p (edge es i).from s h.2) (h.0, refl, h.1))

weight-append : (es : List Edge) (p q : List ℕ) → weight es (p ++ q) ≡ weight es p +ℤ weight es q
weight-append es [] q = omega (arith, ints)
weight-append es (i ∷ p) q = omega (arith, ints, weight-append es p q)

pub weight-reverse : (es : List Edge) (p : List ℕ) → weight es (reverse p) ≡ weight es p
weight-reverse es [] = refl
weight-reverse es (i ∷ p) = rw (reverse_onto p i []) (omega (arith, ints, weight-append es (reverse p) (i ∷ []), weight-reverse es p))

pub along_path : (es : List Edge) (p : List ℕ) (a b : ℕ) → Along es p a b → Path (Contains es) (map (edge es) p) a b
along_path es [] a b h = h
along_path es (i ∷ p) a b h = (Contains-get_or es i (record { from = 0; to = 0; most = pos 0 }) h.0, h.1, along_path es p (edge es i).to b h.2)

pub along_named : (es : List Edge) (p : List ℕ) (a b : ℕ) → Along es p a b → AllZip (λ i e. slice_get es i ≡ Some e) p (map (edge es) p)
along_named es [] a b h = tt
along_named es (i ∷ p) a b h = (slice_get-get_or es i (record { from = 0; to = 0; most = pos 0 }) h.0, along_named es p (edge es i).to b h.2)

-- numbers that meet each edge of a set differ at the ends of a path by at most its sum
pub path_bound : (Within : Edge → Type 0) (u : ℕ → ℤ) → ((e : Edge) → Within e → (u e.to -ℤ u e.from) ≤ℤ e.most) → (p : List Edge) (a b : ℕ) → Path Within p a b → u b ≤ℤ (u a +ℤ total p)
path_bound Within u m [] a b h = omega (arith, ints, ap u h)
path_bound Within u m (e ∷ p) a b h =
    let here = m e h.0 in
    omega (arith, ints, path_bound Within u m p e.to b h.2, ap u h.1)

path_wider : (A B : Edge → Type 0) → ((e : Edge) → A e → B e) → (p : List Edge) (a b : ℕ) → Path A p a b → Path B p a b
path_wider A B f [] a b h = h
path_wider A B f (e ∷ p) a b h = (f e h.0, h.1, path_wider A B f p e.to b h.2)

pub meets_edge : (es : List Edge) (u : ℕ → ℤ) → Meets es u → (e : Edge) → Contains es e → (u e.to -ℤ u e.from) ≤ℤ e.most
meets_edge es u m e h = All-contains (λ x. (u x.to -ℤ u x.from) ≤ℤ x.most) es e m h

-- no numbers meet all edges of a closed path with a negative sum
pub cycle_law : (es : List Edge) (p : List Edge) (k : ℕ) → Path (Contains es) p k k → total p <ℤ pos 0 → NoneMeets es
cycle_law es p k c n u m = absurd (omega (arith, ints, path_bound (Contains es) u (meets_edge es u m) p k k c))

root_zero : (d : List ℤ) (n : ℕ) → length d ≡ n → at d n ≡ pos 0
root_zero d n e = get_or_past d n (pos 0) (omega arith)

-- numbers that meet the edges, at most 0, meet those from the root too
rooted_edge : (es : List Edge) (n : ℕ) (d : List ℤ) → length d ≡ n → Meets es (at d) → ((k : ℕ) → at d k ≤ℤ pos 0) → (e : Edge) → IsRootedEdge es n e → (at d e.to -ℤ at d e.from) ≤ℤ e.most
rooted_edge es n d len m high e (inl h) = meets_edge es (at d) m e h
rooted_edge es n d len m high e (inr h) = omega (arith, ints, high e.to, root_zero d n len, ap (at d) h.0, h.2)

pub distance : (es : List Edge) (n : ℕ) (d : List ℤ) → length d ≡ n → Meets es (at d) → ((k : ℕ) → at d k ≤ℤ pos 0) → (k : ℕ) → Attained es n d k → IsDistance (IsRootedEdge es n) n k (at d k)
distance es n d len m high k a = record {
  path = record { from = n; to = a.first; most = pos 0 } ∷ map (edge es) (reverse a.path);
  leads = (inr (refl, a.within, refl), refl, path_wider (Contains es) (IsRootedEdge es n) (λ e h. inl h) (map (edge es) (reverse a.path)) a.first k (along_path es (reverse a.path) a.first k (along_reverse es a.path k a.first a.leads)));
  sum = omega (arith, ints, weight-reverse es a.path, a.sum);
  least = λ other h. omega (arith, ints, path_bound (IsRootedEdge es n) (at d) (rooted_edge es n d len m high) other n k h, root_zero d n len);
}
