-- Distances and parents after some edges were taken.
use Rattle.std.specs.Prelude.{◌≡◌, ℕ, ◌<◌, ◌≤◌, ◌+◌, ◌*◌, ◌^◌, ℤ, pos, ◌+ℤ◌, ◌≤ℤ◌, ◌<ℤ◌, List, [], ◌∷◌, length, slice_index_or, map, All, unsigned_abs, Option, Some, None}
use Rattle.std.specs.declared.vec.Vec.{Vec}
use Rattle.std.specs.declared.alloc.Global.{Global}
use Rattle.pl_diffs.specs.declared.Edge.{Edge}
use Rattle.pl_diffs.specs.Differences.{at, total, Meets, NoneMeets, AreDistances, IsGreatest, IsNegativeCycle}

-- the edge at a place of the list
abbrev pub edge : List Edge → ℕ → Edge
edge es i = slice_index_or es i (record { from = 0; to = 0; most = pos 0 })

-- the sum of the edges at these places
abbrev pub weight : List Edge → List ℕ → ℤ
weight es p = total (map (edge es) p)

-- the place of the edge by which a node got its distance
abbrev pub parent_of : List (Option ℕ) → ℕ → Option ℕ
parent_of ps k = slice_index_or ps k None

-- places of edges that lead back from one node to another, the last edge first
abbrev pub Back : List Edge → List ℕ → ℕ → ℕ → Type 0
Back es [] last first = last ≡ first
Back es (i ∷ p) last first = (i < length es) × ((edge es i).to ≡ last) × Back es p (edge es i).from first

-- all ends are below the count of nodes, and neither nodes nor edges are many
pub record Ends (es : List Edge) (n : ℕ) : Type 0 where
  pub ends : (i : ℕ) → i < length es → ((edge es i).from < n) × ((edge es i).to < n)
  pub few : length es ≤ 4096
  pub small : n ≤ 4096

-- an edge gave a node its distance; the node from which it leads may have come lower since, or got its own before
pub record IsParent (es : List Edge) (d : List ℤ) (rank : ℕ → ℕ) (k i : ℕ) : Type 0 where
  pub inside : i < length es
  pub leads : (edge es i).to ≡ k
  pub reached : (at d (edge es i).from +ℤ (edge es i).most) ≤ℤ at d k
  pub later : (at d (edge es i).from +ℤ (edge es i).most) ≡ at d k → rank (edge es i).from < rank k

-- the same of the parent that is kept; a node without one has distance 0
abbrev pub Parent : List Edge → List ℤ → (ℕ → ℕ) → ℕ → Option ℕ → Type 0
Parent es d rank k None = at d k ≡ pos 0
Parent es d rank k (Some i) = IsParent es d rank k i

-- a distance is the sum of a path
pub record Attained (es : List Edge) (n : ℕ) (d : List ℤ) (k : ℕ) : Type 0 where
  pub first : ℕ
  pub path : List ℕ
  pub within : first < n
  pub leads : Back es path k first
  pub sum : weight es path ≡ at d k

-- distances with their parents; a node that got its distance later has a higher rank
pub record Ranked (es : List Edge) (n : ℕ) (d : List ℤ) (ps : List (Option ℕ)) : Type 0 where
  pub count : length d ≡ n
  pub parents : length ps ≡ n
  pub highest : (k : ℕ) → at d k ≤ℤ pos 0
  pub attained : (k : ℕ) → k < n → Attained es n d k
  pub rank : ℕ → ℕ
  pub now : ℕ
  pub earlier : (k : ℕ) → k < n → rank k < now
  pub parent : (k : ℕ) → k < n → Parent es d rank k (parent_of ps k)

-- no distance is below so many times the largest weight
abbrev pub Low : ℕ → List ℤ → Type 0
Low m d = (k : ℕ) → pos 0 ≤ℤ (at d k +ℤ pos (m * 2 ^ 81))

-- within a round that began with the distances `first`, before the edge at place i; `last` is the node whose distance fell last
pub record Round (es : List Edge) (n : ℕ) (first d : List ℤ) (ps : List (Option ℕ)) (i : ℕ) (last : Option ℕ) : Type 0 where
  pub ranked : Ranked es n d ps
  pub low : (m : ℕ) → Low m first → Low (m + i) d
  pub falls : (k : ℕ) → at d k ≤ℤ at first k
  pub done : (j : ℕ) → j < i → at d (edge es j).to ≤ℤ (at first (edge es j).from +ℤ (edge es j).most)
  pub same : last ≡ None → d ≡ first
  pub fell : (t : ℕ) → last ≡ Some t → (t < n) × (at d t <ℤ at first t)

-- after so many rounds: no path of at most so many edges is shorter
pub record Rounds (es : List Edge) (n : ℕ) (d : List ℤ) (ps : List (Option ℕ)) (round : ℕ) : Type 0 where
  pub ranked : Ranked es n d ps
  pub low : Low (round * length es) d
  pub short : (p : List ℕ) (k s : ℕ) → length p ≤ round → s < n → Back es p k s → at d k ≤ℤ weight es p

-- the distances are final
pub record IsLeast (es : List Edge) (n : ℕ) (d : List ℤ) : Type 0 where
  pub distances : AreDistances es n d
  pub meets : Meets es (at d)
  pub at_most_zero : All (λ x. x ≤ℤ pos 0) d
  pub greatest : IsGreatest es n d
  pub bounded : All (λ x. unsigned_abs x ≤ 2 ^ 106) d

-- the edges at these places close a cycle, so no numbers meet all edges
pub record IsFound (es : List Edge) (n : ℕ) (places : List ℕ) : Type 0 where
  pub cycle : IsNegativeCycle es places
  pub short : length places ≤ n
  pub none : NoneMeets es

-- what the rounds come to
abbrev pub Settled : List Edge → ℕ → List ℤ → Option (Vec ℕ Global) → Type 0
Settled es n d None = IsLeast es n d
Settled es n d (Some v) = IsFound es n v.items

-- the sum where it is below the number before it
abbrev pub Shorter : Option ℤ → ℤ → ℤ → Type 0
Shorter None sum before = before ≤ℤ sum
Shorter (Some x) sum before = (x ≡ sum) × (x <ℤ before)
