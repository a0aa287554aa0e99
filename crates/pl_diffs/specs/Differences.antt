-- Bounds on differences, seen as a weighted graph: an edge leads from one node to another, and its bound is its weight.
use Rattle.std.specs.Prelude.{◌≡◌, ◌≢◌, ℕ, ◌<◌, ◌⊎◌, ℤ, pos, ◌+ℤ◌, ◌-ℤ◌, ◌≤ℤ◌, ◌<ℤ◌, List, [], ◌∷◌, length, slice_get, slice_index_or, Some, All, Contains}
use Rattle.std.specs.List.{AllZip}
use Rattle.pl_diffs.specs.declared.Edge.{Edge}

-- numbers for the nodes meet all edges: that of `to` minus that of `from` is at most the bound
abbrev pub Meets : List Edge → (ℕ → ℤ) → Type 0
Meets edges u = All (λ e. (u e.to -ℤ u e.from) ≤ℤ e.most) edges

-- no numbers meet all edges
abbrev pub NoneMeets : List Edge → Type 0
NoneMeets edges = (u : ℕ → ℤ) → ¬ Meets edges u

-- a path within a set of edges: edges in order, each from the node to which the one before it leads
abbrev pub Path : (Edge → Type 0) → List Edge → ℕ → ℕ → Type 0
Path Within [] first last = first ≡ last
Path Within (e ∷ rest) first last = Within e × (e.from ≡ first) × Path Within rest e.to last

-- the sum of the weights of edges
abbrev pub total : List Edge → ℤ
total [] = pos 0
total (e ∷ rest) = e.most +ℤ total rest

-- the distance from one node to another: some path has this sum, and no path has a smaller one
pub record IsDistance (Within : Edge → Type 0) (first last : ℕ) (d : ℤ) : Type 0 where
  pub path : List Edge
  pub leads : Path Within path first last
  pub sum : total path ≡ d
  pub least : (other : List Edge) → Path Within other first last → d ≤ℤ total other

-- an edge of the list, or one of weight 0 to a node from an added root, which has the first number that is no node's
abbrev pub IsRootedEdge : List Edge → ℕ → Edge → Type 0
IsRootedEdge edges nodes e = Contains edges e ⊎ ((e.from ≡ nodes) × (e.to < nodes) × (e.most ≡ pos 0))

-- the number of a node in a list of numbers
abbrev pub at : List ℤ → ℕ → ℤ
at d k = slice_index_or d k (pos 0)

-- one number for each node, its distance from the added root
pub record AreDistances (edges : List Edge) (nodes : ℕ) (d : List ℤ) : Type 0 where
  pub count : length d ≡ nodes
  pub each : (k : ℕ) → k < nodes → IsDistance (IsRootedEdge edges nodes) nodes k (at d k)

-- no numbers that meet all edges and are at most 0 are above these at a node
pub record IsGreatest (edges : List Edge) (nodes : ℕ) (d : List ℤ) : Type 0 where
  pub above :
      (u : ℕ → ℤ) → Meets edges u → ((k : ℕ) → k < nodes → u k ≤ℤ pos 0) → (k : ℕ) → k < nodes → u k ≤ℤ at d k

-- a closed path within a set of edges: it has an edge, and ends at the node where it begins
pub record IsClosedPath (Within : Edge → Type 0) (path : List Edge) : Type 0 where
  pub node : ℕ
  pub leads : Path Within path node node
  pub some : path ≢ []

-- the edges at these places of the list, in order, are a closed path with a negative sum
pub record IsNegativeCycle (edges : List Edge) (places : List ℕ) : Type 0 where
  pub path : List Edge
  pub named : AllZip (λ i e. slice_get edges i ≡ Some e) places path
  pub closed : IsClosedPath (Contains edges) path
  pub negative : total path <ℤ pos 0
