-- The walk back along the parents.
use Rattle.std.specs.Prelude.{◌≡◌, ℕ, ◌<◌, ◌≤◌, List, [], ◌∷◌, length, drop, reverse, count_by, is_some, Option, Some, None}
use Rattle.std.specs.declared.vec.Vec.{Vec}
use Rattle.std.specs.declared.alloc.Global.{Global}
use Rattle.pl_diffs.specs.declared.Edge.{Edge}
use Rattle.pl_diffs.specs.Rounds.{edge, parent_of}

-- each parent that is kept is the place of an edge
abbrev pub AreEdges : List Edge → List (Option ℕ) → Type 0
AreEdges es ps = (k i : ℕ) → k < length ps → parent_of ps k ≡ Some i → i < length es

-- parents that lead back from one node to another, the last edge first
abbrev pub Chain : List Edge → List (Option ℕ) → List ℕ → ℕ → ℕ → Type 0
Chain es ps [] last first = last ≡ first
Chain es ps (i ∷ p) last first = (i < length es) × (parent_of ps last ≡ Some i) × Chain es ps p (edge es i).from first

-- a closed chain of parents, in the order in which its edges lead
pub record Closed (es : List Edge) (ps : List (Option ℕ)) (cycle : List ℕ) : Type 0 where
  pub node : ℕ
  pub path : List ℕ
  pub within : node < length ps
  pub some : 0 < length path
  pub short : length path ≤ length ps
  pub chain : Chain es ps path node node
  pub is : cycle ≡ reverse path

-- a chain of parents from a node without one
pub record Rooted (es : List Edge) (ps : List (Option ℕ)) (t : ℕ) : Type 0 where
  pub root : ℕ
  pub path : List ℕ
  pub within : root < length ps
  pub short : length path < length ps
  pub chain : Chain es ps path t root
  pub is : parent_of ps root ≡ None

-- what the walk finds
abbrev pub WalkedBack : List Edge → List (Option ℕ) → ℕ → Option (Vec ℕ Global) → Type 0
WalkedBack es ps t None = Rooted es ps t
WalkedBack es ps t (Some v) = Closed es ps v.items

-- the walk stands at a node, and knows of each node that it passed from which place of the trail on it was left
pub record Walk (es : List Edge) (ps place : List (Option ℕ)) (trail : List ℕ) (t node : ℕ) : Type 0 where
  pub inside : node < length ps
  pub len : length place ≡ length ps
  pub chain : Chain es ps trail t node
  pub short : (k q : ℕ) → k < length ps → parent_of place k ≡ Some q → q < length trail
  pub placed : (k q : ℕ) → k < length ps → parent_of place k ≡ Some q → Chain es ps (drop q trail) k node
  pub counted : length trail ≡ count_by is_some place
