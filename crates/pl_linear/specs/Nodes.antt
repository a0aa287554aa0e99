-- The nodes of inequalities, their graph, and the point of least distances.
use Rattle.std.specs.Prelude.{◌≡◌, ◌-ℤ◌, ◌+◌, ℕ, ℤ, pos, neg_ℤ, nat_eq, Bool, true, false, ◌&&◌, if◌then◌else◌, List, [], ◌∷◌, ◌++◌, map, length, Option, Some, None}
use Rattle.std.specs.List.{All}
use Rattle.std.specs.Ordering.{int_eq}
use Rattle.pl_forms.specs.declared.form.Part.{Part}
use Rattle.pl_forms.specs.declared.form.Form.{Form}
use Rattle.pl_diffs.specs.declared.Edge.{Edge}
use Rattle.pl_diffs.specs.Differences.{AreDistances, at}
use Rattle.pl_linear.specs.declared.found.NodeValue.{NodeValue}
use Rattle.pl_linear.specs.Ends.{split}
use Rattle.pl_linear.specs.Duty.{MeetsForm}

abbrev pub same_part : Part → Part → Bool
same_part p q = int_eq p.coeff q.coeff && nat_eq p.atom q.atom

abbrev pub same_parts : List Part → List Part → Bool
same_parts [] [] = true
same_parts [] (q ∷ qs) = false
same_parts (p ∷ ps) [] = false
same_parts (p ∷ ps) (q ∷ qs) = if same_part p q then same_parts ps qs else false

-- where a node stands in a list, of which the first has the number i
abbrev pub place_of : ℕ → List Part → List (List Part) → Option ℕ
place_of i x [] = None
place_of i x (y ∷ ys) = if same_parts y x then Some i else place_of (i + 1) x ys

abbrev pub or_zero : Option ℕ → ℕ
or_zero None = 0
or_zero (Some k) = k

-- the number of a node: where it stands; that of zero where it doesn't
abbrev pub number_of : List (List Part) → List Part → ℕ
number_of nodes x = or_zero (place_of 0 x nodes)

abbrev pub push_new : Option ℕ → List (List Part) → List Part → List (List Part)
push_new None nodes x = nodes ++ x ∷ []
push_new (Some k) nodes x = nodes

-- a node is put behind others, unless it stands there
abbrev pub with_node : List (List Part) → List Part → List (List Part)
with_node nodes x = push_new (place_of 0 x nodes) nodes x

-- .. both nodes of an inequality
abbrev pub with_ends : List (List Part) → Form → List (List Part)
with_ends nodes f = with_node (with_node nodes (split f.parts).to) (split f.parts).from

abbrev pub with_all : List (List Part) → List Form → List (List Part)
with_all nodes [] = nodes
with_all nodes (f ∷ fs) = with_all (with_ends nodes f) fs

-- zero, and the nodes of the inequalities, each once
abbrev pub nodes_of : List Form → List (List Part)
nodes_of fs = with_all ([] ∷ []) fs

-- an inequality as an edge: the number of its one end less that of the other is at most the opposite of its constant
abbrev pub edge_of : List (List Part) → Form → Edge
edge_of nodes f = record { from = number_of nodes (split f.parts).from; to = number_of nodes (split f.parts).to; most = neg_ℤ f.constant }

abbrev pub edges_of : List Form → List Edge
edges_of fs = map (edge_of (nodes_of fs)) fs

-- the sum of a node, as a form
abbrev pub node_form : List Part → Form
node_form x = record { parts = x; constant = pos 0 }

-- the number that a point gives a node
abbrev pub value_at : List NodeValue → List Part → ℤ
value_at p x = at (map (λ v. v.value) p) (number_of (map (λ v. v.node.parts) p) x)

-- each node has its least distance from the root less that of zero, and these numbers meet all inequalities
pub record IsLeastPoint (fs : List Form) (p : List NodeValue) : Type 0 where
  pub distances : List ℤ
  pub least : AreDistances (edges_of fs) (length (nodes_of fs)) distances
  pub nodes : map (λ v. v.node) p ≡ map node_form (nodes_of fs)
  pub values : map (λ v. v.value) p ≡ map (λ d. d -ℤ at distances 0) distances
  pub zero : value_at p [] ≡ pos 0
  pub meets : All (MeetsForm (value_at p)) fs
