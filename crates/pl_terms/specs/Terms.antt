-- What the checker knows of values: terms over numbered variables, and atoms of terms.
use Rattle.std.specs.Prelude.{◌≡◌, ℕ, ◌≤◌, Option, Some, None, List, [], ◌∷◌}
use Rattle.pl_base.specs.Permission.{Permission}
use Rattle.pl_syntax.specs.Values.{Value, Number}
use Rattle.pl_syntax.specs.Resource.{Resource, Adds, IsEmpty}
use Rattle.pl_syntax.specs.Holds.{OwnsCell, OwnsBlock}
use Rattle.pl_terms.specs.declared.term.Term.{Term}
use Rattle.pl_terms.specs.declared.term.Term.TheVariants.{Literal, Variable}

-- `base |->{permission} value`, or `block(base, count)`
pub data Atom : Type 0 where
  Points : (base : Term) (permission : Permission) (value : Term) → Atom
  Block : (base count : Term) → Atom

-- the values of the variables that have one, by their numbers
abbrev pub Values : Type 0
Values = ℕ → Option Value

-- the value of a term; none where its variable has none
abbrev pub eval : Values → Term → Option Value
eval vs (Literal n) = Some (Number n)
eval vs (Variable k) = vs k

-- an atom holds of a part at these values
abbrev pub AtomHolds : Values → Atom → Resource → Type 0
AtomHolds vs (Points base permission value) x = OwnsCell (eval vs base) (Some permission) (eval vs value) x
AtomHolds vs (Block base count) x = OwnsBlock (eval vs base) (eval vs count) x

-- a list of atoms holds of parts that make up the whole
abbrev pub AllHold : Values → List Atom → Resource → Type 0
AllHold vs [] x = IsEmpty x
AllHold vs (a ∷ rest) x = (y : Resource) × (z : Resource) × Adds y z x × AtomHolds vs a y × AllHold vs rest z

-- more variables have values, and the others are as they were
pub record Extends (vs us : Values) : Type 0 where
  pub keeps : (i : ℕ) (w : Value) → vs i ≡ Some w → us i ≡ Some w

-- no variable from k on has a value
pub record Fresh (k : ℕ) (vs : Values) : Type 0 where
  pub none : (i : ℕ) → k ≤ i → vs i ≡ None

-- an atom's part, and that of the others
pub record Taken (vs : Values) (a : Atom) (left : List Atom) (x : Resource) : Type 0 where
  pub part : Resource
  pub rest : Resource
  pub adds : Adds part rest x
  pub holds : AtomHolds vs a part
  pub others : AllHold vs left rest
