-- Resources: what a part of the state may be used for.
use Rattle.std.specs.Prelude.{◌≡◌, ℕ, Option, Some, None, Bool, false, ◌&&◌, List, [], ◌∷◌, if◌then◌else◌}
use Rattle.pl_base.specs.Permission.{Permission, PermissionAdds, same_number}
use Rattle.pl_syntax.specs.Values.{Value}

-- how a cell is read and written: plainly, or by the atomic calls
pub data Mark : Type 0 where
  Plain : Mark
  Atomic : Mark

-- what can be owned: a cell, by its block, its element's index and its field, or the right to free a block
pub data Place : Type 0 where
  Cell : (block index field : ℕ) → Place
  FreeToken : (block : ℕ) → Place

-- whether two places are one
abbrev pub same_place : Place → Place → Bool
same_place (Cell b i f) (Cell c j g) = same_number b c && same_number i j && same_number f g
same_place (FreeToken b) (FreeToken c) = same_number b c
same_place (Cell b i f) (FreeToken c) = false
same_place (FreeToken b) (Cell c j g) = false

-- a permission to a place with its value and its mark; the value of a free token is its block's count of elements
pub record Share : Type 0 where
  pub permission : Permission
  pub value : Value
  pub mark : Mark

-- a part: the places in it, each with its share
abbrev pub Resource : Type 0
Resource = Place → Option Share

-- a and b of one place are c together: their values and marks agree, and the permissions have a sum
pub record Joins (a b c : Share) : Type 0 where
  pub permissions : PermissionAdds a.permission b.permission c.permission
  pub values_agree : a.value ≡ b.value
  pub marks_agree : a.mark ≡ b.mark
  pub value : c.value ≡ a.value
  pub mark : c.mark ≡ a.mark

-- what two parts have of one place is this together
abbrev pub ShareAdds : Option Share → Option Share → Option Share → Type 0
ShareAdds None y z = z ≡ y
ShareAdds (Some a) None z = z ≡ Some a
ShareAdds (Some a) (Some b) None = ⊥
ShareAdds (Some a) (Some b) (Some c) = Joins a b c

-- x and y are two parts that make up z
pub record Adds (x y z : Resource) : Type 0 where
  pub at : (p : Place) → ShareAdds (x p) (y p) (z p)

-- the part with nothing in it
abbrev pub nothing : Resource
nothing p = None

-- owns nothing
pub record IsEmpty (x : Resource) : Type 0 where
  pub none : (p : Place) → x p ≡ None

-- the same part but at one place
abbrev pub put_at : Place → Option Share → Resource → Resource
put_at q s x = λ p. if same_place q p then s else x p

-- a list of parts makes up a whole
abbrev pub Sums : List Resource → Resource → Type 0
Sums [] z = IsEmpty z
Sums (x ∷ xs) z = (rest : Resource) × Adds x rest z × Sums xs rest
