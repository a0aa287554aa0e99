-- What the walk knows, as lists and partial maps.
use Rattle.std.specs.Prelude.{ℕ, List, [], ◌∷◌, ◌++◌, ◌+◌, pos, Option, Some, None, map}
use Rattle.std.specs.Str.{bytes_eq}
use Rattle.std.specs.HashMap.{get_by}
use Rattle.pl_base.specs.Permission.{whole}
use Rattle.pl_terms.specs.declared.term.Term.{Term}
use Rattle.pl_terms.specs.declared.term.Term.TheVariants.{Literal, Variable}
use Rattle.pl_walk.specs.declared.known.Block as block
use Rattle.pl_walk.specs.declared.known.Known as known
use Rattle.pl_terms.specs.Terms.{Atom, Points, Block}
use Rattle.pl_terms.specs.Table.{Known}

-- the atoms of the block of that number
abbrev pub block_atoms : ℕ → Option Term → List Atom
block_atoms k None = []
block_atoms k (Some value) = Points (Variable k) whole value ∷ Block (Variable k) (Literal (pos 1)) ∷ []

-- the atoms of blocks numbered from k on
abbrev pub atoms_from : ℕ → List block.Block → List Atom
atoms_from k [] = []
atoms_from k (b ∷ bs) = block_atoms k b.value ++ atoms_from (k + 1) bs

abbrev pub known_of : known.Known → Known
known_of s = record { origins = map (λ b. b.name.now) s.blocks.items; names = λ y. get_by (λ k. bytes_eq y k.now) s.names; atoms = atoms_from 0 s.blocks.items }
