-- The first points-to of a variable, and what giving its block up leaves.
use Rattle.std.specs.Prelude.{◌≡◌, pos, List, ◌∷◌, ◌++◌}
use Rattle.pl_base.specs.Permission.{whole}
use Rattle.pl_terms.specs.declared.term.Term.{Term}
use Rattle.pl_terms.specs.declared.term.Term.TheVariants.{Literal}
use Rattle.pl_terms.specs.Terms.{Atom, Points, Block}
use Rattle.pl_terms.specs.Table.{Known}
use Rattle.pl_walk.specs.Walk.{NoneOf, PointsTo, BlockOf}

-- the first points-to of the variable is a whole one with that value
pub record IsFirst (base value : Term) (atoms : List Atom) : Type 0 where
  pub front : List Atom
  pub back : List Atom
  pub at : atoms ≡ front ++ Points base whole value ∷ back
  pub first : NoneOf (PointsTo base) front

-- the first points-to of the variable and then its first block were taken out
pub record IsFreed (base value : Term) (s t : Known) : Type 0 where
  pub front : List Atom
  pub back : List Atom
  pub cell_at : s.atoms ≡ front ++ Points base whole value ∷ back
  pub first_cell : NoneOf (PointsTo base) front
  pub front' : List Atom
  pub back' : List Atom
  pub block_at : front ++ back ≡ front' ++ Block base (Literal (pos 1)) ∷ back'
  pub first_block : NoneOf (BlockOf base) front'
  pub is : t ≡ record s { atoms = front' ++ back' }
