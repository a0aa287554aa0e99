-- The text of the blocks that live.
use Rattle.std.specs.Prelude.{◌≡◌, ◌≢◌, ℕ, List, [], ◌++◌, Option, Some, None, map}
use Rattle.std.specs.List.{flat_map}
use lib.Chars.{codes}
use Rattle.pl_syntax.specs.Tree.{Name}
use Rattle.pl_terms.specs.declared.term.Term.{Term}
use Rattle.pl_walk.specs.declared.known.Block.{Block}
use Rattle.pl_walk.specs.Walk.{term_text, atoms_text}
use Rattle.pl_walk.specs.Shown.{atoms_from}

-- the names of blocks
abbrev pub names_of : List Block → List Name
names_of bs = map (λ b. b.name.now) bs

abbrev pub value_text : List Name → Name → Option Term → List ℕ
value_text names x None = []
value_text names x (Some value) = codes " ** " ++ x ++ codes " |-> " ++ term_text names value ++ codes " ** block(" ++ x ++ codes ", 1)"

-- ` ** ` and the two atoms of a block that lives
abbrev pub block_text : List Name → Block → List ℕ
block_text names b = value_text names b.name.now b.value

abbrev pub blocks_text : List Block → List ℕ
blocks_text bs = flat_map (block_text (names_of bs)) bs

-- the text of all atoms, or none where there are none
abbrev pub IsAtomsText : Option (List ℕ) → List Block → Type 0
IsAtomsText None bs = atoms_from 0 bs ≡ []
IsAtomsText (Some text) bs = (atoms_from 0 bs ≢ []) × (text ≡ atoms_text (names_of bs) (atoms_from 0 bs))
