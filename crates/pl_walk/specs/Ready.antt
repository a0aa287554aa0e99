-- The names that a statement uses stand for terms of the sort that the use needs.
use Rattle.std.specs.Prelude.{Option, Some, None}
use Rattle.pl_syntax.specs.Tree.{CellExpr, Whole, Stmt, Load, Alloc, Free, Print}
use Rattle.pl_terms.specs.declared.term.Term.{Term}
use Rattle.pl_terms.specs.declared.term.Term.TheVariants.{Literal, Variable}
use Rattle.pl_terms.specs.Table.{Names, term_of}

abbrev pub IsPointer : Option Term → Type 0
IsPointer None = ⊥
IsPointer (Some (Literal n)) = ⊥
IsPointer (Some (Variable k)) = Unit {0}

abbrev pub IsLiteral : Option Term → Type 0
IsLiteral None = ⊥
IsLiteral (Some (Literal n)) = Unit {0}
IsLiteral (Some (Variable k)) = ⊥

-- the one cell of a block
abbrev pub IsWhole : CellExpr → Type 0
IsWhole (Whole c) = Unit {0}
IsWhole _ = ⊥

abbrev pub IsPointerCell : Names → CellExpr → Type 0
IsPointerCell names (Whole c) = IsPointer (names c)
IsPointerCell names _ = ⊥

abbrev pub Ready : Names → Stmt → Type 0
Ready names (Load place x cell is_ghost) = IsPointerCell names cell
Ready names (Alloc place x e) = IsLiteral (term_of names e)
Ready names (Free place x) = IsPointer (names x)
Ready names (Print place e) = IsLiteral (term_of names e)
Ready names _ = ⊥
