-- The names that stand in the statements that the checker handles today.
use Rattle.std.specs.Prelude.{List, [], ◌∷◌, flat_map}
use Rattle.pl_syntax.specs.Tree as t
use Rattle.pl_syntax.specs.Tree.{Name, Expr, Stmt, Decl, Program, list_of}

-- the name that an expression is, if it is one
abbrev pub value_names : Expr → List Name
value_names (t.Var place x) = x ∷ []
value_names _ = []

abbrev pub stmt_names : Stmt → List Name
stmt_names (t.Load place x (t.Whole base) is_ghost) = x ∷ base ∷ []
stmt_names (t.Alloc place x e) = x ∷ value_names e
stmt_names (t.Free place base) = base ∷ []
stmt_names (t.Print place e) = value_names e
stmt_names _ = []

abbrev pub decl_names : Decl → List Name
decl_names (t.Fun f) = f.name ∷ flat_map stmt_names (list_of f.body)
decl_names _ = []

abbrev pub program_names : Program → List Name
program_names p = flat_map decl_names p.decls
