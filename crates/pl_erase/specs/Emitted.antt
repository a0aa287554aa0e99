-- The C program of a source program, one row a statement.
use Rattle.std.specs.Prelude.{ℕ, suc, List, [], ◌∷◌, if◌then◌else◌}
use Rattle.std.specs.Str.{bytes_eq}
use Rattle.c_syntax.specs.declared.kind.CType.TheVariants as kind
use Rattle.c_syntax.specs.declared.kind.Local.{Local}
use Rattle.c_syntax.specs.Tree as c
use Rattle.c_syntax.specs.Plain.{chain}
use Rattle.pl_syntax.specs.Tree.{Name, Expr, Int, Var, Whole, Stmt, Load, Alloc, Free, Print, FunDecl, Decl, Fun, Program, list_of}

-- the number of each name's newest binder; binders count from 1, so that 0 is nobody's
abbrev pub Numbers : Type 0
Numbers = Name → ℕ

-- nothing is bound
abbrev pub no_numbers : Numbers
no_numbers x = 0

-- binder n is the newest of its name
abbrev pub number : Name → ℕ → Numbers → Numbers
number x n numbers = λ y. if bytes_eq y x then n else numbers y

-- a local has the name of its binder and its number
abbrev pub local : Name → ℕ → Local
local x n = record { name = x; number = n }

-- a name is the local of its newest binder
abbrev pub local_of : Numbers → Name → Local
local_of numbers x = local x (numbers x)

-- a literal is the literal of C; the other forms aren't built yet, and no straight program has them
abbrev pub emitted_expr : Numbers → Expr → c.Expr
emitted_expr numbers (Int place n) = c.Int n
emitted_expr numbers (Var place x) = c.Var (local_of numbers x)
emitted_expr numbers _ = c.Null

-- the rows of statements, of which the next binder has number n; the other forms aren't built yet and have no row
abbrev pub emitted_all : ℕ → Numbers → List Stmt → List c.Stmt
emitted_all n numbers [] = []
emitted_all n numbers (Load place x (Whole base) is_ghost ∷ rest) = c.Load kind.I64 (local x n) (c.Whole (local_of numbers base)) ∷ emitted_all (suc n) (number x n numbers) rest
emitted_all n numbers (Alloc place x e ∷ rest) = c.New kind.PtrI64 (local x n) (emitted_expr numbers e) ∷ emitted_all (suc n) (number x n numbers) rest
emitted_all n numbers (Free place x ∷ rest) = c.Free (local_of numbers x) ∷ emitted_all n numbers rest
emitted_all n numbers (Print place e ∷ rest) = c.Print (emitted_expr numbers e) ∷ emitted_all n numbers rest
emitted_all n numbers (_ ∷ rest) = emitted_all n numbers rest

-- a function without parameters and result; those with one aren't built yet
abbrev pub emitted_fun : FunDecl → c.Fun
emitted_fun f = record { name = f.name; result = kind.Void; params = []; body = chain (emitted_all 1 no_numbers (list_of f.body)) }

-- the functions of declarations; the other declarations aren't built yet
abbrev pub emitted_decls : List Decl → List c.Fun
emitted_decls [] = []
emitted_decls (Fun f ∷ rest) = emitted_fun f ∷ emitted_decls rest
emitted_decls (_ ∷ rest) = emitted_decls rest

-- the C program of a program
abbrev pub emitted : Program → c.Program
emitted p = record { structs = []; funs = emitted_decls p.decls }

-- the program of one function
abbrev pub program_of : FunDecl → Program
program_of f = record { decls = Fun f ∷ [] }
