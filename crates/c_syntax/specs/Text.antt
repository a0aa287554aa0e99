-- The one text of a program, line by line. Each line ends with LF and is indented by two blanks a level.
use Rattle.std.specs.Prelude.{ℕ, ℤ, zero, suc, ◌+◌, ◌==◌, pos, negsuc, Bool, true, false, if◌then◌else◌, List, [], ◌∷◌, ◌++◌, map, filter, flat_map, codes, decimal}
use Rattle.std.specs.List.{list_any}
use Rattle.std.specs.Str.{bytes_eq, chars}
use Rattle.pl_base.specs.Mangling.{mangled}
use Rattle.c_syntax.specs.declared.kind.CType.{CType}
use Rattle.c_syntax.specs.declared.kind.CType.TheVariants as kind
use Rattle.c_syntax.specs.declared.kind.Local.{Local}
use Rattle.c_syntax.specs.declared.expr.COp.{COp}
use Rattle.c_syntax.specs.declared.expr.COp.TheVariants as op
use Rattle.c_syntax.specs.declared.program.CParam.{CParam}
use Rattle.c_syntax.specs.declared.program.CStruct.{CStruct}
use Rattle.c_syntax.specs.PreludeText.{prelude, lines_text}
use Rattle.c_syntax.specs.Tree as t
use Rattle.c_syntax.specs.Tree.{Name, Expr, Cell, Init, Stmt, Stmts, Fun, Program}

-- ---- lines

-- two blanks a level
abbrev pub indent : ℕ → List ℕ
indent zero = []
indent (suc n) = codes "  " ++ indent n

-- pieces, one behind the other, and what stands at their end
abbrev pub joined : List (List ℕ) → List ℕ → List ℕ
joined [] last = last
joined (t ∷ ts) last = t ++ joined ts last

-- a line of these pieces, n levels deep
abbrev pub line : ℕ → List (List ℕ) → List ℕ
line n pieces = indent n ++ joined pieces (codes "\n")

-- a line that ends with a semicolon
abbrev pub statement : ℕ → List (List ℕ) → List ℕ
statement n pieces = indent n ++ joined pieces (codes ";\n")

-- texts, each behind a comma
abbrev pub behind_commas : List (List ℕ) → List ℕ
behind_commas [] = []
behind_commas (t ∷ ts) = codes ", " ++ t ++ behind_commas ts

-- texts with commas between them
abbrev pub commas : List (List ℕ) → List ℕ
commas [] = []
commas (t ∷ ts) = t ++ behind_commas ts

-- ---- names and types

-- a name with ASCII letters, digits and `_` alone
abbrev pub mangled_name : Name → List ℕ
mangled_name name = mangled (chars name)

-- a local with its number: `v_r_1`
abbrev pub local_text : Local → List ℕ
local_text x = codes "v_" ++ mangled_name x.name ++ codes "_" ++ decimal x.number

-- a function: `f_f`
abbrev pub function_name : Name → List ℕ
function_name f = codes "f_" ++ mangled_name f

-- a structure: `struct s_S`
abbrev pub struct_name : Name → List ℕ
struct_name s = codes "struct s_" ++ mangled_name s

-- a member of a structure: `m_f`
abbrev pub member_name : Name → List ℕ
member_name m = codes "m_" ++ mangled_name m

-- the structure that hands over the arguments of a thread's first call: `struct a_f`
abbrev pub arguments_name : Name → List ℕ
arguments_name f = codes "struct a_" ++ mangled_name f

-- its member for argument k: `a_1`
abbrev pub argument_name : ℕ → List ℕ
argument_name k = codes "a_" ++ decimal k

-- the function with which a thread begins whose first call is of f: `t_f`
abbrev pub starter_name : Name → List ℕ
starter_name f = codes "t_" ++ mangled_name f

-- a type in front of a name; no blank follows `*`
abbrev pub type_text : CType → List ℕ
type_text kind.Void = codes "void "
type_text kind.I64 = codes "int64_t "
type_text kind.Bool = codes "bool "
type_text kind.PtrI64 = codes "int64_t *"
type_text kind.PtrBool = codes "bool *"
type_text (kind.PtrStruct s) = struct_name s ++ codes " *"
type_text kind.PtrAtomic = codes "p_atomic *"
type_text kind.PtrLock = codes "struct p_lock *"

-- ---- expressions

-- a constant of type int64_t (C11 7.20.4.1)
abbrev pub constant : ℕ → List ℕ
constant n = codes "INT64_C(" ++ decimal n ++ codes ")"

-- a literal; 2^63 is no int64_t, so the least number is a difference
abbrev pub literal_text : ℤ → List ℕ
literal_text (pos n) = constant n
literal_text (negsuc n) =
    if n == 9223372036854775807 then codes "(-" ++ constant 9223372036854775807 ++ codes " - " ++ constant 1 ++ codes ")"
    else codes "(-" ++ constant (suc n) ++ codes ")"

-- a truth value (C11 7.18)
abbrev pub truth_text : Bool → List ℕ
truth_text true = codes "true"
truth_text false = codes "false"

-- an operator between its operands
abbrev pub operator : COp → List ℕ
operator op.Add = codes " + "
operator op.Sub = codes " - "
operator op.Mul = codes " * "
operator op.Div = codes " / "
operator op.Rem = codes " % "
operator op.Lt = codes " < "
operator op.Le = codes " <= "
operator op.Gt = codes " > "
operator op.Ge = codes " >= "
operator op.Eq = codes " == "
operator op.Ne = codes " != "
operator op.And = codes " && "
operator op.Or = codes " || "

-- an expression; what has operands stands in brackets
abbrev pub expr_text : Expr → List ℕ
expr_text (t.Int n) = literal_text n
expr_text (t.Truth b) = truth_text b
expr_text t.Null = codes "NULL"
expr_text (t.Var x) = local_text x
expr_text (t.Neg e) = codes "(-" ++ expr_text e ++ codes ")"
expr_text (t.Not e) = codes "(!" ++ expr_text e ++ codes ")"
expr_text (t.Bin op a b) = codes "(" ++ expr_text a ++ operator op ++ expr_text b ++ codes ")"

-- a cell of the block to which a local points
abbrev pub cell_text : Cell → List ℕ
cell_text (t.Whole base) = codes "*" ++ local_text base
cell_text (t.At base index) = local_text base ++ codes "[" ++ expr_text index ++ codes "]"
cell_text (t.Field base member) = local_text base ++ codes "->" ++ member_name member

-- a call of a function of the program
abbrev pub call_text : Name → List Expr → List ℕ
call_text f args = function_name f ++ codes "(" ++ commas (map expr_text args) ++ codes ")"

-- ---- statements

-- the line that binds x to what the pieces spell
abbrev pub binding : ℕ → CType → Local → List (List ℕ) → List ℕ
binding n type x pieces = statement n (type_text type ∷ local_text x ∷ codes " = " ∷ pieces)

-- what makes a block of one cell
abbrev pub maker : CType → List ℕ
maker kind.PtrBool = codes "p_new_bool("
maker _ = codes "p_new_i64("

-- the first value of a member of x
abbrev pub init_text : ℕ → Local → Init → List ℕ
init_text n x i = statement n (cell_text (t.Field x i.name) ∷ codes " = " ∷ expr_text i.value ∷ [])

-- the arguments of a thread's first call are handed over, from argument k on
abbrev pub argument_lines : ℕ → ℕ → List Expr → List ℕ
argument_lines n k [] = []
argument_lines n k (e ∷ es) = statement n (codes "q->" ∷ argument_name k ∷ codes " = " ∷ expr_text e ∷ []) ++ argument_lines n (k + 1) es

abbrev mutual
  -- a statement, n levels deep
  pub stmt_text : ℕ → Stmt → List ℕ
  stmt_text n (t.Let type x e) = binding n type x (expr_text e ∷ [])
  stmt_text n (t.Load type x cell) = binding n type x (cell_text cell ∷ [])
  stmt_text n (t.Store cell e) = statement n (cell_text cell ∷ codes " = " ∷ expr_text e ∷ [])
  stmt_text n (t.New type x e) = binding n type x (maker type ∷ expr_text e ∷ codes ")" ∷ [])
  stmt_text n (t.NewArray type x e count) = binding n type x (codes "p_array(" ∷ expr_text e ∷ codes ", " ∷ expr_text count ∷ codes ")" ∷ [])
  stmt_text n (t.NewAtomic x e) = binding n kind.PtrAtomic x (codes "p_new_atomic(" ∷ expr_text e ∷ codes ")" ∷ [])
  stmt_text n (t.NewStruct x s inits) =
      binding n (kind.PtrStruct s) x (codes "p_get(sizeof(" ∷ struct_name s ∷ codes "))" ∷ []) ++ flat_map (init_text n x) inits
  stmt_text n (t.Free base) = statement n (codes "free(" ∷ local_text base ∷ codes ")" ∷ [])
  stmt_text n (t.AtomicLoad x base) = binding n kind.I64 x (codes "atomic_load(" ∷ local_text base ∷ codes ")" ∷ [])
  stmt_text n (t.AtomicStore base e) = statement n (codes "atomic_store(" ∷ local_text base ∷ codes ", " ∷ expr_text e ∷ codes ")" ∷ [])
  stmt_text n (t.Cas x base old new) =
      binding n kind.Bool x (codes "p_cas(" ∷ local_text base ∷ codes ", " ∷ expr_text old ∷ codes ", " ∷ expr_text new ∷ codes ")" ∷ [])
  stmt_text n (t.NewLock x) = binding n kind.PtrLock x (codes "p_lock_new()" ∷ [])
  stmt_text n (t.Acquire lock) = statement n (codes "p_acquire(" ∷ local_text lock ∷ codes ")" ∷ [])
  stmt_text n (t.Release lock) = statement n (codes "p_release(" ∷ local_text lock ∷ codes ")" ∷ [])
  stmt_text n (t.Read x) = binding n kind.I64 x (codes "p_read()" ∷ [])
  stmt_text n (t.Print e) = statement n (codes "p_print(" ∷ expr_text e ∷ codes ")" ∷ [])
  stmt_text n (t.Call f args) = statement n (call_text f args ∷ [])
  stmt_text n (t.CallLet type x f args) = binding n type x (call_text f args ∷ [])
  stmt_text n (t.Par f args g others) =
      joined (
      line n (codes "{" ∷ []) ∷
      statement (n + 1) (arguments_name f ∷ codes " *q = p_get(sizeof(" ∷ arguments_name f ∷ codes "))" ∷ []) ∷
      argument_lines (n + 1) 1 args ∷
      statement (n + 1) (codes "thrd_t t = p_fork(" ∷ starter_name f ∷ codes ", q)" ∷ []) ∷
      statement (n + 1) (call_text g others ∷ []) ∷
      statement (n + 1) (codes "p_join(t)" ∷ []) ∷ [])
      (line n (codes "}" ∷ []))
  stmt_text n (t.If e first second) =
      joined (
      line n (codes "if (" ∷ expr_text e ∷ codes ") {" ∷ []) ∷
      stmts_text (n + 1) first ∷
      line n (codes "} else {" ∷ []) ∷
      stmts_text (n + 1) second ∷ [])
      (line n (codes "}" ∷ []))
  stmt_text n (t.While loads e body) =
      joined (
      line n (codes "while (1) {" ∷ []) ∷
      stmts_text (n + 1) loads ∷
      line (n + 1) (codes "if (!" ∷ expr_text e ∷ codes ") {" ∷ []) ∷
      statement (n + 1 + 1) (codes "break" ∷ []) ∷
      line (n + 1) (codes "}" ∷ []) ∷
      stmts_text (n + 1) body ∷ [])
      (line n (codes "}" ∷ []))
  stmt_text n (t.Return e) = statement n (codes "return " ∷ expr_text e ∷ [])

  -- statements, n levels deep
  pub stmts_text : ℕ → Stmts → List ℕ
  stmts_text n t.end = []
  stmts_text n (t.more s rest) = stmt_text n s ++ stmts_text n rest

-- ---- structures and functions

-- a structure
abbrev pub struct_text : CStruct → List ℕ
struct_text s =
    joined (
    line 0 (struct_name s.name ∷ codes " {" ∷ []) ∷
    flat_map (λ m. statement 1 (type_text m.kind ∷ member_name m.name ∷ [])) s.members ∷ [])
    (line 0 (codes "};" ∷ []))

-- the parameters of a function
abbrev pub params_text : List CParam → List ℕ
params_text [] = codes "void"
params_text (p ∷ ps) = commas (map (λ q. type_text q.kind ++ local_text q.local) (p ∷ ps))

-- a function's result, name and parameters
abbrev pub head_text : Fun → List ℕ
head_text f = joined (codes "static " ∷ type_text f.result ∷ function_name f.name ∷ codes "(" ∷ params_text f.params ∷ []) (codes ")")

-- a prototype
abbrev pub prototype_text : Fun → List ℕ
prototype_text f = statement 0 (head_text f ∷ [])

-- a function
abbrev pub fun_text : Fun → List ℕ
fun_text f = joined (line 0 (head_text f ∷ codes " {" ∷ []) ∷ stmts_text 1 f.body ∷ []) (line 0 (codes "}" ∷ []))

-- ---- threads

-- a member for each parameter, from parameter k on
abbrev pub argument_members : ℕ → List CParam → List ℕ
argument_members k [] = []
argument_members k (p ∷ ps) = statement 1 (type_text p.kind ∷ argument_name k ∷ []) ++ argument_members (k + 1) ps

-- the structure of the arguments of a thread whose first call is of f
abbrev pub arguments_struct : Fun → List ℕ
arguments_struct f =
    joined (
    line 0 (arguments_name f.name ∷ codes " {" ∷ []) ∷
    statement 1 (codes "char " ∷ argument_name 0 ∷ []) ∷
    argument_members 1 f.params ∷ [])
    (line 0 (codes "};" ∷ []))

-- the arguments that were handed over, from argument k on
abbrev pub handed_arguments : ℕ → List CParam → List (List ℕ)
handed_arguments k [] = []
handed_arguments k (p ∷ ps) = (codes "c." ++ argument_name k) ∷ handed_arguments (k + 1) ps

-- with this such a thread begins: it takes the arguments out and calls f
abbrev pub starter : Fun → List ℕ
starter f =
    joined (
    line 0 (codes "static int " ∷ starter_name f.name ∷ codes "(void *p) {" ∷ []) ∷
    statement 1 (arguments_name f.name ∷ codes " *q = p" ∷ []) ∷
    statement 1 (arguments_name f.name ∷ codes " c = *q" ∷ []) ∷
    statement 1 (codes "free(q)" ∷ []) ∷
    statement 1 (function_name f.name ∷ codes "(" ∷ commas (handed_arguments 1 f.params) ∷ codes ")" ∷ []) ∷
    statement 1 (codes "return 0" ∷ []) ∷ [])
    (line 0 (codes "}" ∷ []))

-- what stands before the functions for threads whose first call is of f
abbrev pub starter_text : Fun → List ℕ
starter_text f = arguments_struct f ++ starter f

abbrev mutual
  -- the functions that are first in a `par` of a statement
  pub stmt_starts : Stmt → List Name
  stmt_starts (t.Par f args g others) = f ∷ []
  stmt_starts (t.If e first second) = stmts_starts first ++ stmts_starts second
  stmt_starts (t.While loads e body) = stmts_starts loads ++ stmts_starts body
  stmt_starts _ = []

  -- the functions that are first in a `par` of statements
  pub stmts_starts : Stmts → List Name
  stmts_starts t.end = []
  stmts_starts (t.more s rest) = stmt_starts s ++ stmts_starts rest

-- the functions that are first in a `par` of functions
abbrev pub funs_starts : List Fun → List Name
funs_starts funs = flat_map (λ f. stmts_starts f.body) funs

-- whether some thread of the functions begins with a call of f
abbrev pub is_started : List Fun → Fun → Bool
is_started funs f = list_any (bytes_eq f.name) (funs_starts funs)

-- ---- programs

-- what each program ends with
abbrev pub main_text : List ℕ
main_text = lines_text (codes "int main(void) {" ∷ codes "  f_main();" ∷ codes "  return 0;" ∷ codes "}" ∷ [])

-- the text of a program, its groups in order
unfoldable pub program_text : Program → List ℕ
program_text p =
    joined (
    prelude ∷
    flat_map struct_text p.structs ∷
    flat_map prototype_text p.funs ∷
    flat_map starter_text (filter (is_started p.funs) p.funs) ∷
    flat_map fun_text p.funs ∷ [])
    main_text
