-- The text of what is written, line by line. Each line ends with LF and is indented by two blanks a level.
use Rattle.std.specs.Prelude.{ℕ, ◌+◌, List, [], ◌∷◌, ◌++◌, map, flat_map, codes, decimal}
use Rattle.c_syntax.specs.PreludeText.{prelude}
use Rattle.c_syntax.specs.Text.{joined, line, statement, commas, mangled_name, function_name, struct_name, member_name, arguments_name, starter_name, type_text, literal_text, truth_text, operator, main_text}
use Rattle.c_forms.specs.declared.word.Number.{Number}
use Rattle.c_forms.specs.declared.word.Number.TheVariants as number
use Rattle.c_forms.specs.declared.word.Local.{Local}
use Rattle.c_forms.specs.declared.stmt.Maker.{Maker}
use Rattle.c_forms.specs.declared.stmt.Maker.TheVariants as maker
use Rattle.c_forms.specs.declared.source.Struct.{Struct}
use Rattle.c_forms.specs.declared.source.Param.{Param}
use Rattle.c_forms.specs.declared.source.Head.{Head}
use Rattle.c_forms.specs.declared.source.Starter.{Starter}
use Rattle.c_forms.specs.Tree as t
use Rattle.c_forms.specs.Tree.{Name, Expr, Cell, Right, LoadLine, Argument, ParLines, Stmt, Stmts, Fun, Source}

-- ---- words

-- a number
abbrev pub number_text : Number → List ℕ
number_text (number.Small n) = decimal n
number_text (number.Long digits) = digits

-- a local: `v_r_1`
abbrev pub local_text : Local → List ℕ
local_text x = codes "v_" ++ mangled_name x.name ++ codes "_" ++ number_text x.number

-- a member for an argument: `a_1`
abbrev pub slot_name : Number → List ℕ
slot_name k = codes "a_" ++ number_text k

-- ---- expressions

-- an expression; what has operands stands in brackets
abbrev pub expr_text : Expr → List ℕ
expr_text (t.Int n) = literal_text n
expr_text (t.Truth b) = truth_text b
expr_text t.Null = codes "NULL"
expr_text (t.Var x) = local_text x
expr_text (t.Neg e) = codes "(-" ++ expr_text e ++ codes ")"
expr_text (t.Not e) = codes "(!" ++ expr_text e ++ codes ")"
expr_text (t.Bin op a b) = codes "(" ++ expr_text a ++ operator op ++ expr_text b ++ codes ")"

-- a cell
abbrev pub cell_text : Cell → List ℕ
cell_text (t.Whole base) = codes "*" ++ local_text base
cell_text (t.At base index) = local_text base ++ codes "[" ++ expr_text index ++ codes "]"
cell_text (t.Field base member) = local_text base ++ codes "->" ++ member_name member

-- a call of a function of the program
abbrev pub call_text : Name → List Expr → List ℕ
call_text f args = function_name f ++ codes "(" ++ commas (map expr_text args) ++ codes ")"

-- ---- statements

-- what makes a block of one cell
abbrev pub maker_text : Maker → List ℕ
maker_text maker.I64 = codes "p_new_i64("
maker_text maker.Bool = codes "p_new_bool("
maker_text maker.Atomic = codes "p_new_atomic("

-- what stands behind a `=`
abbrev pub right_text : Right → List ℕ
right_text (t.Value e) = expr_text e
right_text (t.Load cell) = cell_text cell
right_text (t.New maker e) = joined (maker_text maker ∷ expr_text e ∷ []) (codes ")")
right_text (t.Array e count) = joined (codes "p_array(" ∷ expr_text e ∷ codes ", " ∷ expr_text count ∷ []) (codes ")")
right_text (t.Structure s) = joined (codes "p_get(sizeof(" ∷ struct_name s ∷ []) (codes "))")
right_text t.Lock = codes "p_lock_new()"
right_text (t.Call f args) = call_text f args
right_text (t.AtomicLoad base) = joined (codes "atomic_load(" ∷ local_text base ∷ []) (codes ")")
right_text t.Read = codes "p_read()"
right_text (t.Cas base old new) = joined (codes "p_cas(" ∷ local_text base ∷ codes ", " ∷ expr_text old ∷ codes ", " ∷ expr_text new ∷ []) (codes ")")

-- a line of the head of a loop, n levels deep
abbrev pub load_text : ℕ → LoadLine → List ℕ
load_text n l = statement n (type_text l.kind ∷ local_text l.local ∷ codes " = " ∷ cell_text l.cell ∷ [])

-- a line that hands an argument over
abbrev pub argument_text : ℕ → Argument → List ℕ
argument_text n a = statement n (codes "q->" ∷ slot_name a.number ∷ codes " = " ∷ expr_text a.value ∷ [])

-- the bracketed lines of a `par`
abbrev pub par_text : ℕ → ParLines → List ℕ
par_text n p =
    joined (
    line n (codes "{" ∷ []) ∷
    statement (n + 1) (arguments_name p.structure ∷ codes " *q = p_get(sizeof(" ∷ arguments_name p.size ∷ codes "))" ∷ []) ∷
    flat_map (argument_text (n + 1)) p.arguments ∷
    statement (n + 1) (codes "thrd_t t = p_fork(" ∷ starter_name p.starter ∷ codes ", q)" ∷ []) ∷
    statement (n + 1) (call_text p.other p.others ∷ []) ∷
    statement (n + 1) (codes "p_join(t)" ∷ []) ∷ [])
    (line n (codes "}" ∷ []))

abbrev mutual
  -- a statement, n levels deep
  pub stmt_text : ℕ → Stmt → List ℕ
  stmt_text n (t.Bind kind x right) = statement n (type_text kind ∷ local_text x ∷ codes " = " ∷ right_text right ∷ [])
  stmt_text n (t.Store cell e) = statement n (cell_text cell ∷ codes " = " ∷ expr_text e ∷ [])
  stmt_text n (t.Free base) = statement n (codes "free(" ∷ local_text base ∷ codes ")" ∷ [])
  stmt_text n (t.AtomicStore base e) = statement n (codes "atomic_store(" ∷ local_text base ∷ codes ", " ∷ expr_text e ∷ codes ")" ∷ [])
  stmt_text n (t.Acquire lock) = statement n (codes "p_acquire(" ∷ local_text lock ∷ codes ")" ∷ [])
  stmt_text n (t.Release lock) = statement n (codes "p_release(" ∷ local_text lock ∷ codes ")" ∷ [])
  stmt_text n (t.Print e) = statement n (codes "p_print(" ∷ expr_text e ∷ codes ")" ∷ [])
  stmt_text n (t.CallStmt f args) = statement n (call_text f args ∷ [])
  stmt_text n (t.Par lines) = par_text n lines
  stmt_text n (t.If e first second) =
      joined (
      line n (codes "if (" ∷ expr_text e ∷ codes ") {" ∷ []) ∷
      stmts_text (n + 1) first ∷
      line n (codes "} else {" ∷ []) ∷
      stmts_text (n + 1) second ∷ [])
      (line n (codes "}" ∷ []))
  stmt_text n (t.While loads e body) =
      joined (
      line n (codes "while (1) {" ∷ []) ∷
      flat_map (load_text (n + 1)) loads ∷
      line (n + 1) (codes "if (!" ∷ expr_text e ∷ codes ") {" ∷ []) ∷
      statement (n + 1 + 1) (codes "break" ∷ []) ∷
      line (n + 1) (codes "}" ∷ []) ∷
      stmts_text (n + 1) body ∷ [])
      (line n (codes "}" ∷ []))
  stmt_text n (t.Return e) = statement n (codes "return " ∷ expr_text e ∷ [])

  -- statements, n levels deep
  pub stmts_text : ℕ → Stmts → List ℕ
  stmts_text n t.end = []
  stmts_text n (t.more s rest) = stmt_text n s ++ stmts_text n rest

-- ---- structures and functions

-- a structure
abbrev pub struct_text : Struct → List ℕ
struct_text s =
    joined (
    line 0 (struct_name s.name ∷ codes " {" ∷ []) ∷
    flat_map (λ m. statement 1 (type_text m.kind ∷ member_name m.name ∷ [])) s.members ∷ [])
    (line 0 (codes "};" ∷ []))

-- a parameter
abbrev pub param_text : Param → List ℕ
param_text p = type_text p.kind ++ local_text p.local

-- the parameters of a function
abbrev pub params_text : List Param → List ℕ
params_text [] = codes "void"
params_text (p ∷ ps) = commas (map param_text (p ∷ ps))

-- a function's result, name and parameters
abbrev pub head_text : Head → List ℕ
head_text h = joined (codes "static " ∷ type_text h.result ∷ function_name h.name ∷ codes "(" ∷ params_text h.params ∷ []) (codes ")")

-- a prototype
abbrev pub prototype_text : Head → List ℕ
prototype_text h = statement 0 (head_text h ∷ [])

-- a function
abbrev pub fun_text : Fun → List ℕ
fun_text f = joined (line 0 (head_text f.head ∷ codes " {" ∷ []) ∷ stmts_text 1 f.body ∷ []) (line 0 (codes "}" ∷ []))

-- ---- threads

-- the structure of the arguments of a thread's first call
abbrev pub arguments_struct : Starter → List ℕ
arguments_struct s =
    joined (
    line 0 (arguments_name s.structure ∷ codes " {" ∷ []) ∷
    statement 1 (codes "char a_0" ∷ []) ∷
    flat_map (λ m. statement 1 (type_text m.kind ∷ slot_name m.number ∷ [])) s.slots ∷ [])
    (line 0 (codes "};" ∷ []))

-- the function with which such a thread begins
abbrev pub starter_function : Starter → List ℕ
starter_function s =
    joined (
    line 0 (codes "static int " ∷ starter_name s.name ∷ codes "(void *p) {" ∷ []) ∷
    statement 1 (arguments_name s.pointer ∷ codes " *q = p" ∷ []) ∷
    statement 1 (arguments_name s.copy ∷ codes " c = *q" ∷ []) ∷
    statement 1 (codes "free(q)" ∷ []) ∷
    statement 1 (function_name s.function ∷ codes "(" ∷ commas (map (λ k. codes "c." ++ slot_name k) s.arguments) ∷ codes ")" ∷ []) ∷
    statement 1 (codes "return 0" ∷ []) ∷ [])
    (line 0 (codes "}" ∷ []))

-- both
abbrev pub starter_text : Starter → List ℕ
starter_text s = arguments_struct s ++ starter_function s

-- ---- the whole text

-- the whole text, its groups in order
unfoldable pub source_text : Source → List ℕ
source_text s =
    joined (
    prelude ∷
    flat_map struct_text s.structs ∷
    flat_map prototype_text s.prototypes ∷
    flat_map starter_text s.starters ∷
    flat_map fun_text s.funs ∷ [])
    main_text
