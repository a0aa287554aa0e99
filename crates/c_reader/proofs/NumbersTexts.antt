-- Each number that is written has bytes of its own, so there are at most as many as bytes.
use Rattle.std.proofs.Common.{ℕ, ◌+◌, ◌≤◌, List, [], ◌∷◌, ◌++◌, length, map, filter, flat_map, codes, arith, length-append, le_refl, le_trans}
use Rattle.std.specs.List.{AllByRecursion}
use Rattle.c_syntax.specs.declared.kind.CType.{CType}
use Rattle.c_syntax.specs.declared.kind.CType.TheVariants as kind
use Rattle.c_syntax.specs.declared.kind.Local.{Local}
use Rattle.c_syntax.specs.declared.program.CParam.{CParam}
use Rattle.c_syntax.specs.PreludeText.{prelude}
use Rattle.c_syntax.specs.Text.{argument_lines, argument_name, behind_commas, binding, call_text, cell_text, expr_text, fun_text, function_name, head_text, indent, init_text, is_started, joined, line, local_text, main_text, maker, params_text, program_text, prototype_text, starter_text, statement, stmt_text, stmts_text, struct_name, struct_text, type_text, arguments_name}
use Rattle.c_syntax.specs.Tree as t
use Rattle.c_reader.proofs.NumbersScopes.{counted, all_counted}

-- ---- pieces

in_front : (a b : List ℕ) → length a ≤ length (a ++ b)
in_front a b = omega (arith, length-append a b)

behind : (a b : List ℕ) → length b ≤ length (a ++ b)
behind a b = omega (arith, length-append a b)

at_end : (pieces : List (List ℕ)) (last : List ℕ) → length last ≤ length (joined pieces last)
at_end [] last = le_refl (length last)
at_end (a ∷ pieces) last = le_trans (at_end pieces last) (behind a (joined pieces last))

both_parts : (a b : List ℕ) (m n : ℕ) → m ≤ length a → n ≤ length b → m + n ≤ length (a ++ b)
both_parts a b m n h k = omega (arith, length-append a b)

third : (a b c d : List ℕ) (n : ℕ) → n ≤ length c → n ≤ length (a ++ (b ++ (c ++ d)))
third a b c d n h = omega (arith, length-append a (b ++ (c ++ d)), length-append b (c ++ d), length-append c d)

second_fourth : (a b c d e : List ℕ) (m n : ℕ) → m ≤ length b → n ≤ length d → m + n ≤ length (a ++ (b ++ (c ++ (d ++ e))))
second_fourth a b c d e m n h k =
    omega (arith, length-append a (b ++ (c ++ (d ++ e))), length-append b (c ++ (d ++ e)), length-append c (d ++ e), length-append d e)

second_sixth : (a b c d e f g : List ℕ) (m n : ℕ) → m ≤ length b → n ≤ length f → m + n ≤ length (a ++ (b ++ (c ++ (d ++ (e ++ (f ++ g))))))
second_sixth a b c d e f g m n h k =
    omega (
      arith,
      length-append a (b ++ (c ++ (d ++ (e ++ (f ++ g))))),
      length-append b (c ++ (d ++ (e ++ (f ++ g)))),
      length-append c (d ++ (e ++ (f ++ g))),
      length-append d (e ++ (f ++ g)),
      length-append e (f ++ g),
      length-append f g,
    )

fifth : (a b c d e f : List ℕ) (n : ℕ) → n ≤ length e → n ≤ length (a ++ (b ++ (c ++ (d ++ (e ++ f)))))
fifth a b c d e f n h =
    omega (arith, length-append a (b ++ (c ++ (d ++ (e ++ f)))), length-append b (c ++ (d ++ (e ++ f))), length-append c (d ++ (e ++ f)), length-append d (e ++ f), length-append e f)

-- ---- lines

statement_length : (n : ℕ) (pieces : List (List ℕ)) → 1 ≤ length (statement n pieces)
statement_length n pieces = let a = at_end pieces (codes ";\n") in let b = behind (indent n) (joined pieces (codes ";\n")) in omega arith

binding_length : (n : ℕ) (type : CType) (x : Local) (pieces : List (List ℕ)) → 1 ≤ length (binding n type x pieces)
binding_length n type x pieces = statement_length n (type_text type ∷ local_text x ∷ codes " = " ∷ pieces)

arguments_length : (n k : ℕ) (es : List t.Expr) → length es ≤ length (argument_lines n k es)
arguments_length n k [] = le_refl 0
arguments_length n k (e ∷ es) =
    let here = statement n (codes "q->" ∷ argument_name k ∷ codes " = " ∷ expr_text e ∷ []) in
    let a = statement_length n (codes "q->" ∷ argument_name k ∷ codes " = " ∷ expr_text e ∷ []) in
    let b = arguments_length n (k + 1) es in
    omega (arith, length-append here (argument_lines n (k + 1) es))

-- ---- statements

mutual
  pub counted_length : (n : ℕ) (u : t.Stmt) → counted u ≤ length (stmt_text n u)
  counted_length n (t.Let type x e) = binding_length n type x (expr_text e ∷ [])
  counted_length n (t.Load type x c) = binding_length n type x (cell_text c ∷ [])
  counted_length n (t.New type x e) = binding_length n type x (maker type ∷ expr_text e ∷ codes ")" ∷ [])
  counted_length n (t.NewArray type x e count) = binding_length n type x (codes "p_array(" ∷ expr_text e ∷ codes ", " ∷ expr_text count ∷ codes ")" ∷ [])
  counted_length n (t.NewAtomic x e) = binding_length n kind.PtrAtomic x (codes "p_new_atomic(" ∷ expr_text e ∷ codes ")" ∷ [])
  counted_length n (t.NewStruct x s is) =
      let pieces = codes "p_get(sizeof(" ∷ struct_name s ∷ codes "))" ∷ [] in
      le_trans (binding_length n (kind.PtrStruct s) x pieces) (in_front (binding n (kind.PtrStruct s) x pieces) (flat_map (init_text n x) is))
  counted_length n (t.AtomicLoad x base) = binding_length n kind.I64 x (codes "atomic_load(" ∷ local_text base ∷ codes ")" ∷ [])
  counted_length n (t.Cas x base old new) =
      binding_length n kind.Bool x (codes "p_cas(" ∷ local_text base ∷ codes ", " ∷ expr_text old ∷ codes ", " ∷ expr_text new ∷ codes ")" ∷ [])
  counted_length n (t.NewLock x) = binding_length n kind.PtrLock x (codes "p_lock_new()" ∷ [])
  counted_length n (t.Read x) = binding_length n kind.I64 x (codes "p_read()" ∷ [])
  counted_length n (t.CallLet type x f args) = binding_length n type x (call_text f args ∷ [])
  counted_length n (t.Par f args g others) =
      third (line n (codes "{" ∷ [])) (statement (n + 1) (arguments_name f ∷ codes " *q = p_get(sizeof(" ∷ arguments_name f ∷ codes "))" ∷ [])) (argument_lines (n + 1) 1 args) _
      (length args) (arguments_length (n + 1) 1 args)
  counted_length n (t.If e first second) =
      second_fourth (line n (codes "if (" ∷ expr_text e ∷ codes ") {" ∷ [])) (stmts_text (n + 1) first) (line n (codes "} else {" ∷ [])) (stmts_text (n + 1) second) _
      (all_counted first) (all_counted second) (all_counted_length (n + 1) first) (all_counted_length (n + 1) second)
  counted_length n (t.While loads e body) =
      second_sixth (line n (codes "while (1) {" ∷ [])) (stmts_text (n + 1) loads) (line (n + 1) (codes "if (!" ∷ expr_text e ∷ codes ") {" ∷ []))
      (statement (n + 1 + 1) (codes "break" ∷ [])) (line (n + 1) (codes "}" ∷ [])) (stmts_text (n + 1) body) _
      (all_counted loads) (all_counted body) (all_counted_length (n + 1) loads) (all_counted_length (n + 1) body)
  counted_length n _ = omega arith

  pub all_counted_length : (n : ℕ) (ts : t.Stmts) → all_counted ts ≤ length (stmts_text n ts)
  all_counted_length n t.end = le_refl 0
  all_counted_length n (t.more u rest) = both_parts (stmt_text n u) (stmts_text n rest) (counted u) (all_counted rest) (counted_length n u) (all_counted_length n rest)

-- ---- functions

-- a parameter
abbrev param_text : CParam → List ℕ
param_text q = type_text q.kind ++ local_text q.local

param_length : (q : CParam) → 1 ≤ length (param_text q)
param_length q = let a = behind (type_text q.kind) (local_text q.local) in omega arith

commas_length : (ps : List CParam) → length ps ≤ length (behind_commas (map param_text ps))
commas_length [] = le_refl 0
commas_length (p ∷ ps) = let a = both_parts (param_text p) (behind_commas (map param_text ps)) 1 (length ps) (param_length p) (commas_length ps) in omega arith

pub params_length : (ps : List CParam) → length ps ≤ length (params_text ps)
params_length [] = omega arith
params_length (p ∷ ps) = let a = both_parts (param_text p) (behind_commas (map param_text ps)) 1 (length ps) (param_length p) (commas_length ps) in omega arith

head_length : (f : t.Fun) → length f.params ≤ length (head_text f)
head_length f = fifth (codes "static ") (type_text f.result) (function_name f.name) (codes "(") (params_text f.params) (codes ")") (length f.params) (params_length f.params)

pub fun_length : (f : t.Fun) → length f.params + all_counted f.body ≤ length (fun_text f)
fun_length f =
    let first = line 0 (head_text f ∷ codes " {" ∷ []) in
    let last = line 0 (codes "}" ∷ []) in
    let a = le_trans (head_length f) (in_front (head_text f) (codes " {\n")) in
    let b = le_trans (all_counted_length 1 f.body) (in_front (stmts_text 1 f.body) last) in
    both_parts first (stmts_text 1 f.body ++ last) (length f.params) (all_counted f.body) a b

-- ---- programs

abbrev pub Short : ℕ → t.Fun → Type 0
Short limit f = length f.params + all_counted f.body ≤ limit

short_funs : (limit : ℕ) (fs : List t.Fun) → length (flat_map fun_text fs) ≤ limit → AllByRecursion (Short limit) fs
short_funs limit [] h = tt
short_funs limit (f ∷ fs) h =
    let a = fun_length f in
    let b = length-append (fun_text f) (flat_map fun_text fs) in
    (omega arith, short_funs limit fs (omega arith))

pub short_program : (p : t.Program) → AllByRecursion (Short (length (program_text p))) p.funs
unfolding program_text
short_program p =
    let funs = flat_map fun_text p.funs in
    short_funs (length (program_text p)) p.funs
    (fifth prelude (flat_map struct_text p.structs) (flat_map prototype_text p.funs) (flat_map starter_text (filter (is_started p.funs) p.funs)) funs main_text (length funs) (le_refl (length funs)))
