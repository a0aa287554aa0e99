-- The text of what is written of expressions and statements is their own text.
use Rattle.std.proofs.Common.{◌≡◌, ◌∙◌, sym, ap, refl, ℕ, ◌+◌, List, [], ◌∷◌, ◌++◌, map, append_assoc}
use Rattle.std.specs.Prelude.{codes, flat_map}
use Rattle.c_syntax.specs.declared.kind.CType.{CType}
use Rattle.c_syntax.specs.declared.kind.CType.TheVariants as kind
use Rattle.c_syntax.specs.declared.kind.Local as plain
use Rattle.c_syntax.specs.Forms.{AreLoads, AreStmtForms, IsStmtForm}
use Rattle.c_syntax.specs.Text.{commas, indent, joined, line, local_text, mangled_name, operator, statement, struct_name, type_text}
use Rattle.c_syntax.specs.Text as text
use Rattle.c_syntax.specs.Tree as t
use Rattle.c_syntax.specs.Tree.{Name}
use Rattle.c_forms.specs.declared.stmt.Maker.TheVariants as maker
use Rattle.c_forms.specs.declared.word.Number.TheVariants.{Small}
use Rattle.c_forms.specs.Text as written_text
use Rattle.c_forms.specs.Tree as w
use Rattle.c_reader.proofs.Written as written

-- ---- pieces

-- the last piece is made of pieces itself
flat : (indent a b : List ℕ) (pieces : List (List ℕ)) (end last : List ℕ) →
    indent ++ joined (a ∷ b ∷ codes " = " ∷ joined pieces end ∷ []) last ≡ indent ++ joined (a ∷ b ∷ codes " = " ∷ (pieces ++ (end ∷ []))) last
flat indent a b pieces end last = ap (λ (x : List ℕ). indent ++ (a ++ (b ++ (codes " = " ++ x)))) (inside pieces)
  where
    inside : (ps : List (List ℕ)) → joined ps end ++ last ≡ joined (ps ++ (end ∷ [])) last
    inside [] = refl
    inside (p ∷ ps) = append_assoc p (joined ps end) last ∙ ap (λ (x : List ℕ). p ++ x) (inside ps)

-- ---- expressions and cells

pub expr_same : (e : t.Expr) → written_text.expr_text (written.expr e) ≡ text.expr_text e
expr_same (t.Int n) = refl
expr_same (t.Truth b) = refl
expr_same t.Null = refl
expr_same (t.Var x) = refl
expr_same (t.Neg e) = ap (λ (x : List ℕ). codes "(-" ++ x ++ codes ")") (expr_same e)
expr_same (t.Not e) = ap (λ (x : List ℕ). codes "(!" ++ x ++ codes ")") (expr_same e)
expr_same (t.Bin op a b) =
    ap (λ (x : List ℕ). codes "(" ++ x ++ operator op ++ written_text.expr_text (written.expr b) ++ codes ")") (expr_same a)
    ∙ ap (λ (x : List ℕ). codes "(" ++ text.expr_text a ++ operator op ++ x ++ codes ")") (expr_same b)

exprs_same : (es : List t.Expr) → map written_text.expr_text (map written.expr es) ≡ map text.expr_text es
exprs_same [] = refl
exprs_same (e ∷ es) =
    ap (λ (x : List ℕ). x ∷ map written_text.expr_text (map written.expr es)) (expr_same e) ∙ ap (λ (xs : List (List ℕ)). text.expr_text e ∷ xs) (exprs_same es)

pub call_same : (f : Name) (args : List t.Expr) → written_text.call_text f (map written.expr args) ≡ text.call_text f args
call_same f args = ap (λ (xs : List (List ℕ)). text.function_name f ++ codes "(" ++ commas xs ++ codes ")") (exprs_same args)

pub cell_same : (c : t.Cell) → written_text.cell_text (written.cell c) ≡ text.cell_text c
cell_same (t.Whole base) = refl
cell_same (t.At base index) = ap (λ (x : List ℕ). local_text base ++ codes "[" ++ x ++ codes "]") (expr_same index)
cell_same (t.Field base member) = refl

-- ---- lines

pub both : {a b c d : List ℕ} → a ≡ b → c ≡ d → a ++ c ≡ b ++ d
both {b = b} {c = c} h k = ap (λ (x : List ℕ). x ++ c) h ∙ ap (λ (x : List ℕ). b ++ x) k

-- lines with other pieces
lines_of : (n : ℕ) (f : List ℕ → List (List ℕ)) {a b : List ℕ} → a ≡ b → statement n (f a) ≡ statement n (f b)
lines_of n f h = ap (λ (x : List ℕ). statement n (f x)) h

maker_same : (type : CType) → written_text.maker_text (written.maker_of type) ≡ text.maker type
maker_same kind.Void = refl
maker_same kind.I64 = refl
maker_same kind.Bool = refl
maker_same kind.PtrI64 = refl
maker_same kind.PtrBool = refl
maker_same (kind.PtrStruct s) = refl
maker_same kind.PtrAtomic = refl
maker_same kind.PtrLock = refl

-- a line that binds a local
bind_same : (n : ℕ) (type : CType) (x : plain.Local) (pieces : List (List ℕ)) (end : List ℕ) →
    statement n (type_text type ∷ local_text x ∷ codes " = " ∷ joined pieces end ∷ []) ≡ text.binding n type x (pieces ++ (end ∷ []))
bind_same n type x pieces end = flat (indent n) (type_text type) (local_text x) pieces end (codes ";\n")

load_same : (n : ℕ) (type : CType) (x : plain.Local) (c : t.Cell) →
    written_text.load_text n (record { kind = type; local = written.local x; cell = written.cell c }) ≡ text.stmt_text n (t.Load type x c)
load_same n type x c = lines_of n (λ s. type_text type ∷ local_text x ∷ codes " = " ∷ s ∷ []) (cell_same c)

loads_same : (n : ℕ) (ls : t.Stmts) → AreLoads ls → flat_map (written_text.load_text n) (written.loads ls) ≡ text.stmts_text n ls
loads_same n t.end h = refl
loads_same n (t.more (t.Load type x c) rest) h = both (load_same n type x c) (loads_same n rest h)
loads_same n (t.more _ rest) h = absurd h

init_same : (n : ℕ) (x : plain.Local) (i : t.Init) → written_text.stmt_text n (w.Store (w.Field (written.local x) i.name) (written.expr i.value)) ≡ text.init_text n x i
init_same n x i = lines_of n (λ s. text.cell_text (t.Field x i.name) ∷ codes " = " ∷ s ∷ []) (expr_same i.value)

inits_same : (n : ℕ) (x : plain.Local) (is : List t.Init) (rest : w.Stmts) →
    written_text.stmts_text n (written.inits x is rest) ≡ flat_map (text.init_text n x) is ++ written_text.stmts_text n rest
inits_same n x [] rest = refl
inits_same n x (i ∷ is) rest =
    both (init_same n x i) (inits_same n x is rest) ∙ sym (append_assoc (text.init_text n x i) (flat_map (text.init_text n x) is) (written_text.stmts_text n rest))

argument_same : (n k : ℕ) (e : t.Expr) →
    written_text.argument_text n (record { number = Small k; value = written.expr e }) ≡ statement n (codes "q->" ∷ text.argument_name k ∷ codes " = " ∷ text.expr_text e ∷ [])
argument_same n k e = lines_of n (λ s. codes "q->" ∷ text.argument_name k ∷ codes " = " ∷ s ∷ []) (expr_same e)

arguments_same : (n k : ℕ) (es : List t.Expr) → flat_map (written_text.argument_text n) (written.arguments k es) ≡ text.argument_lines n k es
arguments_same n k [] = refl
arguments_same n k (e ∷ es) = both (argument_same n k e) (arguments_same n (k + 1) es)

-- ---- statements

new_same : (n : ℕ) (type : CType) (x : plain.Local) (e : t.Expr) →
    written_text.stmt_text n (w.Bind type (written.local x) (w.New (written.maker_of type) (written.expr e))) ≡ text.stmt_text n (t.New type x e)
new_same n type x e =
    bind_same n type x (written_text.maker_text (written.maker_of type) ∷ written_text.expr_text (written.expr e) ∷ []) (codes ")")
    ∙ lines_of n (λ s. type_text type ∷ local_text x ∷ codes " = " ∷ s ∷ written_text.expr_text (written.expr e) ∷ codes ")" ∷ []) (maker_same type)
    ∙ lines_of n (λ s. type_text type ∷ local_text x ∷ codes " = " ∷ text.maker type ∷ s ∷ codes ")" ∷ []) (expr_same e)

array_same : (n : ℕ) (type : CType) (x : plain.Local) (e count : t.Expr) →
    written_text.stmt_text n (w.Bind type (written.local x) (w.Array (written.expr e) (written.expr count))) ≡ text.stmt_text n (t.NewArray type x e count)
array_same n type x e count =
    bind_same n type x (codes "p_array(" ∷ written_text.expr_text (written.expr e) ∷ codes ", " ∷ written_text.expr_text (written.expr count) ∷ []) (codes ")")
    ∙ lines_of n (λ s. type_text type ∷ local_text x ∷ codes " = " ∷ codes "p_array(" ∷ s ∷ codes ", " ∷ written_text.expr_text (written.expr count) ∷ codes ")" ∷ []) (expr_same e)
    ∙ lines_of n (λ s. type_text type ∷ local_text x ∷ codes " = " ∷ codes "p_array(" ∷ text.expr_text e ∷ codes ", " ∷ s ∷ codes ")" ∷ []) (expr_same count)

atomic_same : (n : ℕ) (x : plain.Local) (e : t.Expr) →
    written_text.stmt_text n (w.Bind kind.PtrAtomic (written.local x) (w.New maker.Atomic (written.expr e))) ≡ text.stmt_text n (t.NewAtomic x e)
atomic_same n x e =
    bind_same n kind.PtrAtomic x (codes "p_new_atomic(" ∷ written_text.expr_text (written.expr e) ∷ []) (codes ")")
    ∙ lines_of n (λ s. type_text kind.PtrAtomic ∷ local_text x ∷ codes " = " ∷ codes "p_new_atomic(" ∷ s ∷ codes ")" ∷ []) (expr_same e)

cas_same : (n : ℕ) (x base : plain.Local) (old new : t.Expr) →
    written_text.stmt_text n (w.Bind kind.Bool (written.local x) (w.Cas (written.local base) (written.expr old) (written.expr new))) ≡ text.stmt_text n (t.Cas x base old new)
cas_same n x base old new =
    bind_same n kind.Bool x (codes "p_cas(" ∷ local_text base ∷ codes ", " ∷ written_text.expr_text (written.expr old) ∷ codes ", " ∷ written_text.expr_text (written.expr new) ∷ []) (codes ")")
    ∙ lines_of n (λ s. type_text kind.Bool ∷ local_text x ∷ codes " = " ∷ codes "p_cas(" ∷ local_text base ∷ codes ", " ∷ s ∷ codes ", " ∷ written_text.expr_text (written.expr new) ∷ codes ")" ∷ []) (expr_same old)
    ∙ lines_of n (λ s. type_text kind.Bool ∷ local_text x ∷ codes " = " ∷ codes "p_cas(" ∷ local_text base ∷ codes ", " ∷ text.expr_text old ∷ codes ", " ∷ s ∷ codes ")" ∷ []) (expr_same new)

structure_same : (n : ℕ) (x : plain.Local) (s : Name) (is : List t.Init) (rest : w.Stmts) →
    written_text.stmts_text n (written.lines (t.NewStruct x s is) rest) ≡ text.stmt_text n (t.NewStruct x s is) ++ written_text.stmts_text n rest
structure_same n x s is rest =
    let first = text.binding n (kind.PtrStruct s) x (codes "p_get(sizeof(" ∷ struct_name s ∷ codes "))" ∷ []) in
    both (bind_same n (kind.PtrStruct s) x (codes "p_get(sizeof(" ∷ struct_name s ∷ []) (codes "))")) (inits_same n x is rest)
    ∙ sym (append_assoc first (flat_map (text.init_text n x) is) (written_text.stmts_text n rest))

-- the lines of a `par`, but for its arguments and its call
par_lines : ℕ → Name → List ℕ → List ℕ → List ℕ
par_lines n f arguments call =
    joined (
    line n (codes "{" ∷ []) ∷
    statement (n + 1) (text.arguments_name f ∷ codes " *q = p_get(sizeof(" ∷ text.arguments_name f ∷ codes "))" ∷ []) ∷
    arguments ∷
    statement (n + 1) (codes "thrd_t t = p_fork(" ∷ text.starter_name f ∷ codes ", q)" ∷ []) ∷
    statement (n + 1) (call ∷ []) ∷
    statement (n + 1) (codes "p_join(t)" ∷ []) ∷ [])
    (line n (codes "}" ∷ []))

par_same : (n : ℕ) (f : Name) (args : List t.Expr) (g : Name) (others : List t.Expr) →
    written_text.par_text n (record { structure = f; size = f; arguments = written.arguments 1 args; starter = f; other = g; others = map written.expr others })
    ≡ text.stmt_text n (t.Par f args g others)
unfolding par_lines
par_same n f args g others =
    ap (λ (x : List ℕ). par_lines n f x (written_text.call_text g (map written.expr others))) (arguments_same (n + 1) 1 args)
    ∙ ap (λ (x : List ℕ). par_lines n f (text.argument_lines (n + 1) 1 args) x) (call_same g others)

-- the lines of an `if`
if_lines : ℕ → List ℕ → List ℕ → List ℕ → List ℕ
if_lines n e first second =
    joined (line n (codes "if (" ∷ e ∷ codes ") {" ∷ []) ∷ first ∷ line n (codes "} else {" ∷ []) ∷ second ∷ []) (line n (codes "}" ∷ []))

if_same : (n : ℕ) {e e' first first' second second' : List ℕ} → e ≡ e' → first ≡ first' → second ≡ second' → if_lines n e first second ≡ if_lines n e' first' second'
if_same n {e' = e'} {first = first} {first' = first'} {second = second} h k l =
    ap (λ (x : List ℕ). if_lines n x first second) h ∙ ap (λ (x : List ℕ). if_lines n e' x second) k ∙ ap (λ (x : List ℕ). if_lines n e' first' x) l

-- the lines of a loop
while_lines : ℕ → List ℕ → List ℕ → List ℕ → List ℕ
while_lines n loads e body =
    joined (
    line n (codes "while (1) {" ∷ []) ∷
    loads ∷
    line (n + 1) (codes "if (!" ∷ e ∷ codes ") {" ∷ []) ∷
    statement (n + 1 + 1) (codes "break" ∷ []) ∷
    line (n + 1) (codes "}" ∷ []) ∷
    body ∷ [])
    (line n (codes "}" ∷ []))

while_same : (n : ℕ) {loads loads' e e' body body' : List ℕ} → loads ≡ loads' → e ≡ e' → body ≡ body' → while_lines n loads e body ≡ while_lines n loads' e' body'
while_same n {loads' = loads'} {e = e} {e' = e'} {body = body} h k l =
    ap (λ (x : List ℕ). while_lines n x e body) h ∙ ap (λ (x : List ℕ). while_lines n loads' x body) k ∙ ap (λ (x : List ℕ). while_lines n loads' e' x) l

-- a line in front of others
front : {a b : List ℕ} (rest : List ℕ) → a ≡ b → a ++ rest ≡ b ++ rest
front rest h = ap (λ (x : List ℕ). x ++ rest) h

mutual
  unfolding if_lines while_lines

  pub stmt_same : (n : ℕ) (s : t.Stmt) (rest : w.Stmts) → IsStmtForm s → written_text.stmts_text n (written.lines s rest) ≡ text.stmt_text n s ++ written_text.stmts_text n rest
  stmt_same n (t.Let type x e) rest h = front _ (lines_of n (λ s. type_text type ∷ local_text x ∷ codes " = " ∷ s ∷ []) (expr_same e))
  stmt_same n (t.Load type x c) rest h = front _ (lines_of n (λ s. type_text type ∷ local_text x ∷ codes " = " ∷ s ∷ []) (cell_same c))
  stmt_same n (t.Store c e) rest h =
      front _ (lines_of n (λ s. s ∷ codes " = " ∷ written_text.expr_text (written.expr e) ∷ []) (cell_same c) ∙ lines_of n (λ s. text.cell_text c ∷ codes " = " ∷ s ∷ []) (expr_same e))
  stmt_same n (t.New type x e) rest h = front _ (new_same n type x e)
  stmt_same n (t.NewArray type x e count) rest h = front _ (array_same n type x e count)
  stmt_same n (t.NewAtomic x e) rest h = front _ (atomic_same n x e)
  stmt_same n (t.NewStruct x s is) rest h = structure_same n x s is rest
  stmt_same n (t.Free base) rest h = refl
  stmt_same n (t.AtomicLoad x base) rest h = front _ (bind_same n kind.I64 x (codes "atomic_load(" ∷ local_text base ∷ []) (codes ")"))
  stmt_same n (t.AtomicStore base e) rest h = front _ (lines_of n (λ s. codes "atomic_store(" ∷ local_text base ∷ codes ", " ∷ s ∷ codes ")" ∷ []) (expr_same e))
  stmt_same n (t.Cas x base old new) rest h = front _ (cas_same n x base old new)
  stmt_same n (t.NewLock x) rest h = refl
  stmt_same n (t.Acquire l) rest h = refl
  stmt_same n (t.Release l) rest h = refl
  stmt_same n (t.Read x) rest h = refl
  stmt_same n (t.Print e) rest h = front _ (lines_of n (λ s. codes "p_print(" ∷ s ∷ codes ")" ∷ []) (expr_same e))
  stmt_same n (t.Call f args) rest h = front _ (lines_of n (λ s. s ∷ []) (call_same f args))
  stmt_same n (t.CallLet type x f args) rest h = front _ (lines_of n (λ s. type_text type ∷ local_text x ∷ codes " = " ∷ s ∷ []) (call_same f args))
  stmt_same n (t.Par f args g others) rest h = front _ (par_same n f args g others)
  stmt_same n (t.If e first second) rest h = front _ (if_same n (expr_same e) (stmts_same (n + 1) first h.1) (stmts_same (n + 1) second h.2))
  stmt_same n (t.While ls e body) rest h = front _ (while_same n (loads_same (n + 1) ls h.0) (expr_same e) (stmts_same (n + 1) body h.3))
  stmt_same n (t.Return e) rest h = front _ (lines_of n (λ s. codes "return " ∷ s ∷ []) (expr_same e))

  pub stmts_same : (n : ℕ) (ts : t.Stmts) → AreStmtForms ts → written_text.stmts_text n (written.stmts ts) ≡ text.stmts_text n ts
  stmts_same n t.end h = refl
  stmts_same n (t.more s rest) h = stmt_same n s (written.stmts rest) h.0 ∙ ap (λ (x : List ℕ). text.stmt_text n s ++ x) (stmts_same n rest h.1)
