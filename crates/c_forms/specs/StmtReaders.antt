-- Readers of statements.
use Rattle.std.specs.Prelude.{ℕ, zero, suc, ◌+◌, ◌&&◌, ◌==◌, Bool, true, false, List, [], ◌∷◌, ◌++◌, codes}
use Rattle.c_syntax.specs.Text.{indent}
use Rattle.c_syntax.specs.declared.kind.CType.{CType}
use Rattle.c_syntax.specs.declared.kind.CType.TheVariants as kind
use Rattle.pl_readers.specs.Bytes.{is}
use Rattle.pl_readers.specs.Reader.{Reader, next, either, nothing, mapped, repeat}
use Rattle.c_forms.specs.declared.word.Local.{Local}
use Rattle.c_forms.specs.declared.stmt.Maker.TheVariants as maker
use Rattle.c_forms.specs.Reading.{after, ended_by, both, just, Step, on, done, until}
use Rattle.c_forms.specs.Names.{name}
use Rattle.c_forms.specs.ExprReaders.{decimal_number, local_tail, local, i64_tail, bool_type, struct_type, other_type, int, plain, expr, cell_behind, cell, call}
use Rattle.c_forms.specs.Tree as t
use Rattle.c_forms.specs.Tree.{Name, Expr, Cell, Right, LoadLine, Argument, ParLines, Stmt, Stmts}
use Rattle.c_forms.specs.Plain.{chain}

-- ---- lines that bind a local

abbrev pub is_i64 : CType → Bool
is_i64 kind.I64 = true
is_i64 _ = false

abbrev pub is_bool : CType → Bool
is_bool kind.Bool = true
is_bool _ = false

-- the end of a right side that begins with a local
unfoldable pub right_behind : Local → Reader ℕ Right
right_behind x =
    either (is 91) (mapped (λ e. t.Load (t.At x e)) (after (codes "[") (ended_by expr (codes "]"))))
    (either (is 45) (mapped (λ m. t.Load (t.Field x m)) (after (codes "->m_") name)) (nothing (t.Value (t.Var x))))

-- a call or `false`
unfoldable pub right_f : Reader ℕ Right
right_f = after (codes "f") (either (is 95) (mapped (λ p. t.Call p.0 p.1) (after (codes "_") call)) (just (t.Value (t.Truth false)) (codes "alse")))

-- what makes a block of one cell, behind `p_`
unfoldable pub right_new : Reader ℕ Right
right_new =
    after (codes "new_")
    (either (is 105) (mapped (t.New maker.I64) (after (codes "i64(") (ended_by expr (codes ")"))))
    (either (is 98) (mapped (t.New maker.Bool) (after (codes "bool(") (ended_by expr (codes ")")))) (mapped (t.New maker.Atomic) (after (codes "atomic(") (ended_by expr (codes ")"))))))

-- an array, behind `p_`
unfoldable pub right_array : Reader ℕ Right
right_array = mapped (λ p. t.Array p.0 p.1) (after (codes "array(") (both expr (after (codes ", ") (ended_by expr (codes ")")))))

-- a compare-and-swap, behind `p_`
unfoldable pub right_cas : Reader ℕ Right
right_cas = mapped (λ p. t.Cas p.0 p.1.0 p.1.1) (after (codes "cas(") (both local (after (codes ", ") (both expr (after (codes ", ") (ended_by expr (codes ")")))))))

-- what a function of the prelude gives, where the local is of this type
unfoldable pub right_p : CType → Reader ℕ Right
right_p type =
    after (codes "p_")
    (either (is 110) right_new
    (either (is 97) right_array
    (either (is 103) (mapped t.Structure (after (codes "get(sizeof(struct s_") (ended_by name (codes "))"))))
    (either (λ c. is_i64 type && (c == 114)) (just t.Read (codes "read()"))
    (either (λ c. is_bool type && (c == 99)) right_cas (just t.Lock (codes "lock_new()")))))))

-- a value, or a cell that begins with a local
unfoldable pub right_value : Reader ℕ Right
right_value = either (is 118) (next local right_behind) (mapped t.Value (either (is 73) int (plain 128)))

-- an atomic load
unfoldable pub right_atomic : Reader ℕ Right
right_atomic = mapped t.AtomicLoad (after (codes "atomic_load(") (ended_by local (codes ")")))

-- what stands behind the `=` of a local of this type
unfoldable pub right : CType → Reader ℕ Right
right type =
    either (is 42) (mapped (λ x. t.Load (t.Whole x)) (after (codes "*") local))
    (either (is 102) right_f
    (either (is 112) (right_p type)
    (either (λ c. is_i64 type && (c == 97)) right_atomic right_value)))

-- the local of this type that a line binds, and its right side
abbrev pub bound_parts : CType → Reader ℕ (Local × Right)
bound_parts type = both local (after (codes " = ") (ended_by (right type) (codes ";\n")))

-- a line that binds a local of this type, behind the type
abbrev pub bound : CType → Reader ℕ Stmt
bound type = mapped (λ p. t.Bind type p.0 p.1) (bound_parts type)

-- a line that binds a local, where P reads its type
unfoldable pub bind : Reader ℕ CType → Reader ℕ Stmt
bind P = next P bound

-- ---- other lines

-- what is stored in a cell
unfoldable pub stored : Reader ℕ Expr
stored = after (codes " = ") (ended_by expr (codes ";\n"))

-- a store behind the `v` of its cell
unfoldable pub store_local : Reader ℕ Stmt
store_local = mapped (λ p. t.Store p.0 p.1) (both (next (after (codes "_") local_tail) cell_behind) stored)

-- a store through a pointer to one cell
unfoldable pub store_whole : Reader ℕ Stmt
store_whole = mapped (λ p. t.Store (t.Whole p.0) p.1) (after (codes "*") (both local stored))

-- a line that begins with `v`
unfoldable pub line_v : Reader ℕ Stmt
line_v = after (codes "v") (either (is 95) store_local (bind (just kind.Void (codes "oid "))))

-- an acquire, or a line that binds a pointer to an atomic, behind its `p_`
unfoldable pub line_pa : Reader ℕ Stmt
line_pa = after (codes "a") (either (is 99) (mapped t.Acquire (after (codes "cquire(") (ended_by local (codes ");\n")))) (bind (just kind.PtrAtomic (codes "tomic *"))))

-- a line that begins with `p_`
unfoldable pub line_p : Reader ℕ Stmt
line_p =
    after (codes "p_")
    (either (is 112) (mapped t.Print (after (codes "print(") (ended_by expr (codes ");\n"))))
    (either (is 114) (mapped t.Release (after (codes "release(") (ended_by local (codes ");\n")))) line_pa))

-- a call or a free
unfoldable pub line_f : Reader ℕ Stmt
line_f =
    after (codes "f")
    (either (is 95) (mapped (λ p. t.CallStmt p.0 p.1) (after (codes "_") (ended_by call (codes ";\n"))))
    (mapped t.Free (after (codes "ree(") (ended_by local (codes ");\n")))))

-- a value behind a comma, at the end of a line
abbrev pub last_value : Reader ℕ Expr
last_value = after (codes ", ") (ended_by expr (codes ");\n"))

-- a local and a value behind a comma, at the end of a line
unfoldable pub last_pair : Reader ℕ (Local × Expr)
last_pair = both local last_value

-- an atomic store
unfoldable pub line_a : Reader ℕ Stmt
line_a = mapped (λ p. t.AtomicStore p.0 p.1) (after (codes "atomic_store(") last_pair)

-- a return
unfoldable pub line_r : Reader ℕ Stmt
line_r = mapped t.Return (after (codes "return ") (ended_by expr (codes ";\n")))

-- ---- blocks

-- a statement one level below n, which P reads behind its indentation, with the indentation of level n behind it
unfoldable pub row : ℕ → Reader ℕ Stmt → Reader ℕ Stmt
row n P = after (codes "  ") (ended_by P (indent n))

-- any number of these, with the indentation of level n in front
unfoldable pub rows : ℕ → Reader ℕ Stmt → Reader ℕ (List Stmt)
rows n P = after (indent n) (repeat (is 32) (row n P))

-- an `if` behind its `i`, n levels deep
unfoldable pub branch : ℕ → Reader ℕ Stmt → Reader ℕ Stmt
branch n P =
    mapped (λ p. t.If p.0 (chain p.1.0) (chain p.1.1))
    (after (codes "f (") (both (ended_by expr (codes ") {\n")) (both (ended_by (rows n P) (codes "} else {\n")) (ended_by (rows n P) (codes "}\n")))))

-- a load of a local of this type, behind the type
unfoldable pub load_behind : CType → Reader ℕ LoadLine
load_behind type = mapped (λ p. record { kind = type; local = p.0; cell = p.1 }) (both local (after (codes " = ") (ended_by cell (codes ";\n"))))

-- a load, where P reads its type
abbrev pub load : Reader ℕ CType → Reader ℕ LoadLine
load P = next P load_behind

-- a load of a type that does not begin with `i`
unfoldable pub other_load : Reader ℕ LoadLine
other_load = either (is 118) (load (just kind.Void (codes "void "))) (load other_type)

-- the test of a loop behind its `i`, n levels deep
unfoldable pub loop_test : ℕ → Reader ℕ Expr
loop_test n = after (codes "f (!") (ended_by (ended_by (ended_by (ended_by (ended_by expr (codes ") {\n")) (indent (n + 1))) (codes "break;\n")) (indent n)) (codes "}\n"))

-- a line of the head of a loop behind its indentation, n levels deep: a load, or the test
unfoldable pub head_line : ℕ → Reader ℕ (Step LoadLine Expr)
head_line n =
    either (is 105) (after (codes "i") (either (is 102) (mapped done (loop_test n)) (mapped on (load i64_tail))))
    (mapped on other_load)

-- behind these loads comes one more, or the test
abbrev pub behind_loads : List LoadLine → Step LoadLine Expr → Step (List LoadLine) (List LoadLine × Expr)
behind_loads loads (on l) = on (loads ++ l ∷ [])
behind_loads loads (done e) = done (loads, e)

-- one line more of the head of a loop behind these loads
unfoldable pub head_step : ℕ → List LoadLine → Reader ℕ (Step (List LoadLine) (List LoadLine × Expr))
head_step n loads = mapped (behind_loads loads) (after (indent n) (head_line n))

-- a loop, n levels deep
unfoldable pub loop_heads : ℕ → Reader ℕ (List LoadLine × Expr)
loop_heads n = until (head_step n) []

unfoldable pub while_lines : ℕ → Reader ℕ Stmt → Reader ℕ Stmt
while_lines n P =
    mapped (λ p. t.While p.0.0 p.0.1 (chain p.1))
    (after (codes "while (1) {\n") (both (loop_heads (n + 1)) (ended_by (rows n P) (codes "}\n"))))

-- a line that hands an argument over
unfoldable pub argument : Reader ℕ Argument
argument = mapped (λ p. record { number = p.0; value = p.1 }) (after (codes "q->a_") (both decimal_number stored))

-- the same with the indentation of the line behind it
unfoldable pub argument_row : ℕ → Reader ℕ Argument
argument_row n = ended_by argument (indent n)

-- these lines n levels deep, with the indentation of the line behind them
unfoldable pub arguments : ℕ → Reader ℕ (List Argument)
arguments n = after (indent n) (repeat (is 113) (argument_row n))

-- the first line of a `par`: the names of its structure
unfoldable pub par_names : Reader ℕ (Name × Name)
par_names = after (codes "struct a_") (both name (after (codes " *q = p_get(sizeof(struct a_") (ended_by name (codes "));\n"))))

-- the line of a `par` that makes the thread, with the indentation of the line behind it, n levels deep
unfoldable pub par_fork : ℕ → Reader ℕ Name
par_fork n = after (codes "thrd_t t = p_fork(t_") (ended_by (ended_by name (codes ", q);\n")) (indent n))

-- the last lines of a `par`, n levels deep: the other call
unfoldable pub par_second : ℕ → Reader ℕ (Name × List Expr)
par_second n = ended_by (ended_by (ended_by call (codes ";\n")) (indent (n + 1))) (codes "p_join(t);\n")

unfoldable pub par_call : ℕ → Reader ℕ (Name × List Expr)
par_call n = after (codes "f_") (ended_by (ended_by (par_second n) (indent n)) (codes "}\n"))

-- the bracketed lines of a `par`, n levels deep
unfoldable pub par : ℕ → Reader ℕ Stmt
par n =
    mapped (λ p. t.Par (record { structure = p.0.0; size = p.0.1; arguments = p.1.0; starter = p.1.1.0; other = p.1.1.1.0; others = p.1.1.1.1 }))
    (after (codes "{\n") (after (indent (n + 1)) (both par_names (both (arguments (n + 1))
    (both (par_fork (n + 1)) (par_call n))))))

-- a line that begins with `i`, where no block may stand
unfoldable pub plain_i : Reader ℕ Stmt
plain_i = after (codes "i") (bind i64_tail)

-- the same, n levels deep, where P reads statements one level below
unfoldable pub block_i : ℕ → Reader ℕ Stmt → Reader ℕ Stmt
block_i n P = after (codes "i") (either (is 102) (branch n P) (bind i64_tail))

-- a loop, a `par` or a return
unfoldable pub block_or_return : ℕ → Reader ℕ Stmt → Reader ℕ Stmt
block_or_return n P = either (is 119) (while_lines n P) (either (is 123) (par n) line_r)

-- a statement behind its indentation, where I reads those that begin with `i` and K reads blocks and returns
unfoldable pub stmt_of : Reader ℕ Stmt → Reader ℕ Stmt → Reader ℕ Stmt
stmt_of I K =
    either (is 105) I
    (either (is 98) (bind bool_type)
    (either (is 115) (bind struct_type)
    (either (is 118) line_v
    (either (is 112) line_p
    (either (is 102) line_f
    (either (is 97) line_a
    (either (is 42) store_whole K)))))))

-- a statement that begins with `i`, n levels deep, in which blocks nest to r, where P reads statements one level below
unfoldable pub begun_i : ℕ → ℕ → (ℕ → Reader ℕ Stmt) → Reader ℕ Stmt
begun_i zero n P = plain_i
begun_i (suc r) n P = block_i n (P r)

-- one that begins with no byte of a line but a return
unfoldable pub begun_otherwise : ℕ → ℕ → (ℕ → Reader ℕ Stmt) → Reader ℕ Stmt
begun_otherwise zero n P = line_r
begun_otherwise (suc r) n P = block_or_return n (P r)

-- a statement, n levels deep, in which blocks nest to r
unfoldable pub stmt : ℕ → ℕ → Reader ℕ Stmt
stmt zero n = stmt_of plain_i line_r
stmt (suc r) n = stmt_of (block_i n (stmt r (n + 1))) (block_or_return n (stmt r (n + 1)))
