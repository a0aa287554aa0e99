-- The text of statements. A statement's text begins with its first word and ends with its last sign; the block in which it
-- stands indents it and ends its line.
use Rattle.std.specs.Prelude.{ℕ, ◌+◌, Bool, true, false, List, [], ◌∷◌, ◌++◌, map, codes, Option, Some, None}
use Rattle.std.specs.Fmt.{signed_decimal}
use Rattle.pl_syntax.specs.declared.stmt.Hint.{Hint}
use Rattle.pl_syntax.specs.declared.stmt.HintTerm.{HintTerm}
use Rattle.pl_print.specs.Lists.{joined, separated, commas, indent}
use Rattle.pl_print.specs.ExprText.{value_text, sum_text, cell_text, call_text, instance_text, label_text, binders_text}
use Rattle.pl_print.specs.PropText.{whole_prop_text}
use Rattle.pl_syntax.specs.Tree as t
use Rattle.pl_syntax.specs.Tree.{Name, Prop, Init, Key, Stmt, Stmts, Braced, Else}

-- pieces and a semicolon
abbrev pub ended : List (List ℕ) → List ℕ
ended pieces = joined pieces (codes ";")

-- what binds x to what the pieces spell
abbrev pub binding : Name → List (List ℕ) → List ℕ
binding x pieces = ended (codes "let " ∷ x ∷ codes " = " ∷ pieces)

-- the same of a ghost name
abbrev pub ghost_binding : Name → List (List ℕ) → List ℕ
ghost_binding x pieces = ended (codes "let ghost " ∷ x ∷ codes " = " ∷ pieces)

-- a load
abbrev pub load_text : Name → t.CellExpr → Bool → List ℕ
load_text x cell false = binding x (codes "!" ∷ cell_text cell ∷ [])
load_text x cell true = ghost_binding x (codes "!" ∷ cell_text cell ∷ [])

-- the first value of a field
abbrev pub init_text : Init → List ℕ
init_text i = i.name ++ codes ": " ++ value_text i.value

-- a call, whose result may be bound
abbrev pub called_text : Option Name → Name → List t.Expr → List ℕ
called_text None f args = ended (call_text f args ∷ [])
called_text (Some x) f args = binding x (call_text f args ∷ [])

-- what is shared or gathered
abbrev pub key_text : Key → List ℕ
key_text (t.Cell cell) = cell_text cell
key_text (t.Range a lo hi) =
    joined (codes "slice(" ∷ value_text a ∷ codes ", " ∷ value_text lo ∷ codes ", " ∷ value_text hi ∷ []) (codes ")")

-- a fact by its label, times a number
abbrev pub term_text : HintTerm → List ℕ
term_text h = signed_decimal h.times ++ codes " * " ++ h.label

-- the facts from which an assertion follows
abbrev pub hint_text : Option Hint → List ℕ
hint_text None = []
hint_text (Some h) = codes " by " ++ separated (codes " + ") (map term_text h.terms)

-- the test of a loop, and what the loop keeps
unfoldable pub kept_text : t.Expr → Prop → List ℕ
kept_text e kept = joined (value_text e ∷ codes ") invariant " ∷ whole_prop_text kept ∷ []) (codes " ")

-- what stands before a block that opens an invariant
unfoldable pub opening_text : Name → List ℕ
opening_text name = joined (codes "with_invariants " ∷ name ∷ []) (codes " ")

-- what holds behind a block
abbrev pub after_text : Option Prop → List ℕ
after_text None = []
after_text (Some p) = joined (codes " ensures " ∷ whole_prop_text p ∷ []) (codes ";")

abbrev mutual
  -- a statement that stands n levels deep
  pub stmt_text : ℕ → Stmt → List ℕ
  stmt_text n (t.Let at x e) = binding x (value_text e ∷ [])
  stmt_text n (t.Load at x cell is_ghost) = load_text x cell is_ghost
  stmt_text n (t.Store at cell e) = ended (cell_text cell ∷ codes " := " ∷ value_text e ∷ [])
  stmt_text n (t.Alloc at x e) = binding x (codes "alloc(" ∷ value_text e ∷ codes ")" ∷ [])
  stmt_text n (t.AllocArray at x e count) = binding x (codes "alloc_array(" ∷ value_text e ∷ codes ", " ∷ value_text count ∷ codes ")" ∷ [])
  stmt_text n (t.AllocAtomic at x e) = binding x (codes "alloc_atomic(" ∷ value_text e ∷ codes ")" ∷ [])
  stmt_text n (t.New at x structure inits) = binding x (codes "new " ∷ structure ∷ codes " { " ∷ commas (map init_text inits) ∷ codes " }" ∷ [])
  stmt_text n (t.Free at base) = ended (codes "free(" ∷ base ∷ codes ")" ∷ [])
  stmt_text n (t.FreeArray at base) = ended (codes "free_array(" ∷ base ∷ codes ")" ∷ [])
  stmt_text n (t.AtomicRead at x base) = binding x (codes "atomic_read(" ∷ base ∷ codes ")" ∷ [])
  stmt_text n (t.AtomicWrite at base e) = ended (codes "atomic_write(" ∷ base ∷ codes ", " ∷ value_text e ∷ codes ")" ∷ [])
  stmt_text n (t.Cas at x base old new) =
      binding x (codes "cas(" ∷ base ∷ codes ", " ∷ value_text old ∷ codes ", " ∷ value_text new ∷ codes ")" ∷ [])
  stmt_text n (t.NewLock at x i) = binding x (codes "new_lock(" ∷ instance_text i ∷ codes ")" ∷ [])
  stmt_text n (t.Acquire at lock) = ended (codes "acquire(" ∷ lock ∷ codes ")" ∷ [])
  stmt_text n (t.Release at lock) = ended (codes "release(" ∷ lock ∷ codes ")" ∷ [])
  stmt_text n (t.FreeLock at lock) = ended (codes "free_lock(" ∷ lock ∷ codes ")" ∷ [])
  stmt_text n (t.Read at x) = binding x (codes "read()" ∷ [])
  stmt_text n (t.Print at e) = ended (codes "print(" ∷ value_text e ∷ codes ")" ∷ [])
  stmt_text n (t.Call at x f args) = called_text x f args
  stmt_text n (t.Par at f args g others) = ended (codes "par " ∷ call_text f args ∷ codes ", " ∷ call_text g others ∷ [])
  stmt_text n (t.If at e first second after) =
      joined (codes "if (" ∷ value_text e ∷ codes ") " ∷ block_text n first ∷ else_text n second ∷ []) (after_text after)
  stmt_text n (t.While at loads e kept body) =
      joined (codes "while (" ∷ loads_text n loads ∷ kept_text e kept ∷ []) (block_text n body)
  stmt_text n (t.LetMut at x e) = ended (codes "let mut " ∷ x ∷ codes " = " ∷ value_text e ∷ [])
  stmt_text n (t.Return at e) = ended (codes "return " ∷ value_text e ∷ [])
  stmt_text n (t.With at name body after) = joined (opening_text name ∷ block_text n body ∷ []) (after_text after)
  stmt_text n (t.GLet at x e) = ghost_binding x (value_text e ∷ [])
  stmt_text n (t.GAlloc at x e) = ghost_binding x (codes "galloc(" ∷ value_text e ∷ codes ")" ∷ [])
  stmt_text n (t.NewInv at x i) = ghost_binding x (codes "new_invariant(" ∷ instance_text i ∷ codes ")" ∷ [])
  stmt_text n (t.Fold at i) = ended (codes "fold " ∷ instance_text i ∷ [])
  stmt_text n (t.Unfold at i) = ended (codes "unfold " ∷ instance_text i ∷ [])
  stmt_text n (t.Rewrite at p q) = ended (codes "rewrite " ∷ whole_prop_text p ∷ codes " as " ∷ whole_prop_text q ∷ [])
  stmt_text n (t.Share at key) = ended (codes "share " ∷ key_text key ∷ [])
  stmt_text n (t.Gather at key) = ended (codes "gather " ∷ key_text key ∷ [])
  stmt_text n (t.Split at a lo hi m) =
      ended (codes "split slice(" ∷ value_text a ∷ codes ", " ∷ value_text lo ∷ codes ", " ∷ value_text hi ∷ codes ") at " ∷ value_text m ∷ [])
  stmt_text n (t.Join at a lo m hi) =
      ended (codes "join slice(" ∷ value_text a ∷ codes ", " ∷ value_text lo ∷ codes ", " ∷ value_text m ∷ codes ", " ∷ value_text hi ∷ codes ")" ∷ [])
  stmt_text n (t.Focus at base index) = ended (codes "focus " ∷ base ∷ codes "[" ∷ sum_text index ∷ codes "]" ∷ [])
  stmt_text n (t.Unfocus at base index) = ended (codes "unfocus " ∷ base ∷ codes "[" ∷ sum_text index ∷ codes "]" ∷ [])
  stmt_text n (t.Assert at label e hint) = ended (codes "assert " ∷ label_text label ∷ value_text e ∷ hint_text hint ∷ [])
  stmt_text n (t.WithAssert at binders p) = ended (codes "with " ∷ binders_text binders ∷ codes " . assert " ∷ whole_prop_text p ∷ [])
  stmt_text n (t.Drop at p) = ended (codes "drop_ " ∷ whole_prop_text p ∷ [])

  -- loads in the head of a loop, each before a blank
  pub loads_text : ℕ → Stmts → List ℕ
  loads_text n t.end = []
  loads_text n (t.more s rest) = stmt_text n s ++ codes " " ++ loads_text n rest

  -- statements, each on lines of its own
  pub lines_text : ℕ → Stmts → List ℕ
  lines_text n t.end = []
  lines_text n (t.more s rest) = indent n ++ stmt_text n s ++ codes "\n" ++ lines_text n rest

  -- a block behind a text that stands n levels deep: its opening brace ends a line, and its closing brace begins one
  pub block_text : ℕ → Braced → List ℕ
  block_text n (t.braces list close) = codes "{\n" ++ lines_text (n + 1) list ++ indent n ++ codes "}"

  -- the second block of an `if`
  pub else_text : ℕ → Else → List ℕ
  else_text n t.no_else = []
  else_text n (t.else second) = codes " else " ++ block_text n second
