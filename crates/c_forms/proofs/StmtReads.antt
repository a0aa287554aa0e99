-- Statements are read right, level by level.
use Rattle.std.proofs.Common.{◌≡◌, inl, inr, ℕ, zero, suc, ◌+◌, ◌<◌, length, Ok, Err, List, [], ◌∷◌, ◌++◌, flat_map, refl, sym, ap, subst, ◌∙◌, append_assoc, add-one}
use Rattle.std.specs.Prelude.{⊤, codes}
use Rattle.std.specs.Char.{is_ascii_digit}
use Rattle.std.specs.List.{AllByRecursion}
use Rattle.std.proofs.lemmas.List.{append-nil}
use Rattle.c_syntax.specs.declared.kind.CType.{CType}
use Rattle.c_syntax.specs.declared.kind.CType.TheVariants as kind
use Rattle.c_syntax.specs.Text.{indent, type_text, mangled_name}
use Rattle.pl_lexer.specs.Proper.{IsName}
use Rattle.pl_readers.specs.declared.error.Stop.{Stop}
use Rattle.pl_readers.specs.Language.{Language, Then, Either, Mapped, HasText, Starts}
use Rattle.pl_readers.specs.Reader.{Reader, either, next, mapped, repeat}
use Rattle.pl_readers.specs.Reads.{never, Ends, Reads}
use Rattle.pl_readers.specs.Bytes.{is}
use Rattle.pl_readers.proofs.Firsts.{ends_never}
use Rattle.c_forms.specs.declared.word.Local.{Local}
use Rattle.c_forms.specs.declared.word.Number.{Number}
use Rattle.c_forms.specs.Reading.{after, ended_by, both, just, Step, on, done, until}
use Rattle.c_forms.specs.Names.{is_name_byte, name}
use Rattle.c_forms.specs.Text.{expr_text, local_text, cell_text, call_text, number_text, load_text, argument_text, stmt_text, stmts_text}
use Rattle.c_forms.specs.Forms.{IsExprForm, IsCallForm, IsLocalForm, IsNumberForm, IsCellForm, IsTypeForm, IsLoadForm, IsArgumentForm, IsStmtForm, AreStmtForms}
use Rattle.c_forms.specs.Tree as t
use Rattle.c_forms.specs.Tree.{Name, Expr, Cell, LoadLine, Argument, Stmt, Stmts}
use Rattle.c_forms.specs.Plain.{chain}
use Rattle.c_forms.specs.ExprReaders.{decimal_number, expr, local, cell, i64_tail, bool_type, struct_type, other_type, call}
use Rattle.c_forms.specs.StmtReaders.{bind, stored, line_v, line_p, line_f, line_a, line_r, store_whole, row, rows, branch, load_behind, load, other_load, loop_test, head_line, behind_loads, head_step, loop_heads, while_lines, argument, argument_row, arguments, par_names, par_fork, par_call, par_second, par, plain_i, block_i, block_or_return, stmt_of, begun_i, begun_otherwise, stmt}
use Rattle.c_forms.proofs.WholeNames.{good_name}
use Rattle.c_forms.proofs.WordReads.{good_number, good_local}
use Rattle.c_forms.proofs.TypeReads.{IsI64, i64_text, good_i64}
use Rattle.c_forms.proofs.KindReads.{IsOther, alts_other}
use Rattle.c_forms.proofs.ExprReads.{alts_same, alts_expr, begin_wider}
use Rattle.c_forms.proofs.CallReads.{call_end, good_call, good_cell}
use Rattle.c_forms.proofs.RightReads.{call_is}
use Rattle.c_forms.proofs.LineReads.{stmt_end, bound_end, bind_text, Binds, good_bind, stored_end, good_stored, Kept, OfBool, OfStruct, OfVoid, OfPrelude, OfCall, OfAtomic, OfWhole, RLines, good_r, kept_bool, kept_struct, kept_void, kept_prelude, kept_call, kept_atomic, kept_whole}
use Rattle.c_forms.proofs.Shapes.{respelled, made_of, mapped_good, RunOf, Run, good_until, until_on, until_done, until_stops, until_shorter}
use Rattle.c_forms.proofs.Spelling.{Spells, Good, Alts, Begin, Behind, same, good_behind, good_just, good_mapped, good_then, lit, fin, pair, many, alt, last, begin_mapped, begin_spells, begin_behind}

-- ---- indentation

-- one level more is two blanks more
pub indent_next : (n : ℕ) → indent (n + 1) ≡ codes "  " ++ indent n
indent_next n = ap indent (add-one n)

indent_over : (n : ℕ) → indent n ++ codes "  " ≡ codes "  " ++ indent n
indent_over zero = refl
indent_over (suc n) = ap (λ (z : List ℕ). codes "  " ++ z) (indent_over n)

level_up : (n : ℕ) → indent n ++ codes "  " ≡ indent (n + 1)
level_up n = indent_over n ∙ sym (indent_next n)

-- a statement is its indentation and its end
pub text_is : (n : ℕ) (s : Stmt) → stmt_text n s ≡ indent n ++ stmt_end n s
text_is n (t.Bind kind x right) = refl
text_is n (t.Store cell e) = refl
text_is n (t.Free base) = refl
text_is n (t.AtomicStore base e) = refl
text_is n (t.Acquire lock) = refl
text_is n (t.Release lock) = refl
text_is n (t.Print e) = refl
text_is n (t.CallStmt f args) = refl
text_is n (t.Par p) = append_assoc (indent n) (codes "{\n") _
text_is n (t.If e first second) = append_assoc (indent n) (codes "if (" ++ (expr_text e ++ codes ") {\n")) _
text_is n (t.While loads e body) = append_assoc (indent n) (codes "while (1) {\n") _
text_is n (t.Return e) = refl

-- ---- statements in a row

abbrev pub unchain : Stmts → List Stmt
unchain t.end = []
unchain (t.more s rest) = s ∷ unchain rest

pub chain_of : (b : Stmts) → chain (unchain b) ≡ b
chain_of t.end = refl
chain_of (t.more s rest) = ap (t.more s) (chain_of rest)

pub all_there : (r : ℕ) (ss : List Stmt) → AllByRecursion (IsStmtForm r) ss → AreStmtForms r (chain ss)
all_there r [] w = tt
all_there r (s ∷ ss) w = (w.0, all_there r ss w.1)

pub all_back : (r : ℕ) (b : Stmts) → AreStmtForms r b → AllByRecursion (IsStmtForm r) (unchain b)
all_back r t.end w = tt
all_back r (t.more s rest) w = (w.0, all_back r rest w.1)

row_group : (i w e f : List ℕ) → i ++ ((w ++ (e ++ i)) ++ f) ≡ (i ++ w) ++ (e ++ (i ++ f))
row_group i w e f = ap (λ (z : List ℕ). i ++ z) (append_assoc w (e ++ i) f ∙ ap (λ (z : List ℕ). w ++ z) (append_assoc e i f)) ∙ sym (append_assoc i w (e ++ (i ++ f)))

rows_group : (a e s i : List ℕ) → a ++ (e ++ (s ++ i)) ≡ ((a ++ e) ++ s) ++ i
rows_group a e s i = sym (append_assoc a e (s ++ i)) ∙ sym (append_assoc (a ++ e) s i)

abbrev pub row_text : ℕ → Stmt → List ℕ
row_text n s = codes "  " ++ (stmt_end (n + 1) s ++ indent n)

abbrev rows_text : ℕ → List Stmt → List ℕ
rows_text n ss = indent n ++ flat_map (row_text n) ss

rows_is : (n : ℕ) (ss : List Stmt) → rows_text n ss ≡ stmts_text (n + 1) (chain ss) ++ indent n
rows_is n [] = append-nil (indent n)
rows_is n (s ∷ ss) =
    row_group (indent n) (codes "  ") (stmt_end (n + 1) s) (flat_map (row_text n) ss)
    ∙ ap (λ (z : List ℕ). z ++ (stmt_end (n + 1) s ++ (indent n ++ flat_map (row_text n) ss))) (level_up n)
    ∙ ap (λ (z : List ℕ). indent (n + 1) ++ (stmt_end (n + 1) s ++ z)) (rows_is n ss)
    ∙ rows_group (indent (n + 1)) (stmt_end (n + 1) s) (stmts_text (n + 1) (chain ss)) (indent n)
    ∙ ap (λ (z : List ℕ). (z ++ stmts_text (n + 1) (chain ss)) ++ indent n) (sym (text_is (n + 1) s))

-- statements, the indentation behind them, and a word
abbrev pub block_text : ℕ → List ℕ → List Stmt → List ℕ
block_text n w ss = stmts_text (n + 1) (chain ss) ++ (indent n ++ w)

module _ (C : Stmt → Type 0) (n : ℕ) (P : Reader ℕ Stmt) (p : Good (Spells C (stmt_end (n + 1))) never P) where
  pub good_row : Good (Spells C (row_text n)) never (row n P)
  unfolding row
  good_row = lit C (λ s. stmt_end (n + 1) s ++ indent n) never (ended_by P (indent n)) (codes "  ") (fin C (stmt_end (n + 1)) never P (indent n) never (λ rest. ends_never (indent n ++ rest)) p)

  good_rows : Good (Spells (AllByRecursion C) (rows_text n)) (is 32) (rows n P)
  unfolding rows
  good_rows = lit (AllByRecursion C) (flat_map (row_text n)) (is 32) (repeat (is 32) (row n P)) (indent n)
      (many C (row_text n) 32 never (is 32) (row n P) (begin_spells 32 (codes " ") C (λ s. stmt_end (n + 1) s ++ indent n)) refl (λ x e. e) (λ x e. refl) good_row)

  pub good_block : (w : List ℕ) → ((rest : List ℕ) → Ends (is 32) (w ++ rest)) → Good (Spells (AllByRecursion C) (block_text n w)) never (ended_by (rows n P) w)
  good_block w follow = respelled (AllByRecursion C) (λ ss. rows_text n ss ++ w) (block_text n w) never (ended_by (rows n P) w)
      (λ ss. ap (λ (z : List ℕ). z ++ w) (rows_is n ss) ∙ append_assoc (stmts_text (n + 1) (chain ss)) (indent n) w)
      (fin (AllByRecursion C) (rows_text n) (is 32) (rows n P) w never follow good_rows)

-- ---- an `if`

module _ (C : Stmt → Type 0) (n : ℕ) (P : Reader ℕ Stmt) (p : Good (Spells C (stmt_end (n + 1))) never P) where
  abbrev Arms : List Stmt × List Stmt → Type 0
  Arms q = AllByRecursion C q.0 × AllByRecursion C q.1

  abbrev arms_text : List Stmt × List Stmt → List ℕ
  arms_text q = block_text n (codes "} else {\n") q.0 ++ block_text n (codes "}\n") q.1

  abbrev IfForm : Expr × (List Stmt × List Stmt) → Type 0
  IfForm q = IsExprForm q.0 × Arms q.1

  abbrev if_text : Expr × (List Stmt × List Stmt) → List ℕ
  if_text q = (expr_text q.0 ++ codes ") {\n") ++ arms_text q.1

  abbrev if_of : Expr × (List Stmt × List Stmt) → Stmt
  if_of q = t.If q.0 (chain q.1.0) (chain q.1.1)

  abbrev Branch : Language ℕ Stmt
  Branch = Mapped if_of (Spells IfForm (λ q. codes "f (" ++ if_text q))

  good_branch : Good Branch never (branch n P)
  unfolding branch
  good_branch = good_mapped IfForm (λ q. codes "f (" ++ if_text q) never (after (codes "f (") (both (ended_by expr (codes ") {\n")) (both (ended_by (rows n P) (codes "} else {\n")) (ended_by (rows n P) (codes "}\n"))))) if_of
      (lit IfForm if_text never (both (ended_by expr (codes ") {\n")) (both (ended_by (rows n P) (codes "} else {\n")) (ended_by (rows n P) (codes "}\n")))) (codes "f (")
      (pair IsExprForm (λ e. expr_text e ++ codes ") {\n") never (ended_by expr (codes ") {\n")) Arms arms_text never (both (ended_by (rows n P) (codes "} else {\n")) (ended_by (rows n P) (codes "}\n")))
      (λ b rest u h. ends_never (arms_text b ++ rest))
      (fin IsExprForm expr_text is_ascii_digit expr (codes ") {\n") never (λ rest. refl) alts_expr.good)
      (pair (AllByRecursion C) (block_text n (codes "} else {\n")) never (ended_by (rows n P) (codes "} else {\n")) (AllByRecursion C) (block_text n (codes "}\n")) never (ended_by (rows n P) (codes "}\n"))
      (λ b rest u h. ends_never (block_text n (codes "}\n") b ++ rest))
      (good_block C n P p (codes "} else {\n") (λ rest. refl)) (good_block C n P p (codes "}\n") (λ rest. refl)))))

if_is : (n : ℕ) (e : Expr) (first second : List Stmt) →
    codes "if (" ++ ((expr_text e ++ codes ") {\n") ++ (block_text n (codes "} else {\n") first ++ block_text n (codes "}\n") second)) ≡ stmt_end n (t.If e (chain first) (chain second))
if_is n e first second =
    ap (λ (z : List ℕ). codes "if (" ++ ((expr_text e ++ codes ") {\n") ++ z)) (append_assoc (stmts_text (n + 1) (chain first)) (indent n ++ codes "} else {\n") (block_text n (codes "}\n") second))

-- ---- statements that begin with `i`

abbrev OfI : Stmt → Type 0
OfI (t.Bind type x right) = IsI64 type
OfI (t.If e first second) = ⊤
OfI _ = ⊥

abbrev I64Binds : Language ℕ Stmt
I64Binds = Binds IsI64 i64_text i64_tail

i64_form : (type : CType) → IsI64 type → IsTypeForm type
i64_form kind.I64 h = tt
i64_form kind.PtrI64 h = tt
i64_form kind.Bool h = absurd h
i64_form kind.PtrBool h = absurd h
i64_form kind.Void h = absurd h
i64_form (kind.PtrStruct s) h = absurd h
i64_form kind.PtrAtomic h = absurd h
i64_form kind.PtrLock h = absurd h

i64_spelled : (type : CType) → IsI64 type → codes "i" ++ i64_text type ≡ type_text type
i64_spelled kind.I64 h = refl
i64_spelled kind.PtrI64 h = refl
i64_spelled kind.Bool h = absurd h
i64_spelled kind.PtrBool h = absurd h
i64_spelled kind.Void h = absurd h
i64_spelled (kind.PtrStruct s) h = absurd h
i64_spelled kind.PtrAtomic h = absurd h
i64_spelled kind.PtrLock h = absurd h

begin_i64 : Begin (110 ∷ []) (Spells IsI64 i64_text)
begin_i64 kind.I64 text u = (110, codes "t64_t ", u.1, refl)
begin_i64 kind.PtrI64 text u = (110, codes "t64_t *", u.1, refl)
begin_i64 kind.Bool text u = absurd u.0
begin_i64 kind.PtrBool text u = absurd u.0
begin_i64 kind.Void text u = absurd u.0
begin_i64 (kind.PtrStruct s) text u = absurd u.0
begin_i64 kind.PtrAtomic text u = absurd u.0
begin_i64 kind.PtrLock text u = absurd u.0

begin_i64_binds : Begin (110 ∷ []) I64Binds
begin_i64_binds s text (q, w, e) = let v = begin_i64 q.0 (i64_text q.0) (w.0.0, refl) in (v.0, v.1 ++ bound_end q.1, w.1 ∙ ap (λ (z : List ℕ). z ++ bound_end q.1) v.2, v.3)

module _ (r n : ℕ) where
  i64_there : (s : Stmt) (back text : List ℕ) → I64Binds s back → text ≡ codes "i" ++ back → Kept OfI r n s text
  i64_there s back text (q, w, e) k = rw e ((w.0.0, (i64_form q.0 w.0.0, w.0.1.0, w.0.1.1)), k ∙ ap (λ (z : List ℕ). codes "i" ++ z) w.1 ∙ ap (λ (z : List ℕ). z ++ bound_end q.1) (i64_spelled q.0 w.0.0))

  i64_back : (type : CType) (x : Local) (right : t.Right) (text : List ℕ) → Kept OfI r n (t.Bind type x right) text → Behind (codes "i") I64Binds (t.Bind type x right) text
  i64_back type x right text u =
      (bind_text IsI64 i64_text i64_tail (type, (x, right)), ((type, (x, right)), ((u.0.0, (u.0.1.1, u.0.1.2)), refl), refl), u.1 ∙ ap (λ (z : List ℕ). z ++ bound_end (x, right)) (sym (i64_spelled type u.0.0)))

plain_there : (n : ℕ) (s : Stmt) (text : List ℕ) → Behind (codes "i") I64Binds s text → Kept OfI zero n s text
plain_there n s text (back, u, k) = i64_there zero n s back text u k

plain_back : (n : ℕ) (s : Stmt) (text : List ℕ) → Kept OfI zero n s text → Behind (codes "i") I64Binds s text
plain_back n (t.Bind type x right) text u = i64_back zero n type x right text u
plain_back n (t.If e first second) text u = absurd u.0.1
plain_back n (t.Store cell e) text u = absurd u.0.0
plain_back n (t.Free base) text u = absurd u.0.0
plain_back n (t.AtomicStore base e) text u = absurd u.0.0
plain_back n (t.Acquire lock) text u = absurd u.0.0
plain_back n (t.Release lock) text u = absurd u.0.0
plain_back n (t.Print e) text u = absurd u.0.0
plain_back n (t.CallStmt f args) text u = absurd u.0.0
plain_back n (t.Par lines) text u = absurd u.0.0
plain_back n (t.While loads e body) text u = absurd u.0.0
plain_back n (t.Return e) text u = absurd u.0.0

alts_plain_i : (n : ℕ) → Alts (105 ∷ []) (Kept OfI zero n) never plain_i
unfolding plain_i
alts_plain_i n = alts_same (105 ∷ []) (Behind (codes "i") I64Binds) (Kept OfI zero n) never (after (codes "i") (bind i64_tail)) (plain_there n) (plain_back n)
    (last (105 ∷ []) (Behind (codes "i") I64Binds) never (after (codes "i") (bind i64_tail)) (good_behind (codes "i") I64Binds never (bind i64_tail) (good_bind IsI64 i64_text i64_tail good_i64)) (begin_behind 105 [] I64Binds))

module _ (r n : ℕ) (P : Reader ℕ Stmt) (p : Good (Spells (IsStmtForm r) (stmt_end (n + 1))) never P) where
  abbrev BlockI : Language ℕ Stmt
  BlockI = Behind (codes "i") (Either (Branch (IsStmtForm r) n P p) I64Binds)

  block_there : (s : Stmt) (text : List ℕ) → BlockI s text → Kept OfI (suc r) n s text
  block_there s text (back, inl ((e, (first, second)), w, q), k) =
      rw q ((tt, (w.0.0, all_there r first w.0.1.0, all_there r second w.0.1.1)), k ∙ ap (λ (z : List ℕ). codes "i" ++ z) w.1 ∙ if_is n e first second)
  block_there s text (back, inr u, k) = i64_there (suc r) n s back text u k

  block_back : (s : Stmt) (text : List ℕ) → Kept OfI (suc r) n s text → BlockI s text
  block_back (t.Bind type x right) text u = let b = i64_back (suc r) n type x right text u in (b.0, inr b.1, b.2)
  block_back (t.If e first second) text u =
      let a = unchain first in
      let b = unchain second in
      let whole : t.If e first second ≡ t.If e (chain a) (chain b) = ap (λ (z : Stmts). t.If e z second) (sym (chain_of first)) ∙ ap (λ (z : Stmts). t.If e (chain a) z) (sym (chain_of second)) in (
        codes "f (" ++ if_text (IsStmtForm r) n P p (e, (a, b)),
        inl ((e, (a, b)), ((u.0.1.0, (all_back r first u.0.1.1, all_back r second u.0.1.2)), refl), whole),
        u.1 ∙ ap (stmt_end n) whole ∙ sym (if_is n e a b),
      )
  block_back (t.Store cell e) text u = absurd u.0.0
  block_back (t.Free base) text u = absurd u.0.0
  block_back (t.AtomicStore base e) text u = absurd u.0.0
  block_back (t.Acquire lock) text u = absurd u.0.0
  block_back (t.Release lock) text u = absurd u.0.0
  block_back (t.Print e) text u = absurd u.0.0
  block_back (t.CallStmt f args) text u = absurd u.0.0
  block_back (t.Par lines) text u = absurd u.0.0
  block_back (t.While loads e body) text u = absurd u.0.0
  block_back (t.Return e) text u = absurd u.0.0

  alts_block_i : Alts (105 ∷ []) (Kept OfI (suc r) n) never (block_i n P)
  unfolding block_i
  alts_block_i = alts_same (105 ∷ []) BlockI (Kept OfI (suc r) n) never (after (codes "i") (either (is 102) (branch n P) (bind i64_tail))) block_there block_back
      (last (105 ∷ []) BlockI never (after (codes "i") (either (is 102) (branch n P) (bind i64_tail)))
      (good_behind (codes "i") (Either (Branch (IsStmtForm r) n P p) I64Binds) never (either (is 102) (branch n P) (bind i64_tail))
      (alt 102 (110 ∷ []) (Branch (IsStmtForm r) n P p) I64Binds never (branch n P) (bind i64_tail) refl (good_branch (IsStmtForm r) n P p)
      (begin_mapped (102 ∷ []) (if_of (IsStmtForm r) n P p) (Spells (IfForm (IsStmtForm r) n P p) (λ q. codes "f (" ++ if_text (IsStmtForm r) n P p q)) (begin_spells 102 (codes " (") (IfForm (IsStmtForm r) n P p) (if_text (IsStmtForm r) n P p)))
      (last (110 ∷ []) I64Binds never (bind i64_tail) (good_bind IsI64 i64_text i64_tail good_i64) begin_i64_binds)).good)
      (begin_behind 105 [] _))

-- ---- the head of a loop

abbrev pub load_end : LoadLine → List ℕ
load_end l = local_text l.local ++ (codes " = " ++ (cell_text l.cell ++ codes ";\n"))

abbrev loaded_end : Local × Cell → List ℕ
loaded_end q = local_text q.0 ++ (codes " = " ++ (cell_text q.1 ++ codes ";\n"))

abbrev LoadedForm : Local × Cell → Type 0
LoadedForm q = IsLocalForm q.0 × IsCellForm q.1

good_loaded : Good (Spells LoadedForm loaded_end) never (both local (after (codes " = ") (ended_by cell (codes ";\n"))))
good_loaded = pair IsLocalForm local_text is_ascii_digit local IsCellForm (λ c. codes " = " ++ (cell_text c ++ codes ";\n")) never (after (codes " = ") (ended_by cell (codes ";\n"))) (λ c rest u h. refl) good_local
    (lit IsCellForm (λ c. cell_text c ++ codes ";\n") never (ended_by cell (codes ";\n")) (codes " = ") (fin IsCellForm cell_text is_name_byte cell (codes ";\n") never (λ rest. refl) good_cell))

module _ (K : CType → Type 0) (kt : CType → List ℕ) (P : Reader ℕ CType) where
  abbrev Loads : Language ℕ LoadLine
  Loads = Spells (λ l. K l.kind × (IsLocalForm l.local × IsCellForm l.cell)) (λ l. kt l.kind ++ load_end l)

  abbrev load_of : CType → Local × Cell → LoadLine
  load_of type q = record { kind = type; local = q.0; cell = q.1 }

  abbrev LoadOf : CType → Language ℕ LoadLine
  LoadOf type = Mapped (load_of type) (Spells LoadedForm loaded_end)

  loads_there : (l : LoadLine) (text : List ℕ) → Then (Spells K kt) LoadOf l text → Loads l text
  loads_there l text (type, front, back, w, (q, v, e), k) = rw e ((w.0, (v.0.0, v.0.1)), k ∙ rw (w.1, v.1) refl)

  loads_back : (l : LoadLine) (text : List ℕ) → Loads l text → Then (Spells K kt) LoadOf l text
  loads_back l text u = (l.kind, kt l.kind, load_end l, (u.0.0, refl), ((l.local, l.cell), ((u.0.1.0, u.0.1.1), refl), refl), u.1)

  good_load : Good (Spells K kt) (is 42) P → Good Loads never (load P)
  unfolding load_behind
  good_load p = same (Then (Spells K kt) LoadOf) Loads never (next P load_behind) loads_there loads_back
      (good_then (Spells K kt) LoadOf (is 42) never P load_behind p
      (λ type front u. good_mapped LoadedForm loaded_end never (both local (after (codes " = ") (ended_by cell (codes ";\n")))) (load_of type) good_loaded)
      (λ type l back rest u h. rw u.1.1 refl))

  begin_loads : (ks : List ℕ) → Begin ks (Spells K kt) → Begin ks Loads
  begin_loads ks b l text w = let v = b l.kind (kt l.kind) (w.0.0, refl) in (v.0, v.1 ++ load_end l, w.1 ∙ ap (λ (z : List ℕ). z ++ load_end l) v.2, v.3)

abbrev IsVoid : CType → Type 0
IsVoid type = type ≡ kind.Void

abbrev void_text : CType → List ℕ
void_text _ = codes "void "

abbrev OtherLoads : Language ℕ LoadLine
OtherLoads = Either (Loads IsVoid void_text (just kind.Void (codes "void "))) (Loads IsOther type_text other_type)

alts_other_load : Alts (118 ∷ 98 ∷ 112 ∷ 115 ∷ []) OtherLoads never other_load
unfolding other_load
alts_other_load = alt 118 (98 ∷ 112 ∷ 115 ∷ []) (Loads IsVoid void_text (just kind.Void (codes "void "))) (Loads IsOther type_text other_type) never (load (just kind.Void (codes "void "))) (load other_type) refl
    (good_load IsVoid void_text (just kind.Void (codes "void ")) (good_just kind.Void (codes "void ") (is 42)))
    (λ l text u. (118, codes "oid " ++ load_end l, u.1, refl))
    (last (98 ∷ 112 ∷ 115 ∷ []) (Loads IsOther type_text other_type) never (load other_type) (good_load IsOther type_text other_type alts_other.good) (begin_loads IsOther type_text other_type (98 ∷ 112 ∷ 115 ∷ []) alts_other.begin))

abbrev IsHeadLine : Step LoadLine Expr → Type 0
IsHeadLine (on l) = IsLoadForm l
IsHeadLine (done e) = IsExprForm e

-- the text of a line of a head behind its indentation
abbrev head_end : ℕ → Step LoadLine Expr → List ℕ
head_end m (on l) = type_text l.kind ++ load_end l
head_end m (done e) = (codes "if (!" ++ (expr_text e ++ codes ") {\n")) ++ ((indent (m + 1) ++ codes "break;\n") ++ (indent m ++ codes "}\n"))

five_group : (a b c d e : List ℕ) → (((a ++ b) ++ c) ++ d) ++ e ≡ a ++ ((b ++ c) ++ (d ++ e))
five_group a b c d e = append_assoc ((a ++ b) ++ c) d e ∙ ap (λ (z : List ℕ). z ++ (d ++ e)) (append_assoc a b c) ∙ append_assoc a (b ++ c) (d ++ e)

abbrev test_text : ℕ → Expr → List ℕ
test_text m e = (expr_text e ++ codes ") {\n") ++ ((indent (m + 1) ++ codes "break;\n") ++ (indent m ++ codes "}\n"))

good_test : (m : ℕ) → Good (Spells IsExprForm (λ e. codes "f (!" ++ test_text m e)) never (loop_test m)
unfolding loop_test
good_test m = lit IsExprForm (test_text m) never (ended_by (ended_by (ended_by (ended_by (ended_by expr (codes ") {\n")) (indent (m + 1))) (codes "break;\n")) (indent m)) (codes "}\n")) (codes "f (!")
    (respelled IsExprForm (λ e. ((((expr_text e ++ codes ") {\n") ++ indent (m + 1)) ++ codes "break;\n") ++ indent m) ++ codes "}\n") (test_text m) never _
    (λ e. five_group (expr_text e ++ codes ") {\n") (indent (m + 1)) (codes "break;\n") (indent m) (codes "}\n"))
    (fin IsExprForm (λ e. (((expr_text e ++ codes ") {\n") ++ indent (m + 1)) ++ codes "break;\n") ++ indent m) never _ (codes "}\n") never (λ rest. ends_never (codes "}\n" ++ rest))
    (fin IsExprForm (λ e. ((expr_text e ++ codes ") {\n") ++ indent (m + 1)) ++ codes "break;\n") never _ (indent m) never (λ rest. ends_never (indent m ++ rest))
    (fin IsExprForm (λ e. (expr_text e ++ codes ") {\n") ++ indent (m + 1)) never _ (codes "break;\n") never (λ rest. ends_never (codes "break;\n" ++ rest))
    (fin IsExprForm (λ e. expr_text e ++ codes ") {\n") never _ (indent (m + 1)) never (λ rest. ends_never (indent (m + 1) ++ rest))
    (fin IsExprForm expr_text is_ascii_digit expr (codes ") {\n") never (λ rest. refl) alts_expr.good))))))

module _ (m : ℕ) where
  abbrev TestOrLoad : Language ℕ (Step LoadLine Expr)
  TestOrLoad = Behind (codes "i") (Either (Mapped done (Spells IsExprForm (λ e. codes "f (!" ++ test_text m e))) (Mapped on (Loads IsI64 i64_text i64_tail)))

  abbrev HeadParts : Language ℕ (Step LoadLine Expr)
  HeadParts = Either TestOrLoad (Mapped on OtherLoads)

  other_form : (type : CType) → IsOther type → IsTypeForm type
  other_form kind.I64 h = tt
  other_form kind.PtrI64 h = tt
  other_form kind.Bool h = tt
  other_form kind.PtrBool h = tt
  other_form kind.Void h = tt
  other_form (kind.PtrStruct s) h = h
  other_form kind.PtrAtomic h = tt
  other_form kind.PtrLock h = tt

  head_there : (q : Step LoadLine Expr) (text : List ℕ) → HeadParts q text → Spells IsHeadLine (head_end m) q text
  head_there q text (inl (back, inl (e, w, z), k)) = rw z (w.0, k ∙ ap (λ (y : List ℕ). codes "i" ++ y) w.1)
  head_there q text (inl (back, inr (l, w, z), k)) =
      rw z ((i64_form l.kind w.0.0, w.0.1.0, w.0.1.1), k ∙ ap (λ (y : List ℕ). codes "i" ++ y) w.1 ∙ ap (λ (y : List ℕ). y ++ load_end l) (i64_spelled l.kind w.0.0))
  head_there q text (inr (l, inl w, z)) =
      rw z ((subst IsTypeForm (sym w.0.0) tt, w.0.1.0, w.0.1.1), w.1 ∙ ap (λ (c : CType). type_text c ++ load_end l) (sym w.0.0))
  head_there q text (inr (l, inr w, z)) = rw z ((other_form l.kind w.0.0, w.0.1.0, w.0.1.1), w.1)

  load_back : (type : CType) (x : Local) (c : Cell) (text : List ℕ) → IsTypeForm type → IsLocalForm x → IsCellForm c → text ≡ type_text type ++ loaded_end (x, c) → HeadParts (on (record { kind = type; local = x; cell = c })) text
  load_back kind.I64 x c text k w v e = inl (codes "nt64_t " ++ loaded_end (x, c), inr (record { kind = kind.I64; local = x; cell = c }, ((tt, (w, v)), refl), refl), e)
  load_back kind.PtrI64 x c text k w v e = inl (codes "nt64_t *" ++ loaded_end (x, c), inr (record { kind = kind.PtrI64; local = x; cell = c }, ((tt, (w, v)), refl), refl), e)
  load_back kind.Void x c text k w v e = inr (record { kind = kind.Void; local = x; cell = c }, inl ((refl, (w, v)), e), refl)
  load_back kind.Bool x c text k w v e = inr (record { kind = kind.Bool; local = x; cell = c }, inr ((tt, (w, v)), e), refl)
  load_back kind.PtrBool x c text k w v e = inr (record { kind = kind.PtrBool; local = x; cell = c }, inr ((tt, (w, v)), e), refl)
  load_back (kind.PtrStruct s) x c text k w v e = inr (record { kind = kind.PtrStruct s; local = x; cell = c }, inr ((k, (w, v)), e), refl)
  load_back kind.PtrAtomic x c text k w v e = inr (record { kind = kind.PtrAtomic; local = x; cell = c }, inr ((tt, (w, v)), e), refl)
  load_back kind.PtrLock x c text k w v e = inr (record { kind = kind.PtrLock; local = x; cell = c }, inr ((tt, (w, v)), e), refl)

  head_back : (q : Step LoadLine Expr) (text : List ℕ) → Spells IsHeadLine (head_end m) q text → HeadParts q text
  head_back (on l) text u = load_back l.kind l.local l.cell text u.0.0 u.0.1 u.0.2 u.1
  head_back (done e) text u = inl (codes "f (!" ++ test_text m e, inl (e, (u.0, refl), refl), u.1)

  good_head_line : Good (Spells IsHeadLine (head_end m)) never (head_line m)
  unfolding head_line
  good_head_line = same HeadParts (Spells IsHeadLine (head_end m)) never (either (is 105) (after (codes "i") (either (is 102) (mapped done (loop_test m)) (mapped on (load i64_tail)))) (mapped on other_load)) head_there head_back
      (alt 105 (118 ∷ 98 ∷ 112 ∷ 115 ∷ []) TestOrLoad (Mapped on OtherLoads) never (after (codes "i") (either (is 102) (mapped done (loop_test m)) (mapped on (load i64_tail)))) (mapped on other_load) refl
      (good_behind (codes "i") (Either (Mapped done (Spells IsExprForm (λ e. codes "f (!" ++ test_text m e))) (Mapped on (Loads IsI64 i64_text i64_tail))) never (either (is 102) (mapped done (loop_test m)) (mapped on (load i64_tail)))
      (alt 102 (110 ∷ []) (Mapped done (Spells IsExprForm (λ e. codes "f (!" ++ test_text m e))) (Mapped on (Loads IsI64 i64_text i64_tail)) never (mapped done (loop_test m)) (mapped on (load i64_tail)) refl
      (good_mapped IsExprForm (λ e. codes "f (!" ++ test_text m e) never (loop_test m) done (good_test m))
      (begin_mapped (102 ∷ []) done (Spells IsExprForm (λ e. codes "f (!" ++ test_text m e)) (begin_spells 102 (codes " (!") IsExprForm (test_text m)))
      (last (110 ∷ []) (Mapped on (Loads IsI64 i64_text i64_tail)) never (mapped on (load i64_tail))
      (good_mapped (λ l. IsI64 l.kind × (IsLocalForm l.local × IsCellForm l.cell)) (λ l. i64_text l.kind ++ load_end l) never (load i64_tail) on (good_load IsI64 i64_text i64_tail good_i64))
      (begin_mapped (110 ∷ []) on (Loads IsI64 i64_text i64_tail) (begin_loads IsI64 i64_text i64_tail (110 ∷ []) begin_i64)))).good)
      (begin_behind 105 [] _)
      (last (118 ∷ 98 ∷ 112 ∷ 115 ∷ []) (Mapped on OtherLoads) never (mapped on other_load) (mapped_good on OtherLoads never other_load alts_other_load.good) (begin_mapped (118 ∷ 98 ∷ 112 ∷ 115 ∷ []) on OtherLoads alts_other_load.begin))).good

  -- ---- its lines until the test

  abbrev pub HeadSteps : List LoadLine → Language ℕ (Step (List LoadLine) (List LoadLine × Expr))
  HeadSteps loads = Mapped (behind_loads loads) (Spells IsHeadLine (λ q. indent m ++ head_end m q))

  pub good_head_step : (loads : List LoadLine) → Good (HeadSteps loads) never (head_step m loads)
  unfolding head_step
  good_head_step loads = good_mapped IsHeadLine (λ q. indent m ++ head_end m q) never (after (indent m) (head_line m)) (behind_loads loads) (lit IsHeadLine (head_end m) never (head_line m) (indent m) good_head_line)

  kind_some : (type : CType) (rest : List ℕ) → (c : ℕ) × (cs : List ℕ) × (type_text type ++ rest ≡ c ∷ cs)
  kind_some kind.Void rest = (118, codes "oid " ++ rest, refl)
  kind_some kind.I64 rest = (105, codes "nt64_t " ++ rest, refl)
  kind_some kind.Bool rest = (98, codes "ool " ++ rest, refl)
  kind_some kind.PtrI64 rest = (105, codes "nt64_t *" ++ rest, refl)
  kind_some kind.PtrBool rest = (98, codes "ool *" ++ rest, refl)
  kind_some (kind.PtrStruct s) rest = (115, (codes "truct s_" ++ mangled_name s ++ codes " *") ++ rest, refl)
  kind_some kind.PtrAtomic rest = (112, codes "_atomic *" ++ rest, refl)
  kind_some kind.PtrLock rest = (115, codes "truct p_lock *" ++ rest, refl)

  line_some : (k : ℕ) (q : Step LoadLine Expr) → (c : ℕ) × (cs : List ℕ) × (indent k ++ head_end m q ≡ c ∷ cs)
  line_some zero (on l) = kind_some l.kind (load_end l)
  line_some zero (done e) = (105, (codes "f (!" ++ (expr_text e ++ codes ") {\n")) ++ ((indent (m + 1) ++ codes "break;\n") ++ (indent m ++ codes "}\n")), refl)
  line_some (suc k) q = (32, 32 ∷ (indent k ++ head_end m q), refl)

  pub step_some : (loads : List LoadLine) (q : Step (List LoadLine) (List LoadLine × Expr)) (text : List ℕ) → HeadSteps loads q text → (c : ℕ) × (cs : List ℕ) × (text ≡ c ∷ cs)
  step_some loads q text (z, w, e) = let s = line_some m z in (s.0, s.1, w.1 ∙ s.2)

  abbrev HeadRunOf : ℕ → List LoadLine → Language ℕ (List LoadLine × Expr)
  HeadRunOf = RunOf HeadSteps (head_step m) good_head_step step_some

  abbrev HeadRun : List LoadLine → Language ℕ (List LoadLine × Expr)
  HeadRun = Run HeadSteps (head_step m) good_head_step step_some

  pub head_ends : (loads : List LoadLine) → HasText (HeadRun loads)
  head_ends loads = ((loads, t.Null), indent m ++ head_end m (done t.Null), (suc zero, inl (indent m ++ head_end m (done t.Null), (done t.Null, (tt, refl), refl), refl)))

  abbrev pub HeadForm : List LoadLine × Expr → Type 0
  HeadForm q = AllByRecursion IsLoadForm q.0 × IsExprForm q.1

  abbrev pub heads_text : List LoadLine × Expr → List ℕ
  heads_text q = flat_map (load_text m) q.0 ++ (indent m ++ head_end m (done q.1))

  abbrev on_loads : List LoadLine → Step (List LoadLine) (List LoadLine × Expr)
  on_loads loads = on loads

  abbrev done_with : List LoadLine × Expr → Step (List LoadLine) (List LoadLine × Expr)
  done_with b = done b

  on_is : (x y : List LoadLine) → on_loads x ≡ on_loads y → x ≡ y
  on_is x y e = cc

  done_is : (x y : List LoadLine × Expr) → done_with x ≡ done_with y → x ≡ y
  done_is x y e = cc

  apart : (x : List LoadLine) (y : List LoadLine × Expr) → on_loads x ≡ done_with y → ⊥
  apart x y e = absurd cc

  run_there : (k : ℕ) (ls : List LoadLine) (b : List LoadLine × Expr) (text : List ℕ) → HeadRunOf k ls b text → (more : List LoadLine) × (b.0 ≡ ls ++ more) × HeadForm (more, b.1) × (text ≡ heads_text (more, b.1))
  run_there zero ls b text u = absurd u
  run_there (suc k) ls b text (inl (front, (done e, w, z), h)) =
      let b_is = done_is b (ls, e) z in
      let e_is : e ≡ b.1 = sym (ap (λ (x : List LoadLine × Expr). x.1) b_is) in
      ([], ap (λ (x : List LoadLine × Expr). x.0) b_is ∙ sym (append-nil ls), (tt, subst IsExprForm e_is w.0), h ∙ w.1 ∙ ap (λ (x : Expr). indent m ++ head_end m (done x)) e_is)
  run_there (suc k) ls b text (inl (front, (on l, w, z), h)) = absurd (apart (ls ++ l ∷ []) b (sym z))
  run_there (suc k) ls b text (inr (t2, front, back, (done e, w, z), v, h)) = absurd (apart t2 (ls, e) z)
  run_there (suc k) ls b text (inr (t2, front, back, (on l, w, z), v, h)) =
      let i = run_there k t2 b back v in
      let more = i.0 in (
        l ∷ more,
        i.1 ∙ ap (λ (x : List LoadLine). x ++ more) (on_is t2 (ls ++ l ∷ []) z) ∙ append_assoc ls (l ∷ []) more,
        ((w.0, i.2.0), i.2.1),
        h ∙ ap (λ (x : List ℕ). x ++ back) w.1 ∙ ap (λ (x : List ℕ). load_text m l ++ x) i.3 ∙ sym (append_assoc (load_text m l) (flat_map (load_text m) more) (indent m ++ head_end m (done b.1))),
      )

  run_back : (ls more : List LoadLine) (e : Expr) → AllByRecursion IsLoadForm more → IsExprForm e → (k : ℕ) × HeadRunOf k ls (ls ++ more, e) (heads_text (more, e))
  run_back ls [] e w v = (suc zero, inl (indent m ++ head_end m (done e), (done e, (v, refl), ap (λ (x : List LoadLine). done_with (x, e)) (append-nil ls)), refl))
  run_back ls (l ∷ more) e w v =
      let i = run_back (ls ++ l ∷ []) more e w.1 v in (
        suc i.0,
        inr (
          ls ++ l ∷ [],
          load_text m l,
          heads_text (more, e),
          (on l, (w.0, refl), refl),
          subst (λ (x : List LoadLine). HeadRunOf i.0 (ls ++ l ∷ []) (x, e) (heads_text (more, e))) (append_assoc ls (l ∷ []) more) i.1,
          append_assoc (load_text m l) (flat_map (load_text m) more) (indent m ++ head_end m (done e)),
        ),
      )

  head_run_there : (b : List LoadLine × Expr) (text : List ℕ) → HeadRun [] b text → Spells HeadForm heads_text b text
  head_run_there b text u =
      let v = run_there u.0 [] b text u.1 in
      subst (λ (x : List LoadLine). HeadForm (x, b.1) × (text ≡ heads_text (x, b.1))) (sym v.1) (v.2, v.3)

  head_run_back : (b : List LoadLine × Expr) (text : List ℕ) → Spells HeadForm heads_text b text → HeadRun [] b text
  head_run_back b text u =
      let v = run_back [] b.0 b.1 u.0.0 u.0.1 in
      (v.0, subst (λ (x : List ℕ). HeadRunOf v.0 [] b x) (sym u.1) v.1)

  pub good_head : Good (Spells HeadForm heads_text) never (until (head_step m) [])
  good_head = same (HeadRun []) (Spells HeadForm heads_text) never (until (head_step m) []) head_run_there head_run_back
      (good_until HeadSteps (head_step m) good_head_step step_some head_ends never [])

  -- ---- for the code that reads them

  abbrev head_now : Reader ℕ (Step LoadLine Expr)
  head_now = after (indent m) (head_line m)

  step_with : (ls : List LoadLine) (q : Step LoadLine Expr) (xs rest : List ℕ) → head_now xs ≡ Ok (q, rest) → head_step m ls xs ≡ Ok (behind_loads ls q, rest)
  unfolding head_step
  step_with ls q xs rest e = rw e refl

  step_fails : (ls : List LoadLine) (xs : List ℕ) (x : Stop) → head_now xs ≡ Err x → head_step m ls xs ≡ Err x
  unfolding head_step
  step_fails ls xs x e = rw e refl

  pub head_goes : (ls : List LoadLine) (l : LoadLine) (xs rest : List ℕ) → head_now xs ≡ Ok (on l, rest) → until (head_step m) ls xs ≡ until (head_step m) (ls ++ l ∷ []) rest
  head_goes ls l xs rest e = until_on HeadSteps (head_step m) good_head_step step_some ls (ls ++ l ∷ []) xs rest (step_with ls (on l) xs rest e)

  pub head_done : (ls : List LoadLine) (e : Expr) (xs rest : List ℕ) → head_now xs ≡ Ok (done e, rest) → until (head_step m) ls xs ≡ Ok ((ls, e), rest)
  head_done ls e xs rest h = until_done HeadSteps (head_step m) good_head_step step_some ls (ls, e) xs rest (step_with ls (done e) xs rest h)

  pub head_stops : (ls : List LoadLine) (xs : List ℕ) (x : Stop) → head_now xs ≡ Err x → until (head_step m) ls xs ≡ Err x
  head_stops ls xs x e = until_stops HeadSteps (head_step m) good_head_step step_some ls xs x (step_fails ls xs x e)

  pub head_shorter : (q : Step LoadLine Expr) (xs rest : List ℕ) → head_now xs ≡ Ok (q, rest) → length rest < length xs
  head_shorter q xs rest e = until_shorter HeadSteps (head_step m) good_head_step step_some [] xs (behind_loads [] q) rest (step_with [] q xs rest e)

-- ---- a loop

module _ (C : Stmt → Type 0) (n : ℕ) (P : Reader ℕ Stmt) (p : Good (Spells C (stmt_end (n + 1))) never P) where
  abbrev WhileForm : (List LoadLine × Expr) × List Stmt → Type 0
  WhileForm q = HeadForm (n + 1) q.0 × AllByRecursion C q.1

  abbrev while_text : (List LoadLine × Expr) × List Stmt → List ℕ
  while_text q = heads_text (n + 1) q.0 ++ block_text n (codes "}\n") q.1

  abbrev while_of : (List LoadLine × Expr) × List Stmt → Stmt
  while_of q = t.While q.0.0 q.0.1 (chain q.1)

  abbrev Loop : Language ℕ Stmt
  Loop = Mapped while_of (Spells WhileForm (λ q. codes "while (1) {\n" ++ while_text q))

  good_while : Good Loop never (while_lines n P)
  unfolding while_lines loop_heads
  good_while = good_mapped WhileForm (λ q. codes "while (1) {\n" ++ while_text q) never (after (codes "while (1) {\n") (both (until (head_step (n + 1)) []) (ended_by (rows n P) (codes "}\n")))) while_of
      (lit WhileForm while_text never (both (until (head_step (n + 1)) []) (ended_by (rows n P) (codes "}\n"))) (codes "while (1) {\n")
      (pair (HeadForm (n + 1)) (heads_text (n + 1)) never (until (head_step (n + 1)) []) (AllByRecursion C) (block_text n (codes "}\n")) never (ended_by (rows n P) (codes "}\n"))
      (λ b rest u h. ends_never (block_text n (codes "}\n") b ++ rest)) (good_head (n + 1)) (good_block C n P p (codes "}\n") (λ rest. refl))))

loop_group : (f i x y z b : List ℕ) → (f ++ (i ++ (x ++ (y ++ z)))) ++ b ≡ f ++ ((i ++ x) ++ (y ++ (z ++ b)))
loop_group f i x y z b =
    append_assoc f (i ++ (x ++ (y ++ z))) b
    ∙ ap (λ (v : List ℕ). f ++ v) (ap (λ (v : List ℕ). v ++ b) (sym (append_assoc i x (y ++ z))) ∙ append_assoc (i ++ x) (y ++ z) b ∙ ap (λ (v : List ℕ). (i ++ x) ++ v) (append_assoc y z b))

while_is : (n : ℕ) (loads : List LoadLine) (e : Expr) (body : List Stmt) →
    codes "while (1) {\n" ++ (heads_text (n + 1) (loads, e) ++ block_text n (codes "}\n") body) ≡ stmt_end n (t.While loads e (chain body))
while_is n loads e body =
    ap (λ (v : List ℕ). codes "while (1) {\n" ++ v)
    (loop_group (flat_map (load_text (n + 1)) loads) (indent (n + 1)) (codes "if (!" ++ (expr_text e ++ codes ") {\n")) (indent (n + 1 + 1) ++ codes "break;\n") (indent (n + 1) ++ codes "}\n") (block_text n (codes "}\n") body))

-- ---- the lines of a `par`

abbrev argument_end : Argument → List ℕ
argument_end a = codes "q->a_" ++ (number_text a.number ++ stored_end a.value)

abbrev ArgumentParts : Number × Expr → Type 0
ArgumentParts q = IsNumberForm q.0 × IsExprForm q.1

abbrev argument_parts : Number × Expr → List ℕ
argument_parts q = number_text q.0 ++ stored_end q.1

abbrev argument_of : Number × Expr → Argument
argument_of q = record { number = q.0; value = q.1 }

good_argument : Good (Spells IsArgumentForm argument_end) never argument
unfolding argument
good_argument = made_of ArgumentParts (λ q. codes "q->a_" ++ argument_parts q) IsArgumentForm argument_end never (after (codes "q->a_") (both decimal_number stored)) argument_of (λ a. (a.number, a.value)) (λ a. refl) (λ q w. w) (λ a w. w) (λ q. refl)
    (lit ArgumentParts argument_parts never (both decimal_number stored) (codes "q->a_") (pair IsNumberForm number_text is_ascii_digit decimal_number IsExprForm stored_end never stored (λ e rest u h. refl) good_number good_stored))

module _ (m : ℕ) where
  abbrev argument_row_text : Argument → List ℕ
  argument_row_text a = argument_end a ++ indent m

  pub good_argument_row : Good (Spells IsArgumentForm argument_row_text) never (argument_row m)
  unfolding argument_row
  good_argument_row = fin IsArgumentForm argument_end never argument (indent m) never (λ rest. ends_never (indent m ++ rest)) good_argument

  pub begin_argument_row : Begin (113 ∷ []) (Spells IsArgumentForm argument_row_text)
  begin_argument_row a text u = (113, (codes "->a_" ++ (number_text a.number ++ stored_end a.value)) ++ indent m, u.1, refl)

  abbrev arguments_end : List Argument → List ℕ
  arguments_end as' = flat_map (argument_text m) as' ++ indent m

  argument_group : (i e f : List ℕ) → i ++ ((e ++ i) ++ f) ≡ (i ++ e) ++ (i ++ f)
  argument_group i e f = ap (λ (z : List ℕ). i ++ z) (append_assoc e i f) ∙ sym (append_assoc i e (i ++ f))

  arguments_is : (as' : List Argument) → indent m ++ flat_map argument_row_text as' ≡ arguments_end as'
  arguments_is [] = append-nil (indent m)
  arguments_is (a ∷ as') =
      argument_group (indent m) (argument_end a) (flat_map argument_row_text as')
      ∙ ap (λ (z : List ℕ). (indent m ++ argument_end a) ++ z) (arguments_is as')
      ∙ sym (append_assoc (indent m ++ argument_end a) (flat_map (argument_text m) as') (indent m))

  good_arguments : Good (Spells (AllByRecursion IsArgumentForm) arguments_end) (is 113) (arguments m)
  unfolding arguments
  good_arguments = respelled (AllByRecursion IsArgumentForm) (λ as'. indent m ++ flat_map argument_row_text as') arguments_end (is 113) (after (indent m) (repeat (is 113) (argument_row m))) arguments_is
      (lit (AllByRecursion IsArgumentForm) (flat_map argument_row_text) (is 113) (repeat (is 113) (argument_row m)) (indent m)
      (many IsArgumentForm argument_row_text 113 never (is 113) (argument_row m) begin_argument_row refl (λ x e. e) (λ x e. refl) good_argument_row))

  abbrev fork_text : Name → List ℕ
  fork_text f = codes "thrd_t t = p_fork(t_" ++ ((mangled_name f ++ codes ", q);\n") ++ indent m)

  good_fork : Good (Spells IsName fork_text) never (par_fork m)
  unfolding par_fork
  good_fork = lit IsName (λ f. (mangled_name f ++ codes ", q);\n") ++ indent m) never (ended_by (ended_by name (codes ", q);\n")) (indent m)) (codes "thrd_t t = p_fork(t_")
      (fin IsName (λ f. mangled_name f ++ codes ", q);\n") never (ended_by name (codes ", q);\n")) (indent m) never (λ rest. ends_never (indent m ++ rest))
      (fin IsName mangled_name is_name_byte name (codes ", q);\n") never (λ rest. refl) good_name))

abbrev AreNames : Name × Name → Type 0
AreNames q = IsName q.0 × IsName q.1

abbrev par_names_text : Name × Name → List ℕ
par_names_text q = codes "struct a_" ++ (mangled_name q.0 ++ (codes " *q = p_get(sizeof(struct a_" ++ (mangled_name q.1 ++ codes "));\n")))

good_par_names : Good (Spells AreNames par_names_text) never par_names
unfolding par_names
good_par_names = lit AreNames (λ q. mangled_name q.0 ++ (codes " *q = p_get(sizeof(struct a_" ++ (mangled_name q.1 ++ codes "));\n"))) never (both name (after (codes " *q = p_get(sizeof(struct a_") (ended_by name (codes "));\n")))) (codes "struct a_")
    (pair IsName mangled_name is_name_byte name IsName (λ s. codes " *q = p_get(sizeof(struct a_" ++ (mangled_name s ++ codes "));\n")) never (after (codes " *q = p_get(sizeof(struct a_") (ended_by name (codes "));\n"))) (λ s rest u h. refl) good_name
    (lit IsName (λ s. mangled_name s ++ codes "));\n") never (ended_by name (codes "));\n")) (codes " *q = p_get(sizeof(struct a_") (fin IsName mangled_name is_name_byte name (codes "));\n") never (λ rest. refl) good_name)))

abbrev CallForm : Name × List Expr → Type 0
CallForm c = IsCallForm c.0 c.1

module _ (n : ℕ) where
  -- the call and what stands behind it
  abbrev par_call_text : Name × List Expr → List ℕ
  par_call_text c = (call_text c.0 c.1 ++ codes ";\n") ++ ((indent (n + 1) ++ codes "p_join(t);\n") ++ (indent n ++ codes "}\n"))

  good_par_call : Good (Spells CallForm par_call_text) never (par_call n)
  unfolding par_call par_second
  good_par_call = respelled CallForm (λ c. codes "f_" ++ (((((call_end c ++ codes ";\n") ++ indent (n + 1)) ++ codes "p_join(t);\n") ++ indent n) ++ codes "}\n")) par_call_text never (after (codes "f_") (ended_by (ended_by (ended_by (ended_by (ended_by call (codes ";\n")) (indent (n + 1))) (codes "p_join(t);\n")) (indent n)) (codes "}\n")))
      (λ c. five_group (codes "f_" ++ (call_end c ++ codes ";\n")) (indent (n + 1)) (codes "p_join(t);\n") (indent n) (codes "}\n") ∙ ap (λ (z : List ℕ). (z ++ codes ";\n") ++ ((indent (n + 1) ++ codes "p_join(t);\n") ++ (indent n ++ codes "}\n"))) (call_is c))
      (lit CallForm (λ c. ((((call_end c ++ codes ";\n") ++ indent (n + 1)) ++ codes "p_join(t);\n") ++ indent n) ++ codes "}\n") never (ended_by (ended_by (ended_by (ended_by (ended_by call (codes ";\n")) (indent (n + 1))) (codes "p_join(t);\n")) (indent n)) (codes "}\n")) (codes "f_")
      (fin CallForm (λ c. (((call_end c ++ codes ";\n") ++ indent (n + 1)) ++ codes "p_join(t);\n") ++ indent n) never _ (codes "}\n") never (λ rest. ends_never (codes "}\n" ++ rest))
      (fin CallForm (λ c. ((call_end c ++ codes ";\n") ++ indent (n + 1)) ++ codes "p_join(t);\n") never _ (indent n) never (λ rest. ends_never (indent n ++ rest))
      (fin CallForm (λ c. (call_end c ++ codes ";\n") ++ indent (n + 1)) never _ (codes "p_join(t);\n") never (λ rest. ends_never (codes "p_join(t);\n" ++ rest))
      (fin CallForm (λ c. call_end c ++ codes ";\n") never _ (indent (n + 1)) never (λ rest. ends_never (indent (n + 1) ++ rest))
      (fin CallForm call_end never call (codes ";\n") never (λ rest. ends_never (codes ";\n" ++ rest)) good_call))))))

  abbrev ForkCall : Name × (Name × List Expr) → Type 0
  ForkCall q = IsName q.0 × CallForm q.1

  abbrev fork_call_text : Name × (Name × List Expr) → List ℕ
  fork_call_text q = fork_text (n + 1) q.0 ++ par_call_text q.1

  abbrev ParRest : List Argument × (Name × (Name × List Expr)) → Type 0
  ParRest q = AllByRecursion IsArgumentForm q.0 × ForkCall q.1

  abbrev par_rest_text : List Argument × (Name × (Name × List Expr)) → List ℕ
  par_rest_text q = arguments_end (n + 1) q.0 ++ fork_call_text q.1

  abbrev ParParts : (Name × Name) × (List Argument × (Name × (Name × List Expr))) → Type 0
  ParParts q = AreNames q.0 × ParRest q.1

  abbrev par_parts_text : (Name × Name) × (List Argument × (Name × (Name × List Expr))) → List ℕ
  par_parts_text q = par_names_text q.0 ++ par_rest_text q.1

  abbrev par_of : (Name × Name) × (List Argument × (Name × (Name × List Expr))) → Stmt
  par_of p = t.Par (record { structure = p.0.0; size = p.0.1; arguments = p.1.0; starter = p.1.1.0; other = p.1.1.1.0; others = p.1.1.1.1 })

  abbrev ParLines : Language ℕ Stmt
  ParLines = Mapped par_of (Spells ParParts (λ q. codes "{\n" ++ (indent (n + 1) ++ par_parts_text q)))

  good_par : Good ParLines never (par n)
  unfolding par
  good_par = good_mapped ParParts (λ q. codes "{\n" ++ (indent (n + 1) ++ par_parts_text q)) never (after (codes "{\n") (after (indent (n + 1)) (both par_names (both (arguments (n + 1)) (both (par_fork (n + 1)) (par_call n)))))) par_of
      (lit ParParts (λ q. indent (n + 1) ++ par_parts_text q) never (after (indent (n + 1)) (both par_names (both (arguments (n + 1)) (both (par_fork (n + 1)) (par_call n))))) (codes "{\n")
      (lit ParParts par_parts_text never (both par_names (both (arguments (n + 1)) (both (par_fork (n + 1)) (par_call n)))) (indent (n + 1))
      (pair AreNames par_names_text never par_names ParRest par_rest_text never (both (arguments (n + 1)) (both (par_fork (n + 1)) (par_call n))) (λ b rest u h. ends_never (par_rest_text b ++ rest)) good_par_names
      (pair (AllByRecursion IsArgumentForm) (arguments_end (n + 1)) (is 113) (arguments (n + 1)) ForkCall fork_call_text never (both (par_fork (n + 1)) (par_call n)) (λ b rest u h. refl) (good_arguments (n + 1))
      (pair IsName (fork_text (n + 1)) never (par_fork (n + 1)) CallForm par_call_text never (par_call n) (λ b rest u h. ends_never (par_call_text b ++ rest)) (good_fork (n + 1)) good_par_call)))))

  par_group : (i x a k c y : List ℕ) → i ++ (x ++ ((a ++ i) ++ ((k ++ i) ++ (c ++ y)))) ≡ (i ++ x) ++ (a ++ ((i ++ k) ++ ((i ++ c) ++ y)))
  par_group i x a k c y =
      sym (append_assoc i x ((a ++ i) ++ ((k ++ i) ++ (c ++ y))))
      ∙ ap (λ (z : List ℕ). (i ++ x) ++ z) (append_assoc a i ((k ++ i) ++ (c ++ y))
      ∙ ap (λ (z : List ℕ). a ++ z) (ap (λ (z : List ℕ). i ++ z) (append_assoc k i (c ++ y)) ∙ sym (append_assoc i k (i ++ (c ++ y))) ∙ ap (λ (z : List ℕ). (i ++ k) ++ z) (sym (append_assoc i c y))))

  par_is : (q : (Name × Name) × (List Argument × (Name × (Name × List Expr)))) → codes "{\n" ++ (indent (n + 1) ++ par_parts_text q) ≡ stmt_end n (par_of q)
  par_is q = ap (λ (z : List ℕ). codes "{\n" ++ z)
      (par_group (indent (n + 1)) (par_names_text q.0) (flat_map (argument_text (n + 1)) q.1.0) (codes "thrd_t t = p_fork(t_" ++ (mangled_name q.1.1.0 ++ codes ", q);\n")) (call_text q.1.1.1.0 q.1.1.1.1 ++ codes ";\n")
      ((indent (n + 1) ++ codes "p_join(t);\n") ++ (indent n ++ codes "}\n")))

-- ---- loops, the lines of a `par` and returns

abbrev OfRest : Stmt → Type 0
OfRest (t.Par lines) = ⊤
OfRest (t.While loads e body) = ⊤
OfRest (t.Return e) = ⊤
OfRest _ = ⊥

flat_there : (n : ℕ) (s : Stmt) (text : List ℕ) → RLines s text → Kept OfRest zero n s text
flat_there n s text u = rw u.2 ((tt, u.1.0), u.1.1)

flat_back : (n : ℕ) (s : Stmt) (text : List ℕ) → Kept OfRest zero n s text → RLines s text
flat_back n (t.Return e) text u = (e, (u.0.1, u.1), refl)
flat_back n (t.Par lines) text u = absurd u.0.1
flat_back n (t.While loads e body) text u = absurd u.0.1
flat_back n (t.Bind type x right) text u = absurd u.0.0
flat_back n (t.Store cell e) text u = absurd u.0.0
flat_back n (t.Free base) text u = absurd u.0.0
flat_back n (t.AtomicStore base e) text u = absurd u.0.0
flat_back n (t.Acquire lock) text u = absurd u.0.0
flat_back n (t.Release lock) text u = absurd u.0.0
flat_back n (t.Print e) text u = absurd u.0.0
flat_back n (t.CallStmt f args) text u = absurd u.0.0
flat_back n (t.If e first second) text u = absurd u.0.0

return_begins : Begin (114 ∷ []) RLines
return_begins = begin_mapped (114 ∷ []) t.Return (Spells IsExprForm (λ e. codes "return " ++ (expr_text e ++ codes ";\n"))) (begin_spells 114 (codes "eturn ") IsExprForm (λ e. expr_text e ++ codes ";\n"))

alts_flat : (n : ℕ) → Alts (119 ∷ 123 ∷ 114 ∷ []) (Kept OfRest zero n) never line_r
alts_flat n = alts_same (119 ∷ 123 ∷ 114 ∷ []) RLines (Kept OfRest zero n) never line_r (flat_there n) (flat_back n)
    (last (119 ∷ 123 ∷ 114 ∷ []) RLines never line_r good_r (begin_wider 119 (123 ∷ 114 ∷ []) RLines (begin_wider 123 (114 ∷ []) RLines return_begins)))

module _ (r n : ℕ) (P : Reader ℕ Stmt) (p : Good (Spells (IsStmtForm r) (stmt_end (n + 1))) never P) where
  abbrev Blocks : Language ℕ Stmt
  Blocks = Either (Loop (IsStmtForm r) n P p) (Either (ParLines n) RLines)

  rest_there : (s : Stmt) (text : List ℕ) → Blocks s text → Kept OfRest (suc r) n s text
  rest_there s text (inl (((loads, e), body), w, q)) = rw q ((tt, (w.0.0.0, w.0.0.1, all_there r body w.0.1)), w.1 ∙ while_is n loads e body)
  rest_there s text (inr (inl (z, w, q))) =
      rw q ((tt, record { structure = w.0.0.0; size = w.0.0.1; arguments = w.0.1.0; starter = w.0.1.1.0; call = w.0.1.1.1 }), w.1 ∙ par_is n z)
  rest_there s text (inr (inr u)) = rw u.2 ((tt, u.1.0), u.1.1)

  rest_back : (s : Stmt) (text : List ℕ) → Kept OfRest (suc r) n s text → Blocks s text
  rest_back (t.While loads e body) text u =
      let b = unchain body in
      let whole : t.While loads e body ≡ t.While loads e (chain b) = ap (λ (z : Stmts). t.While loads e z) (sym (chain_of body)) in
      inl (((loads, e), b), (((u.0.1.0, u.0.1.1), all_back r body u.0.1.2), u.1 ∙ ap (stmt_end n) whole ∙ sym (while_is n loads e b)), whole)
  rest_back (t.Par lines) text u =
      let z : (Name × Name) × (List Argument × (Name × (Name × List Expr))) = ((lines.structure, lines.size), (lines.arguments, (lines.starter, (lines.other, lines.others)))) in
      let w = u.0.1 in
      inr (inl (z, (((w.structure, w.size), (w.arguments, (w.starter, w.call))), u.1 ∙ sym (par_is n z)), refl))
  rest_back (t.Return e) text u = inr (inr (e, (u.0.1, u.1), refl))
  rest_back (t.Bind type x right) text u = absurd u.0.0
  rest_back (t.Store cell e) text u = absurd u.0.0
  rest_back (t.Free base) text u = absurd u.0.0
  rest_back (t.AtomicStore base e) text u = absurd u.0.0
  rest_back (t.Acquire lock) text u = absurd u.0.0
  rest_back (t.Release lock) text u = absurd u.0.0
  rest_back (t.Print e) text u = absurd u.0.0
  rest_back (t.CallStmt f args) text u = absurd u.0.0
  rest_back (t.If e first second) text u = absurd u.0.0

  alts_rest : Alts (119 ∷ 123 ∷ 114 ∷ []) (Kept OfRest (suc r) n) never (block_or_return n P)
  unfolding block_or_return
  alts_rest = alts_same (119 ∷ 123 ∷ 114 ∷ []) Blocks (Kept OfRest (suc r) n) never (either (is 119) (while_lines n P) (either (is 123) (par n) line_r)) rest_there rest_back
      (alt 119 (123 ∷ 114 ∷ []) (Loop (IsStmtForm r) n P p) (Either (ParLines n) RLines) never (while_lines n P) (either (is 123) (par n) line_r) refl (good_while (IsStmtForm r) n P p)
      (begin_mapped (119 ∷ []) (while_of (IsStmtForm r) n P p) (Spells (WhileForm (IsStmtForm r) n P p) (λ q. codes "while (1) {\n" ++ while_text (IsStmtForm r) n P p q)) (begin_spells 119 (codes "hile (1) {\n") (WhileForm (IsStmtForm r) n P p) (while_text (IsStmtForm r) n P p)))
      (alt 123 (114 ∷ []) (ParLines n) RLines never (par n) line_r refl (good_par n)
      (begin_mapped (123 ∷ []) (par_of n) (Spells (ParParts n) (λ q. codes "{\n" ++ (indent (n + 1) ++ par_parts_text n q))) (begin_spells 123 (codes "\n") (ParParts n) (λ q. indent (n + 1) ++ par_parts_text n q)))
      (last (114 ∷ []) RLines never line_r good_r return_begins)))

-- ---- all statements

module _ (r n : ℕ) (I K : Reader ℕ Stmt) (i : Alts (105 ∷ []) (Kept OfI r n) never I) (k : Alts (119 ∷ 123 ∷ 114 ∷ []) (Kept OfRest r n) never K) where
  abbrev Kinds : Language ℕ Stmt
  Kinds = Either (Kept OfI r n) (Either (Kept OfBool r n) (Either (Kept OfStruct r n) (Either (Kept OfVoid r n) (Either (Kept OfPrelude r n) (Either (Kept OfCall r n) (Either (Kept OfAtomic r n) (Either (Kept OfWhole r n) (Kept OfRest r n))))))))

  kinds_there : (s : Stmt) (text : List ℕ) → Kinds s text → Spells (IsStmtForm r) (stmt_end n) s text
  kinds_there s text (inl u) = (u.0.1, u.1)
  kinds_there s text (inr (inl u)) = (u.0.1, u.1)
  kinds_there s text (inr (inr (inl u))) = (u.0.1, u.1)
  kinds_there s text (inr (inr (inr (inl u)))) = (u.0.1, u.1)
  kinds_there s text (inr (inr (inr (inr (inl u))))) = (u.0.1, u.1)
  kinds_there s text (inr (inr (inr (inr (inr (inl u)))))) = (u.0.1, u.1)
  kinds_there s text (inr (inr (inr (inr (inr (inr (inl u))))))) = (u.0.1, u.1)
  kinds_there s text (inr (inr (inr (inr (inr (inr (inr (inl u)))))))) = (u.0.1, u.1)
  kinds_there s text (inr (inr (inr (inr (inr (inr (inr (inr u)))))))) = (u.0.1, u.1)

  kinds_back : (s : Stmt) (text : List ℕ) → Spells (IsStmtForm r) (stmt_end n) s text → Kinds s text
  kinds_back (t.Bind kind.I64 x right) text u = inl ((tt, u.0), u.1)
  kinds_back (t.Bind kind.PtrI64 x right) text u = inl ((tt, u.0), u.1)
  kinds_back (t.Bind kind.Bool x right) text u = inr (inl ((tt, u.0), u.1))
  kinds_back (t.Bind kind.PtrBool x right) text u = inr (inl ((tt, u.0), u.1))
  kinds_back (t.Bind (kind.PtrStruct s) x right) text u = inr (inr (inl ((u.0.0, u.0), u.1)))
  kinds_back (t.Bind kind.PtrLock x right) text u = inr (inr (inl ((tt, u.0), u.1)))
  kinds_back (t.Bind kind.Void x right) text u = inr (inr (inr (inl ((tt, u.0), u.1))))
  kinds_back (t.Bind kind.PtrAtomic x right) text u = inr (inr (inr (inr (inl ((tt, u.0), u.1)))))
  kinds_back (t.Store (t.Whole base) e) text u = inr (inr (inr (inr (inr (inr (inr (inl ((tt, u.0), u.1))))))))
  kinds_back (t.Store (t.At base index) e) text u = inr (inr (inr (inl ((tt, u.0), u.1))))
  kinds_back (t.Store (t.Field base member) e) text u = inr (inr (inr (inl ((tt, u.0), u.1))))
  kinds_back (t.Free base) text u = inr (inr (inr (inr (inr (inl ((tt, u.0), u.1))))))
  kinds_back (t.CallStmt f args) text u = inr (inr (inr (inr (inr (inl ((tt, u.0), u.1))))))
  kinds_back (t.AtomicStore base e) text u = inr (inr (inr (inr (inr (inr (inl ((tt, u.0), u.1)))))))
  kinds_back (t.Acquire lock) text u = inr (inr (inr (inr (inl ((tt, u.0), u.1)))))
  kinds_back (t.Release lock) text u = inr (inr (inr (inr (inl ((tt, u.0), u.1)))))
  kinds_back (t.Print e) text u = inr (inr (inr (inr (inl ((tt, u.0), u.1)))))
  kinds_back (t.If e first second) text u = inl ((tt, u.0), u.1)
  kinds_back (t.Par lines) text u = inr (inr (inr (inr (inr (inr (inr (inr ((tt, u.0), u.1))))))))
  kinds_back (t.While loads e body) text u = inr (inr (inr (inr (inr (inr (inr (inr ((tt, u.0), u.1))))))))
  kinds_back (t.Return e) text u = inr (inr (inr (inr (inr (inr (inr (inr ((tt, u.0), u.1))))))))

  good_stmt_of : Good (Spells (IsStmtForm r) (stmt_end n)) never (stmt_of I K)
  unfolding stmt_of
  good_stmt_of = same Kinds (Spells (IsStmtForm r) (stmt_end n)) never _ kinds_there kinds_back
      (alt 105 (98 ∷ 115 ∷ 118 ∷ 112 ∷ 102 ∷ 97 ∷ 42 ∷ 119 ∷ 123 ∷ 114 ∷ []) (Kept OfI r n) _ never I _ refl i.good i.begin
      (alt 98 (115 ∷ 118 ∷ 112 ∷ 102 ∷ 97 ∷ 42 ∷ 119 ∷ 123 ∷ 114 ∷ []) (Kept OfBool r n) _ never (bind bool_type) _ refl (kept_bool r n).good (kept_bool r n).begin
      (alt 115 (118 ∷ 112 ∷ 102 ∷ 97 ∷ 42 ∷ 119 ∷ 123 ∷ 114 ∷ []) (Kept OfStruct r n) _ never (bind struct_type) _ refl (kept_struct r n).good (kept_struct r n).begin
      (alt 118 (112 ∷ 102 ∷ 97 ∷ 42 ∷ 119 ∷ 123 ∷ 114 ∷ []) (Kept OfVoid r n) _ never line_v _ refl (kept_void r n).good (kept_void r n).begin
      (alt 112 (102 ∷ 97 ∷ 42 ∷ 119 ∷ 123 ∷ 114 ∷ []) (Kept OfPrelude r n) _ never line_p _ refl (kept_prelude r n).good (kept_prelude r n).begin
      (alt 102 (97 ∷ 42 ∷ 119 ∷ 123 ∷ 114 ∷ []) (Kept OfCall r n) _ never line_f _ refl (kept_call r n).good (kept_call r n).begin
      (alt 97 (42 ∷ 119 ∷ 123 ∷ 114 ∷ []) (Kept OfAtomic r n) _ never line_a _ refl (kept_atomic r n).good (kept_atomic r n).begin
      (alt 42 (119 ∷ 123 ∷ 114 ∷ []) (Kept OfWhole r n) (Kept OfRest r n) never store_whole K refl (kept_whole r n).good (kept_whole r n).begin k)))))))).good

pub good_stmt : (r n : ℕ) → Good (Spells (IsStmtForm r) (stmt_end n)) never (stmt r n)
unfolding stmt
good_stmt zero n = good_stmt_of zero n plain_i line_r (alts_plain_i n) (alts_flat n)
good_stmt (suc r) n = good_stmt_of (suc r) n (block_i n (stmt r (n + 1))) (block_or_return n (stmt r (n + 1))) (alts_block_i r n (stmt r (n + 1)) (good_stmt r (n + 1))) (alts_rest r n (stmt r (n + 1)) (good_stmt r (n + 1)))

pub stmt_is : (r n : ℕ) → stmt r n ≡ stmt_of (begun_i r n (λ k. stmt k (n + 1))) (begun_otherwise r n (λ k. stmt k (n + 1)))
unfolding stmt begun_i begun_otherwise
stmt_is zero n = refl
stmt_is (suc r) n = refl

-- ---- the rows of a block, for the loop that reads them

pub reads_row : (r n : ℕ) → Reads (Spells (IsStmtForm r) (row_text n)) (Spells (IsStmtForm r) (row_text n)) never (row n (stmt r (n + 1)))
reads_row r n = (good_row (IsStmtForm r) n (stmt r (n + 1)) (good_stmt r (n + 1))).reads

pub starts_row : (r n : ℕ) → Starts (is 32) (Spells (IsStmtForm r) (row_text n))
starts_row r n s text u = (32, codes " " ++ (stmt_end (n + 1) s ++ indent n), u.1, refl)

pub reads_argument_row : (m : ℕ) → Reads (Spells IsArgumentForm (λ a. argument_end a ++ indent m)) (Spells IsArgumentForm (λ a. argument_end a ++ indent m)) never (argument_row m)
reads_argument_row m = (good_argument_row m).reads

pub starts_argument_row : (m : ℕ) → Starts (is 113) (Spells IsArgumentForm (λ a. argument_end a ++ indent m))
starts_argument_row m a text u = (113, (codes "->a_" ++ (number_text a.number ++ stored_end a.value)) ++ indent m, u.1, refl)
