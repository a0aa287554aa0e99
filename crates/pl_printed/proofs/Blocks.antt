-- Statements with blocks, and blocks, as they are printed.
use Rattle.std.proofs.Common.{◌≡◌, ◌∙◌, ℕ, zero, suc, ◌+◌, false, List, [], ◌∷◌, ◌++◌, Option, Some, None, refl, sym, ap, subst, append_assoc}
use Rattle.std.specs.Prelude.{codes}
use Rattle.std.specs.Option.{option_map}
use Rattle.pl_base.specs.declared.pos.Pos.{Pos}
use Rattle.pl_lexer.specs.declared.tokens.Kind.{Kind}
use Rattle.pl_lexer.specs.declared.tokens.Kind.TheVariants as k
use Rattle.pl_lexer.specs.declared.tokens.Token.{Token}
use Rattle.pl_lexer.specs.Proper.{IsName}
use Rattle.pl_readers.specs.Language.{Language, Then, Mapped, Many}
use Rattle.pl_syntax.specs.Plain.{chain}
use Rattle.pl_syntax.specs.Tree as t
use Rattle.pl_syntax.specs.Tree.{Name, Expr, Prop, Stmt, Stmts, Braced, Else}
use Rattle.pl_grammar.specs.Grammar.{Sign}
use Rattle.pl_grammar.specs.PropGrammar.{Value}
use Rattle.pl_grammar.specs.StatementGrammar.{StatementEnsures, ElseOf, LoadRule, Loads, StatementOf, Block}
use Rattle.pl_print.specs.Lists.{indent}
use Rattle.pl_print.specs.ExprText.{value_text}
use Rattle.pl_print.specs.PropText.{whole_prop_text}
use Rattle.pl_print.specs.StmtText.{after_text, kept_text, opening_text, stmt_text, loads_text, lines_text, block_text, else_text}
use Rattle.pl_printed.specs.Bare.{bare, bare_prop, bare_stmt, bare_stmts, bare_block, bare_else, nowhere}
use Rattle.pl_printed.specs.Levels.{FitsValue, FitsAfter, FitsStmt, FitStmts, FitsBlock, FitsElse}
use Rattle.pl_printed.specs.Printable.{IfSome, IsExpr, IsProp, AreLoads, IsStmt, AreStmts, IsBlock, IsElse}
use Rattle.pl_printed.proofs.Takes.{Takes, split, next, sign, name, last_sign, mapped, left, right, nothing, no_texts}
use Rattle.pl_printed.proofs.Members.{gap, line, mark, named, part, clause, Printed, Written, printed_by, written_by}
use Rattle.pl_printed.proofs.Exprs.{value}
use Rattle.pl_printed.proofs.Props.{whole_prop}
use Rattle.pl_printed.proofs.Stmts.{SimpleMeans, let_value, load_rule, load_any, alloc, alloc_array, alloc_atomic, atomic_read, cas, new_lock, read, ghost_let, galloc, new_invariant, let_mut, new, call_any, store, par, free, free_array, acquire, release, free_lock, atomic_write, print, give, fold_rule, unfold_rule, rewrite, share, gather, split as split_slice, join, focus, unfocus, assert, with_assert, drop_rule}

abbrev pub StmtMeans : Stmt → List Kind → Type 0
StmtMeans s ks = (depth : ℕ) → FitsStmt depth s → Takes (StatementOf depth (Block depth)) ks (λ y. bare_stmt y ≡ bare_stmt s)

abbrev pub BlockMeans : Braced → List Kind → Type 0
BlockMeans b ks = (depth : ℕ) → FitsBlock depth b → Takes (Block depth) ks (λ y. bare_block y ≡ bare_block b)

abbrev ElseMeans : Else → List Kind → Type 0
ElseMeans e ks = (depth : ℕ) → FitsElse depth e → Takes (ElseOf (Block depth)) ks (λ y. bare_else y ≡ bare_else e)

of_simple : {text : List ℕ} (s : Stmt) → Printed text (SimpleMeans s) → Printed text (StmtMeans s)
of_simple s r = record { parts = r.parts; means = λ depth fits. right (right (right (r.means depth fits))) }

-- ---- what stands behind blocks

abbrev AfterMeans : Option Prop → List Kind → Type 0
AfterMeans o ks = (depth : ℕ) → FitsAfter depth o → Takes (StatementEnsures depth) ks (λ y. option_map bare_prop y ≡ option_map bare_prop o)

after : (o : Option Prop) → IfSome IsProp o → Written (after_text o) (AfterMeans o)
after None h = written_by [] [] refl refl (λ depth fits. right (nothing refl))
after (Some p) h =
    let v = whole_prop p h in
    written_by (gap ∷ mark 37 ∷ gap ∷ part _ v.parts ∷ mark 7 ∷ []) (after_text (Some p)) refl refl
    (λ depth fits. left (sign 37 (λ q. next (v.means depth fits) (λ y f. last_sign 7 (λ r. ap (λ (z : Prop). let o : Option Prop = Some z in o) f)))))

else_written : (b : Braced) (n : ℕ) → Printed (block_text n b) (BlockMeans b) → Written (else_text n (t.else b)) (ElseMeans (t.else b))
else_written b n r =
    written_by (gap ∷ mark 42 ∷ gap ∷ part _ r.parts ∷ []) (else_text n (t.else b)) refl refl
    (λ depth fits. left (sign 42 (λ q. mapped (r.means depth fits) (λ y f. ap (λ (z : Braced). t.else z) f))))

if_same : (y e : Expr) (a first : Braced) (b second : Else) (o after : Option Prop) → bare y ≡ bare e → bare_block a ≡ bare_block first → bare_else b ≡ bare_else second → option_map bare_prop o ≡ option_map bare_prop after
    → bare_stmt (t.If nowhere y a b o) ≡ bare_stmt (t.If nowhere e first second after)
if_same y e a first b second o after f g h i = cc (f, g, h, i)

if_stmt : (at : Pos) (e : Expr) (first : Braced) (second : Else) (o : Option Prop) (n : ℕ) → IsExpr e → IfSome IsProp o → Printed (block_text n first) (BlockMeans first) → Written (else_text n second) (ElseMeans second)
    → Printed (stmt_text n (t.If at e first second o)) (StmtMeans (t.If at e first second o))
if_stmt at e first second o n he ho rb re =
    let v = value e he in
    let w = after o ho in
    printed_by (mark 41 ∷ gap ∷ mark 0 ∷ part _ v.parts ∷ mark 1 ∷ gap ∷ part _ rb.parts ∷ clause _ re.parts ∷ clause _ w.parts ∷ []) (stmt_text n (t.If at e first second o)) refl refl
    (λ depth fits. left (sign 41 (λ p0. sign 0 (λ p1. next (v.means depth 0 fits.0) (λ y1 f1. sign 1 (λ p2. next (rb.means depth fits.1) (λ y2 f2. next (re.means depth fits.2) (λ y3 f3. mapped (w.means depth fits.3) (λ y4 f4.
    if_same y1 e y2 first y3 second y4 o f1 f2 f3 f4)))))))))

with_text : (n : ℕ) (x : Name) (b : Braced) (o : Option Prop) → codes "with_invariants " ++ (x ++ (codes " " ++ (block_text n b ++ after_text o))) ≡ stmt_text n (t.With nowhere x b o)
unfolding opening_text
with_text n x b o = ap (λ (z : List ℕ). codes "with_invariants " ++ z) (sym (append_assoc x (codes " ") (block_text n b ++ after_text o)))

with_stmt : (at : Pos) (x : Name) (b : Braced) (o : Option Prop) (n : ℕ) → IsName x → IfSome IsProp o → Printed (block_text n b) (BlockMeans b) → Printed (stmt_text n (t.With at x b o)) (StmtMeans (t.With at x b o))
with_stmt at x b o n hx ho rb =
    let w = after o ho in
    printed_by (mark 46 ∷ gap ∷ named x hx ∷ gap ∷ part _ rb.parts ∷ clause _ w.parts ∷ []) (stmt_text n (t.With at x b o)) refl (with_text n x b o)
    (λ depth fits. right (right (left (sign 46 (λ p0. name x (λ p1. next (rb.means depth fits.0) (λ y2 f2. mapped (w.means depth fits.1) (λ y4 f4. with_same x y2 b y4 o f2 f4))))))))
  where
    with_same : (x : Name) (a b : Braced) (o after : Option Prop) → bare_block a ≡ bare_block b → option_map bare_prop o ≡ option_map bare_prop after → bare_stmt (t.With nowhere x a o) ≡ bare_stmt (t.With nowhere x b after)
    with_same x a b o after f g = cc (f, g)

-- ---- loops

-- loads, and the expression behind them
abbrev Head : ℕ → Language Token (List Stmt × Expr)
Head depth = Then (Loads depth) (λ ls. Mapped (λ e. (ls, e)) (Value depth 0))

abbrev IsHead : Stmts → Expr → List Stmt × Expr → Type 0
IsHead loads e y = (bare_stmts (chain y.0) ≡ bare_stmts loads) × (bare y.1 ≡ bare e)

abbrev HeadMeans : Stmts → Expr → List Kind → Type 0
HeadMeans loads e ks = (depth : ℕ) → FitStmts depth loads → FitsValue depth 0 e → Takes (Head depth) ks (IsHead loads e)

one_load : {ka kb : List Kind} (s : Stmt) (rest : Stmts) (e : Expr) (depth : ℕ) → Takes (LoadRule depth) ka (λ y. bare_stmt y ≡ bare_stmt s) → Takes (Head depth) kb (IsHead rest e) → Takes (Head depth) (ka ++ kb) (IsHead (t.more s rest) e)
one_load {ka} {kb} s rest e depth a b = record {
  take = λ ts h.
      let w = split ts ka kb h in
      let x = a.take w.0 w.3 in
      let y = b.take w.1 w.4 in
      let d = y.1 in
      let v = d.4 in
      let is : y.0 ≡ (d.0, v.0) = v.2 in
      let loads : bare_stmts (chain d.0) ≡ bare_stmts rest = ap (λ (z : List Stmt × Expr). bare_stmts (chain z.0)) (sym is) ∙ y.2.0 in
      let last : bare v.0 ≡ bare e = ap (λ (z : List Stmt × Expr). bare z.1) (sym is) ∙ y.2.1 in
      ((x.0 ∷ d.0, v.0), (x.0 ∷ d.0, w.0 ++ d.1, d.2, (w.0, d.1, x.1, d.3, refl), (v.0, v.1, refl), w.2 ∙ ap (λ (z : List Token). w.0 ++ z) d.5 ∙ sym (append_assoc w.0 d.1 d.2)), (cc (x.2, loads), last));
}

four_group : (a b c d : List ℕ) → a ++ (b ++ (c ++ d)) ≡ ((a ++ b) ++ c) ++ d
four_group a b c d = sym (append_assoc (a ++ b) c d ∙ append_assoc a b (c ++ d))

head : (loads : Stmts) (e : Expr) (n : ℕ) → AreLoads loads → IsExpr e → Printed (loads_text n loads ++ value_text e) (HeadMeans loads e)
head t.end e n h he =
    let v = value e he in
    printed_by (part _ v.parts ∷ []) (value_text e) refl refl (λ depth loads fits. next {P = λ ls. bare_stmts (chain ls) ≡ t.end} (no_texts refl) (λ ls a. mapped (v.means depth 0 fits) (λ y f. (a, f))))
head (t.more (t.Load at x s false) rest) e n h he =
    let u = load_rule at x s h.0.0 h.0.1 n in
    let v = head rest e n h.1 he in
    printed_by (part _ u.parts ∷ gap ∷ part _ v.parts ∷ []) (loads_text n (t.more (t.Load at x s false) rest) ++ value_text e) refl
    (four_group (stmt_text n (t.Load at x s false)) (codes " ") (loads_text n rest) (value_text e))
    (λ depth loads fits. one_load (t.Load at x s false) rest e depth (u.means depth loads.0) (v.means depth loads.1 fits))
head (t.more s rest) e n h he = absurd h.0

head_then : {B : Type 0} {ka kb : List Kind} {P : List Stmt × Expr → Type 0} {Q : B → Type 0} (depth : ℕ) (U : List Stmt → Expr → Language Token B)
    → Takes (Head depth) ka P → ((ls : List Stmt) (e : Expr) → P (ls, e) → Takes (U ls e) kb Q) → Takes (Then (Loads depth) (λ ls. Then (Value depth 0) (λ e. U ls e))) (ka ++ kb) Q
head_then {ka = ka} {kb = kb} {P = P} depth U a u = record {
  take = λ ts h.
      let w = split ts ka kb h in
      let y = a.take w.0 w.3 in
      let d = y.1 in
      let v = d.4 in
      let b = (u d.0 v.0 (subst P v.2 y.2)).take w.1 w.4 in
      (b.0, (d.0, d.1, d.2 ++ w.1, d.3, (v.0, d.2, w.1, v.1, b.1, refl), w.2 ∙ ap (λ (z : List Token). z ++ w.1) d.5 ∙ append_assoc d.1 d.2 w.1), b.2);
}

while_same : (ls loads : Stmts) (y e : Expr) (q kept : Prop) (a body : Braced) → bare_stmts ls ≡ bare_stmts loads → bare y ≡ bare e → bare_prop q ≡ bare_prop kept → bare_block a ≡ bare_block body
    → bare_stmt (t.While nowhere ls y q a) ≡ bare_stmt (t.While nowhere loads e kept body)
while_same ls loads y e q kept a body f g h i = cc (f, g, h, i)

while_group : (w l v i p s b : List ℕ) → w ++ ((l ++ v) ++ (i ++ (p ++ (s ++ b)))) ≡ w ++ (l ++ ((v ++ (i ++ (p ++ s))) ++ b))
while_group w l v i p s b = simp append_assoc refl

while_text : (n : ℕ) (loads : Stmts) (e : Expr) (kept : Prop) (body : Braced)
    → codes "while (" ++ ((loads_text n loads ++ value_text e) ++ (codes ") invariant " ++ (whole_prop_text kept ++ (codes " " ++ block_text n body)))) ≡ stmt_text n (t.While nowhere loads e kept body)
unfolding kept_text
while_text n loads e kept body = while_group (codes "while (") (loads_text n loads) (value_text e) (codes ") invariant ") (whole_prop_text kept) (codes " ") (block_text n body)

while_stmt : (at : Pos) (loads : Stmts) (e : Expr) (kept : Prop) (body : Braced) (n : ℕ) → AreLoads loads → IsExpr e → IsProp kept → Printed (block_text n body) (BlockMeans body)
    → Printed (stmt_text n (t.While at loads e kept body)) (StmtMeans (t.While at loads e kept body))
while_stmt at loads e kept body n hl he hk rb =
    let v = head loads e n hl he in
    let w = whole_prop kept hk in
    printed_by (mark 43 ∷ gap ∷ mark 0 ∷ part _ v.parts ∷ mark 1 ∷ gap ∷ mark 44 ∷ gap ∷ part _ w.parts ∷ gap ∷ part _ rb.parts ∷ []) (stmt_text n (t.While at loads e kept body)) refl
    (while_text n loads e kept body)
    (λ depth fits. right (left (sign 43 (λ p0. sign 0 (λ p1. head_then depth _ (v.means depth fits.0 fits.1) (λ ls y a. sign 1 (λ p2. sign 44 (λ p3. next (w.means depth fits.2) (λ q f. mapped (rb.means depth fits.3) (λ b g.
    while_same (chain ls) loads y e q kept b body a.0 a.1 f g))))))))))

-- ---- blocks

-- a text with blanks in front of it
indented : {M : List Kind → Type 0} {text : List ℕ} (n : ℕ) → Printed text M → Printed (indent n ++ text) M
indented zero r = r
indented {text = text} (suc n) r = let i = indented n r in printed_by (gap ∷ gap ∷ part _ i.parts ∷ []) (indent (suc n) ++ text) refl refl i.means

-- what stands behind the opening brace
abbrev Rest : ℕ → Language Token Braced
Rest depth = Then (Many (StatementOf depth (Block depth))) (λ ss. Mapped (λ p. t.braces (chain ss) p) (Sign 3))

abbrev rest_text : Stmts → ℕ → ℕ → List ℕ
rest_text list m n = (lines_text m list ++ indent n) ++ codes "}"

abbrev RestMeans : Stmts → List Kind → Type 0
RestMeans list ks = (depth : ℕ) → FitStmts depth list → Takes (Rest depth) ks (λ y. bare_block y ≡ t.braces (bare_stmts list) nowhere)

no_lines : (m n : ℕ) → Printed (rest_text t.end m n) (RestMeans t.end)
no_lines m n =
    indented n (printed_by (mark 3 ∷ []) (codes "}") refl refl (λ depth fits. next {P = λ ss. bare_stmts (chain ss) ≡ t.end} (no_texts refl) (λ ss a. last_sign 3 (λ p. ap (λ (z : Stmts). t.braces z nowhere) a))))

list_in : Braced → Stmts
list_in (t.braces list close) = list

one_statement : {ka kb : List Kind} (s : Stmt) (rest : Stmts) (depth : ℕ) → Takes (StatementOf depth (Block depth)) ka (λ y. bare_stmt y ≡ bare_stmt s) → Takes (Rest depth) kb (λ y. bare_block y ≡ t.braces (bare_stmts rest) nowhere)
    → Takes (Rest depth) (ka ++ kb) (λ y. bare_block y ≡ t.braces (bare_stmts (t.more s rest)) nowhere)
unfolding list_in
one_statement {ka} {kb} s rest depth a b = record {
  take = λ ts h.
      let w = split ts ka kb h in
      let x = a.take w.0 w.3 in
      let y = b.take w.1 w.4 in
      let d = y.1 in
      let v = d.4 in
      let is : y.0 ≡ t.braces (chain d.0) v.0 = v.2 in
      let all : bare_stmts (chain d.0) ≡ bare_stmts rest = ap list_in (sym (ap bare_block is) ∙ y.2) in
      (t.braces (chain (x.0 ∷ d.0)) v.0, (x.0 ∷ d.0, w.0 ++ d.1, d.2, (w.0, d.1, x.1, d.3, refl), (v.0, v.1, refl), w.2 ∙ ap (λ (z : List Token). w.0 ++ z) d.5 ∙ sym (append_assoc w.0 d.1 d.2)), ap (λ (z : Stmts). t.braces z nowhere) (stmts_same x.0 s (chain d.0) rest x.2 all));
}
  where
    stmts_same : (x s : Stmt) (ss rest : Stmts) → bare_stmt x ≡ bare_stmt s → bare_stmts ss ≡ bare_stmts rest → bare_stmts (t.more x ss) ≡ bare_stmts (t.more s rest)
    stmts_same x s ss rest f g = cc (f, g)

line_group : (a b l i e : List ℕ) → a ++ (b ++ ((l ++ i) ++ e)) ≡ (((a ++ b) ++ l) ++ i) ++ e
line_group a b l i e = sym (append_assoc ((a ++ b) ++ l) i e ∙ append_assoc (a ++ b) l (i ++ e) ∙ append_assoc a b (l ++ (i ++ e)) ∙ ap (λ (z : List ℕ). a ++ (b ++ z)) (sym (append_assoc l i e)))

one_line : (s : Stmt) (rest : Stmts) (m n : ℕ) → Printed (stmt_text m s) (StmtMeans s) → Printed (rest_text rest m n) (RestMeans rest) → Printed (rest_text (t.more s rest) m n) (RestMeans (t.more s rest))
one_line s rest m n rs rr =
    let i = indented m rs in
    printed_by (part _ i.parts ∷ line ∷ part _ rr.parts ∷ []) (rest_text (t.more s rest) m n) refl
    (line_group (indent m ++ stmt_text m s) (codes "\n") (lines_text m rest) (indent n) (codes "}"))
    (λ depth fits. one_statement s rest depth (i.means depth fits.0) (rr.means depth fits.1))

in_braces : {kr : List Kind} (list : Stmts) (close : Pos) → RestMeans list kr → (depth : ℕ) → FitsBlock depth (t.braces list close) → Takes (Block depth) (k.Sign 2 ∷ kr) (λ y. bare_block y ≡ bare_block (t.braces list close))
unfolding Block
in_braces list close m zero fits = absurd fits
in_braces list close m (suc depth) fits = sign 2 (λ p. m depth fits)

block_by : (list : Stmts) (close : Pos) (n : ℕ) → Printed (rest_text list (n + 1) n) (RestMeans list) → Printed (block_text n (t.braces list close)) (BlockMeans (t.braces list close))
block_by list close n r = printed_by (mark 2 ∷ line ∷ part _ r.parts ∷ []) (block_text n (t.braces list close)) refl refl (λ depth fits. in_braces list close r.means depth fits)

-- ---- all statements

mutual
  pub stmt : (s : Stmt) → IsStmt s → (n : ℕ) → Printed (stmt_text n s) (StmtMeans s)
  stmt (t.Let at x e) h n = of_simple (t.Let at x e) (let_value at x e h.0 h.1 n)
  stmt (t.Load at x s is_ghost) h n = of_simple (t.Load at x s is_ghost) (load_any at x s is_ghost h.0 h.1 n)
  stmt (t.Store at s e) h n = of_simple (t.Store at s e) (store at s e h.0 h.1 n)
  stmt (t.Alloc at x e) h n = of_simple (t.Alloc at x e) (alloc at x e h.0 h.1 n)
  stmt (t.AllocArray at x e m) h n = of_simple (t.AllocArray at x e m) (alloc_array at x e m h.0 h.1 h.2 n)
  stmt (t.AllocAtomic at x e) h n = of_simple (t.AllocAtomic at x e) (alloc_atomic at x e h.0 h.1 n)
  stmt (t.New at x s is) h n = of_simple (t.New at x s is) (new at x s is h.0 h.1 h.2 h.3 n)
  stmt (t.Free at x) h n = of_simple (t.Free at x) (free at x h n)
  stmt (t.FreeArray at x) h n = of_simple (t.FreeArray at x) (free_array at x h n)
  stmt (t.AtomicRead at x y) h n = of_simple (t.AtomicRead at x y) (atomic_read at x y h.0 h.1 n)
  stmt (t.AtomicWrite at x e) h n = of_simple (t.AtomicWrite at x e) (atomic_write at x e h.0 h.1 n)
  stmt (t.Cas at x y e m) h n = of_simple (t.Cas at x y e m) (cas at x y e m h.0 h.1 h.2 h.3 n)
  stmt (t.NewLock at x i) h n = of_simple (t.NewLock at x i) (new_lock at x i h.0 h.1 n)
  stmt (t.Acquire at x) h n = of_simple (t.Acquire at x) (acquire at x h n)
  stmt (t.Release at x) h n = of_simple (t.Release at x) (release at x h n)
  stmt (t.FreeLock at x) h n = of_simple (t.FreeLock at x) (free_lock at x h n)
  stmt (t.Read at x) h n = of_simple (t.Read at x) (read at x h n)
  stmt (t.Print at e) h n = of_simple (t.Print at e) (print at e h n)
  stmt (t.Call at x f es) h n = of_simple (t.Call at x f es) (call_any at x f es h.0 h.1 h.2 n)
  stmt (t.Par at f es g ds) h n = of_simple (t.Par at f es g ds) (par at f es g ds h.0 h.1 h.2 h.3 n)
  stmt (t.If at e first second o) h n = if_stmt at e first second o n h.0 h.3 (block first h.1 n) (otherwise second h.2 n)
  stmt (t.While at loads e kept body) h n = while_stmt at loads e kept body n h.0 h.1 h.2 (block body h.3 n)
  stmt (t.LetMut at x e) h n = of_simple (t.LetMut at x e) (let_mut at x e h.0 h.1 n)
  stmt (t.Return at e) h n = of_simple (t.Return at e) (give at e h n)
  stmt (t.With at x body o) h n = with_stmt at x body o n h.0 h.2 (block body h.1 n)
  stmt (t.GLet at x e) h n = of_simple (t.GLet at x e) (ghost_let at x e h.0 h.1 n)
  stmt (t.GAlloc at x e) h n = of_simple (t.GAlloc at x e) (galloc at x e h.0 h.1 n)
  stmt (t.NewInv at x i) h n = of_simple (t.NewInv at x i) (new_invariant at x i h.0 h.1 n)
  stmt (t.Fold at i) h n = of_simple (t.Fold at i) (fold_rule at i h n)
  stmt (t.Unfold at i) h n = of_simple (t.Unfold at i) (unfold_rule at i h n)
  stmt (t.Rewrite at p q) h n = of_simple (t.Rewrite at p q) (rewrite at p q h.0 h.1 n)
  stmt (t.Share at s) h n = of_simple (t.Share at s) (share at s h n)
  stmt (t.Gather at s) h n = of_simple (t.Gather at s) (gather at s h n)
  stmt (t.Split at a lo hi m) h n = of_simple (t.Split at a lo hi m) (split_slice at a lo hi m h.0 h.1 h.2 h.3 n)
  stmt (t.Join at a lo m hi) h n = of_simple (t.Join at a lo m hi) (join at a lo m hi h.0 h.1 h.2 h.3 n)
  stmt (t.Focus at x e) h n = of_simple (t.Focus at x e) (focus at x e h.0 h.1 n)
  stmt (t.Unfocus at x e) h n = of_simple (t.Unfocus at x e) (unfocus at x e h.0 h.1 n)
  stmt (t.Assert at l e o) h n = of_simple (t.Assert at l e o) (assert at l e o h.0 h.1 h.2 n)
  stmt (t.WithAssert at bs p) h n = of_simple (t.WithAssert at bs p) (with_assert at bs p h.0 h.1 h.2 n)
  stmt (t.Drop at p) h n = of_simple (t.Drop at p) (drop_rule at p h n)

  lines : (list : Stmts) → AreStmts list → (m n : ℕ) → Printed (rest_text list m n) (RestMeans list)
  lines t.end h m n = no_lines m n
  lines (t.more s rest) h m n = one_line s rest m n (stmt s h.0 m) (lines rest h.1 m n)

  pub block : (b : Braced) → IsBlock b → (n : ℕ) → Printed (block_text n b) (BlockMeans b)
  block (t.braces list close) h n = block_by list close n (lines list h (n + 1) n)

  otherwise : (e : Else) → IsElse e → (n : ℕ) → Written (else_text n e) (ElseMeans e)
  otherwise t.no_else h n = written_by [] [] refl refl (λ depth fits. right (nothing refl))
  otherwise (t.else second) h n = else_written second n (block second h n)
