-- Statements without blocks as they are printed.
use Rattle.std.proofs.Common.{◌≡◌, ◌∙◌, ℕ, Bool, true, false, List, [], ◌∷◌, ◌++◌, map, Option, Some, None, refl, sym, ap, subst, append_assoc, append-nil}
use Rattle.std.specs.Prelude.{ℤ, pos, negsuc, codes, decimal}
use Rattle.std.specs.Fmt.{signed_decimal}
use Rattle.pl_base.specs.declared.pos.Pos.{Pos}
use Rattle.pl_lexer.specs.declared.tokens.Kind.{Kind}
use Rattle.pl_lexer.specs.declared.tokens.Kind.TheVariants as k
use Rattle.pl_lexer.specs.Proper.{IsName}
use Rattle.pl_syntax.specs.declared.expr.Class.TheVariants as c
use Rattle.pl_syntax.specs.declared.expr.Binder.{Binder}
use Rattle.pl_syntax.specs.declared.stmt.Hint.{Hint}
use Rattle.pl_syntax.specs.declared.stmt.HintTerm.{HintTerm}
use Rattle.pl_syntax.specs.Tree as t
use Rattle.pl_syntax.specs.Tree.{Name, Expr, CellExpr, Instance, Prop, Init, Key, Stmt}
use Rattle.pl_grammar.specs.PropGrammar.{Arguments, Cell}
use Rattle.pl_grammar.specs.StatementGrammar.{InitOf, MoreInits, Made, GhostMade, KeyOf, HintTermOf, MoreHintTerms, HintOf, LoadRule, SimpleStatement, CallOrLet}
use Rattle.pl_print.specs.Lists.{each_behind, commas}
use Rattle.pl_print.specs.ExprText.{value_text, cell_text, call_text, label_text}
use Rattle.pl_print.specs.StmtText.{init_text, key_text, term_text, hint_text, stmt_text}
use Rattle.pl_printed.specs.Bare.{bare, bare_cell, bare_prop, bare_init, bare_key, bare_stmt, nowhere}
use Rattle.pl_printed.specs.Levels.{FitsValue, FitsProp, FitInits, FitsKey, FitsStmt}
use Rattle.pl_printed.specs.Printable.{HasOne, IfSome, Each, IsExpr, IsCell, IsInstance, IsBinder, IsProp, IsInit, IsKey, IsMultiple, IsTerm, IsHint}
use Rattle.pl_printed.proofs.Takes.{Takes, next, sign, name, token, last_sign, last_name, mapped, left, right, nothing, no_texts, texts}
use Rattle.pl_printed.proofs.Members.{gap, mark, named, count, part, clause, Printed, Written, printed_by, written_by}
use Rattle.pl_printed.proofs.Exprs.{value, summed, instance, arguments, labelled, cell, cell_place, base_of, base_name, cell_then}
use Rattle.pl_printed.proofs.Binders.{binders}
use Rattle.pl_printed.proofs.Props.{PropMeans, prop, whole_prop}

abbrev pub SimpleMeans : Stmt → List Kind → Type 0
SimpleMeans s ks = (depth : ℕ) → FitsStmt depth s → Takes (SimpleStatement depth) ks (λ y. bare_stmt y ≡ bare_stmt s)

-- a statement without blocks, at any depth of blocks
abbrev pub Simple : Stmt → Type 0
Simple s = (n : ℕ) → Printed (stmt_text n s) (SimpleMeans s)

-- ---- what binds a name

let_name : {ks : List Kind} {Q : Stmt → Type 0} (depth : ℕ) (x : Name) → ((w p : Pos) → Takes (Made depth w (p, x)) ks Q) → Takes (SimpleStatement depth) (k.Sign 39 ∷ k.Word x ∷ k.Sign 11 ∷ ks) Q
let_name depth x m = left (sign 39 (λ w. right (right (name x (λ p. sign 11 (λ q. m w p))))))

let_ghost : {ks : List Kind} {Q : Stmt → Type 0} (depth : ℕ) (x : Name) → ((w p : Pos) → Takes (GhostMade depth w (p, x)) ks Q) → Takes (SimpleStatement depth) (k.Sign 39 ∷ k.Sign 32 ∷ k.Word x ∷ k.Sign 11 ∷ ks) Q
let_ghost depth x m = left (sign 39 (λ w. right (left (sign 32 (λ r. name x (λ p. sign 11 (λ q. m w p)))))))

call_then : (f : Name) (args : List Expr) (rest : List ℕ) → f ++ (codes "(" ++ ((commas (map value_text args) ++ codes ")") ++ rest)) ≡ call_text f args ++ rest
call_then f args rest = sym (append_assoc f (codes "(" ++ (commas (map value_text args) ++ codes ")")) rest)

pub let_value : (at : Pos) (x : Name) (e : Expr) → IsName x → IsExpr e → Simple (t.Let at x e)
let_value at x e hx he n =
    let e1 = value e he in
    printed_by (mark 39 ∷ gap ∷ named x hx ∷ gap ∷ mark 11 ∷ gap ∷ part _ e1.parts ∷ mark 7 ∷ []) (stmt_text n (t.Let at x e)) refl refl
    (λ depth fits. let_name depth x (λ w p. right (right (right (right (right (right (right (right (right (next {P = λ y. bare_stmt y ≡ bare_stmt (t.Let at x e)} (right (mapped (e1.means depth 0 fits) (λ y f. ap (λ (z : Expr). t.Let nowhere x z) f))) (λ s f. last_sign 7 (λ r. f)))))))))))))

load_takes : {ks : List Kind} (at : Pos) (x : Name) (s : CellExpr) (depth : ℕ) → Takes (Cell depth 0) ks (λ y. bare_cell y ≡ bare_cell s) → Takes (LoadRule depth) (k.Sign 39 ∷ k.Word x ∷ k.Sign 11 ∷ k.Sign 29 ∷ (ks ++ k.Sign 7 ∷ [])) (λ y. bare_stmt y ≡ bare_stmt (t.Load at x s false))
load_takes at x s depth m = sign 39 (λ w. name x (λ p. sign 11 (λ q. sign 29 (λ r. next m (λ y f. last_sign 7 (λ z. ap (λ (u : CellExpr). t.Load nowhere x u false) f))))))

-- a load in the head of a loop
pub load_rule : (at : Pos) (x : Name) (s : CellExpr) → IsName x → IsCell s → (n : ℕ) → Printed (stmt_text n (t.Load at x s false)) (λ ks. (depth : ℕ) → FitsStmt depth (t.Load at x s false) → Takes (LoadRule depth) ks (λ y. bare_stmt y ≡ bare_stmt (t.Load at x s false)))
load_rule at x s hx hs n =
    let s1 = cell s hs in
    printed_by (mark 39 ∷ gap ∷ named x hx ∷ gap ∷ mark 11 ∷ gap ∷ mark 29 ∷ part _ s1.parts ∷ mark 7 ∷ []) (stmt_text n (t.Load at x s false)) refl refl
    (λ depth fits. load_takes at x s depth (s1.means depth 0 fits))

load : (at : Pos) (x : Name) (s : CellExpr) → IsName x → IsCell s → Simple (t.Load at x s false)
load at x s hx hs n =
    let s1 = cell s hs in
    printed_by (mark 39 ∷ gap ∷ named x hx ∷ gap ∷ mark 11 ∷ gap ∷ mark 29 ∷ part _ s1.parts ∷ mark 7 ∷ []) (stmt_text n (t.Load at x s false)) refl refl
    (λ depth fits. let_name depth x (λ w p. left (sign 29 (λ p0. next (s1.means depth 0 fits) (λ ys fs. last_sign 7 (λ r. ap (λ (z : CellExpr). t.Load nowhere x z false) fs))))))

load_ghost : (at : Pos) (x : Name) (s : CellExpr) → IsName x → IsCell s → Simple (t.Load at x s true)
load_ghost at x s hx hs n =
    let s1 = cell s hs in
    printed_by (mark 39 ∷ gap ∷ mark 32 ∷ gap ∷ named x hx ∷ gap ∷ mark 11 ∷ gap ∷ mark 29 ∷ part _ s1.parts ∷ mark 7 ∷ []) (stmt_text n (t.Load at x s true)) refl refl
    (λ depth fits. let_ghost depth x (λ w p. left (sign 29 (λ p0. next (s1.means depth 0 fits) (λ ys fs. last_sign 7 (λ r. ap (λ (z : CellExpr). t.Load nowhere x z true) fs))))))

pub load_any : (at : Pos) (x : Name) (s : CellExpr) (is_ghost : Bool) → IsName x → IsCell s → Simple (t.Load at x s is_ghost)
load_any at x s false hx hs = load at x s hx hs
load_any at x s true hx hs = load_ghost at x s hx hs

pub alloc : (at : Pos) (x : Name) (e : Expr) → IsName x → IsExpr e → Simple (t.Alloc at x e)
alloc at x e hx he n =
    let e1 = value e he in
    printed_by (mark 39 ∷ gap ∷ named x hx ∷ gap ∷ mark 11 ∷ gap ∷ mark 75 ∷ mark 0 ∷ part _ e1.parts ∷ mark 1 ∷ mark 7 ∷ []) (stmt_text n (t.Alloc at x e)) refl refl
    (λ depth fits. let_name depth x (λ w p. right (left (sign 75 (λ p0. sign 0 (λ p1. next (e1.means depth 0 fits) (λ ye fe. sign 1 (λ p3. last_sign 7 (λ r. ap (λ (z : Expr). t.Alloc nowhere x z) fe)))))))))

pub alloc_array : (at : Pos) (x : Name) (e : Expr) (m : Expr) → IsName x → IsExpr e → IsExpr m → Simple (t.AllocArray at x e m)
alloc_array at x e m hx he hm n =
    let e1 = value e he in
    let m1 = value m hm in
    printed_by (mark 39 ∷ gap ∷ named x hx ∷ gap ∷ mark 11 ∷ gap ∷ mark 76 ∷ mark 0 ∷ part _ e1.parts ∷ mark 6 ∷ gap ∷ part _ m1.parts ∷ mark 1 ∷ mark 7 ∷ []) (stmt_text n (t.AllocArray at x e m)) refl refl
    (λ depth fits. let_name depth x (λ w p. right (right (left (sign 76 (λ p0. sign 0 (λ p1. next (e1.means depth 0 fits.0) (λ ye fe. sign 6 (λ p3. next (m1.means depth 0 fits.1) (λ ym fm. sign 1 (λ p5. last_sign 7 (λ r. cc (fe, fm)))))))))))))

pub alloc_atomic : (at : Pos) (x : Name) (e : Expr) → IsName x → IsExpr e → Simple (t.AllocAtomic at x e)
alloc_atomic at x e hx he n =
    let e1 = value e he in
    printed_by (mark 39 ∷ gap ∷ named x hx ∷ gap ∷ mark 11 ∷ gap ∷ mark 77 ∷ mark 0 ∷ part _ e1.parts ∷ mark 1 ∷ mark 7 ∷ []) (stmt_text n (t.AllocAtomic at x e)) refl refl
    (λ depth fits. let_name depth x (λ w p. right (right (right (left (sign 77 (λ p0. sign 0 (λ p1. next (e1.means depth 0 fits) (λ ye fe. sign 1 (λ p3. last_sign 7 (λ r. ap (λ (z : Expr). t.AllocAtomic nowhere x z) fe)))))))))))

pub atomic_read : (at : Pos) (x : Name) (base : Name) → IsName x → IsName base → Simple (t.AtomicRead at x base)
atomic_read at x base hx hbase n =
    printed_by (mark 39 ∷ gap ∷ named x hx ∷ gap ∷ mark 11 ∷ gap ∷ mark 87 ∷ mark 0 ∷ named base hbase ∷ mark 1 ∷ mark 7 ∷ []) (stmt_text n (t.AtomicRead at x base)) refl refl
    (λ depth fits. let_name depth x (λ w p. right (right (right (right (right (left (sign 87 (λ p0. sign 0 (λ p1. name base (λ p2. sign 1 (λ p3. last_sign 7 (λ r. refl)))))))))))))

pub cas : (at : Pos) (x : Name) (base : Name) (old : Expr) (new : Expr) → IsName x → IsName base → IsExpr old → IsExpr new → Simple (t.Cas at x base old new)
cas at x base old new hx hbase hold hnew n =
    let old1 = value old hold in
    let new1 = value new hnew in
    printed_by (mark 39 ∷ gap ∷ named x hx ∷ gap ∷ mark 11 ∷ gap ∷ mark 89 ∷ mark 0 ∷ named base hbase ∷ mark 6 ∷ gap ∷ part _ old1.parts ∷ mark 6 ∷ gap ∷ part _ new1.parts ∷ mark 1 ∷ mark 7 ∷ []) (stmt_text n (t.Cas at x base old new)) refl refl
    (λ depth fits. let_name depth x (λ w p. right (right (right (right (right (right (left (sign 89 (λ p0. sign 0 (λ p1. name base (λ p2. sign 6 (λ p3. next (old1.means depth 0 fits.0) (λ yold fold. sign 6 (λ p5. next (new1.means depth 0 fits.1) (λ ynew fnew. sign 1 (λ p7. last_sign 7 (λ r. cc (fold, fnew)))))))))))))))))))

pub new_lock : (at : Pos) (x : Name) (i : Instance) → IsName x → IsInstance i → Simple (t.NewLock at x i)
new_lock at x i hx hi n =
    let i1 = instance i hi in
    printed_by (mark 39 ∷ gap ∷ named x hx ∷ gap ∷ mark 11 ∷ gap ∷ mark 81 ∷ mark 0 ∷ part _ i1.parts ∷ mark 1 ∷ mark 7 ∷ []) (stmt_text n (t.NewLock at x i)) refl refl
    (λ depth fits. let_name depth x (λ w p. right (right (right (right (right (right (right (left (sign 81 (λ p0. sign 0 (λ p1. next (i1.means depth 0 fits) (λ yi fi. sign 1 (λ p3. last_sign 7 (λ r. ap (λ (z : Instance). t.NewLock nowhere x z) fi)))))))))))))))

pub read : (at : Pos) (x : Name) → IsName x → Simple (t.Read at x)
read at x hx n =
    printed_by (mark 39 ∷ gap ∷ named x hx ∷ gap ∷ mark 11 ∷ gap ∷ mark 85 ∷ mark 0 ∷ mark 1 ∷ mark 7 ∷ []) (stmt_text n (t.Read at x)) refl refl
    (λ depth fits. let_name depth x (λ w p. right (right (right (right (right (right (right (right (left (sign 85 (λ p0. sign 0 (λ p1. sign 1 (λ p2. last_sign 7 (λ r. refl)))))))))))))))

pub ghost_let : (at : Pos) (x : Name) (e : Expr) → IsName x → IsExpr e → Simple (t.GLet at x e)
ghost_let at x e hx he n =
    let e1 = value e he in
    printed_by (mark 39 ∷ gap ∷ mark 32 ∷ gap ∷ named x hx ∷ gap ∷ mark 11 ∷ gap ∷ part _ e1.parts ∷ mark 7 ∷ []) (stmt_text n (t.GLet at x e)) refl refl
    (λ depth fits. let_ghost depth x (λ w p. right (right (right (next (e1.means depth 0 fits) (λ ye fe. last_sign 7 (λ r. ap (λ (z : Expr). t.GLet nowhere x z) fe)))))))

pub galloc : (at : Pos) (x : Name) (e : Expr) → IsName x → IsExpr e → Simple (t.GAlloc at x e)
galloc at x e hx he n =
    let e1 = value e he in
    printed_by (mark 39 ∷ gap ∷ mark 32 ∷ gap ∷ named x hx ∷ gap ∷ mark 11 ∷ gap ∷ mark 90 ∷ mark 0 ∷ part _ e1.parts ∷ mark 1 ∷ mark 7 ∷ []) (stmt_text n (t.GAlloc at x e)) refl refl
    (λ depth fits. let_ghost depth x (λ w p. right (left (sign 90 (λ p0. sign 0 (λ p1. next (e1.means depth 0 fits) (λ ye fe. sign 1 (λ p3. last_sign 7 (λ r. ap (λ (z : Expr). t.GAlloc nowhere x z) fe)))))))))

pub new_invariant : (at : Pos) (x : Name) (i : Instance) → IsName x → IsInstance i → Simple (t.NewInv at x i)
new_invariant at x i hx hi n =
    let i1 = instance i hi in
    printed_by (mark 39 ∷ gap ∷ mark 32 ∷ gap ∷ named x hx ∷ gap ∷ mark 11 ∷ gap ∷ mark 91 ∷ mark 0 ∷ part _ i1.parts ∷ mark 1 ∷ mark 7 ∷ []) (stmt_text n (t.NewInv at x i)) refl refl
    (λ depth fits. let_ghost depth x (λ w p. right (right (left (sign 91 (λ p0. sign 0 (λ p1. next (i1.means depth 0 fits) (λ yi fi. sign 1 (λ p3. last_sign 7 (λ r. ap (λ (z : Instance). t.NewInv nowhere x z) fi))))))))))

pub let_mut : (at : Pos) (x : Name) (e : Expr) → IsName x → IsExpr e → Simple (t.LetMut at x e)
let_mut at x e hx he n =
    let e1 = value e he in
    printed_by (mark 39 ∷ gap ∷ mark 40 ∷ gap ∷ named x hx ∷ gap ∷ mark 11 ∷ gap ∷ part _ e1.parts ∷ mark 7 ∷ []) (stmt_text n (t.LetMut at x e)) refl refl
    (λ depth fits. left (sign 39 (λ w. left (sign 40 (λ p0. name x (λ p1. sign 11 (λ p2. next (e1.means depth 0 fits) (λ ye fe. last_sign 7 (λ r. ap (λ (z : Expr). t.LetMut nowhere x z) fe)))))))))

-- ---- the members of a structure

init : (i : Init) → IsInit i → Printed (init_text i) (λ ks. (depth : ℕ) → FitsValue depth 0 i.value → Takes (InitOf depth) ks (λ y. bare_init y ≡ bare_init i))
init i h =
    let v = value i.value h.1 in
    printed_by (named i.name h.0 ∷ mark 8 ∷ gap ∷ part _ v.parts ∷ []) (init_text i) refl (sym (append_assoc i.name (codes ": ") (value_text i.value)))
    (λ depth fits. name i.name (λ p. sign 8 (λ q. mapped (v.means depth 0 fits) (λ y f. ap (λ (z : Expr). let j : Init = record { name = i.name; value = z } in j) f))))

more_inits : (is : List Init) → Each IsInit is → Written (each_behind (codes ", ") (map init_text is)) (λ ks. (depth : ℕ) → FitInits depth is → Takes (MoreInits depth) ks (λ ys. map bare_init ys ≡ map bare_init is))
more_inits [] h = written_by [] [] refl refl (λ depth fits. no_texts refl)
more_inits (i ∷ is) h =
    let v = init i h.0 in
    let r = more_inits is h.1 in
    written_by (mark 6 ∷ gap ∷ part _ v.parts ∷ clause _ r.parts ∷ []) (each_behind (codes ", ") (map init_text (i ∷ is))) refl refl
    (λ depth fits. texts (sign 6 (λ p. v.means depth fits.0)) (r.means depth fits.1) (λ y ys a b. cc (a, b)))

pub new : (at : Pos) (x s : Name) (is : List Init) → IsName x → IsName s → HasOne is → Each IsInit is → Simple (t.New at x s is)
new at x s [] hx hs some h n = absurd some
new at x s (i ∷ is) hx hs some h n =
    let v = init i h.0 in
    let r = more_inits is h.1 in
    printed_by (mark 39 ∷ gap ∷ named x hx ∷ gap ∷ mark 11 ∷ gap ∷ mark 78 ∷ gap ∷ named s hs ∷ gap ∷ mark 2 ∷ gap ∷ part _ v.parts ∷ clause _ r.parts ∷ gap ∷ mark 3 ∷ mark 7 ∷ []) (stmt_text n (t.New at x s (i ∷ is))) refl
    (ap (λ (z : List ℕ). codes "let " ++ (x ++ (codes " = new " ++ (s ++ (codes " { " ++ z))))) (sym (append_assoc (init_text i) (each_behind (codes ", ") (map init_text is)) (codes " };"))))
    (λ depth fits. let_name depth x (λ w p. right (right (right (right (left (sign 78 (λ p0. name s (λ p1. sign 2 (λ p2. next (v.means depth fits.0) (λ y f. next (r.means depth fits.1) (λ ys g. sign 3 (λ p3. last_sign 7 (λ z. new_same x s y i ys is f g))))))))))))))
  where
    new_same : (x s : Name) (y i : Init) (ys is : List Init) → bare_init y ≡ bare_init i → map bare_init ys ≡ map bare_init is → bare_stmt (t.New nowhere x s (y ∷ ys)) ≡ bare_stmt (t.New nowhere x s (i ∷ is))
    new_same x s y i ys is f g = cc (f, g)

-- ---- calls and stores

call : (at : Pos) (f : Name) (args : List Expr) → IsName f → Each IsExpr args → Simple (t.Call at None f args)
call at f args hf h n =
    let a = arguments args h in
    printed_by (named f hf ∷ mark 0 ∷ part _ a.parts ∷ mark 7 ∷ []) (stmt_text n (t.Call at None f args)) refl (call_then f args (codes ";"))
    (λ depth fits. right (right (right (right (right (right (right (right (right (right (right (right (right (right (right (right (right (right (right (right (right (right (name f (λ p. left (sign 0 (λ q. next (a.means depth 0 fits) (λ ys b. last_sign 7 (λ r. ap (λ (z : List Expr). t.Call nowhere None f z) b))))))))))))))))))))))))))))

call_bound : (at : Pos) (x f : Name) (args : List Expr) → IsName x → IsName f → Each IsExpr args → Simple (t.Call at (Some x) f args)
call_bound at x f args hx hf h n =
    let a = arguments args h in
    printed_by (mark 39 ∷ gap ∷ named x hx ∷ gap ∷ mark 11 ∷ gap ∷ named f hf ∷ mark 0 ∷ part _ a.parts ∷ mark 7 ∷ []) (stmt_text n (t.Call at (Some x) f args)) refl
    (ap (λ (z : List ℕ). codes "let " ++ (x ++ (codes " = " ++ z))) (call_then f args (codes ";")))
    (λ depth fits. let_name depth x (λ w p. right (right (right (right (right (right (right (right (right (call_takes at x f args depth w p (a.means depth 0 fits))))))))))))
  where
    call_takes : {ks : List Kind} (at : Pos) (x f : Name) (args : List Expr) (depth : ℕ) (w p : Pos) → Takes (Arguments depth 0) ks (λ ys. map bare ys ≡ map bare args) → Takes (CallOrLet depth w (p, x)) (k.Word f ∷ k.Sign 0 ∷ (ks ++ k.Sign 7 ∷ [])) (λ y. bare_stmt y ≡ bare_stmt (t.Call at (Some x) f args))
    call_takes at x f args depth w p m =
        next {P = λ y. bare_stmt y ≡ bare_stmt (t.Call at (Some x) f args)} (left (name f (λ q. sign 0 (λ r. mapped m (λ ys b. ap (λ (z : List Expr). t.Call nowhere (Some x) f z) b))))) (λ s b. last_sign 7 (λ r. b))

pub call_any : (at : Pos) (x : Option Name) (f : Name) (args : List Expr) → IfSome IsName x → IsName f → Each IsExpr args → Simple (t.Call at x f args)
call_any at None f args hx hf h = call at f args hf h
call_any at (Some x) f args hx hf h = call_bound at x f args hx hf h

pub store : (at : Pos) (s : CellExpr) (e : Expr) → IsCell s → IsExpr e → Simple (t.Store at s e)
store at s e hs he n =
    let u = cell_place s hs in
    let v = value e he in
    printed_by (named (base_of s) (base_name s hs) ∷ clause _ u.parts ∷ gap ∷ mark 12 ∷ gap ∷ part _ v.parts ∷ mark 7 ∷ []) (stmt_text n (t.Store at s e)) refl (cell_then s (codes " := " ++ (value_text e ++ codes ";")))
    (λ depth fits. right (right (right (right (right (right (right (right (right (right (right (right (right (right (right (right (right (right (right (right (right (right (name (base_of s) (λ p. right (next (u.means depth 0 fits.0 p) (λ y f. sign 12 (λ q. next (v.means depth 0 fits.1) (λ z g. last_sign 7 (λ r. cc (f, g))))))))))))))))))))))))))))))

pub par : (at : Pos) (f : Name) (xs : List Expr) (g : Name) (ys : List Expr) → IsName f → Each IsExpr xs → IsName g → Each IsExpr ys → Simple (t.Par at f xs g ys)
par at f xs g ys hf hx hg hy n =
    let a = arguments xs hx in
    let b = arguments ys hy in
    printed_by (mark 50 ∷ gap ∷ named f hf ∷ mark 0 ∷ part _ a.parts ∷ mark 6 ∷ gap ∷ named g hg ∷ mark 0 ∷ part _ b.parts ∷ mark 7 ∷ []) (stmt_text n (t.Par at f xs g ys)) refl
    (ap (λ (z : List ℕ). codes "par " ++ (f ++ (codes "(" ++ ((commas (map value_text xs) ++ codes ")") ++ (codes ", " ++ z))))) (call_then g ys (codes ";"))
    ∙ ap (λ (z : List ℕ). codes "par " ++ z) (call_then f xs (codes ", " ++ (call_text g ys ++ codes ";"))))
    (λ depth fits. right (right (right (right (right (right (right (right (left (sign 50 (λ w. name f (λ p0. sign 0 (λ p1. next (a.means depth 0 fits.0) (λ us e1. sign 6 (λ p2. name g (λ p3. sign 0 (λ p4. next (b.means depth 0 fits.1) (λ vs e2. last_sign 7 (λ z. par_same f g us xs vs ys e1 e2)))))))))))))))))))
  where
    par_same : (f g : Name) (us xs vs ys : List Expr) → map bare us ≡ map bare xs → map bare vs ≡ map bare ys → bare_stmt (t.Par nowhere f us g vs) ≡ bare_stmt (t.Par nowhere f xs g ys)
    par_same f g us xs vs ys e1 e2 = cc (e1, e2)

-- ---- names and values

pub free : (at : Pos) (base : Name) → IsName base → Simple (t.Free at base)
free at base hbase n =
    printed_by (mark 79 ∷ mark 0 ∷ named base hbase ∷ mark 1 ∷ mark 7 ∷ []) (stmt_text n (t.Free at base)) refl refl
    (λ depth fits. right (left (sign 79 (λ p0. sign 0 (λ p1. name base (λ p2. sign 1 (λ p3. last_sign 7 (λ r. refl))))))))

pub free_array : (at : Pos) (base : Name) → IsName base → Simple (t.FreeArray at base)
free_array at base hbase n =
    printed_by (mark 80 ∷ mark 0 ∷ named base hbase ∷ mark 1 ∷ mark 7 ∷ []) (stmt_text n (t.FreeArray at base)) refl refl
    (λ depth fits. right (right (left (sign 80 (λ p0. sign 0 (λ p1. name base (λ p2. sign 1 (λ p3. last_sign 7 (λ r. refl)))))))))

pub acquire : (at : Pos) (base : Name) → IsName base → Simple (t.Acquire at base)
acquire at base hbase n =
    printed_by (mark 82 ∷ mark 0 ∷ named base hbase ∷ mark 1 ∷ mark 7 ∷ []) (stmt_text n (t.Acquire at base)) refl refl
    (λ depth fits. right (right (right (left (sign 82 (λ p0. sign 0 (λ p1. name base (λ p2. sign 1 (λ p3. last_sign 7 (λ r. refl))))))))))

pub release : (at : Pos) (base : Name) → IsName base → Simple (t.Release at base)
release at base hbase n =
    printed_by (mark 83 ∷ mark 0 ∷ named base hbase ∷ mark 1 ∷ mark 7 ∷ []) (stmt_text n (t.Release at base)) refl refl
    (λ depth fits. right (right (right (right (left (sign 83 (λ p0. sign 0 (λ p1. name base (λ p2. sign 1 (λ p3. last_sign 7 (λ r. refl)))))))))))

pub free_lock : (at : Pos) (base : Name) → IsName base → Simple (t.FreeLock at base)
free_lock at base hbase n =
    printed_by (mark 84 ∷ mark 0 ∷ named base hbase ∷ mark 1 ∷ mark 7 ∷ []) (stmt_text n (t.FreeLock at base)) refl refl
    (λ depth fits. right (right (right (right (right (left (sign 84 (λ p0. sign 0 (λ p1. name base (λ p2. sign 1 (λ p3. last_sign 7 (λ r. refl))))))))))))

pub atomic_write : (at : Pos) (base : Name) (e : Expr) → IsName base → IsExpr e → Simple (t.AtomicWrite at base e)
atomic_write at base e hbase he n =
    let e1 = value e he in
    printed_by (mark 88 ∷ mark 0 ∷ named base hbase ∷ mark 6 ∷ gap ∷ part _ e1.parts ∷ mark 1 ∷ mark 7 ∷ []) (stmt_text n (t.AtomicWrite at base e)) refl refl
    (λ depth fits. right (right (right (right (right (right (left (sign 88 (λ p0. sign 0 (λ p1. name base (λ p2. sign 6 (λ p3. next (e1.means depth 0 fits) (λ ye fe. sign 1 (λ p5. last_sign 7 (λ r. ap (λ (z : Expr). t.AtomicWrite nowhere base z) fe)))))))))))))))

pub print : (at : Pos) (e : Expr) → IsExpr e → Simple (t.Print at e)
print at e he n =
    let e1 = value e he in
    printed_by (mark 86 ∷ mark 0 ∷ part _ e1.parts ∷ mark 1 ∷ mark 7 ∷ []) (stmt_text n (t.Print at e)) refl refl
    (λ depth fits. right (right (right (right (right (right (right (left (sign 86 (λ p0. sign 0 (λ p1. next (e1.means depth 0 fits) (λ ye fe. sign 1 (λ p3. last_sign 7 (λ r. ap (λ (z : Expr). t.Print nowhere z) fe))))))))))))))

pub give : (at : Pos) (e : Expr) → IsExpr e → Simple (t.Return at e)
give at e he n =
    let e1 = value e he in
    printed_by (mark 49 ∷ gap ∷ part _ e1.parts ∷ mark 7 ∷ []) (stmt_text n (t.Return at e)) refl refl
    (λ depth fits. right (right (right (right (right (right (right (right (right (left (sign 49 (λ p0. next (e1.means depth 0 fits) (λ ye fe. last_sign 7 (λ r. ap (λ (z : Expr). t.Return nowhere z) fe))))))))))))))

pub fold_rule : (at : Pos) (i : Instance) → IsInstance i → Simple (t.Fold at i)
fold_rule at i hi n =
    let i1 = instance i hi in
    printed_by (mark 63 ∷ gap ∷ part _ i1.parts ∷ mark 7 ∷ []) (stmt_text n (t.Fold at i)) refl refl
    (λ depth fits. right (right (right (right (right (right (right (right (right (right (left (sign 63 (λ p0. next (i1.means depth 0 fits) (λ yi fi. last_sign 7 (λ r. ap (λ (z : Instance). t.Fold nowhere z) fi)))))))))))))))

pub unfold_rule : (at : Pos) (i : Instance) → IsInstance i → Simple (t.Unfold at i)
unfold_rule at i hi n =
    let i1 = instance i hi in
    printed_by (mark 64 ∷ gap ∷ part _ i1.parts ∷ mark 7 ∷ []) (stmt_text n (t.Unfold at i)) refl refl
    (λ depth fits. right (right (right (right (right (right (right (right (right (right (right (left (sign 64 (λ p0. next (i1.means depth 0 fits) (λ yi fi. last_sign 7 (λ r. ap (λ (z : Instance). t.Unfold nowhere z) fi))))))))))))))))

rewrite_takes : {kp kq : List Kind} (at : Pos) (p q : Prop) (depth : ℕ) → PropMeans false p kp → PropMeans false q kq → FitsStmt depth (t.Rewrite at p q)
    → Takes (SimpleStatement depth) (k.Sign 65 ∷ (kp ++ k.Sign 66 ∷ (kq ++ k.Sign 7 ∷ []))) (λ y. bare_stmt y ≡ bare_stmt (t.Rewrite at p q))
rewrite_takes at p q depth mp mq fits =
    right (right (right (right (right (right (right (right (right (right (right (right (left (sign 65 (λ w. next (mp depth 0 fits.0) (λ y f. sign 66 (λ p0. next (mq depth y.used (subst (λ (j : ℕ). FitsProp depth j false q) (sym f.1) fits.1)) (λ z g. last_sign 7 (λ r. rewrite_same y.tree p z.tree q f.0 g.0))))))))))))))))))
  where
    rewrite_same : (y p z q : Prop) → bare_prop y ≡ bare_prop p → bare_prop z ≡ bare_prop q → bare_stmt (t.Rewrite nowhere y z) ≡ bare_stmt (t.Rewrite nowhere p q)
    rewrite_same y p z q f g = cc (f, g)

pub rewrite : (at : Pos) (p q : Prop) → IsProp p → IsProp q → Simple (t.Rewrite at p q)
rewrite at p q hp hq n =
    let u = prop p hp false in
    let v = prop q hq false in
    printed_by (mark 65 ∷ gap ∷ part _ u.parts ∷ gap ∷ mark 66 ∷ gap ∷ part _ v.parts ∷ mark 7 ∷ []) (stmt_text n (t.Rewrite at p q)) refl refl (λ depth fits. rewrite_takes at p q depth u.means v.means fits)

abbrev KeyMeans : Key → List Kind → Type 0
KeyMeans key ks = (depth : ℕ) → FitsKey depth key → Takes (KeyOf depth) ks (λ y. bare_key y ≡ bare_key key)

key : (s : Key) → IsKey s → Printed (key_text s) (KeyMeans s)
key (t.Cell s) h =
    let u = cell s h in
    printed_by (part _ u.parts ∷ []) (cell_text s) refl refl (λ depth fits. right (mapped (u.means depth 0 fits) (λ y f. ap (λ (z : CellExpr). t.Cell z) f)))
key (t.Range a lo hi) h =
    let u = value a h.0 in
    let v = value lo h.1 in
    let w = value hi h.2 in
    printed_by (mark 58 ∷ mark 0 ∷ part _ u.parts ∷ mark 6 ∷ gap ∷ part _ v.parts ∷ mark 6 ∷ gap ∷ part _ w.parts ∷ mark 1 ∷ []) (key_text (t.Range a lo hi)) refl refl
    (λ depth fits. left (sign 58 (λ p. sign 0 (λ q. next (u.means depth 0 fits.0) (λ y1 f1. sign 6 (λ p1. next (v.means depth 0 fits.1) (λ y2 f2. sign 6 (λ p2. next (w.means depth 0 fits.2) (λ y3 f3. last_sign 1 (λ r. cc (f1, f2, f3)))))))))))

pub share : (at : Pos) (s : Key) → IsKey s → Simple (t.Share at s)
share at s hs n =
    let s1 = key s hs in
    printed_by (mark 67 ∷ gap ∷ part _ s1.parts ∷ mark 7 ∷ []) (stmt_text n (t.Share at s)) refl refl
    (λ depth fits. right (right (right (right (right (right (right (right (right (right (right (right (right (left (sign 67 (λ p0. next (s1.means depth fits) (λ ys fs. last_sign 7 (λ r. ap (λ (z : Key). t.Share nowhere z) fs))))))))))))))))))

pub gather : (at : Pos) (s : Key) → IsKey s → Simple (t.Gather at s)
gather at s hs n =
    let s1 = key s hs in
    printed_by (mark 68 ∷ gap ∷ part _ s1.parts ∷ mark 7 ∷ []) (stmt_text n (t.Gather at s)) refl refl
    (λ depth fits. right (right (right (right (right (right (right (right (right (right (right (right (right (right (left (sign 68 (λ p0. next (s1.means depth fits) (λ ys fs. last_sign 7 (λ r. ap (λ (z : Key). t.Gather nowhere z) fs)))))))))))))))))))

pub split : (at : Pos) (a : Expr) (lo : Expr) (hi : Expr) (m : Expr) → IsExpr a → IsExpr lo → IsExpr hi → IsExpr m → Simple (t.Split at a lo hi m)
split at a lo hi m ha hlo hhi hm n =
    let a1 = value a ha in
    let lo1 = value lo hlo in
    let hi1 = value hi hhi in
    let m1 = value m hm in
    printed_by (mark 69 ∷ gap ∷ mark 58 ∷ mark 0 ∷ part _ a1.parts ∷ mark 6 ∷ gap ∷ part _ lo1.parts ∷ mark 6 ∷ gap ∷ part _ hi1.parts ∷ mark 1 ∷ gap ∷ mark 71 ∷ gap ∷ part _ m1.parts ∷ mark 7 ∷ []) (stmt_text n (t.Split at a lo hi m)) refl refl
    (λ depth fits. right (right (right (right (right (right (right (right (right (right (right (right (right (right (right (left (sign 69 (λ p0. sign 58 (λ p1. sign 0 (λ p2. next (a1.means depth 0 fits.0) (λ ya fa. sign 6 (λ p4. next (lo1.means depth 0 fits.1) (λ ylo flo. sign 6 (λ p6. next (hi1.means depth 0 fits.2) (λ yhi fhi. sign 1 (λ p8. sign 71 (λ p9. next (m1.means depth 0 fits.3) (λ ym fm. last_sign 7 (λ r. cc (fa, flo, fhi, fm))))))))))))))))))))))))))))))

pub join : (at : Pos) (a : Expr) (lo : Expr) (m : Expr) (hi : Expr) → IsExpr a → IsExpr lo → IsExpr m → IsExpr hi → Simple (t.Join at a lo m hi)
join at a lo m hi ha hlo hm hhi n =
    let a1 = value a ha in
    let lo1 = value lo hlo in
    let m1 = value m hm in
    let hi1 = value hi hhi in
    printed_by (mark 70 ∷ gap ∷ mark 58 ∷ mark 0 ∷ part _ a1.parts ∷ mark 6 ∷ gap ∷ part _ lo1.parts ∷ mark 6 ∷ gap ∷ part _ m1.parts ∷ mark 6 ∷ gap ∷ part _ hi1.parts ∷ mark 1 ∷ mark 7 ∷ []) (stmt_text n (t.Join at a lo m hi)) refl refl
    (λ depth fits. right (right (right (right (right (right (right (right (right (right (right (right (right (right (right (right (left (sign 70 (λ p0. sign 58 (λ p1. sign 0 (λ p2. next (a1.means depth 0 fits.0) (λ ya fa. sign 6 (λ p4. next (lo1.means depth 0 fits.1) (λ ylo flo. sign 6 (λ p6. next (m1.means depth 0 fits.2) (λ ym fm. sign 6 (λ p8. next (hi1.means depth 0 fits.3) (λ yhi fhi. sign 1 (λ p10. last_sign 7 (λ r. cc (fa, flo, fm, fhi)))))))))))))))))))))))))))))))

pub focus : (at : Pos) (base : Name) (e : Expr) → IsName base → IsExpr e → Simple (t.Focus at base e)
focus at base e hbase he n =
    let e1 = summed e he in
    printed_by (mark 72 ∷ gap ∷ named base hbase ∷ mark 4 ∷ part _ e1.parts ∷ mark 5 ∷ mark 7 ∷ []) (stmt_text n (t.Focus at base e)) refl refl
    (λ depth fits. right (right (right (right (right (right (right (right (right (right (right (right (right (right (right (right (right (left (sign 72 (λ p0. name base (λ p1. sign 4 (λ p2. next (e1.means depth 0 fits) (λ ye fe. sign 5 (λ p4. last_sign 7 (λ r. ap (λ (z : Expr). t.Focus nowhere base z) fe)))))))))))))))))))))))))

pub unfocus : (at : Pos) (base : Name) (e : Expr) → IsName base → IsExpr e → Simple (t.Unfocus at base e)
unfocus at base e hbase he n =
    let e1 = summed e he in
    printed_by (mark 73 ∷ gap ∷ named base hbase ∷ mark 4 ∷ part _ e1.parts ∷ mark 5 ∷ mark 7 ∷ []) (stmt_text n (t.Unfocus at base e)) refl refl
    (λ depth fits. right (right (right (right (right (right (right (right (right (right (right (right (right (right (right (right (right (right (left (sign 73 (λ p0. name base (λ p1. sign 4 (λ p2. next (e1.means depth 0 fits) (λ ye fe. sign 5 (λ p4. last_sign 7 (λ r. ap (λ (z : Expr). t.Unfocus nowhere base z) fe))))))))))))))))))))))))))

-- ---- assertions

term_by : (times : ℤ) (label : Name) → IsMultiple times → IsName label → Printed (signed_decimal times ++ codes " * " ++ label) (λ ks. Takes HintTermOf ks (λ y. y ≡ record { times = times; label = label }))
term_by (negsuc m) label h n = absurd h
term_by (pos m) label h n =
    printed_by (count m h ∷ gap ∷ mark 17 ∷ gap ∷ named label n ∷ []) (signed_decimal (pos m) ++ codes " * " ++ label) refl
    (ap (λ (z : List ℕ). decimal m ++ (codes " * " ++ z)) (append-nil label) ∙ sym (append_assoc (decimal m) (codes " * ") label))
    (token (k.Number (pos m)) (λ p. (p, pos m)) (λ p. refl) (λ p. sign 17 (λ q. last_name label (λ r. refl))))

term : (h : HintTerm) → IsTerm h → Printed (term_text h) (λ ks. Takes HintTermOf ks (λ y. y ≡ h))
term h i = term_by h.times h.label i.0 i.1

more_terms : (hs : List HintTerm) → Each IsTerm hs → Written (each_behind (codes " + ") (map term_text hs)) (λ ks. Takes MoreHintTerms ks (λ ys. ys ≡ hs))
more_terms [] h = written_by [] [] refl refl (no_texts refl)
more_terms (x ∷ xs) h =
    let v = term x h.0 in
    let r = more_terms xs h.1 in
    written_by (gap ∷ mark 15 ∷ gap ∷ part _ v.parts ∷ clause _ r.parts ∷ []) (each_behind (codes " + ") (map term_text (x ∷ xs))) refl refl
    (texts (sign 15 (λ p. v.means)) r.means (λ y ys a b. cc (a, b)))

abbrev hint_of : List HintTerm → Option Hint
hint_of terms = Some (record { terms = terms })

hint_same : (y x : HintTerm) (ys xs : List HintTerm) → y ≡ x → ys ≡ xs → hint_of (y ∷ ys) ≡ hint_of (x ∷ xs)
hint_same y x ys xs a b = ap (λ (z : HintTerm). hint_of (z ∷ ys)) a ∙ ap (λ (z : List HintTerm). hint_of (x ∷ z)) b

hint_by : (terms : List HintTerm) → HasOne terms → Each IsTerm terms → Written (hint_text (hint_of terms)) (λ ks. Takes HintOf ks (λ y. y ≡ hint_of terms))
hint_by [] some h = absurd some
hint_by (x ∷ xs) some h =
    let v = term x h.0 in
    let r = more_terms xs h.1 in
    written_by (gap ∷ mark 48 ∷ gap ∷ part _ v.parts ∷ clause _ r.parts ∷ []) (hint_text (hint_of (x ∷ xs))) refl refl
    (left (sign 48 (λ p. next v.means (λ y a. mapped r.means (λ ys b. hint_same y x ys xs a b)))))

hint : (h : Option Hint) → IfSome IsHint h → Written (hint_text h) (λ ks. Takes HintOf ks (λ y. y ≡ h))
hint None h = written_by [] [] refl refl (right (nothing refl))
hint (Some x) h = hint_by x.terms h.0 h.1

assert_same : (l : Option Name) (y e : Expr) (g : Option Hint) (label : Option Name) (h : Option Hint) → l ≡ label → bare y ≡ bare e → g ≡ h → bare_stmt (t.Assert nowhere l y g) ≡ bare_stmt (t.Assert nowhere label e h)
assert_same l y e g label h a b c = cc (a, b, c)

pub assert : (at : Pos) (label : Option Name) (e : Expr) (h : Option Hint) → IfSome IsName label → IsExpr e → IfSome IsHint h → Simple (t.Assert at label e h)
assert at label e h hl he hh n =
    let u = labelled label e hl he in
    let v = hint h hh in
    printed_by (mark 47 ∷ gap ∷ part _ u.parts ∷ clause _ v.parts ∷ mark 7 ∷ []) (stmt_text n (t.Assert at label e h)) refl
    (ap (λ (z : List ℕ). codes "assert " ++ z) (append_assoc (label_text label) (value_text e) (hint_text h ++ codes ";")))
    (λ depth fits. right (right (right (right (right (right (right (right (right (right (right (right (right (right (right (right (right (right (right (left (sign 47 (λ w. next (u.means depth 0 fits) (λ y a. next v.means (λ g b. last_sign 7 (λ r. assert_same y.0 y.1 e g label h a.0 a.1 b)))))))))))))))))))))))))

pub with_assert : (at : Pos) (bs : List Binder) (p : Prop) → HasOne bs → Each (IsBinder c.Logical) bs → IsProp p → Simple (t.WithAssert at bs p)
with_assert at bs p some hb hp n =
    let u = binders c.Logical bs some hb in
    let v = whole_prop p hp in
    printed_by (mark 45 ∷ gap ∷ part _ u.parts ∷ gap ∷ mark 9 ∷ gap ∷ mark 47 ∷ gap ∷ part _ v.parts ∷ mark 7 ∷ []) (stmt_text n (t.WithAssert at bs p)) refl refl
    (λ depth fits. right (right (right (right (right (right (right (right (right (right (right (right (right (right (right (right (right (right (right (right (left (sign 45 (λ w. next u.means (λ ys a. sign 9 (λ p0. sign 47 (λ p1. next (v.means depth fits) (λ q b. last_sign 7 (λ r. cc (a, b)))))))))))))))))))))))))))))

pub drop_rule : (at : Pos) (p : Prop) → IsProp p → Simple (t.Drop at p)
drop_rule at p hp n =
    let p1 = whole_prop p hp in
    printed_by (mark 74 ∷ gap ∷ part _ p1.parts ∷ mark 7 ∷ []) (stmt_text n (t.Drop at p)) refl refl
    (λ depth fits. right (right (right (right (right (right (right (right (right (right (right (right (right (right (right (right (right (right (right (right (right (left (sign 74 (λ p0. next (p1.means depth fits) (λ yp fp. last_sign 7 (λ r. ap (λ (z : Prop). t.Drop nowhere z) fp))))))))))))))))))))))))))
