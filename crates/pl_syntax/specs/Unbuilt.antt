-- The first form of a program that the checker doesn't handle yet.
use Rattle.std.specs.Prelude.{◌&&◌, ◌==◌, not, Bool, true, false, Option, Some, None, List, [], ◌∷◌, if◌then◌else◌, length, codes}
use Rattle.std.specs.Option.{is_some}
use Rattle.std.specs.Str.{bytes_eq}
use Rattle.pl_base.specs.declared.pos.Pos.{Pos}
use Rattle.pl_syntax.specs.Tree as t
use Rattle.pl_syntax.specs.Tree.{Expr, Stmt, FunDecl, Decl, Program, list_of}
use Rattle.pl_syntax.specs.DeclRules as decl
use Rattle.pl_syntax.specs.DeclRules.{is_emp}

-- the place of a statement
abbrev pub place_of : Stmt → Pos
place_of (t.Let place x e) = place
place_of (t.Load place x cell is_ghost) = place
place_of (t.Store place cell e) = place
place_of (t.Alloc place x e) = place
place_of (t.AllocArray place x e n) = place
place_of (t.AllocAtomic place x e) = place
place_of (t.New place x structure inits) = place
place_of (t.Free place base) = place
place_of (t.FreeArray place base) = place
place_of (t.AtomicRead place x base) = place
place_of (t.AtomicWrite place base e) = place
place_of (t.Cas place x base old new) = place
place_of (t.NewLock place x i) = place
place_of (t.Acquire place lock) = place
place_of (t.Release place lock) = place
place_of (t.FreeLock place lock) = place
place_of (t.Read place x) = place
place_of (t.Print place e) = place
place_of (t.Call place x f args) = place
place_of (t.Par place f args g others) = place
place_of (t.If place e first second after) = place
place_of (t.While place loads e kept body) = place
place_of (t.LetMut place x e) = place
place_of (t.Return place e) = place
place_of (t.With place invariant_name body after) = place
place_of (t.GLet place x e) = place
place_of (t.GAlloc place x e) = place
place_of (t.NewInv place x i) = place
place_of (t.Fold place i) = place
place_of (t.Unfold place i) = place
place_of (t.Rewrite place p q) = place
place_of (t.Share place key) = place
place_of (t.Gather place key) = place
place_of (t.Split place a lo hi m) = place
place_of (t.Join place a lo m hi) = place
place_of (t.Focus place base index) = place
place_of (t.Unfocus place base index) = place
place_of (t.Assert place label e hint) = place
place_of (t.WithAssert place binders p) = place
place_of (t.Drop place p) = place

-- whether an expression is a literal or a name
abbrev pub is_value : Expr → Bool
is_value (t.Int place n) = true
is_value (t.Var place x) = true
is_value _ = false

-- whether the checker handles a statement
abbrev pub is_handled : Stmt → Bool
is_handled (t.Load place x (t.Whole base) is_ghost) = not is_ghost
is_handled (t.Alloc place x e) = is_value e
is_handled (t.Free place base) = true
is_handled (t.Print place e) = is_value e
is_handled _ = false

-- the place of the first statement that isn't handled
abbrev pub first_other : List Stmt → Option Pos
first_other [] = None
first_other (s ∷ rest) = if is_handled s then first_other rest else Some (place_of s)

-- whether a function is real and has no parameters, clauses and result
abbrev pub is_bare : FunDecl → Bool
is_bare f =
    not f.is_ghost && (length f.params == 0) && not f.opens && is_emp f.before && not (is_some f.result) && is_emp f.after
    && not (is_some f.measure)

-- the place of a function's first form that isn't handled: its name's, unless it is such a `main`, or that of a statement
abbrev pub unbuilt_in_fun : FunDecl → Option Pos
unbuilt_in_fun f = if bytes_eq f.name (codes "main") && is_bare f then first_other (list_of f.body) else Some f.pos

-- the place of a declaration's first form that isn't handled
abbrev pub unbuilt_in : Decl → Option Pos
unbuilt_in (t.Struct s) = Some s.pos
unbuilt_in (t.Pred p) = Some p.pos
unbuilt_in (t.Fun f) = unbuilt_in_fun f

-- the one, or where there is none the other
abbrev pub either : Option Pos → Option Pos → Option Pos
either None q = q
either (Some p) q = Some p

-- the place of the first declaration
abbrev pub first_decl : List Decl → Option Pos
first_decl [] = None
first_decl (d ∷ rest) = Some (decl.place_of d)

-- the place of the first form that isn't handled; behind a `main` no declaration is
abbrev pub first_unbuilt_of : List Decl → Option Pos
first_unbuilt_of [] = None
first_unbuilt_of (d ∷ rest) = either (unbuilt_in d) (first_decl rest)

abbrev pub first_unbuilt : Program → Option Pos
first_unbuilt p = first_unbuilt_of p.decls
