-- Statements, declarations and programs that were read can be printed.
use Rattle.std.proofs.Common.{◌≡◌, ℕ, zero, suc, Bool, true, false, List, [], ◌∷◌, Option, Some, None, sym, subst}
use Rattle.std.specs.Prelude.{ℤ, ⊤}
use Rattle.pl_base.specs.declared.pos.Pos.{Pos}
use Rattle.pl_lexer.specs.declared.tokens.Kind.{Kind}
use Rattle.pl_lexer.specs.declared.tokens.Kind.TheVariants as k
use Rattle.pl_lexer.specs.declared.tokens.Token.{Token}
use Rattle.pl_lexer.specs.Proper.{IsName, IsProper}
use Rattle.pl_lexer.specs.Tokens.{IsLexed}
use Rattle.pl_lexer.proofs.Meanings.{lexed_proper}
use Rattle.pl_readers.specs.Language.{Language}
use Rattle.pl_syntax.specs.declared.expr.Class.{Class}
use Rattle.pl_syntax.specs.declared.expr.Class.TheVariants as c
use Rattle.pl_syntax.specs.Plain.{chain}
use Rattle.pl_syntax.specs.Tree.{Name, Stmt, Braced, Program}
use Rattle.pl_grammar.specs.Signs.{number_kind}
use Rattle.pl_grammar.specs.StatementGrammar.{LetMut, LoadBehind, LetGhost, InitOf, NewBehind, CallOrLet, Made, LetName, LetRule, CallBehind, NamedStatement, KeyOf, HintTermOf, HintOf, StatementEnsures, ElseOf, LoadRule, SimpleStatement, StatementOf, Block}
use Rattle.pl_grammar.specs.FileGrammar.{StructRule, PredParameters, BodyOf, PredRule, class_of, Parameter, Parameters, Opens, Requires, Ensures, Returns, Decreases, FunctionBehind, FunctionRule, Arm, DeclarationOf, File}
use Rattle.pl_printed.specs.Printable.{IfSome, Each, IsExpr, IsBinder, IsProp, IsInit, IsKey, IsMultiple, IsTerm, IsHint, IsLoad, AreLoads, IsStmt, AreStmts, IsBlock, IsElse, IsBody, MayHave, IsParam, IsDecl, IsPrintable}
use Rattle.pl_printed.proofs.Gives.{Gives, one, any, next, sign, name, mapped, last_sign, last_name, either, nothing, void, many, known}
use Rattle.pl_printed.proofs.ReadProps.{value, summed, arguments, cell_behind, cell, instance, binder, binders, labelled, prop, whole_prop}

-- ---- what binds a name

load_behind : (d : ℕ) (w : Pos) (x : Pos × List ℕ) (g : Bool) → IsName x.1 → Gives (LoadBehind d w x g) IsStmt
load_behind d w x g h = sign 29 (λ p. next (cell d 0) (λ s i. last_sign 7 (λ q. (h, i))))

let_mut : (d : ℕ) (w : Pos) → Gives (LetMut d w) IsStmt
let_mut d w = sign 40 (λ p. name (λ x h. sign 11 (λ q. next (value d 0) (λ e i. last_sign 7 (λ r. (h, i))))))

let_ghost : (d : ℕ) (w : Pos) → Gives (LetGhost d w) IsStmt
let_ghost d w = sign 32 (λ p. name (λ x h. sign 11 (λ q.
    either (load_behind d w x true h)
    (either (sign 90 (λ r. sign 0 (λ s. next (value d 0) (λ e i. sign 1 (λ y. last_sign 7 (λ z. (h, i)))))))
    (either (sign 91 (λ r. sign 0 (λ s. next (instance d 0) (λ e i. sign 1 (λ y. last_sign 7 (λ z. (h, i)))))))
    (next (value d 0) (λ e i. last_sign 7 (λ z. (h, i)))))))))

init : (d : ℕ) → Gives (InitOf d) IsInit
init d = name (λ f h. sign 8 (λ p. mapped (value d 0) (λ e i. (h, i))))

new_behind : (d : ℕ) (w : Pos) (x : Pos × List ℕ) → IsName x.1 → Gives (NewBehind d w x) IsStmt
new_behind d w x h = sign 78 (λ p. name (λ s i. sign 2 (λ q. next (init d) (λ first j. next (many (sign 6 (λ r. init d))) (λ more l. sign 3 (λ y. last_sign 7 (λ z. (h, i, tt, (j, l)))))))))

called : (d : ℕ) (w : Pos) (x : Option Name) (f : Name) → IfSome IsName x → IsName f → Gives (CallBehind d w x f) IsStmt
called d w x f h i = sign 0 (λ p. next (arguments d 0) (λ args j. last_sign 7 (λ z. (h, i, j))))

call_or_let : (d : ℕ) (w : Pos) (x : Pos × List ℕ) → IsName x.1 → Gives (CallOrLet d w x) IsStmt
call_or_let d w x h = next {P = IsStmt} (either (name (λ f i. sign 0 (λ p. mapped (arguments d 0) (λ args j. (h, i, j))))) (mapped (value d 0) (λ e i. (h, i)))) (λ s i. last_sign 7 (λ z. i))

made : (d : ℕ) (w : Pos) (x : Pos × List ℕ) → IsName x.1 → Gives (Made d w x) IsStmt
made d w x h =
    either (load_behind d w x false h)
    (either (sign 75 (λ r. sign 0 (λ s. next (value d 0) (λ e i. sign 1 (λ y. last_sign 7 (λ z. (h, i)))))))
    (either (sign 76 (λ r. sign 0 (λ s. next (value d 0) (λ e i. sign 6 (λ q. next (value d 0) (λ n j. sign 1 (λ y. last_sign 7 (λ z. (h, i, j)))))))))
    (either (sign 77 (λ r. sign 0 (λ s. next (value d 0) (λ e i. sign 1 (λ y. last_sign 7 (λ z. (h, i)))))))
    (either (new_behind d w x h)
    (either (sign 87 (λ r. sign 0 (λ s. name (λ b i. sign 1 (λ y. last_sign 7 (λ z. (h, i)))))))
    (either (sign 89 (λ r. sign 0 (λ s. name (λ b i. sign 6 (λ p. next (value d 0) (λ e j. sign 6 (λ q. next (value d 0) (λ n l. sign 1 (λ y. last_sign 7 (λ z. (h, i, j, l)))))))))))
    (either (sign 81 (λ r. sign 0 (λ s. next (instance d 0) (λ e i. sign 1 (λ y. last_sign 7 (λ z. (h, i)))))))
    (either (sign 85 (λ r. sign 0 (λ s. sign 1 (λ y. last_sign 7 (λ z. h)))))
    (call_or_let d w x h)))))))))

let_name : (d : ℕ) (w : Pos) → Gives (LetName d w) IsStmt
let_name d w = name (λ x h. sign 11 (λ q. made d w x h))

let_rule : (d : ℕ) → Gives (LetRule d) IsStmt
let_rule d = sign 39 (λ w. either (let_mut d w) (either (let_ghost d w) (let_name d w)))

-- ---- other statements without blocks

named : (d : ℕ) → Gives (NamedStatement d) IsStmt
named d = name (λ x h. either (called d x.0 None x.1 tt h) (next (cell_behind d 0 x h) (λ s i. sign 12 (λ p. next (value d 0) (λ e j. last_sign 7 (λ z. (i, j)))))))

key : (d : ℕ) → Gives (KeyOf d) IsKey
key d = either (sign 58 (λ p. sign 0 (λ q. next (value d 0) (λ a h. sign 6 (λ r. next (value d 0) (λ lo i. sign 6 (λ s. next (value d 0) (λ hi j. last_sign 1 (λ z. (h, i, j))))))))))
    (mapped (cell d 0) (λ s h. h))

multiple_at : (p : Pos) (kk : Kind) (a : Pos × ℤ) → IsProper kk → number_kind p kk ≡ Some a → IsMultiple a.1
multiple_at p (k.Word x) a h e = absurd cc
multiple_at p (k.Number n) a h e = let is : (p, n) ≡ a = cc in subst (λ (z : Pos × ℤ). IsMultiple z.1) is (subst IsMultiple (sym h.1) h.2)
multiple_at p (k.Sign j) a h e = absurd cc
multiple_at p k.End a h e = absurd cc

term : Gives HintTermOf IsTerm
term = next (one (λ x n h e. multiple_at x.pos x.kind n h e)) (λ n h. sign 17 (λ p. last_name (λ l i. (h, i))))

hint : Gives HintOf (IfSome IsHint)
hint = either (sign 48 (λ p. next term (λ x h. mapped (many (sign 15 (λ q. term))) (λ xs i. (tt, (h, i)))))) (nothing tt)

simple : (d : ℕ) → Gives (SimpleStatement d) IsStmt
simple d =
    either (let_rule d)
    (either (sign 79 (λ w. sign 0 (λ p. name (λ x h. sign 1 (λ q. last_sign 7 (λ z. h))))))
    (either (sign 80 (λ w. sign 0 (λ p. name (λ x h. sign 1 (λ q. last_sign 7 (λ z. h))))))
    (either (sign 82 (λ w. sign 0 (λ p. name (λ x h. sign 1 (λ q. last_sign 7 (λ z. h))))))
    (either (sign 83 (λ w. sign 0 (λ p. name (λ x h. sign 1 (λ q. last_sign 7 (λ z. h))))))
    (either (sign 84 (λ w. sign 0 (λ p. name (λ x h. sign 1 (λ q. last_sign 7 (λ z. h))))))
    (either (sign 88 (λ w. sign 0 (λ p. name (λ x h. sign 6 (λ q. next (value d 0) (λ e i. sign 1 (λ r. last_sign 7 (λ z. (h, i)))))))))
    (either (sign 86 (λ w. sign 0 (λ p. next (value d 0) (λ e i. sign 1 (λ r. last_sign 7 (λ z. i))))))
    (either (sign 50 (λ w. name (λ f h. sign 0 (λ p. next (arguments d 0) (λ xs i. sign 6 (λ q. name (λ g j. sign 0 (λ r. next (arguments d 0) (λ ys l. last_sign 7 (λ z. (h, i, j, l)))))))))))
    (either (sign 49 (λ w. next (value d 0) (λ e i. last_sign 7 (λ z. i))))
    (either (sign 63 (λ w. next (instance d 0) (λ e i. last_sign 7 (λ z. i))))
    (either (sign 64 (λ w. next (instance d 0) (λ e i. last_sign 7 (λ z. i))))
    (either (sign 65 (λ w. next (prop d 0) (λ p h. sign 66 (λ r. next (prop d p.used) (λ q i. last_sign 7 (λ z. (h, i)))))))
    (either (sign 67 (λ w. next (key d) (λ s i. last_sign 7 (λ z. i))))
    (either (sign 68 (λ w. next (key d) (λ s i. last_sign 7 (λ z. i))))
    (either (sign 69 (λ w. sign 58 (λ p. sign 0 (λ q. next (value d 0) (λ a h. sign 6 (λ r. next (value d 0) (λ lo i. sign 6 (λ s. next (value d 0) (λ hi j. sign 1 (λ x. sign 71 (λ y. next (value d 0) (λ m l. last_sign 7 (λ z. (h, i, j, l))))))))))))))
    (either (sign 70 (λ w. sign 58 (λ p. sign 0 (λ q. next (value d 0) (λ a h. sign 6 (λ r. next (value d 0) (λ lo i. sign 6 (λ s. next (value d 0) (λ m j. sign 6 (λ x. next (value d 0) (λ hi l. sign 1 (λ y. last_sign 7 (λ z. (h, i, j, l))))))))))))))
    (either (sign 72 (λ w. name (λ a h. sign 4 (λ p. next (summed d 0) (λ e i. sign 5 (λ q. last_sign 7 (λ z. (h, i))))))))
    (either (sign 73 (λ w. name (λ a h. sign 4 (λ p. next (summed d 0) (λ e i. sign 5 (λ q. last_sign 7 (λ z. (h, i))))))))
    (either (sign 47 (λ w. next (labelled d 0) (λ e i. next hint (λ o j. last_sign 7 (λ z. (i.0, i.1, j))))))
    (either (sign 45 (λ w. next (binders c.Logical) (λ bs h. sign 9 (λ p. sign 47 (λ q. next (whole_prop d 0) (λ a i. last_sign 7 (λ z. (h.0, h.1, i))))))))
    (either (sign 74 (λ w. next (whole_prop d 0) (λ a i. last_sign 7 (λ z. i))))
    (named d))))))))))))))))))))))

-- ---- statements with blocks

statement_ensures : (d : ℕ) → Gives (StatementEnsures d) (IfSome IsProp)
statement_ensures d = either (sign 37 (λ p. next (whole_prop d 0) (λ a h. last_sign 7 (λ z. h)))) (nothing tt)

load_rule : (d : ℕ) → Gives (LoadRule d) IsLoad
load_rule d = sign 39 (λ w. name (λ x h. sign 11 (λ p. sign 29 (λ q. next (cell d 0) (λ s i. last_sign 7 (λ z. (h, i)))))))

all_loads : (ss : List Stmt) → Each IsLoad ss → AreLoads (chain ss)
all_loads [] h = tt
all_loads (s ∷ ss) h = (h.0, all_loads ss h.1)

all_stmts : (ss : List Stmt) → Each IsStmt ss → AreStmts (chain ss)
all_stmts [] h = tt
all_stmts (s ∷ ss) h = (h.0, all_stmts ss h.1)

else_of : (K : Language Token Braced) → Gives K IsBlock → Gives (ElseOf K) IsElse
else_of K b = either (sign 42 (λ p. mapped b (λ x h. h))) (nothing tt)

statement : (d : ℕ) (K : Language Token Braced) → Gives K IsBlock → Gives (StatementOf d K) IsStmt
statement d K b =
    either (sign 41 (λ w. sign 0 (λ p. next (value d 0) (λ e h. sign 1 (λ q. next b (λ first i. next (else_of K b) (λ second j. mapped (statement_ensures d) (λ after l. (h, i, j, l)))))))))
    (either (sign 43 (λ w. sign 0 (λ p. next (many (load_rule d)) (λ ls h. next (value d 0) (λ e i. sign 1 (λ q. sign 44 (λ r. next (whole_prop d 0) (λ kept j. mapped b (λ x l. (all_loads ls h, i, j, l))))))))))
    (either (sign 46 (λ w. name (λ x h. next b (λ y i. mapped (statement_ensures d) (λ after j. (h, i, j))))))
    (simple d)))

block : (d : ℕ) → Gives (Block d) IsBlock
unfolding Block
block zero = void
block (suc d) = sign 2 (λ p. next (many (statement d (Block d) (block d))) (λ ss h. last_sign 3 (λ q. all_stmts ss h)))

-- ---- declarations

struct_rule : Gives StructRule IsDecl
struct_rule = sign 30 (λ p. name (λ x h. sign 2 (λ q. next (binders c.Real) (λ bs i. last_sign 3 (λ r. (h, i.0, i.1))))))

pred_parameters : Gives PredParameters (Each (IsBinder c.Logical))
pred_parameters = either (last_sign 1 (λ p. tt)) (next (binders c.Logical) (λ bs h. last_sign 1 (λ p. h.1)))

arm : (d : ℕ) → Gives (Arm d) IsProp
arm zero = void
arm (suc d) = sign 2 (λ p. next (prop d 0) (λ y h. last_sign 3 (λ q. h)))

body : (d : ℕ) → Gives (BodyOf d (Arm d)) IsBody
body d =
    either (sign 41 (λ p. sign 0 (λ q. next (value d 0) (λ e h. sign 1 (λ r. next (arm d) (λ a i. sign 42 (λ s. mapped (arm d) (λ b j. (h, i, j)))))))))
    (mapped (whole_prop d 0) (λ p h. h))

pred_rule : (d : ℕ) → Gives (PredRule d (Arm d)) IsDecl
pred_rule d = sign 31 (λ p. name (λ x h. sign 0 (λ q. next pred_parameters (λ bs i. sign 11 (λ r. next (body d) (λ b j. last_sign 7 (λ z. (h, i, j))))))))

ghost_may : (is_ghost : Bool) → MayHave is_ghost c.Ghost
ghost_may true = tt
ghost_may false = tt

logical_may : (is_ghost : Bool) → MayHave is_ghost c.Logical
logical_may true = tt
logical_may false = tt

own_may : (is_ghost : Bool) → MayHave is_ghost (class_of is_ghost)
own_may true = tt
own_may false = tt

parameter : (is_ghost : Bool) → Gives (Parameter is_ghost) (IsParam is_ghost)
parameter is_ghost =
    either (sign 32 (λ p. known (binder c.Ghost) (λ b h. (h.0, h.1, subst (λ (z : Class). MayHave is_ghost z) (sym h.2) (ghost_may is_ghost)))))
    (either (sign 10 (λ p. known (binder c.Logical) (λ b h. (h.0, h.1, subst (λ (z : Class). MayHave is_ghost z) (sym h.2) (logical_may is_ghost)))))
    (known (binder (class_of is_ghost)) (λ b h. (h.0, h.1, subst (λ (z : Class). MayHave is_ghost z) (sym h.2) (own_may is_ghost)))))

parameters : (is_ghost : Bool) → Gives (Parameters is_ghost) (Each (IsParam is_ghost))
parameters is_ghost = either (last_sign 1 (λ p. tt)) (next (parameter is_ghost) (λ b h. next (many (sign 6 (λ q. parameter is_ghost))) (λ bs i. last_sign 1 (λ p. (h, i)))))

requires_of : (d : ℕ) (p : Pos) → Gives (Requires d p) IsProp
requires_of d p = either (sign 35 (λ q. whole_prop d 0)) (nothing tt)

ensures_of : (d : ℕ) (p : Pos) → Gives (Ensures d p) IsProp
ensures_of d p = either (sign 37 (λ q. whole_prop d 0)) (nothing tt)

returns_of : Gives Returns (IfSome (IsBinder c.Real))
returns_of = either (sign 36 (λ q. mapped (binder c.Real) (λ b h. h))) (nothing tt)

decreases_of : (d : ℕ) → Gives (Decreases d) (IfSome IsExpr)
decreases_of d = either (sign 38 (λ q. mapped (value d 0) (λ e h. h))) (nothing tt)

opens_of : Gives Opens (λ o. ⊤)
opens_of = either (last_sign 34 (λ p. tt)) (nothing tt)

function_behind : (d : ℕ) (is_ghost : Bool) → Gives (FunctionBehind d (Block d) is_ghost) IsDecl
function_behind d is_ghost =
    name (λ x h. sign 0 (λ p. next (parameters is_ghost) (λ ps i. next opens_of (λ o j. next (requires_of d x.0) (λ before l. next returns_of (λ r m. next (ensures_of d x.0) (λ after n. next (decreases_of d) (λ e q. mapped (block d) (λ b s.
    (h, i, l, m, n, q, s))))))))))

function_rule : (d : ℕ) → Gives (FunctionRule d (Block d)) IsDecl
function_rule d = either (sign 32 (λ p. sign 33 (λ q. function_behind d true))) (sign 33 (λ q. function_behind d false))

declaration : (d : ℕ) → Gives (DeclarationOf d) IsDecl
declaration d = either struct_rule (either (pred_rule d) (function_rule d))

file : (d : ℕ) → Gives (File d) IsPrintable
unfolding File IsPrintable
file d = next (many (declaration d)) (λ ds h. mapped any (λ u i. h))

-- Each program that was read can be printed.
pub read_printable : (bytes : List ℕ) (tokens : List Token) (p : Program) → IsLexed bytes tokens → File 64 p tokens → IsPrintable p
read_printable bytes tokens p lexed read = (file 64).gives p tokens (lexed_proper bytes tokens lexed) read
