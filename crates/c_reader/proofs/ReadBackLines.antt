-- What is written of a statement that keeps the rules stands for it.
use Rattle.std.proofs.Common.{◌≡◌, ◌∙◌, sym, ap, refl, ℕ, ◌+◌, ◌==◌, true, cond, Some, None, List, [], ◌∷◌, ◌++◌, map, append-nil, append_assoc}
use Rattle.std.specs.Cmp.{unsigned_Decides}
use Rattle.std.specs.Str.{bytes_eq}
use Rattle.std.proofs.lemmas.Bool.{and_from}
use Rattle.std.proofs.lemmas.Slice.Eq.{bytes_eq-Decides}
use Rattle.c_syntax.specs.declared.kind.CType.{CType}
use Rattle.c_syntax.specs.declared.kind.CType.TheVariants as kind
use Rattle.c_syntax.specs.declared.kind.Local as plain
use Rattle.c_syntax.specs.declared.program.CMember.{CMember}
use Rattle.c_syntax.specs.declared.program.CParam.{CParam}
use Rattle.c_syntax.specs.Forms.{AreLoads, AreStmtForms, IsStmtForm}
use Rattle.c_syntax.specs.Rules.{InitsFit, Scope, StmtFits, StmtsFit, after, after_all, is_same, members_of, moved, stmts_binders}
use Rattle.c_syntax.specs.Tree as t
use Rattle.c_syntax.specs.Tree.{Name}
use Rattle.c_forms.specs.Tree as w
use Rattle.c_rules.specs.Lines.{FirstValue, members_or_none}
use Rattle.c_rules.specs.Sorts.{Structs}
use Rattle.c_reader.specs.Standing.{Gathered, begun, cell_of, expr_of, gathered_line, loads_of, made_of, stmts_of}
use Rattle.c_reader.proofs.Written as written

-- ---- expressions, cells and lists

pub expr_back : (e : t.Expr) → expr_of (written.expr e) ≡ e
expr_back (t.Int n) = refl
expr_back (t.Truth b) = refl
expr_back t.Null = refl
expr_back (t.Var x) = refl
expr_back (t.Neg e) = ap t.Neg (expr_back e)
expr_back (t.Not e) = ap t.Not (expr_back e)
expr_back (t.Bin op a b) = ap (λ x. t.Bin op x (expr_of (written.expr b))) (expr_back a) ∙ ap (t.Bin op a) (expr_back b)

pub cell_back : (c : t.Cell) → cell_of (written.cell c) ≡ c
cell_back (t.Whole base) = refl
cell_back (t.At base index) = ap (t.At base) (expr_back index)
cell_back (t.Field base member) = refl

pub exprs_back : (es : List t.Expr) → map expr_of (map written.expr es) ≡ es
exprs_back [] = refl
exprs_back (e ∷ es) = ap (λ x. x ∷ map expr_of (map written.expr es)) (expr_back e) ∙ ap (λ xs. e ∷ xs) (exprs_back es)

pub handed_back : (k : ℕ) (es : List t.Expr) → map (λ a. expr_of a.value) (written.arguments k es) ≡ es
handed_back k [] = refl
handed_back k (e ∷ es) = ap (λ x. x ∷ map (λ a. expr_of a.value) (written.arguments (k + 1) es)) (expr_back e) ∙ ap (λ xs. e ∷ xs) (handed_back (k + 1) es)

pub loads_back : (ls : t.Stmts) → AreLoads ls → loads_of (written.loads ls) ≡ ls
loads_back t.end h = refl
loads_back (t.more (t.Load type x c) rest) h =
    ap (λ y. t.more (t.Load type x y) (loads_of (written.loads rest))) (cell_back c) ∙ ap (t.more (t.Load type x c)) (loads_back rest h)
loads_back (t.more _ rest) h = absurd h

made_back : (type : CType) (x : plain.Local) (e : t.Expr) → made_of (written.maker_of type) type x (expr_of (written.expr e)) ≡ t.New type x e
made_back kind.PtrBool x e = ap (t.New kind.PtrBool x) (expr_back e)
made_back kind.Void x e = ap (t.New kind.Void x) (expr_back e)
made_back kind.I64 x e = ap (t.New kind.I64 x) (expr_back e)
made_back kind.Bool x e = ap (t.New kind.Bool x) (expr_back e)
made_back kind.PtrI64 x e = ap (t.New kind.PtrI64 x) (expr_back e)
made_back (kind.PtrStruct s) x e = ap (t.New (kind.PtrStruct s) x) (expr_back e)
made_back kind.PtrAtomic x e = ap (t.New kind.PtrAtomic x) (expr_back e)
made_back kind.PtrLock x e = ap (t.New kind.PtrLock x) (expr_back e)

-- ---- first values

pub same_self : (x : plain.Local) → is_same x x ≡ true
same_self x = and_from (bytes_eq x.name x.name) (x.number == x.number) ((bytes_eq-Decides x.name x.name).1 refl) ((unsigned_Decides x.number x.number).1 refl)

-- a structure's block whose first values are gathered so far
abbrev gathered : plain.Local → Name → List t.Init → List CMember → Gathered
gathered x s before ms = record { local = written.local x; structure = s; inits = before; members = ms }

-- the first values that are still to come, in front of others
pub inits_back : (structs : Structs) (bound : List CParam) (x : plain.Local) (s : Name) (before is : List t.Init) (ms : List CMember) → InitsFit bound is ms → (rest : w.Stmts) →
    begun (gathered x s before ms) ms (stmts_of structs (written.inits x is rest)) ≡ t.more (t.NewStruct x s (before ++ is)) (stmts_of structs rest None)
inits_back structs bound x s before [] [] h rest = ap (λ all. t.more (t.NewStruct x s all) (stmts_of structs rest None)) (sym (append-nil before))
inits_back structs bound x s before [] (m ∷ ms) h rest = absurd h
inits_back structs bound x s before (i ∷ is) [] h rest = absurd h
inits_back structs bound x s before (i ∷ is) (m ∷ ms) h rest =
    let k = stmts_of structs (written.inits x is rest) in
    let v : FirstValue = record { base = written.local x; member = i.name; value = written.expr i.value } in
    let same : record { name = i.name; value = expr_of (written.expr i.value) } ≡ i = ap (λ (e : t.Expr). record { name = i.name; value = e }) (expr_back i.value) in
    ap (λ b. gathered_line (gathered x s before (m ∷ ms)) (m ∷ ms) (t.Store (t.Field x i.name) (expr_of (written.expr i.value))) (cond b (Some v) None) k) (same_self x)
    ∙ ap (λ (j : t.Init). begun (gathered x s (before ++ (j ∷ [])) ms) ms k) same
    ∙ inits_back structs bound x s (before ++ (i ∷ [])) is ms h.2 rest
    ∙ ap (λ all. t.more (t.NewStruct x s all) (stmts_of structs rest None)) (append_assoc before (i ∷ []) is)

-- ---- statements

mutual
  pub stmt_back : (p : t.Program) (scope : Scope) (u : t.Stmt) → IsStmtForm u → StmtFits p scope u → (rest : w.Stmts) →
      stmts_of (members_of p.structs) (written.lines u rest) None ≡ t.more u (stmts_of (members_of p.structs) rest None)
  stmt_back p scope (t.Let type x e) f h rest = ap (λ y. t.more (t.Let type x y) (stmts_of (members_of p.structs) rest None)) (expr_back e)
  stmt_back p scope (t.Load type x c) f h rest = ap (λ y. t.more (t.Load type x y) (stmts_of (members_of p.structs) rest None)) (cell_back c)
  stmt_back p scope (t.Store c e) f h rest =
      ap (λ y. t.more (t.Store y (expr_of (written.expr e))) (stmts_of (members_of p.structs) rest None)) (cell_back c)
      ∙ ap (λ y. t.more (t.Store c y) (stmts_of (members_of p.structs) rest None)) (expr_back e)
  stmt_back p scope (t.New type x e) f h rest = ap (λ u. t.more u (stmts_of (members_of p.structs) rest None)) (made_back type x e)
  stmt_back p scope (t.NewArray type x e n) f h rest =
      ap (λ y. t.more (t.NewArray type x y (expr_of (written.expr n))) (stmts_of (members_of p.structs) rest None)) (expr_back e)
      ∙ ap (λ y. t.more (t.NewArray type x e y) (stmts_of (members_of p.structs) rest None)) (expr_back n)
  stmt_back p scope (t.NewAtomic x e) f h rest = ap (λ y. t.more (t.NewAtomic x y) (stmts_of (members_of p.structs) rest None)) (expr_back e)
  stmt_back p scope (t.NewStruct x s is) f h rest =
      ap (λ o. begun (gathered x s [] (members_or_none o)) (members_or_none o) (stmts_of (members_of p.structs) (written.inits x is rest))) h.1
      ∙ inits_back (members_of p.structs) scope.bound x s [] is h.0 h.2 rest
  stmt_back p scope (t.Free x) f h rest = refl
  stmt_back p scope (t.AtomicLoad x y) f h rest = refl
  stmt_back p scope (t.AtomicStore x e) f h rest = ap (λ y. t.more (t.AtomicStore x y) (stmts_of (members_of p.structs) rest None)) (expr_back e)
  stmt_back p scope (t.Cas x b o n) f h rest =
      ap (λ y. t.more (t.Cas x b y (expr_of (written.expr n))) (stmts_of (members_of p.structs) rest None)) (expr_back o)
      ∙ ap (λ y. t.more (t.Cas x b o y) (stmts_of (members_of p.structs) rest None)) (expr_back n)
  stmt_back p scope (t.NewLock x) f h rest = refl
  stmt_back p scope (t.Acquire x) f h rest = refl
  stmt_back p scope (t.Release x) f h rest = refl
  stmt_back p scope (t.Read x) f h rest = refl
  stmt_back p scope (t.Print e) f h rest = ap (λ y. t.more (t.Print y) (stmts_of (members_of p.structs) rest None)) (expr_back e)
  stmt_back p scope (t.Call g args) f h rest = ap (λ ys. t.more (t.Call g ys) (stmts_of (members_of p.structs) rest None)) (exprs_back args)
  stmt_back p scope (t.CallLet type x g args) f h rest = ap (λ ys. t.more (t.CallLet type x g ys) (stmts_of (members_of p.structs) rest None)) (exprs_back args)
  stmt_back p scope (t.Par g args k others) f h rest =
      ap (λ ys. t.more (t.Par g ys k (map expr_of (map written.expr others))) (stmts_of (members_of p.structs) rest None)) (handed_back 1 args)
      ∙ ap (λ ys. t.more (t.Par g args k ys) (stmts_of (members_of p.structs) rest None)) (exprs_back others)
  stmt_back p scope (t.If e a b) f h rest =
      let structs = members_of p.structs in
      ap (λ y. t.more (t.If y (stmts_of structs (written.stmts a) None) (stmts_of structs (written.stmts b) None)) (stmts_of structs rest None)) (expr_back e)
      ∙ ap (λ y. t.more (t.If e y (stmts_of structs (written.stmts b) None)) (stmts_of structs rest None)) (stmts_back p scope a f.1 h.1)
      ∙ ap (λ y. t.more (t.If e a y) (stmts_of structs rest None)) (stmts_back p (moved scope (stmts_binders a)) b f.2 h.2)
  stmt_back p scope (t.While ls e b) f h rest =
      let structs = members_of p.structs in
      ap (λ y. t.more (t.While y (expr_of (written.expr e)) (stmts_of structs (written.stmts b) None)) (stmts_of structs rest None)) (loads_back ls f.0)
      ∙ ap (λ y. t.more (t.While ls y (stmts_of structs (written.stmts b) None)) (stmts_of structs rest None)) (expr_back e)
      ∙ ap (λ y. t.more (t.While ls e y) (stmts_of structs rest None)) (stmts_back p (after_all scope ls) b f.3 h.2)
  stmt_back p scope (t.Return e) f h rest = absurd h

  pub stmts_back : (p : t.Program) (scope : Scope) (ts : t.Stmts) → AreStmtForms ts → StmtsFit p scope ts → stmts_of (members_of p.structs) (written.stmts ts) None ≡ ts
  stmts_back p scope t.end f h = refl
  stmts_back p scope (t.more u rest) f h = stmt_back p scope u f.0 h.1 (written.stmts rest) ∙ ap (t.more u) (stmts_back p (after scope u) rest f.1 h.2)
