-- A program is of the forms where what is written in its text is.
use Rattle.std.proofs.Common.{◌≡◌, ap, refl, ℕ, zero, suc, ◌+◌, ◌≤◌, List, [], ◌∷◌, map, arith}
use Rattle.std.specs.Prelude.{pos, negsuc}
use Rattle.std.specs.List.{AllByRecursion}
use Rattle.pl_lexer.specs.Proper.{IsName}
use Rattle.c_syntax.specs.declared.kind.Local as plain
use Rattle.c_syntax.specs.declared.program.CMember.{CMember}
use Rattle.c_syntax.specs.declared.program.CParam.{CParam}
use Rattle.c_syntax.specs.declared.program.CStruct.{CStruct}
use Rattle.c_syntax.specs.Forms.{AreLoads, AreStmtForms, HasLiterals, IsAboveZero, IsCellForm, IsExprForm, IsFunForm, IsInitForm, IsProgramForm, IsStmtForm, IsStructForm, expr_depth, stmt_depth, stmts_depth}
use Rattle.c_syntax.specs.Names.{CellNames, ExprNames, FunNames, InitNames, MemberNames, ParamNames, ProgramNames, StmtNames, StmtsNames, StructNames}
use Rattle.c_syntax.specs.Rules.{KeepsRules}
use Rattle.c_syntax.specs.Tree as t
use Rattle.c_forms.specs.Forms as form
use Rattle.c_forms.specs.Tree as w
use Rattle.c_reader.proofs.FormsHeads.{HasHeads, HasMade, HaveHeads, HaveMade, made_kept}
use Rattle.c_reader.proofs.Written as written

-- ---- expressions

record ExprBack (n : ℕ) (e : t.Expr) : Type 0 where
  literals : HasLiterals e
  depth : expr_depth e ≤ n
  names : ExprNames IsName e

above_zero : (e : t.Expr) → IsAboveZero e → form.IsAboveZero (written.expr e)
above_zero (t.Int (pos zero)) h = h
above_zero (t.Int (pos (suc n))) h = h
above_zero (t.Int (negsuc n)) h = h
above_zero (t.Truth b) h = h
above_zero t.Null h = h
above_zero (t.Var x) h = h
above_zero (t.Neg e) h = h
above_zero (t.Not e) h = h
above_zero (t.Bin op a b) h = h

nested_back : (n : ℕ) (e : t.Expr) → form.IsNestedForm n (written.expr e) → ExprBack n e
nested_back n (t.Int (pos k)) h = record { literals = record { sfits = h }; depth = omega arith; names = tt }
nested_back zero (t.Int (negsuc k)) h = absurd h
nested_back (suc n) (t.Int (negsuc k)) h = record { literals = record { sfits = h }; depth = omega arith; names = tt }
nested_back n (t.Truth b) h = record { literals = tt; depth = omega arith; names = tt }
nested_back n t.Null h = record { literals = tt; depth = omega arith; names = tt }
nested_back n (t.Var x) h = record { literals = tt; depth = omega arith; names = h.0 }
nested_back zero (t.Neg e) h = absurd h
nested_back (suc n) (t.Neg e) h =
    let b = nested_back n e h.1 in
    record { literals = ((λ k. h.0 (above_zero e k)), b.literals); depth = omega (arith, b.depth); names = b.names }
nested_back zero (t.Not e) h = absurd h
nested_back (suc n) (t.Not e) h = let b = nested_back n e h in record { literals = b.literals; depth = omega (arith, b.depth); names = b.names }
nested_back zero (t.Bin op a b) h = absurd h
nested_back (suc n) (t.Bin op a b) h =
    let c = nested_back n a h.0 in
    let d = nested_back n b h.1 in
    record { literals = (c.literals, d.literals); depth = omega (arith, c.depth, d.depth); names = (c.names, d.names) }

expr_form : (e : t.Expr) → form.IsExprForm (written.expr e) → IsExprForm e
expr_form e h = let b = nested_back 128 e h in record { literals = b.literals; depth = b.depth }

expr_names : (e : t.Expr) → form.IsExprForm (written.expr e) → ExprNames IsName e
expr_names e h = (nested_back 128 e h).names

exprs_form : (es : List t.Expr) → AllByRecursion form.IsExprForm (map written.expr es) → AllByRecursion IsExprForm es
exprs_form [] h = tt
exprs_form (e ∷ es) h = (expr_form e h.0, exprs_form es h.1)

exprs_names : (es : List t.Expr) → AllByRecursion form.IsExprForm (map written.expr es) → AllByRecursion (ExprNames IsName) es
exprs_names [] h = tt
exprs_names (e ∷ es) h = (expr_names e h.0, exprs_names es h.1)

-- ---- cells

cell_form : (c : t.Cell) → form.IsCellForm (written.cell c) → IsCellForm c
cell_form (t.Whole base) h = tt
cell_form (t.At base index) h = expr_form index h.1
cell_form (t.Field base member) h = tt

cell_names : (c : t.Cell) → form.IsCellForm (written.cell c) → CellNames IsName c
cell_names (t.Whole base) h = h.0
cell_names (t.At base index) h = (h.0.0, expr_names index h.1)
cell_names (t.Field base member) h = (h.0.0, h.1)

-- ---- statements

-- what is shown of a statement that nests to n
record StmtBack (n : ℕ) (s : t.Stmt) : Type 0 where
  form : IsStmtForm s
  depth : stmt_depth s ≤ n
  names : StmtNames IsName s

record StmtsBack (n : ℕ) (ts : t.Stmts) : Type 0 where
  form : AreStmtForms ts
  depth : stmts_depth ts ≤ n
  names : StmtsNames IsName ts

-- a statement without blocks
plain_back : (n : ℕ) (s : t.Stmt) → stmt_depth s ≡ 0 → IsStmtForm s → StmtNames IsName s → StmtBack n s
plain_back n s flat f k = record { form = f; depth = omega (arith, flat); names = k }

back_more : (n : ℕ) (s : t.Stmt) (rest : t.Stmts) → StmtBack n s → StmtsBack n rest → StmtsBack n (t.more s rest)
back_more n s rest one more = record { form = (one.form, more.form); depth = omega (arith, one.depth, more.depth); names = (one.names, more.names) }

loads_back : (n : ℕ) (ls : t.Stmts) → AreLoads ls → AllByRecursion form.IsLoadForm (written.loads ls) → StmtsBack n ls
loads_back n t.end l h = record { form = tt; depth = omega arith; names = tt }
loads_back n (t.more (t.Load type x c) rest) l h =
    back_more n (t.Load type x c) rest (plain_back n (t.Load type x c) refl (cell_form c h.0.2) (h.0.0, h.0.1.0, cell_names c h.0.2)) (loads_back n rest l h.1)
loads_back n (t.more _ rest) l h = absurd l

record InitsBack (is : List t.Init) : Type 0 where
  form : AllByRecursion IsInitForm is
  names : AllByRecursion (InitNames IsName) is

inits_back : (n : ℕ) (x : plain.Local) (is : List t.Init) (rest : w.Stmts) → form.AreStmtForms n (written.inits x is rest) → InitsBack is × form.AreStmtForms n rest
inits_back n x [] rest h = (record { form = tt; names = tt }, h)
inits_back n x (i ∷ is) rest h =
    let more = inits_back n x is rest h.1 in
    (record { form = (expr_form i.value h.0.1, more.0.form); names = ((h.0.0.1, expr_names i.value h.0.1), more.0.names) }, more.1)

arguments_form : (k : ℕ) (es : List t.Expr) → AllByRecursion form.IsArgumentForm (written.arguments k es) → AllByRecursion form.IsExprForm (map written.expr es)
arguments_form k [] h = tt
arguments_form k (e ∷ es) h = (h.0.1, arguments_form (k + 1) es h.1)

par_back : (n : ℕ) (f : t.Name) (args : List t.Expr) (g : t.Name) (others : List t.Expr) →
    form.IsStmtForm n (w.Par (record { structure = f; size = f; arguments = written.arguments 1 args; starter = f; other = g; others = map written.expr others })) → StmtBack n (t.Par f args g others)
par_back zero f args g others h = absurd h
par_back (suc n) f args g others h =
    let given = arguments_form 1 args h.arguments in
    record {
      form = (exprs_form args given, exprs_form others h.call.1);
      depth = omega arith;
      names = (h.structure, exprs_names args given, h.call.0, exprs_names others h.call.1);
    }

-- a statement whose lines are of the forms is of the forms, and so are the lines behind it
abbrev Back : ℕ → t.Stmt → w.Stmts → Type 0
Back n s rest = StmtBack n s × form.AreStmtForms n rest

mutual
  stmt_back : (n : ℕ) (s : t.Stmt) (rest : w.Stmts) → HasHeads s → HasMade s → form.AreStmtForms n (written.lines s rest) → Back n s rest
  stmt_back n (t.Let type x e) rest l m h = (plain_back n (t.Let type x e) refl (expr_form e h.0.2) (h.0.0, h.0.1.0, expr_names e h.0.2), h.1)
  stmt_back n (t.Load type x c) rest l m h = (plain_back n (t.Load type x c) refl (cell_form c h.0.2) (h.0.0, h.0.1.0, cell_names c h.0.2), h.1)
  stmt_back n (t.Store c e) rest l m h = (plain_back n (t.Store c e) refl (cell_form c h.0.0, expr_form e h.0.1) (cell_names c h.0.0, expr_names e h.0.1), h.1)
  stmt_back n (t.New type x e) rest l m h = (plain_back n (t.New type x e) refl (m, expr_form e h.0.2) (h.0.0, h.0.1.0, expr_names e h.0.2), h.1)
  stmt_back n (t.NewArray type x e count) rest l m h =
      (plain_back n (t.NewArray type x e count) refl (expr_form e h.0.2.0, expr_form count h.0.2.1) (h.0.0, h.0.1.0, expr_names e h.0.2.0, expr_names count h.0.2.1), h.1)
  stmt_back n (t.NewAtomic x e) rest l m h = (plain_back n (t.NewAtomic x e) refl (expr_form e h.0.2) (h.0.1.0, expr_names e h.0.2), h.1)
  stmt_back n (t.NewStruct x s is) rest l m h =
      let b = inits_back n x is rest h.1 in
      (plain_back n (t.NewStruct x s is) refl b.0.form (h.0.1.0, h.0.2, b.0.names), b.1)
  stmt_back n (t.Free base) rest l m h = (plain_back n (t.Free base) refl tt h.0.0, h.1)
  stmt_back n (t.AtomicLoad x base) rest l m h = (plain_back n (t.AtomicLoad x base) refl tt (h.0.1.0, h.0.2.1.0), h.1)
  stmt_back n (t.AtomicStore base e) rest l m h = (plain_back n (t.AtomicStore base e) refl (expr_form e h.0.1) (h.0.0.0, expr_names e h.0.1), h.1)
  stmt_back n (t.Cas x base old new) rest l m h =
      (plain_back n (t.Cas x base old new) refl (expr_form old h.0.2.2, expr_form new h.0.2.3) (h.0.1.0, h.0.2.1.0, expr_names old h.0.2.2, expr_names new h.0.2.3), h.1)
  stmt_back n (t.NewLock x) rest l m h = (plain_back n (t.NewLock x) refl tt h.0.1.0, h.1)
  stmt_back n (t.Acquire lock) rest l m h = (plain_back n (t.Acquire lock) refl tt h.0.0, h.1)
  stmt_back n (t.Release lock) rest l m h = (plain_back n (t.Release lock) refl tt h.0.0, h.1)
  stmt_back n (t.Read x) rest l m h = (plain_back n (t.Read x) refl tt h.0.1.0, h.1)
  stmt_back n (t.Print e) rest l m h = (plain_back n (t.Print e) refl (expr_form e h.0) (expr_names e h.0), h.1)
  stmt_back n (t.Call f args) rest l m h = (plain_back n (t.Call f args) refl (exprs_form args h.0.1) (h.0.0, exprs_names args h.0.1), h.1)
  stmt_back n (t.CallLet type x f args) rest l m h =
      (plain_back n (t.CallLet type x f args) refl (exprs_form args h.0.2.1) (h.0.0, h.0.1.0, h.0.2.0, exprs_names args h.0.2.1), h.1)
  stmt_back n (t.Par f args g others) rest l m h = (par_back n f args g others h.0, h.1)
  stmt_back zero (t.If e first second) rest l m h = absurd h.0
  stmt_back (suc n) (t.If e first second) rest l m h =
      let a = stmts_back n first l.0 m.0 h.0.1 in
      let b = stmts_back n second l.1 m.1 h.0.2 in
      (record { form = (expr_form e h.0.0, a.form, b.form); depth = omega (arith, a.depth, b.depth); names = (expr_names e h.0.0, a.names, b.names) }, h.1)
  stmt_back zero (t.While ls e body) rest l m h = absurd h.0
  stmt_back (suc n) (t.While ls e body) rest l m h =
      let a = loads_back n ls l.0 h.0.0 in
      let b = stmts_back n body l.1 m h.0.2 in
      (record { form = (l.0, a.form, expr_form e h.0.1, b.form); depth = omega (arith, a.depth, b.depth); names = (a.names, expr_names e h.0.1, b.names) }, h.1)
  stmt_back n (t.Return e) rest l m h = (plain_back n (t.Return e) refl (expr_form e h.0) (expr_names e h.0), h.1)

  stmts_back : (n : ℕ) (ts : t.Stmts) → HaveHeads ts → HaveMade ts → form.AreStmtForms n (written.stmts ts) → StmtsBack n ts
  stmts_back n t.end l m h = record { form = tt; depth = omega arith; names = tt }
  stmts_back n (t.more s rest) l m h =
      let one = stmt_back n s (written.stmts rest) l.0 m.0 h in
      back_more n s rest one.0 (stmts_back n rest l.1 m.1 one.1)

-- ---- structures and functions

members_names : (ms : List CMember) → AllByRecursion form.IsMemberForm (map written.member ms) → AllByRecursion (MemberNames IsName) ms
members_names [] h = tt
members_names (m ∷ ms) h = ((h.0.1, h.0.0), members_names ms h.1)

structs_form : (ds : List CStruct) → AllByRecursion form.IsStructForm (map written.struct ds) → AllByRecursion IsStructForm ds
structs_form [] h = tt
structs_form (d ∷ ds) h = ((λ none. h.0.1 (ap (map written.member) none)), structs_form ds h.1)

structs_names : (ds : List CStruct) → AllByRecursion form.IsStructForm (map written.struct ds) → AllByRecursion (StructNames IsName) ds
structs_names [] h = tt
structs_names (d ∷ ds) h = ((h.0.0, members_names d.members h.0.2), structs_names ds h.1)

params_names : (ps : List CParam) → AllByRecursion form.IsParamForm (map written.param ps) → AllByRecursion (ParamNames IsName) ps
params_names [] h = tt
params_names (p ∷ ps) h = ((h.0.1.0, h.0.0), params_names ps h.1)

record FunsBack (fs : List t.Fun) : Type 0 where
  form : AllByRecursion IsFunForm fs
  names : AllByRecursion (FunNames IsName) fs

funs_back : (fs : List t.Fun) → AllByRecursion (λ f. HaveHeads f.body) fs → AllByRecursion (λ f. HaveMade f.body) fs → AllByRecursion form.IsFunForm (map written.fun fs) → FunsBack fs
funs_back [] l m h = record { form = tt; names = tt }
funs_back (f ∷ fs) l m h =
    let b = stmts_back 127 f.body l.0 m.0 h.0.1 in
    let more = funs_back fs l.1 m.1 h.1 in
    record {
      form = (record { body = b.form; depth = omega (arith, b.depth) }, more.form);
      names = ((h.0.0.1, h.0.0.0, params_names f.params h.0.0.2, b.names), more.names);
    }

-- ---- programs

pub record ProgramBack (p : t.Program) : Type 0 where
  pub form : IsProgramForm p
  pub names : ProgramNames IsName p

-- a program that keeps the rules, in the heads of whose loops stand loads alone, is of the forms where what is written in its text is
pub forms_back : (p : t.Program) → KeepsRules p → AllByRecursion (λ f. HaveHeads f.body) p.funs → form.IsForm (written.source p) → ProgramBack p
forms_back p rules heads h =
    let b = funs_back p.funs heads (made_kept p rules) h.funs in
    record { form = record { structs = structs_form p.structs h.structs; funs = b.form }; names = (structs_names p.structs h.structs, b.names) }
