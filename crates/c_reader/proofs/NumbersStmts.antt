-- What is written of statements that keep the rules is of the forms.
use Rattle.std.proofs.Common.{◌≡◌, ℕ, suc, zero, ◌+◌, ◌≤◌, ◌^◌, Some, List, [], ◌∷◌, arith, le-add_right, refl}
use Rattle.std.specs.List.{AllByRecursion}
use Rattle.pl_lexer.specs.Proper.{IsName}
use Rattle.c_syntax.specs.declared.kind.CType.{CType}
use Rattle.c_syntax.specs.declared.kind.CType.TheVariants as kind
use Rattle.c_syntax.specs.declared.kind.Local.{Local}
use Rattle.c_syntax.specs.declared.program.CMember.{CMember}
use Rattle.c_syntax.specs.declared.program.CParam.{CParam}
use Rattle.c_syntax.specs.Forms as plain
use Rattle.c_syntax.specs.Forms.{AreLoads, stmt_depth, stmts_depth}
use Rattle.c_syntax.specs.Names.{InitNames, StmtNames, StmtsNames}
use Rattle.c_syntax.specs.Rules.{AreNumbered, BodyFits, InitsFit, Scope, StmtFits, StmtsFit, after, after_all, bound_by, moved, stmts_binders, type_of}
use Rattle.c_syntax.specs.Tree as t
use Rattle.c_forms.specs.Forms.{AreStmtForms, IsLoadForm, IsLocalForm}
use Rattle.c_forms.specs.Tree as w
use Rattle.c_reader.proofs.NumbersExprs.{arguments_form, call_form, cell_form, expr_form, fitting_form, local_form}
use Rattle.c_reader.proofs.NumbersScopes.{Below, Room, all_counted, below_used, counted, room_after, room_behind, room_fewer, room_moved, stmts_counted}
use Rattle.c_reader.proofs.Written as written

module _ (p : t.Program) (limit : ℕ) (small : limit ≤ 2 ^ 32) where
  -- ---- the head of a loop

  pub loads_form : (scope : Scope) (ts : t.Stmts) → Room limit scope (all_counted ts) → AreLoads ts → StmtsFit p scope ts → plain.AreStmtForms ts → StmtsNames IsName ts →
      AllByRecursion IsLoadForm (written.loads ts)
  loads_form scope t.end r l h forms names = tt
  loads_form scope (t.more (t.Load type x c) rest) r l h forms names =
      let inside = room_after limit scope (t.Load type x c) (all_counted rest) h.0 r in (
        (names.0.0, local_form limit small x names.0.1 inside.below.0, cell_form limit small p.structs scope.bound r.below c type h.1 forms.0 names.0.2),
        loads_form (after scope (t.Load type x c)) rest inside l h.2 forms.1 names.1,
      )
  loads_form scope (t.more _ rest) r l h forms names = absurd l

  -- ---- first values

  inits_form : (n : ℕ) (bound : List CParam) → Below limit bound → (x : Local) → IsLocalForm (written.local x) → (is : List t.Init) (ms : List CMember) (rest : w.Stmts) → InitsFit bound is ms →
      AllByRecursion plain.IsInitForm is → AllByRecursion (InitNames IsName) is → AreStmtForms n rest → AreStmtForms n (written.inits x is rest)
  inits_form n bound b x here [] ms rest h forms names behind = behind
  inits_form n bound b x here (i ∷ is) [] rest h forms names behind = absurd h
  inits_form n bound b x here (i ∷ is) (m ∷ ms) rest h forms names behind =
      (((here, names.0.0), fitting_form limit small bound b i.value m.kind h.1 forms.0 names.0.1), inits_form n bound b x here is ms rest h.2 forms.1 names.1 behind)

  -- ---- statements

  -- a binder's local
  bound_form : (scope : Scope) (x : Local) → Room limit scope 1 → x.number ≡ scope.next → IsName x.name → IsLocalForm (written.local x)
  bound_form scope x r e name = local_form limit small x name (let fits = r.room in omega arith)

  used_form : (bound : List CParam) → Below limit bound → (x : Local) (type : CType) → type_of bound x ≡ Some type → IsName x.name → IsLocalForm (written.local x)
  used_form bound b x type e name = local_form limit small x name (below_used limit bound x type b e)

  mutual
    pub lines_form : (n : ℕ) (scope : Scope) (u : t.Stmt) (rest : w.Stmts) → Room limit scope (counted u) → AreNumbered scope.next (bound_by u) → StmtFits p scope u →
        plain.IsStmtForm u → StmtNames IsName u → stmt_depth u ≤ n → AreStmtForms n rest → AreStmtForms n (written.lines u rest)
    lines_form n scope (t.Let type x e) rest r b h form names d behind =
        ((names.0, bound_form scope x r b.0 names.1, expr_form limit small scope.bound r.below e type h form names.2), behind)
    lines_form n scope (t.Load type x c) rest r b h form names d behind =
        ((names.0, bound_form scope x r b.0 names.1, cell_form limit small p.structs scope.bound r.below c type h form names.2), behind)
    lines_form n scope (t.Store c e) rest r b h form names d behind =
        ((cell_form limit small p.structs scope.bound r.below c h.0 h.1 form.0 names.0, fitting_form limit small scope.bound r.below e h.0 h.2 form.1 names.1), behind)
    lines_form n scope (t.New type x e) rest r b h form names d behind =
        ((names.0, bound_form scope x r b.0 names.1, expr_form limit small scope.bound r.below e h.0 h.2 form.1 names.2), behind)
    lines_form n scope (t.NewArray type x e count) rest r b h form names d behind =
        ((names.0, bound_form scope x r b.0 names.1, (expr_form limit small scope.bound r.below e kind.I64 h.1 form.0 names.2, expr_form limit small scope.bound r.below count kind.I64 h.2 form.1 names.3)), behind)
    lines_form n scope (t.NewAtomic x e) rest r b h form names d behind =
        ((tt, bound_form scope x r b.0 names.0, expr_form limit small scope.bound r.below e kind.I64 h form names.1), behind)
    lines_form n scope (t.NewStruct x s is) rest r b h form names d behind =
        let here = bound_form scope x r b.0 names.0 in
        ((names.1, here, names.1), inits_form n scope.bound r.below x here is h.0 rest h.2 form names.2 behind)
    lines_form n scope (t.Free base) rest r b h form names d behind = (used_form scope.bound r.below base h.0 h.1 names, behind)
    lines_form n scope (t.AtomicLoad x base) rest r b h form names d behind =
        ((tt, bound_form scope x r b.0 names.0, (refl, used_form scope.bound r.below base kind.PtrAtomic h names.1)), behind)
    lines_form n scope (t.AtomicStore base e) rest r b h form names d behind =
        ((used_form scope.bound r.below base kind.PtrAtomic h.0 names.0, expr_form limit small scope.bound r.below e kind.I64 h.1 form names.1), behind)
    lines_form n scope (t.Cas x base old new) rest r b h form names d behind = (
      (
        tt,
        bound_form scope x r b.0 names.0,
        (
          refl,
          used_form scope.bound r.below base kind.PtrAtomic h.0 names.1,
          expr_form limit small scope.bound r.below old kind.I64 h.1 form.0 names.2,
          expr_form limit small scope.bound r.below new kind.I64 h.2 form.1 names.3,
        ),
      ),
      behind,
    )
    lines_form n scope (t.NewLock x) rest r b h form names d behind = ((tt, bound_form scope x r b.0 names, tt), behind)
    lines_form n scope (t.Acquire l) rest r b h form names d behind = (used_form scope.bound r.below l kind.PtrLock h names, behind)
    lines_form n scope (t.Release l) rest r b h form names d behind = (used_form scope.bound r.below l kind.PtrLock h names, behind)
    lines_form n scope (t.Read x) rest r b h form names d behind = ((tt, bound_form scope x r b.0 names, refl), behind)
    lines_form n scope (t.Print e) rest r b h form names d behind = (expr_form limit small scope.bound r.below e kind.I64 h form names, behind)
    lines_form n scope (t.Call f args) rest r b h form names d behind = (call_form limit small p scope.bound r.below f args kind.Void h names.0 form names.1, behind)
    lines_form n scope (t.CallLet type x f args) rest r b h form names d behind =
        ((names.0, bound_form scope x r b.0 names.1, call_form limit small p scope.bound r.below f args type h.0 names.2 form names.3), behind)
    lines_form zero scope (t.Par f args g others) rest r b h form names d behind = absurd (omega arith)
    lines_form (suc n) scope (t.Par f args g others) rest r b h form names d behind = (
      record {
        structure = names.0;
        size = names.0;
        arguments = arguments_form limit small scope.bound r.below 1 args h.0.0.params (let fits = r.room in let one = r.begun in omega arith) h.0.3 form.0 names.1;
        starter = names.0;
        call = call_form limit small p scope.bound r.below g others kind.Void h.1 names.2 form.1 names.3;
      },
      behind,
    )
    lines_form zero scope (t.If e first second) rest r b h form names d behind = absurd (omega arith)
    lines_form (suc n) scope (t.If e first second) rest r b h form names d behind =
        let inside = room_fewer limit scope (all_counted first) (all_counted first + all_counted second) (le-add_right (all_counted first) (all_counted second)) r in
        let binders = stmts_counted first in
        let other = room_moved limit scope (stmts_binders first) (all_counted second) (all_counted first + all_counted second) (omega arith) r in (
          (
            expr_form limit small scope.bound r.below e kind.Bool h.0 form.0 names.0,
            stmts_form n scope first inside h.1 form.1 names.1 (omega arith),
            stmts_form n (moved scope (stmts_binders first)) second other h.2 form.2 names.2 (omega arith),
          ),
          behind,
        )
    lines_form zero scope (t.While ls e body) rest r b h form names d behind = absurd (omega arith)
    lines_form (suc n) scope (t.While ls e body) rest r b h form names d behind =
        let head = room_fewer limit scope (all_counted ls) (all_counted ls + all_counted body) (le-add_right (all_counted ls) (all_counted body)) r in
        let inside = room_behind p limit scope ls (all_counted body) h.0 r in (
          (
            loads_form scope ls head form.0 h.0 form.1 names.0,
            expr_form limit small (after_all scope ls).bound inside.below e kind.Bool h.1 form.2 names.1,
            stmts_form n (after_all scope ls) body inside h.2 form.3 names.2 (omega arith),
          ),
          behind,
        )
    lines_form n scope (t.Return e) rest r b h form names d behind = absurd h

    pub stmts_form : (n : ℕ) (scope : Scope) (ts : t.Stmts) → Room limit scope (all_counted ts) → StmtsFit p scope ts → plain.AreStmtForms ts → StmtsNames IsName ts → stmts_depth ts ≤ n →
        AreStmtForms n (written.stmts ts)
    stmts_form n scope t.end r h forms names d = tt
    stmts_form n scope (t.more u rest) r h forms names d =
        let here = room_fewer limit scope (counted u) (counted u + all_counted rest) (le-add_right (counted u) (all_counted rest)) r in
        lines_form n scope u (written.stmts rest) here h.0 h.1 forms.0 names.0 (omega arith)
        (stmts_form n (after scope u) rest (room_after limit scope u (all_counted rest) h.0 r) h.2 forms.1 names.1 (omega arith))

  -- ---- a function's statements

  body_more : (result : CType) (n : ℕ) (scope : Scope) (u : t.Stmt) (rest : t.Stmts) → Room limit scope (counted u) → BodyFits p result scope (t.more u rest) → plain.IsStmtForm u → StmtNames IsName u →
      stmt_depth u ≤ n → (AreNumbered scope.next (bound_by u) → BodyFits p result (after scope u) rest → AreStmtForms n (written.stmts rest)) → AreStmtForms n (written.lines u (written.stmts rest))
  body_more result n scope (t.Return e) t.end r h form names d f = (fitting_form limit small scope.bound r.below e result h.1 form names, tt)
  body_more result n scope (t.Return e) (t.more u rest) r h form names d f = absurd h.1
  body_more result n scope u rest r h form names d f = lines_form n scope u (written.stmts rest) r h.0 h.1 form names d (f h.0 h.2)

  pub body_form : (result : CType) (n : ℕ) (scope : Scope) (ts : t.Stmts) → Room limit scope (all_counted ts) → BodyFits p result scope ts → plain.AreStmtForms ts → StmtsNames IsName ts → stmts_depth ts ≤ n →
      AreStmtForms n (written.stmts ts)
  body_form result n scope t.end r h forms names d = tt
  body_form result n scope (t.more u rest) r h forms names d =
      let here = room_fewer limit scope (counted u) (counted u + all_counted rest) (le-add_right (counted u) (all_counted rest)) r in
      body_more result n scope u rest here h forms.0 names.0 (omega arith)
      (λ b k. body_form result n (after scope u) rest (room_after limit scope u (all_counted rest) b r) k forms.1 names.1 (omega arith))
