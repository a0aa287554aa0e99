-- The statements of a function that keep the rules: each keeps them, or is the `return` at the end.
use Rattle.std.proofs.Common.{◌≡◌, refl}
use Rattle.c_syntax.specs.declared.kind.CType.{CType}
use Rattle.c_syntax.specs.Rules.{AreNumbered, BodyFits, Fits, IsValueType, Scope, StmtFits, after, bound_by}
use Rattle.c_syntax.specs.Tree as t

-- the first of a function's statements
pub data First (p : t.Program) (result : CType) (scope : Scope) (u : t.Stmt) (rest : t.Stmts) : Type 0 where
  last : (e : t.Expr) → u ≡ t.Return e → rest ≡ t.end → IsValueType p.structs result → Fits scope.bound e result → First p result scope u rest
  front : AreNumbered scope.next (bound_by u) → StmtFits p scope u → BodyFits p result (after scope u) rest → First p result scope u rest

pub first : (p : t.Program) (result : CType) (scope : Scope) (u : t.Stmt) (rest : t.Stmts) → BodyFits p result scope (t.more u rest) → First p result scope u rest
first p result scope (t.Return e) t.end h = last e refl refl h.0 h.1
first p result scope (t.Return e) (t.more v rest) h = absurd h.1
first p result scope (t.Let type x e) rest h = front h.0 h.1 h.2
first p result scope (t.Load type x cell) rest h = front h.0 h.1 h.2
first p result scope (t.Store cell e) rest h = front h.0 h.1 h.2
first p result scope (t.New type x e) rest h = front h.0 h.1 h.2
first p result scope (t.NewArray type x e n) rest h = front h.0 h.1 h.2
first p result scope (t.NewAtomic x e) rest h = front h.0 h.1 h.2
first p result scope (t.NewStruct x s is) rest h = front h.0 h.1 h.2
first p result scope (t.Free x) rest h = front h.0 h.1 h.2
first p result scope (t.AtomicLoad x y) rest h = front h.0 h.1 h.2
first p result scope (t.AtomicStore x e) rest h = front h.0 h.1 h.2
first p result scope (t.Cas x y o n) rest h = front h.0 h.1 h.2
first p result scope (t.NewLock x) rest h = front h.0 h.1 h.2
first p result scope (t.Acquire x) rest h = front h.0 h.1 h.2
first p result scope (t.Release x) rest h = front h.0 h.1 h.2
first p result scope (t.Read x) rest h = front h.0 h.1 h.2
first p result scope (t.Print e) rest h = front h.0 h.1 h.2
first p result scope (t.Call f args) rest h = front h.0 h.1 h.2
first p result scope (t.CallLet type x f args) rest h = front h.0 h.1 h.2
first p result scope (t.Par f args g others) rest h = front h.0 h.1 h.2
first p result scope (t.If e x y) rest h = front h.0 h.1 h.2
first p result scope (t.While ls e y) rest h = front h.0 h.1 h.2
