use Rattle.std.proofs.Common.{◌≡◌, ◌∙◌, ◌-◌, suc, None, drop, sym, subst, arith}
use Rattle.pl_normal.specs.Scope.{form_of}
use Rattle.pl_normal.proofs.ScopeLaws.{newest}
use Rattle.pl_normal.proofs.scope.form_named.Goals as goal

pub returns-then-same-clause-some : goal.returns-then-same-clause-some
returns-then-same-clause-some c =
    let next : c.loop-i.i ≡ suc (c.loop-i.i - 1) = omega arith in
    let newer : form_of (drop (suc (c.loop-i.i - 1)) c.args.bound.now) c.args.name.now ≡ None = subst (λ k. form_of (drop k c.args.bound.now) c.args.name.now ≡ None) next c.loop-i.invariant.newer in
    newest (c.loop-i.i - 1) c.args.bound.now c.args.name.now c.index-bound-i.result c.index-bound-i-then-same.result (omega arith) newer (sym c.same.ensures.test ∙ c.if-same.true)
