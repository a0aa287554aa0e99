use Rattle.std.proofs.Common.{◌≡◌, ◌∙◌, ◌+◌, ◌&&◌, sym, ap, not, drop, length, arith}
use Rattle.std.specs.Option.{is_some}
use Rattle.std.specs.List.{slice_get}
use Rattle.std.proofs.lemmas.List.{drop_all}
use Rattle.c_rules.specs.Groups.{same_param, same_params}
use Rattle.c_rules.proofs.Drops.{dropped}
use Rattle.c_rules.proofs.ZipLaws.{flip, params_step, params_end, lent_some}
use Rattle.c_rules.proofs.prototypes.same_params.Goals as goal

pub loop-i-preserved : goal.loop-i-preserved
loop-i-preserved c =
    let ps = c.args.ps.now in
    let qs = c.args.qs.now in
    let i = c.loop-i.i in
    let x = c.index-ps-i.result in
    let step = params_step (drop (i + 1) ps) (drop i ps) qs i x c.same_param.result (dropped ps i x c.loop-i-test.true c.index-ps-i.is)
    (c.same_param.ensures ∙ ap (same_param x) c.param_at.ensures) in
    sym (step ∙ ap (λ b. b && same_params (drop (i + 1) ps) (drop (i + 1) qs)) c.if-not-same_param.false) ∙ c.loop-i.invariant

pub returns-then-not-same_param : goal.returns-then-not-same_param
returns-then-not-same_param c =
    let ps = c.args.ps.now in
    let qs = c.args.qs.now in
    let i = c.loop-i.i in
    let x = c.index-ps-i.result in
    let step = params_step (drop (i + 1) ps) (drop i ps) qs i x c.same_param.result (dropped ps i x c.loop-i-test.true c.index-ps-i.is)
    (c.same_param.ensures ∙ ap (same_param x) c.param_at.ensures) in
    sym (step ∙ ap (λ b. b && same_params (drop (i + 1) ps) (drop (i + 1) qs)) c.if-not-same_param.true) ∙ c.loop-i.invariant

pub returns : goal.returns
returns c =
    let ps = c.args.ps.now in
    let qs = c.args.qs.now in
    let i = c.loop-i.i in
    let at : i ≡ length ps = omega arith in
    let none : c.is_none.result ≡ not (is_some (slice_get qs i)) =
    flip (is_some c.param_at-2.result) c.is_none.result c.is_none.ensures ∙ ap not (sym (lent_some c.param_at-2.result) ∙ ap is_some (c.param_at-2.ensures ∙ ap (slice_get qs) (sym at))) in
    none ∙ sym (params_end (drop i ps) qs i (drop_all i ps c.loop-i-test.false)) ∙ c.loop-i.invariant
