use Rattle.std.proofs.Common.{◌∙◌, ◌++◌, sym, ap, map, rules, arith, append-nil}
use Rattle.std.proofs.lemmas.List.{drop_all}
use Rattle.std.proofs.lemmas.Int.{to_z-of_z}
use Rattle.std.proofs.lemmas.Result.{err_from_is_err_and}
use mir.Val.{SFits}
use mir.Syntax.{w128}
use Rattle.pl_forms.specs.Forms.{excess}
use Rattle.pl_forms.specs.Steps.{times_part}
use Rattle.pl_forms.proofs.FormSteps.{push_step, push_within, all_refused}
use Rattle.pl_forms.proofs.step.push_all.Goals as goal

pub loop-i-preserved : goal.loop-i-preserved
loop-i-preserved c =
    let fit : SFits w128 c.args.times = search rules in
    let put = simp to_z-of_z at c.in_ok-push_times.ensures in
    let so_far = simp to_z-of_z at c.loop-i.invariant.so_far in
    let within = simp to_z-of_z at c.loop-i.invariant.within in
    record {
      so_far = simp to_z-of_z (so_far ∙ push_step c.args.times c.args.parts.now c.loop-i.out.items c.push_times.new.out.items c.loop-i.i (omega arith) put.1);
      within = simp to_z-of_z (within ∙ push_within c.args.times c.args.parts.now c.loop-i.i (omega arith) put.0);
    }

pub returns-in_err-push_times : goal.returns-in_err-push_times
returns-in_err-push_times c =
    let p = err_from_is_err_and c.from_residual.result c.from_residual.ensures.1 in
    let fit : SFits w128 c.args.times = search rules in
    let within = simp to_z-of_z at c.loop-i.invariant.within in
    let put = simp to_z-of_z at c.in_err-push_times.ensures in
    rw (p.1, p.2) (all_refused _ c.args.times c.args.parts.now c.loop-i.out.items c.push_times.new.out.items _ _ c.loop-i.i (omega arith) within put)

pub returns : goal.returns
returns c =
    let fit : SFits w128 c.args.times = search rules in
    let so_far = simp to_z-of_z at c.loop-i.invariant.so_far in
    let within = simp to_z-of_z at c.loop-i.invariant.within in
    let none = drop_all c.loop-i.i c.args.parts.now (omega arith) in (
      within ∙ ap (λ l. excess (map (times_part c.args.times) l)) none,
      sym (so_far ∙ ap (λ l. c.loop-i.out.items ++ map (times_part c.args.times) l) none ∙ append-nil c.loop-i.out.items),
    )
