use Rattle.std.proofs.Common.{rules, arith, ◌∙◌, inl, inr, length, ◌≤◌, ◌⊎◌}
use mir.Val.{SFits}
use mir.Syntax.{w128}
use Rattle.std.proofs.lemmas.Int.{to_z-of_z}
use Rattle.std.proofs.lemmas.Result.{err_from_is_err_and}
use Rattle.pl_forms.proofs.FormSteps.{step_second, step_both, first_kept, second_kept, both_kept, put_refused, end_refused, end_kept}
use Rattle.pl_forms.proofs.step.merged_with.Goals as goal
use Rattle.pl_forms.proofs.step.merged_with.Goals.{then-loop-i-test+else-j-other, else-loop-i-test}

pub loop-i-preserved-then-a-b : goal.loop-i-preserved-then-a-b
loop-i-preserved-then-a-b c =
    let fit : SFits w128 c.args.times = search rules in
    let so_far = simp to_z-of_z at c.loop-i.invariant.so_far in
    let kept = first_kept c.args.times c.args.one.now c.args.other.now _ c.loop-i.out.items c.push.new.self.items c.loop-i.i c.loop-i.j (omega arith) (omega arith) (omega arith) c.requires.one so_far c.loop-i.invariant.within c.in_ok-push.ensures.items in
    record { first_within = omega arith; second_within = omega arith; so_far = simp to_z-of_z kept.0; within = kept.1 }

pub returns-in_err-push_times : goal.returns-in_err-push_times
returns-in_err-push_times c =
    let p = err_from_is_err_and c.from_residual-in_err-push_times.result c.from_residual-in_err-push_times.ensures.1 in
    let fit : SFits w128 c.args.times = search rules in
    let so_far = simp to_z-of_z at c.loop-i.invariant.so_far in
    let put = simp to_z-of_z at c.in_err-push_times.ensures in
    rw (p.1, p.2)
    (put_refused _ _ c.loop-i.out.items c.push_times.new.out.items _ _
    (so_far ∙ step_second c.args.times c.args.one.now c.args.other.now c.loop-i.out.items c.loop-i.i c.loop-i.j (omega arith) (omega arith) (omega arith))
    c.loop-i.invariant.within put)

pub loop-i-preserved-then-b-a : goal.loop-i-preserved-then-b-a
loop-i-preserved-then-b-a c =
    let fit : SFits w128 c.args.times = search rules in
    let so_far = simp to_z-of_z at c.loop-i.invariant.so_far in
    let put = simp to_z-of_z at c.in_ok-push_times.ensures in
    let kept = second_kept c.args.times c.args.one.now c.args.other.now _ c.loop-i.out.items c.push_times.new.out.items c.loop-i.i c.loop-i.j (omega arith) (omega arith) (omega arith) so_far c.loop-i.invariant.within put in
    record { first_within = omega arith; second_within = omega arith; so_far = simp to_z-of_z kept.0; within = kept.1 }

pub returns-in_err-put_sum : goal.returns-in_err-put_sum
returns-in_err-put_sum c =
    let p = err_from_is_err_and c.from_residual-in_err-put_sum.result c.from_residual-in_err-put_sum.ensures.1 in
    let fit : SFits w128 c.args.times = search rules in
    let so_far = simp to_z-of_z at c.loop-i.invariant.so_far in
    let put = simp to_z-of_z at c.in_err-put_sum.ensures in
    rw (p.1, p.2)
    (put_refused _ _ c.loop-i.out.items c.put_sum.new.out.items _ _
    (so_far ∙ step_both c.args.times c.args.one.now c.args.other.now c.loop-i.out.items c.loop-i.i c.loop-i.j (omega arith) (omega arith) (omega arith) (omega arith))
    c.loop-i.invariant.within put)

pub loop-i-preserved : goal.loop-i-preserved
loop-i-preserved c =
    let fit : SFits w128 c.args.times = search rules in
    let so_far = simp to_z-of_z at c.loop-i.invariant.so_far in
    let put = simp to_z-of_z at c.in_ok-put_sum.ensures in
    let kept = both_kept c.args.times c.args.one.now c.args.other.now _ c.loop-i.out.items c.put_sum.new.out.items c.loop-i.i c.loop-i.j (omega arith) (omega arith) (omega arith) (omega arith) so_far c.loop-i.invariant.within put in
    record { first_within = omega arith; second_within = omega arith; so_far = simp to_z-of_z kept.0; within = kept.1 }

pub returns-in_err-push_all : goal.returns-in_err-push_all
returns-in_err-push_all c =
    let over : (length c.args.one.now ≤ c.loop-i.i) ⊎ (length c.args.other.now ≤ c.loop-i.j) = elim c.loop-i-test.branch [ then-loop-i-test+else-j-other w ↦ inr (omega arith) | else-loop-i-test w ↦ inl (omega arith) ] in
    let p = err_from_is_err_and c.from_residual-in_err-push_all.result c.from_residual-in_err-push_all.ensures.1 in
    let fit : SFits w128 c.args.times = search rules in
    let so_far = simp to_z-of_z at c.loop-i.invariant.so_far in
    let put = simp to_z-of_z at c.in_err-push_all.ensures in
    rw (p.1, p.2)
    (end_refused _ c.args.times c.args.one.now c.args.other.now _ c.loop-i.out.items c.extend_from_slice.new.self.items c.push_all.new.out.items c.loop-i.i c.loop-i.j over c.requires.one so_far c.loop-i.invariant.within c.in_ok-extend_from_slice.ensures.items put)

pub returns : goal.returns
returns c =
    let over : (length c.args.one.now ≤ c.loop-i.i) ⊎ (length c.args.other.now ≤ c.loop-i.j) = elim c.loop-i-test.branch [ then-loop-i-test+else-j-other w ↦ inr (omega arith) | else-loop-i-test w ↦ inl (omega arith) ] in
    let fit : SFits w128 c.args.times = search rules in
    let so_far = simp to_z-of_z at c.loop-i.invariant.so_far in
    let put = simp to_z-of_z at c.in_ok-push_all.ensures in
    end_kept c.args.times c.args.one.now c.args.other.now _ c.loop-i.out.items c.extend_from_slice.new.self.items c.push_all.new.out.items c.loop-i.i c.loop-i.j over c.requires.one so_far c.loop-i.invariant.within c.in_ok-extend_from_slice.ensures.items put
