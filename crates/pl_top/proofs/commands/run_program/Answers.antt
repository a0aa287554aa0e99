use Rattle.std.proofs.Common.{refl}
use Rattle.std.proofs.lemmas.Result.{err_from_is_err_and}
use Rattle.c_syntax.specs.Plain.{plain_program}
use Rattle.pl_top.specs.Goes.{not_yet}
use Rattle.pl_top.proofs.Promises.{did_nothing, did_run, did_not_keep, same_in}
use Rattle.pl_top.proofs.commands.run_program.Goals as goal

pub returns-in_err-done-clause-does : goal.returns-in_err-done-clause-does
returns-in_err-done-clause-does g c =
    let p = err_from_is_err_and c.from_residual.result c.from_residual.ensures.1 in
    did_nothing _ _ _ _ _ _ c.from_residual.result p.0 p.1 not_yet refl refl

pub returns-in_err-keep_history-clause-does : goal.returns-in_err-keep_history-clause-does
returns-in_err-keep_history-clause-does g c =
    let keep = c.in_err-keep_history in
    let stop = c.from_residual-in_err-keep_history in
    let p = err_from_is_err_and stop.result stop.ensures.1 in
    did_not_keep (plain_program c.args.program.now) c.args.numbers.now c.args.opts.now _ _ _ _ stop.result p.0 c.in_ok-done.done p.1 (same_in _ _ p.2 keep.ensures.outward) c.in_ok-done.ensures.done keep.ensures.failed keep.ensures.same.1

pub returns-clause-does : goal.returns-clause-does
returns-clause-does g c =
    let keep = c.in_ok-keep_history in
    did_run (plain_program c.args.program.now) c.args.numbers.now c.args.opts.now _ _ _ _ _ _ c.say.result c.in_ok-done.done _ c.in_ok-done.ensures.done keep.ensures.readable keep.ensures.puts c.say.ensures.same.0 keep.ensures.same.1 c.as_slice.ensures.value c.say.ensures.whole c.say.ensures.part c.say.ensures.outward
