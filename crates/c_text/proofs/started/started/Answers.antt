use Rattle.std.proofs.Common.{◌+◌, drop, map}
use Rattle.c_syntax.specs.Plain.{plain_fun, plain_stmts}
use Rattle.c_syntax.specs.Text.{funs_starts, stmts_starts}
use Rattle.c_text.proofs.NameSets.{leads_on}
use Rattle.c_text.proofs.Starts.{funs_starts-drop}
use Rattle.c_text.proofs.started.started.Goals as goal

pub loop-f-preserved : goal.loop-f-preserved
loop-f-preserved c =
    leads_on (λ k. k.now) c.new-names.result c.loop-f.names c.add_stmts.new.names (funs_starts (map plain_fun c.args.funs.now)) (stmts_starts (plain_stmts c.f-item.result.body))
    (funs_starts (map plain_fun (drop (c.loop-f.f-index + 1) c.args.funs.now)))
    (rw (← funs_starts-drop c.args.funs.now c.loop-f.f-index c.f-item.result c.loop-f-test.true c.f-item.is) c.loop-f.invariant)
    (rw (← c.as_slice.ensures) c.in_ok-add_stmts.ensures)
