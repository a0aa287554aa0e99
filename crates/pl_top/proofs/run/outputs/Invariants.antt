use Rattle.std.proofs.Common.{◌≡◌, ◌++◌, drop}
use Rattle.std.specs.Prelude.{flat_map}
use Rattle.pl_top.specs.Runs.{printed_line}
use Rattle.pl_top.proofs.run.outputs.Given as goal

abbrev pub invariant-loop-event : goal.invariant-loop-event
invariant-loop-event l = l.text.items ++ flat_map printed_line (drop l.event-index l.events) ≡ flat_map printed_line l.events
