use Rattle.std.proofs.Common.{◌≡◌, drop, None}
use Rattle.pl_forms.specs.Solving.{newest}
use Rattle.pl_forms.proofs.solving.newest_unit.Given as goal

abbrev pub invariant-loop-part : goal.invariant-loop-part
invariant-loop-part l = newest None l.parts ≡ newest l.best (drop l.part-index l.parts)
