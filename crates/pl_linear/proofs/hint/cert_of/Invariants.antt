use Rattle.std.proofs.Common.{◌≡◌, take}
use Rattle.pl_linear.specs.Hints.{items_of}
use Rattle.pl_linear.proofs.hint.cert_of.Given as goal

abbrev pub invariant-loop-entry : goal.invariant-loop-entry
invariant-loop-entry l = l.items.items ≡ items_of (take l.entry-index l.written)
