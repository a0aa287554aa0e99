use Rattle.std.proofs.Common.{◌≡◌, ◌+◌, drop}
use Rattle.c_rules.specs.Groups.{are_numbered}
use Rattle.c_rules.proofs.starters.are_numbered.Given as goal

abbrev pub invariant-loop-i : goal.invariant-loop-i
invariant-loop-i l = are_numbered (l.i + 1) (drop l.i l.list) ≡ are_numbered 1 l.list
