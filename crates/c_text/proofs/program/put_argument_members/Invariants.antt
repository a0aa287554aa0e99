use Rattle.std.proofs.Common.{◌≡◌, ◌++◌, ◌+◌, drop}
use Rattle.c_syntax.specs.Text.{argument_members}
use Rattle.c_text.proofs.program.put_argument_members.Given as goal

abbrev pub invariant-loop-i : goal.invariant-loop-i
invariant-loop-i l = l.out.items ++ argument_members (l.i + 1) (drop l.i l.params) ≡ l.initial.out.items ++ argument_members 1 l.params
