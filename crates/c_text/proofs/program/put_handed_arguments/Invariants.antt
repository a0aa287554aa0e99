use Rattle.std.proofs.Common.{◌≡◌, ◌++◌, ◌+◌, drop}
use Rattle.c_syntax.specs.Text.{behind_commas, handed_arguments}
use Rattle.c_text.proofs.program.put_handed_arguments.Given as goal

abbrev pub invariant-loop-i : goal.invariant-loop-i
invariant-loop-i l =
    l.out.items ++ behind_commas (handed_arguments (l.i + 2) (drop l.i l.others)) ≡ l.initial.out.items ++ behind_commas (handed_arguments 2 l.others)
