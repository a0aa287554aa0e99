use Rattle.std.proofs.Common.{◌≡◌, ◌++◌, map, drop}
use Rattle.c_forms.specs.Plain as written
use Rattle.c_syntax.specs.Plain.{plain_expr}
use Rattle.c_reader.specs.Standing.{expr_of}
use Rattle.c_reader.proofs.lines.handed_of.Given as goal

abbrev pub invariant-loop-a : goal.invariant-loop-a
invariant-loop-a l =
    map plain_expr l.made.items ++ map (λ a. expr_of a.value) (map written.plain_argument (drop l.a-index l.list)) ≡ map (λ a. expr_of a.value) (map written.plain_argument l.list)
