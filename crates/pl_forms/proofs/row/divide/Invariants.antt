use Rattle.std.proofs.Common.{◌≡◌, take, drop, map, ◌++◌, int_div, pos}
use Rattle.pl_forms.proofs.row.divide.Given as goal

abbrev pub invariant-loop-i : goal.invariant-loop-i
invariant-loop-i l = map (λ c. int_div c (pos l.g)) l.initial.row ≡ take l.i l.row ++ map (λ c. int_div c (pos l.g)) (drop l.i l.row)
