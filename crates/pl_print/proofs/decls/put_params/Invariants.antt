use Rattle.std.proofs.Common.{◌≡◌, ◌++◌, map, drop}
use Rattle.std.specs.Prelude.{codes}
use Rattle.pl_print.specs.Lists.{each_behind}
use Rattle.pl_print.specs.ProgramText.{param_text}
use Rattle.pl_print.proofs.decls.put_params.Given as goal

abbrev pub invariant-loop-param : goal.invariant-loop-param
invariant-loop-param l =
    l.out.items ++ each_behind (codes ", ") (map (param_text l.is_ghost) (drop l.param-index l.others))
    ≡ l.initial.out.items ++ each_behind (codes ", ") (map (param_text l.is_ghost) l.others)
