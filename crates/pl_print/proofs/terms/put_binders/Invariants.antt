use Rattle.std.proofs.Common.{◌≡◌, ◌++◌, map, drop}
use Rattle.std.specs.Prelude.{codes}
use Rattle.pl_print.specs.Lists.{each_behind}
use Rattle.pl_print.specs.ExprText.{binder_text}
use Rattle.pl_print.proofs.terms.put_binders.Given as goal

abbrev pub invariant-loop-binder : goal.invariant-loop-binder
invariant-loop-binder l =
    l.out.items ++ each_behind (codes ", ") (map binder_text (drop l.binder-index l.others))
    ≡ l.initial.out.items ++ each_behind (codes ", ") (map binder_text l.others)
