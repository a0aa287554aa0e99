use Rattle.std.proofs.Common.{◌≡◌, ◌++◌, drop, flat_map, map}
use Rattle.c_syntax.specs.Plain.{plain_fun}
use Rattle.c_syntax.specs.Text.{prototype_text}
use Rattle.c_text.proofs.write.put_prototypes.Given as goal

abbrev pub invariant-loop-function : goal.invariant-loop-function
invariant-loop-function l =
    l.out.items ++ flat_map prototype_text (map plain_fun (drop l.function-index l.funs))
    ≡ l.initial.out.items ++ flat_map prototype_text (map plain_fun l.funs)
