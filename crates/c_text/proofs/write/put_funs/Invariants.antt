use Rattle.std.proofs.Common.{◌≡◌, ◌++◌, drop, flat_map, map}
use Rattle.std.specs.List.{AllByRecursion}
use Rattle.c_syntax.specs.Forms.{IsFunForm}
use Rattle.c_syntax.specs.Plain.{plain_fun}
use Rattle.c_syntax.specs.Text.{fun_text}
use Rattle.c_text.proofs.write.put_funs.Given as goal

abbrev pub invariant-loop-function : goal.invariant-loop-function
invariant-loop-function l = record {
  text : l.out.items ++ flat_map fun_text (map plain_fun (drop l.function-index l.funs)) ≡ l.initial.out.items ++ flat_map fun_text (map plain_fun l.funs);
  forms : AllByRecursion IsFunForm (map plain_fun (drop l.function-index l.funs));
}
