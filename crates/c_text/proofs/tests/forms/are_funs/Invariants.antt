use Rattle.std.proofs.Common.{drop, map}
use Rattle.std.specs.List.{AllByRecursion}
use Rattle.c_syntax.specs.Forms.{IsFunForm}
use Rattle.c_syntax.specs.Plain.{plain_fun}
use Rattle.c_text.proofs.tests.forms.are_funs.Given as goal

abbrev pub invariant-loop-function : goal.invariant-loop-function
invariant-loop-function l = AllByRecursion IsFunForm (map plain_fun (drop l.function-index l.funs)) → AllByRecursion IsFunForm (map plain_fun l.funs)
