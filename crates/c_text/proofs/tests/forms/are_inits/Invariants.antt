use Rattle.std.proofs.Common.{drop, map}
use Rattle.std.specs.List.{AllByRecursion}
use Rattle.c_syntax.specs.Forms.{IsInitForm}
use Rattle.c_syntax.specs.Plain.{plain_init}
use Rattle.c_text.proofs.tests.forms.are_inits.Given as goal

abbrev pub invariant-loop-init : goal.invariant-loop-init
invariant-loop-init l = AllByRecursion IsInitForm (map plain_init (drop l.init-index l.list)) → AllByRecursion IsInitForm (map plain_init l.list)
