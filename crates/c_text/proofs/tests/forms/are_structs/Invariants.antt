use Rattle.std.proofs.Common.{drop}
use Rattle.std.specs.List.{AllByRecursion}
use Rattle.c_syntax.specs.Forms.{IsStructForm}
use Rattle.c_text.proofs.tests.forms.are_structs.Given as goal

abbrev pub invariant-loop-structure : goal.invariant-loop-structure
invariant-loop-structure l = AllByRecursion IsStructForm (drop l.structure-index l.structs) → AllByRecursion IsStructForm l.structs
