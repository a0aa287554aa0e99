use Rattle.std.proofs.Common.{rules, ap, ◌∙◌, List, map}
use Rattle.pl_syntax.specs.declared.stmt.Stmt.{Stmt}
use Rattle.pl_syntax.specs.Plain.{plain_stmt}
use Rattle.pl_syntax.specs.Unbuilt as spec
use Rattle.pl_syntax.proofs.UnbuiltLaws.{bare_main}
use Rattle.pl_syntax.proofs.unbuilt.unbuilt_in_fun.Goals as goal

pub returns-then-is_bare : goal.returns-then-is_bare
returns-then-is_bare c = c.first_other.ensures ∙ ap (λ (l : List Stmt). spec.first_other (map plain_stmt l)) c.as_slice.ensures ∙ bare_main c.args.fun.now (search rules) (search rules)
