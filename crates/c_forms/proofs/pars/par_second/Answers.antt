use Rattle.std.proofs.Common.{◌+◌}
use Rattle.std.specs.Prelude.{codes}
use Rattle.c_syntax.specs.Text.{indent}
use Rattle.c_forms.specs.Reading.{ended_by}
use Rattle.c_forms.specs.ExprReaders.{call}
use Rattle.c_forms.specs.StmtReaders.{par_second}
use Rattle.c_forms.proofs.Ended.{ended_goes}
use Rattle.c_forms.proofs.pars.par_second.Goals as goal

pub returns : goal.returns
unfolding par_second
returns c =
    ended_goes (ended_by (ended_by call (codes ";\n")) (indent (c.args.level + 1))) (codes "p_join(t);\n") _ _ _ _
    (ended_goes (ended_by call (codes ";\n")) (indent (c.args.level + 1)) _ _ _ _
    (ended_goes call (codes ";\n") _ _ _ _ c.in_ok-other.ensures c.in_ok-rest.ensures) c.in_ok-rest-2.ensures) c.in_ok-rest-3.ensures
