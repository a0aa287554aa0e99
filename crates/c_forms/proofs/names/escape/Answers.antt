use Rattle.c_forms.proofs.NameReads.{read_fits}
use Rattle.c_forms.proofs.names.escape.Goals as goal

pub returns-in-None : goal.returns-in-None
returns-in-None c = absurd (c.in-None.ensures.value (read_fits c.args.in_front c.in_ok-rest.rest.now c.in_ok-code.code c.in_ok-code.rest.now c.in_ok-code.ensures))
