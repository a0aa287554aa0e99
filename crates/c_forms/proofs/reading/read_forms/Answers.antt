use Rattle.c_forms.proofs.Told.{told_found, told_only, told_refused}
use Rattle.c_forms.proofs.reading.read_forms.Goals as goal

pub returns-clause-found : goal.returns-clause-found
returns-clause-found c = told_found c.told.result c.args.bytes.now c.told.ensures

pub returns-clause-only : goal.returns-clause-only
returns-clause-only c = told_only c.told.result c.args.bytes.now c.told.ensures

pub returns-clause-refused : goal.returns-clause-refused
returns-clause-refused c = told_refused c.told.result c.args.bytes.now c.told.ensures
