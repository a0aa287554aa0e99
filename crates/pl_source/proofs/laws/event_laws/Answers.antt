use Rattle.pl_source.proofs.HeapLaws.{resource_alloc, resource_free, dead_load, dead_free}
use Rattle.pl_source.proofs.StepLaws.{stmt_goes}
use Rattle.pl_source.proofs.laws.event_laws.Goals as goal

pub returns-clause-alloc : goal.returns-clause-alloc
returns-clause-alloc c = resource_alloc

pub returns-clause-free : goal.returns-clause-free
returns-clause-free c = resource_free

pub returns-clause-dead_load : goal.returns-clause-dead_load
returns-clause-dead_load c = dead_load

pub returns-clause-dead_free : goal.returns-clause-dead_free
returns-clause-dead_free c = dead_free

pub returns-clause-goes : goal.returns-clause-goes
returns-clause-goes c = stmt_goes
