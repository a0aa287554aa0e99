use Rattle.pl_deriv.proofs.DerivationLaws.{joined, parted, no_leak, no_free}
use Rattle.pl_deriv.proofs.laws.derivation_laws.Goals as goal

pub returns-clause-joined : goal.returns-clause-joined
returns-clause-joined c = joined

pub returns-clause-parted : goal.returns-clause-parted
returns-clause-parted c = parted

pub returns-clause-no_leak : goal.returns-clause-no_leak
returns-clause-no_leak c = no_leak

pub returns-clause-no_free : goal.returns-clause-no_free
returns-clause-no_free c = no_free
