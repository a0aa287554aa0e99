use Rattle.std.proofs.Common.{sym, ◌∙◌}
use Rattle.pl_linear.proofs.CertificateLaws.{small_all}
use Rattle.pl_linear.proofs.certificate.finish.Goals as goal

pub tighten-requires-clause-sizes : goal.tighten-requires-clause-sizes
tighten-requires-clause-sizes c = small_all _ (sym c.few.ensures ∙ c.if-few.true)
