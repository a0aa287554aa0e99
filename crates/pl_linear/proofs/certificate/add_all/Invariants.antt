use Rattle.std.proofs.Common.{◌≡◌, drop}
use Rattle.pl_linear.specs.Certificates.{add_eqs}
use Rattle.pl_linear.proofs.certificate.add_all.Given as goal

abbrev pub invariant-loop-term : goal.invariant-loop-term
invariant-loop-term l = add_eqs l.eqs l.terms l.initial.row ≡ add_eqs l.eqs (drop l.term-index l.terms) l.row
