use Rattle.std.proofs.Common.{◌≡◌, drop}
use Rattle.pl_linear.specs.Certificates.{small}
use Rattle.pl_linear.proofs.certificate.few.Given as goal

abbrev pub invariant-loop-c : goal.invariant-loop-c
invariant-loop-c l = small l.row ≡ small (drop l.c-index l.row)
