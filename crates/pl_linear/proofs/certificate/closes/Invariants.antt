use Rattle.std.proofs.Common.{◌≡◌, drop}
use Rattle.pl_linear.specs.Certificates.{all_zero, is_closed}
use Rattle.pl_linear.proofs.certificate.closes.Given as goal

abbrev pub invariant-loop-i : goal.invariant-loop-i
invariant-loop-i l = is_closed l.total ≡ all_zero (drop l.i l.total)
