use Rattle.std.proofs.Common.{◌≡◌, drop}
use Rattle.pl_linear.specs.Certificates.{all_zero}
use Rattle.pl_linear.proofs.confirming.is_nought.Given as goal

abbrev pub invariant-loop-c : goal.invariant-loop-c
invariant-loop-c l = all_zero l.row ≡ all_zero (drop l.c-index l.row)
