use Rattle.std.proofs.Common.{◌≡◌, ◌+◌, ◌≤◌}
use Rattle.c_forms.specs.Names as spec
use Rattle.c_forms.proofs.names.some_fits.Given as goal

abbrev pub invariant-codes : goal.invariant-codes
invariant-codes l = record {
  same : spec.some_fits l.in_front l.at l.left ≡ spec.some_fits l.in_front l.code l.count;
  room : l.at + l.left ≤ 0x1000_0000;
}

abbrev pub decreases-codes : goal.decreases-codes
decreases-codes l = l.left
