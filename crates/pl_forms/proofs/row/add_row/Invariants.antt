use Rattle.std.proofs.Common.{◌≡◌, drop}
use Rattle.pl_forms.specs.Rows.{add_rows}
use Rattle.pl_forms.proofs.row.add_row.Given as goal

abbrev pub invariant-loop-i : goal.invariant-loop-i
invariant-loop-i l = add_rows l.times 0 l.row l.initial.total ≡ add_rows l.times l.i (drop l.i l.row) l.total
