use Rattle.std.proofs.Common.{◌≡◌, drop}
use Rattle.pl_forms.specs.Rows.{scatter}
use Rattle.pl_forms.proofs.row.add_times.Given as goal

abbrev pub invariant-loop-part : goal.invariant-loop-part
invariant-loop-part l = scatter l.times l.parts l.initial.row ≡ scatter l.times (drop l.part-index l.parts) l.row
