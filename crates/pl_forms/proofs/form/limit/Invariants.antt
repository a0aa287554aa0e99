use Rattle.std.proofs.Common.{◌≡◌, drop}
use Rattle.pl_forms.specs.Forms.{excess}
use Rattle.pl_forms.proofs.form.limit.Given as goal

abbrev pub invariant-loop-part : goal.invariant-loop-part
invariant-loop-part l = excess l.part-items ≡ excess (drop l.part-index l.part-items)
