use Rattle.std.proofs.Common.{◌≡◌, drop}
use Rattle.pl_forms.specs.Forms.{all_limited, onto}
use Rattle.pl_forms.proofs.form.multiplied.Given as goal

abbrev pub invariant-loop-part : goal.invariant-loop-part
invariant-loop-part l =
    all_limited l.times l.parts ≡ onto l.out.items (all_limited l.times (drop l.part-index l.parts))
