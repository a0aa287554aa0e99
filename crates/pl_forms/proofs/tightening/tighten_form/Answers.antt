use Rattle.std.proofs.Common.{◌^◌, arith}
use Rattle.pl_forms.proofs.Tightness.{common_le, tightened_form}
use Rattle.pl_forms.proofs.tightening.tighten_form.Goals as goal

pub tighten_by-requires-clause-divisor : goal.tighten_by-requires-clause-divisor
tighten_by-requires-clause-divisor c = rw (c.common_divisor-divisor.ensures, c.as_slice.ensures) (common_le 0 (2 ^ 40) c.args.form.now.parts (omega arith) c.requires.small)

pub returns-clause-form : goal.returns-clause-form
returns-clause-form c = tightened_form c.args.form.now _ c.requires (rw (c.common_divisor-divisor.ensures, c.as_slice.ensures) at c.tighten_by.ensures)
