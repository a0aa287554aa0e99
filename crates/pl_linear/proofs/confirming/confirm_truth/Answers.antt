use Rattle.std.proofs.Common.{◌+◌, ◌≡◌, Ok, negsuc, rules}
use Rattle.pl_forms.specs.Steps.{plus}
use Rattle.pl_forms.specs.Assuming.{one_form}
use Rattle.pl_linear.proofs.WitnessLaws.{less_within}
use Rattle.pl_linear.proofs.confirming.confirm_truth.Goals as goal

pub confirm_plain-requires-2-clause-form_atoms : goal.confirm_plain-requires-2-clause-form_atoms
confirm_plain-requires-2-clause-form_atoms c =
    let exact : plus c.args.form.now (negsuc 0) one_form ≡ Ok c.in_ok-less.less = search rules in
    less_within (c.args.atoms + 1) c.args.form.now c.in_ok-less.less c.requires.form_atoms exact
