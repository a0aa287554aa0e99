use Rattle.std.proofs.Common.{◌+◌}
use Rattle.pl_linear.proofs.WitnessLaws.{opposite_within}
use Rattle.pl_linear.proofs.confirming.confirm_both.Goals as goal

pub confirm_below-requires-in-Some-clause-form_atoms :
    goal.confirm_below-requires-in-Some-clause-form_atoms
confirm_below-requires-in-Some-clause-form_atoms c = opposite_within (c.args.atoms + 1) c.args.form.now c.in_ok-opposite-in-Some.opposite c.requires.form_atoms c.in_ok-opposite-in-Some.ensures.is
