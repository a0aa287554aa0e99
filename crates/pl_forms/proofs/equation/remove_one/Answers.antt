use Rattle.std.proofs.Common.{◌≤◌, ◌^◌, unsigned_abs, rules}
use Rattle.pl_forms.specs.Equations.{opposite, coeff_of}
use Rattle.pl_forms.proofs.Reducing.{coeff_small, opposite_small}
use Rattle.pl_forms.proofs.equation.remove_one.Goals as goal

pub add_multiple-requires-clause-times : goal.add_multiple-requires-clause-times
add_multiple-requires-clause-times c =
    let small : unsigned_abs (opposite c.args.solution.now.minus (coeff_of c.args.solution.now.atom c.args.form.parts)) ≤ 2 ^ 40 = opposite_small c.args.solution.now.minus (coeff_of c.args.solution.now.atom c.args.form.parts) (2 ^ 40) (coeff_small c.args.solution.now.atom c.args.form.parts c.requires.form.small) in
    search rules
