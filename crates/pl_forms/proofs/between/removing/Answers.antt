use Rattle.std.proofs.Common.{◌≤◌, ◌^◌, unsigned_abs, rules}
use Rattle.pl_forms.specs.Equations.{opposite, coeff_of}
use Rattle.pl_forms.proofs.Reducing.{coeff_small, opposite_small}
use Rattle.pl_forms.proofs.between.removing.Goals as goal

pub removing_small-requires : goal.removing_small-requires
removing_small-requires c =
    let small : unsigned_abs (coeff_of c.args.solution.now.atom c.args.form.now.parts) ≤ 2 ^ 40 = coeff_small c.args.solution.now.atom c.args.form.now.parts c.requires.small in
    search rules

pub returns-clause-size : goal.returns-clause-size
returns-clause-size c =
    let small : unsigned_abs (opposite c.args.solution.now.minus (coeff_of c.args.solution.now.atom c.args.form.now.parts)) ≤ 2 ^ 40 = opposite_small c.args.solution.now.minus (coeff_of c.args.solution.now.atom c.args.form.now.parts) (2 ^ 40) (coeff_small c.args.solution.now.atom c.args.form.now.parts c.requires.small) in
    search rules
