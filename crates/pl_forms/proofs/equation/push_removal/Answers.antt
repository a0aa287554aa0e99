use Rattle.std.proofs.Common.{◌≤◌, ◌^◌, unsigned_abs, rules}
use Rattle.pl_forms.specs.Equations.{coeff_of}
use Rattle.pl_forms.proofs.Reducing.{coeff_small}
use Rattle.pl_forms.proofs.equation.push_removal.Goals as goal

pub removing_small-requires : goal.removing_small-requires
removing_small-requires c =
    let small : unsigned_abs (coeff_of c.args.solution.now.atom c.args.form.now.parts) ≤ 2 ^ 40 = coeff_small c.args.solution.now.atom c.args.form.now.parts c.requires.form.small in
    search rules
