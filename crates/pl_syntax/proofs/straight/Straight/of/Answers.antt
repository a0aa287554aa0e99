use Rattle.std.proofs.Common.{subst, sym, ap, ◌∙◌}
use Rattle.pl_syntax.specs.declared.program.Program.{Program}
use Rattle.pl_syntax.specs.Plain.{plain_program}
use Rattle.pl_syntax.specs.Straight.{IsStraight}
use Rattle.pl_syntax.specs.Unbuilt.{first_unbuilt}
use Rattle.pl_syntax.proofs.StraightLaws.{typed_built}
use Rattle.pl_syntax.proofs.straight.Straight.of.Goals as goal

pub invariant_of-result : goal.invariant_of-result
invariant_of-result c =
    let built = ap (λ (p : Program). first_unbuilt (plain_program p)) (sym c.program.ensures.same) ∙ sym c.first_unbuilt.ensures ∙ c.in-None.is in
    subst (λ (p : Program). IsStraight (plain_program p)) (sym c.into_program.ensures) (typed_built (plain_program c.args.typed) c.program.ensures.typed built)
