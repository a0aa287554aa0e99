use Rattle.pl_linear.proofs.DutyLaws.{duty_law}
use Rattle.pl_linear.proofs.laws.duty_laws.Goals as goal

pub returns : goal.returns
returns c = record { sound = duty_law }
