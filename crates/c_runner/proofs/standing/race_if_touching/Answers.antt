use Rattle.std.proofs.Common.{sym, ◌∙◌}
use Rattle.c_runner.proofs.Races.{no_race_with}
use Rattle.c_runner.proofs.standing.race_if_touching.Goals as goal

pub returns-else-touches : goal.returns-else-touches
returns-else-touches c = sym (no_race_with c.args.a.now c.args.others.now (sym c.touches.ensures ∙ c.if-touches.false))
