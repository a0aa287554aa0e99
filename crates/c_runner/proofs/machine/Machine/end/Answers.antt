use Rattle.std.proofs.Common.{ℕ, List, length, subst}
use Rattle.c_meaning.specs.declared.action.Event.{Event}
use Rattle.c_meaning.specs.States.{Held, shown}
use Rattle.c_runner.specs.Kept.{FirstEnd}
use Rattle.c_runner.proofs.Ending.{first_seen}
use Rattle.c_runner.proofs.machine.Machine.end.Goals as goal

pub returns : goal.returns
returns g c =
    let old = c.self.inside in
    let p = g.J.Naming.program in
    let bound = g.J.Naming.bound in
    let P : Held × List Event × ℕ → Type 0 = λ m. FirstEnd p bound (shown m.0) (length m.1) old.outlook.end in
    subst P c.self.view_is (first_seen p bound (shown old.state) (length old.history.items) old.outlook.unfinished.items old.outlook.enabled.items old.outlook.end c.self.invariant.kept.within c.self.invariant.sees)
