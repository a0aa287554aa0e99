use Rattle.std.proofs.Common.{◌≡◌, ℕ, List, subst, false}
use Rattle.std.specs.Prelude.{IfSome, IfNone}
use Rattle.c_meaning.specs.declared.action.Event.{Event}
use Rattle.c_meaning.specs.States.{Held, shown}
use Rattle.c_meaning.specs.Events.{is_enabled}
use Rattle.c_meaning.specs.Resolve.{functions_of}
use Rattle.c_runner.specs.Numbers.{IsNext, mine}
use Rattle.c_runner.proofs.Lists.{next_is, none_next}
use Rattle.c_runner.proofs.Ending.{enabled_are}
use Rattle.c_runner.proofs.machine.Machine.pick.Goals as goal

pub returns-clause-some : goal.returns-clause-some
returns-clause-some g c =
    let old = c.self.inside in
    let F = functions_of g.J.Naming.program in
    let P : Held × List Event × ℕ → Type 0 = λ m. IfSome c.next_of.result (IsNext (mine c.args.worker c.args.workers (is_enabled F (shown m.0))) m.2) in
    subst P c.self.view_is (next_is (is_enabled F (shown old.state)) c.args.worker c.args.workers old.from old.outlook.enabled.items c.next_of.result (enabled_are F (shown old.state) old.outlook.unfinished.items old.outlook.enabled.items c.self.invariant.sees.live_are c.self.invariant.sees.enabled_are) c.next_of.ensures)

pub returns-clause-none : goal.returns-clause-none
returns-clause-none g c =
    let old = c.self.inside in
    let F = functions_of g.J.Naming.program in
    let P : Held × List Event × ℕ → Type 0 = λ m. IfNone c.next_of.result ((k : ℕ) → mine c.args.worker c.args.workers (is_enabled F (shown m.0)) k ≡ false) in
    subst P c.self.view_is (none_next (is_enabled F (shown old.state)) c.args.worker c.args.workers old.from old.outlook.enabled.items c.next_of.result (enabled_are F (shown old.state) old.outlook.unfinished.items old.outlook.enabled.items c.self.invariant.sees.live_are c.self.invariant.sees.enabled_are) c.next_of.ensures)
