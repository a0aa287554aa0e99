use Rattle.std.proofs.Common.{length, sym, ◌∙◌}
use Rattle.c_meaning.specs.Events.{is_enabled}
use Rattle.c_meaning.specs.States.{shown}
use Rattle.c_meaning.specs.Resolve.{functions_of}
use Rattle.c_runner.specs.Numbers.{IsNext}
use Rattle.c_runner.specs.Kept.{IsOpen, seen}
use Rattle.c_runner.proofs.Lists.{all_mine, next_own}
use Rattle.c_runner.proofs.Keeping.{goes_by}
use Rattle.c_runner.proofs.machine.Machine.finish.Goals as goal

pub unreachable-requires : goal.unreachable-requires
unreachable-requires g c =
    let p = g.J.Naming.program in
    let test = is_enabled (functions_of p) (shown c.events.self.0) in
    let unended : IsOpen p g.J.Naming.bound (shown c.events.self.0) (length c.events.self.1) = c.in_default.ensures in
    unended.enabled (λ t. sym (all_mine test t) ∙ c.in_default-pick.ensures.none t)

pub events-preserved : goal.events-preserved
events-preserved g c =
    let p = g.J.Naming.program in
    let mid = seen c.events.self in
    let tid = c.in-Some-pick.tid in
    let did = c.in_ok-step.ensures.ok in
    let unended : IsOpen p g.J.Naming.bound mid.0 (length mid.1) = c.in_default.ensures in
    let next : IsNext (is_enabled (functions_of p) mid.0) mid.2 tid = next_own (is_enabled (functions_of p) mid.0) mid.2 tid c.in-Some-pick.ensures.some in
    goes_by p g.J.Naming.bound (seen c.args.self.now) mid (seen c.step.new.self) tid did.0 c.events.invariant unended next did.2 did.3 did.4
