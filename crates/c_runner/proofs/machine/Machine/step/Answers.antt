use Rattle.std.proofs.Common.{◌≡◌, ℕ, List, length, subst, sym, ap, ◌∙◌, arith}
use Rattle.std.specs.Prelude.{vec_capacity}
use Rattle.c_meaning.specs.declared.action.Event.{Event}
use Rattle.c_meaning.specs.States.{Held, shown, runs}
use Rattle.c_meaning.specs.Steps.{Step}
use Rattle.c_meaning.specs.Resolve.{functions_of}
use Rattle.c_runner.specs.Numbers.{Are}
use Rattle.c_runner.specs.Kept.{IsOpen, is_live}
use Rattle.c_runner.proofs.Stepping.{still_made, same_step, live_now, live_below, sees_new, quiet_now}
use Rattle.c_runner.proofs.Keeping.{kept_more}
use Rattle.c_runner.proofs.machine.Machine.step.Goals as goal

pub has_ended-ended-requires : goal.has_ended-ended-requires
has_ended-ended-requires g c =
    still_made g.J.Naming.program (shown c.self.inside.state) c.args.tid c.step-event.result (shown c.step-event.new.self) (same_step g.J.Naming.program _ (shown c.self.inside.state) _ c.args.tid c.step-event.result (shown c.step-event.new.self) c.requires.run.0 c.in_ok-make_room.ensures.same c.step-event.ensures.event)

pub renew-requires-clause-threads : goal.renew-requires-clause-threads
renew-requires-clause-threads g c =
    let p = g.J.Naming.program in
    let s = shown c.self.inside.state in
    let next = shown c.step-event.new.self in
    let one : Step p s c.args.tid c.step-event.result next = same_step p _ s _ c.args.tid c.step-event.result next c.requires.run.0 c.in_ok-make_room.ensures.same c.step-event.ensures.event in
    live_below next c.follow.new.self.unfinished.items (live_now p (runs c.step-event.new.self) s next c.args.tid c.step-event.result c.has_ended-ended.result c.threads-threads.result c.threads.result c.self.inside.outlook.unfinished.items c.reserve.new.self.unfinished.items c.follow.new.self.unfinished.items one c.has_ended-ended.ensures c.threads-threads.ensures c.threads.ensures c.in_ok-reserve.ensures.unfinished c.follow.ensures.unfinished c.self.invariant.sees.live_are)

pub renew-requires-clause-live : goal.renew-requires-clause-live
renew-requires-clause-live g c =
    let p = g.J.Naming.program in
    let s = shown c.self.inside.state in
    let next = shown c.step-event.new.self in
    let one : Step p s c.args.tid c.step-event.result next = same_step p _ s _ c.args.tid c.step-event.result next c.requires.run.0 c.in_ok-make_room.ensures.same c.step-event.ensures.event in
    live_now p (runs c.step-event.new.self) s next c.args.tid c.step-event.result c.has_ended-ended.result c.threads-threads.result c.threads.result c.self.inside.outlook.unfinished.items c.reserve.new.self.unfinished.items c.follow.new.self.unfinished.items one c.has_ended-ended.ensures c.threads-threads.ensures c.threads.ensures c.in_ok-reserve.ensures.unfinished c.follow.ensures.unfinished c.self.invariant.sees.live_are

pub renew-requires-clause-quiet : goal.renew-requires-clause-quiet
renew-requires-clause-quiet g c =
    let p = g.J.Naming.program in
    let bound = g.J.Naming.bound in
    let old = c.self.inside in
    let s = shown old.state in
    let next = shown c.step-event.new.self in
    let one : Step p s c.args.tid c.step-event.result next = same_step p _ s _ c.args.tid c.step-event.result next c.requires.run.0 c.in_ok-make_room.ensures.same c.step-event.ensures.event in
    let is_open : IsOpen p bound s (length old.history.items) = let P : Held × List Event × ℕ → Type 0 = λ m. IsOpen p bound (shown m.0) (length m.1) in subst P (sym c.self.view_is) c.requires.unended in
    quiet_now p _ (runs c.step-event.new.self) s next c.args.tid c.threads-threads.result c.step-event.result c.step-event.ensures.program c.requires.run.0 c.threads-threads.ensures one is_open.no_race is_open.no_fault

pub invariant_of-self-2 : goal.invariant_of-self-2
invariant_of-self-2 g c =
    let p = g.J.Naming.program in
    let bound = g.J.Naming.bound in
    let old = c.self.inside in
    let s = shown old.state in
    let next = shown c.step-event.new.self in
    let e = c.step-event.result in
    let same = c.in_ok-make_room.ensures.same in
    let one : Step p s c.args.tid e next = same_step p _ s _ c.args.tid e next c.requires.run.0 same c.step-event.ensures.event in
    let live : Are (is_live next) 0 c.follow.new.self.unfinished.items = live_now p (runs c.step-event.new.self) s next c.args.tid e c.has_ended-ended.result c.threads-threads.result c.threads.result old.outlook.unfinished.items c.reserve.new.self.unfinished.items c.follow.new.self.unfinished.items one c.has_ended-ended.ensures c.threads-threads.ensures c.threads.ensures c.in_ok-reserve.ensures.unfinished c.follow.ensures.unfinished c.self.invariant.sees.live_are in
    let is_open : IsOpen p bound s (length old.history.items) = let P : Held × List Event × ℕ → Type 0 = λ m. IsOpen p bound (shown m.0) (length m.1) in subst P (sym c.self.view_is) c.requires.unended in
    let code : runs c.step-event.new.self ≡ functions_of p = c.step-event.ensures.program ∙ ap functions_of c.requires.run.0 in
    record {
      program = code;
      kept = kept_more p g.J.Naming.input bound s old.history.items (vec_capacity old.history) c.args.tid e next c.push_reserved.new.self.items (vec_capacity c.push_reserved.new.self) c.self.invariant.kept is_open one c.push_reserved.ensures.items c.push_reserved.ensures.capacity
          (omega (arith, c.step-event.ensures.blocks, ap (λ z. length z.world.blocks) same))
          (omega (arith, c.step-event.ensures.locks, ap (λ z. length z.world.locks) same))
          (omega (arith, c.step-event.ensures.threads, ap (λ z. length z.threads) same));
      shares = omega (arith, c.self.invariant.shares, c.add.ensures.total, c.audit.ensures.total, c.push_reserved.ensures.len);
      undealt = c.self.invariant.undealt;
      sees = sees_new (functions_of p) (runs c.step-event.new.self) bound c.args.bound next (length c.push_reserved.new.self.items) c.len.result c.renew.new.self.unfinished.items c.renew.new.self.enabled.items c.renew.new.self.end code c.requires.run.1 (omega (arith, c.len.ensures)) (subst (λ z. Are (is_live next) 0 z.items) (sym c.renew.ensures.unfinished) live) c.renew.ensures.enabled c.renew.ensures.end;
    }
