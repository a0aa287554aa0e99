use Rattle.std.proofs.Common.{◌≤◌, ◌*◌, length, arith, refl}
use Rattle.pl_diffs.proofs.Solving.{rounds_more, rooted_long, closed_cycle, least, low_now}
use Rattle.pl_diffs.proofs.rounds.settle.Goals as goal

pub loop-last-init : goal.loop-last-init
loop-last-init c = record { rounds = c.requires.start; ahead = omega arith; near = omega arith }

pub relax-requires-clause-low : goal.relax-requires-clause-low
relax-requires-clause-low c =
    let few : c.loop-last.round ≤ 2 * length c.args.dist.now = omega arith in
    low_now _ _ _ _ _ c.loop-last.invariant.rounds c.requires.ends few

pub cycle_from-requires-clause-last : goal.cycle_from-requires-clause-last
cycle_from-requires-clause-last c =
    let inside = (c.in-Some.ensures.fell c.in-Some.last refl).0 in
    let parents = c.in-Some.ensures.ranked.parents in
    omega arith

pub returns-in-Some-2 : goal.returns-in-Some-2
returns-in-Some-2 c = closed_cycle _ _ _ _ _ (rw c.loop-last.auto.dist at c.relax.ensures.ranked) c.requires.ends (rw c.in-Some-2.is at c.in_ok-cycle.ensures)

pub loop-last-preserved-then-round-walk_at : goal.loop-last-preserved-then-round-walk_at
loop-last-preserved-then-round-walk_at c =
    let r = rw c.loop-last.auto.dist at c.in-Some.ensures in
    let long = rooted_long _ _ _ _ _ _ c.loop-last.round _ c.loop-last.invariant.rounds c.requires.ends r (rw c.in_default-2.is at c.in_ok-cycle.ensures) in
    record { rounds = rounds_more _ _ _ _ _ _ _ _ c.loop-last.invariant.rounds r; ahead = omega arith; near = omega arith }

pub loop-last-preserved : goal.loop-last-preserved
loop-last-preserved c =
    let r = rw c.loop-last.auto.dist at c.in-Some.ensures in
    record { rounds = rounds_more _ _ _ _ _ _ _ _ c.loop-last.invariant.rounds r; ahead = omega arith; near = omega arith }

pub returns : goal.returns
returns c =
    let few : c.loop-last.round ≤ 2 * length c.args.dist.now = omega arith in
    least _ _ _ _ _ c.requires.ends (low_now _ _ _ _ _ c.loop-last.invariant.rounds c.requires.ends few) (rw c.loop-last.auto.dist at c.in_default.ensures)
