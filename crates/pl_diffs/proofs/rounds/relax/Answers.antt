use Rattle.std.proofs.Common.{◌^◌, length, rules, arith, pos}
use mir.Val.{SFits}
use mir.Syntax.{w128}
use Rattle.std.proofs.lemmas.Int.{ints, to_z-of_z}
use Rattle.pl_diffs.specs.Rounds.{edge}
use Rattle.pl_diffs.proofs.Steps.{round_take, round_skip}
use Rattle.pl_diffs.proofs.rounds.relax.Goals as goal
use Rattle.pl_diffs.proofs.rounds.relax.Goals.{in-Some, in_default}

pub shorter-requires-clause-low : goal.shorter-requires-clause-low
shorter-requires-clause-low c =
    let few = c.requires.ends.few in
    let low = c.loop-i.invariant.low (2 ^ 25) c.requires.low (edge c.args.edges.now c.loop-i.i).from in
    omega (arith, ints)

pub loop-i-preserved : goal.loop-i-preserved
loop-i-preserved c =
    let i = c.loop-i.i in
    let es = c.args.edges.now in
    let n = length c.args.dist.now in
    elim c.match-shorter.branch [
      | in-Some w ↦
          let fit : SFits w128 w.in-Some.next = search rules in
          rw (w.dist-is, w.parent-is, w.last-is, to_z-of_z w128 w.in-Some.next fit) (round_take es n c.args.dist.now c.loop-i.dist c.loop-i.parent i c.loop-i.last w.in-Some.next c.loop-i.invariant c.requires.ends c.loop-i-test.true (c.requires.sizes i (record { from = 0; to = 0; most = pos 0 }) c.loop-i-test.true) w.in-Some.ensures.0 w.in-Some.ensures.1)
      | in_default w ↦ rw (w.dist-is, w.parent-is, w.last-is) (round_skip es n c.args.dist.now c.loop-i.dist c.loop-i.parent i c.loop-i.last c.loop-i.invariant w.in_default.ensures)
    ]
