use Rattle.std.proofs.Common.{length, arith, ap}
use Rattle.c_syntax.specs.Plain.{plain_program}
use Rattle.c_meaning.specs.States.{shown}
use Rattle.c_history.proofs.ReplayLaws.{is_next, reached_first, exact_there, reached_there, one_answer, whole}
use Rattle.c_history.specs.declared.replaying.Replayed.TheVariants.{Follows}
use Rattle.c_history.proofs.replaying.replay.Goals as goal

pub loop-k-init : goal.loop-k-init
loop-k-init c = record {
  program = c.in_ok-state.ensures.program;
  events = c.as_slice-events.ensures;
  reached = reached_first (plain_program c.args.program.now) c.args.input.now c.as_slice-events.result.now (shown c.in_ok-state.state) c.in_ok-state.ensures.state;
}

pub attempt-requires-clause-program : goal.attempt-requires-clause-program
attempt-requires-clause-program c = c.loop-k.invariant.program

pub attempt-requires-clause-blocks : goal.attempt-requires-clause-blocks
attempt-requires-clause-blocks c = omega (arith, c.loop-k.invariant.reached.blocks, ap length c.as_slice-events.ensures)

pub attempt-requires-clause-locks : goal.attempt-requires-clause-locks
attempt-requires-clause-locks c = omega (arith, c.loop-k.invariant.reached.locks, ap length c.as_slice-events.ensures)

pub attempt-requires-clause-threads : goal.attempt-requires-clause-threads
attempt-requires-clause-threads c = omega (arith, c.loop-k.invariant.reached.threads, ap length c.as_slice-events.ensures)

pub returns-then-not-is_event-clause-exact : goal.returns-then-not-is_event-clause-exact
returns-then-not-is_event-clause-exact c =
    let p = plain_program c.args.program.now in
    let before = shown c.loop-k.state in
    let after = shown c.attempt.new.self in
    let expected = c.in_ok-expected.expected in
    exact_there p c.args.input.now c.as_slice-events.result.now c.args.history.now.events c.loop-k.k before after _ expected c.is_event.result
    c.as_slice-events.ensures c.loop-k-test.true c.loop-k.invariant.reached (is_next p before after _ expected c.in_ok-expected.ensures.event c.in_ok-expected.ensures.none) c.is_event.ensures c.if-not-is_event.true

pub loop-k-preserved : goal.loop-k-preserved
loop-k-preserved c =
    let p = plain_program c.args.program.now in
    let before = shown c.loop-k.state in
    let after = shown c.attempt.new.self in
    let expected = c.in_ok-expected.expected in
    record {
      program = c.in_ok-expected.ensures.program;
      events = c.as_slice-events.ensures;
      reached =
          reached_there p c.args.input.now c.as_slice-events.result.now c.args.history.now.events c.loop-k.k before after _ expected c.is_event.result
          c.as_slice-events.ensures c.loop-k-test.true c.loop-k.invariant.reached (is_next p before after _ expected c.in_ok-expected.ensures.event c.in_ok-expected.ensures.none) c.is_event.ensures c.if-not-is_event.false
          c.in_ok-expected.ensures.blocks c.in_ok-expected.ensures.locks c.in_ok-expected.ensures.threads;
    }

pub returns-clause-exact : goal.returns-clause-exact
returns-clause-exact c answer tells =
    one_answer (plain_program c.args.program.now) c.args.input.now c.args.history.now.events Follows answer
    (shown c.loop-k.state, whole (plain_program c.args.program.now) c.args.input.now c.as_slice-events.result.now c.args.history.now.events c.loop-k.k (shown c.loop-k.state) c.as_slice-events.ensures (omega arith) c.loop-k.invariant.reached)
    tells
