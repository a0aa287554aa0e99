use Rattle.c_meaning.specs.Acts.{shared, turn_of}
use Rattle.c_meaning.specs.Machine.{Stride, frames_shown, functions_shown, fork_shown}
use Rattle.c_meaning.proofs.Strides.{strode_fault, strode_moves}
use Rattle.c_meaning.proofs.thread.advance.Goals as goal

pub returns-in-Err-clause-moves : goal.returns-in-Err-clause-moves
returns-in-Err-clause-moves c =
    let T = c.args.code.now in
    strode_fault (functions_shown T c.args.functions.now) c.args.next c.args.callee c.args.spare.now.env.items (frames_shown T c.args.frames.now.items) (shared c.args.world.now) c.requires.calls c.requires.spare.blank c.in-Err.fault c.in-Err.ensures.steps

pub returns-in-Ok-clause-moves : goal.returns-in-Ok-clause-moves
returns-in-Ok-clause-moves c =
    let T = c.args.code.now in
    let s : Stride = record { action = c.in-Ok.action; turn = turn_of c.stride.new.locals.items c.in-Ok.turn; world = shared c.stride.new.world; frames = frames_shown T c.stride.new.frames.items } in
    strode_moves (functions_shown T c.args.functions.now) c.args.next c.args.callee c.args.spare.now.env.items (frames_shown T c.args.frames.now.items) (shared c.args.world.now) c.requires.calls c.requires.spare.blank s c.in-Ok.ensures.steps (frames_shown T c.turn_to-forked.new.frames.items) (fork_shown T c.turn_to-forked.result) c.turn_to-forked.ensures.frames c.turn_to-forked.ensures.fork
