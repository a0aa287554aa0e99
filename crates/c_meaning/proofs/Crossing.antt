-- A machine may cross threads.
use denote.Param.Send.{IsSend, IsSync, sendable}
use denote.Param.SendFields.{declared_send, declared_sync, variants_send, variants_sync}
use Rattle.std.proofs.Crossing.{crosses}
use Rattle.c_meaning.proofs.term.Term.TheLaws.TheKnot as term
use Rattle.c_meaning.specs.contracts.term.Basic as Basic
use Rattle.c_meaning.specs.contracts.code.Op as Op
use Rattle.c_meaning.specs.contracts.code.Block as Block
use Rattle.c_meaning.specs.contracts.thread.Frame as Frame
use Rattle.c_meaning.specs.contracts.state.Thread as Thread
use Rattle.c_meaning.specs.contracts.world.World as World
use Rattle.c_meaning.specs.contracts.state.CState.TheInside as Machine

ruleset known = (crosses, term.crosses, sendable)

pub basic-send : IsSend Basic.the_row
basic-send = variants_send Basic.enum ((search (known) depth 60 fits 20000, (search (known) depth 60 fits 20000, (search (known) depth 60 fits 20000, tt))), ((search (known) depth 60 fits 20000, (search (known) depth 60 fits 20000, (search (known) depth 60 fits 20000, tt))), ((search (known) depth 60 fits 20000, (search (known) depth 60 fits 20000, (search (known) depth 60 fits 20000, (search (known) depth 60 fits 20000, tt)))), ((search (known) depth 60 fits 20000, (search (known) depth 60 fits 20000, (search (known) depth 60 fits 20000, (search (known) depth 60 fits 20000, tt)))), ((search (known) depth 60 fits 20000, tt), ((search (known) depth 60 fits 20000, tt), ((search (known) depth 60 fits 20000, tt), ((search (known) depth 60 fits 20000, tt), ((search (known) depth 60 fits 20000, tt), ((search (known) depth 60 fits 20000, tt), ((search (known) depth 60 fits 20000, (search (known) depth 60 fits 20000, (search (known) depth 60 fits 20000, tt))), ((search (known) depth 60 fits 20000, (search (known) depth 60 fits 20000, tt)), (tt, ((search (known) depth 60 fits 20000, tt), tt))))))))))))))

pub basic-sync : IsSync Basic.the_row
basic-sync = variants_sync Basic.enum ((search (known) depth 60 fits 20000, (search (known) depth 60 fits 20000, (search (known) depth 60 fits 20000, tt))), ((search (known) depth 60 fits 20000, (search (known) depth 60 fits 20000, (search (known) depth 60 fits 20000, tt))), ((search (known) depth 60 fits 20000, (search (known) depth 60 fits 20000, (search (known) depth 60 fits 20000, (search (known) depth 60 fits 20000, tt)))), ((search (known) depth 60 fits 20000, (search (known) depth 60 fits 20000, (search (known) depth 60 fits 20000, (search (known) depth 60 fits 20000, tt)))), ((search (known) depth 60 fits 20000, tt), ((search (known) depth 60 fits 20000, tt), ((search (known) depth 60 fits 20000, tt), ((search (known) depth 60 fits 20000, tt), ((search (known) depth 60 fits 20000, tt), ((search (known) depth 60 fits 20000, tt), ((search (known) depth 60 fits 20000, (search (known) depth 60 fits 20000, (search (known) depth 60 fits 20000, tt))), ((search (known) depth 60 fits 20000, (search (known) depth 60 fits 20000, tt)), (tt, ((search (known) depth 60 fits 20000, tt), tt))))))))))))))

pub op-send : IsSend Op.the_row
op-send = variants_send Op.enum ((search (known, basic-send) depth 60 fits 20000, (search (known, basic-send) depth 60 fits 20000, tt)), ((search (known, basic-send) depth 60 fits 20000, (search (known, basic-send) depth 60 fits 20000, (search (known, basic-send) depth 60 fits 20000, tt))), ((search (known, basic-send) depth 60 fits 20000, (search (known, basic-send) depth 60 fits 20000, (search (known, basic-send) depth 60 fits 20000, tt))), ((search (known, basic-send) depth 60 fits 20000, tt), tt))))

pub op-sync : IsSync Op.the_row
op-sync = variants_sync Op.enum ((search (known, basic-sync) depth 60 fits 20000, (search (known, basic-sync) depth 60 fits 20000, tt)), ((search (known, basic-sync) depth 60 fits 20000, (search (known, basic-sync) depth 60 fits 20000, (search (known, basic-sync) depth 60 fits 20000, tt))), ((search (known, basic-sync) depth 60 fits 20000, (search (known, basic-sync) depth 60 fits 20000, (search (known, basic-sync) depth 60 fits 20000, tt))), ((search (known, basic-sync) depth 60 fits 20000, tt), tt))))

pub block-send : IsSend Block.the_row
block-send = declared_send Block.the_type (search (known, op-send) depth 60 fits 20000, tt)

pub block-sync : IsSync Block.the_row
block-sync = declared_sync Block.the_type (search (known, op-sync) depth 60 fits 20000, tt)

pub frame-send : IsSend Frame.the_row
frame-send = declared_send Frame.the_type (search (known) depth 60 fits 20000, (search (known) depth 60 fits 20000, (search (known) depth 60 fits 20000, (search (known) depth 60 fits 20000, tt))))

pub frame-sync : IsSync Frame.the_row
frame-sync = declared_sync Frame.the_type (search (known) depth 60 fits 20000, (search (known) depth 60 fits 20000, (search (known) depth 60 fits 20000, (search (known) depth 60 fits 20000, tt))))

pub thread-send : IsSend Thread.the_row
thread-send = declared_send Thread.the_type (search (known, frame-send) depth 60 fits 20000, tt)

pub thread-sync : IsSync Thread.the_row
thread-sync = declared_sync Thread.the_type (search (known, frame-sync) depth 60 fits 20000, tt)

pub world-send : IsSend World.the_row
world-send = declared_send World.the_type (search (known) depth 60 fits 20000, (search (known) depth 60 fits 20000, (search (known) depth 60 fits 20000, (search (known) depth 60 fits 20000, (search (known) depth 60 fits 20000, (search (known) depth 60 fits 20000, tt))))))

pub world-sync : IsSync World.the_row
world-sync = declared_sync World.the_type (search (known) depth 60 fits 20000, (search (known) depth 60 fits 20000, (search (known) depth 60 fits 20000, (search (known) depth 60 fits 20000, (search (known) depth 60 fits 20000, (search (known) depth 60 fits 20000, tt))))))

pub machine-send : IsSend Machine.the_row
machine-send = declared_send Machine.the_type (search (known, block-send, frame-send, thread-send, world-send) depth 60 fits 20000, (search (known, block-send, frame-send, thread-send, world-send) depth 60 fits 20000, (search (known, block-send, frame-send, thread-send, world-send) depth 60 fits 20000, (search (known, block-send, frame-send, thread-send, world-send) depth 60 fits 20000, (search (known, block-send, frame-send, thread-send, world-send) depth 60 fits 20000, (search (known, block-send, frame-send, thread-send, world-send) depth 60 fits 20000, (search (known, block-send, frame-send, thread-send, world-send) depth 60 fits 20000, (search (known, block-send, frame-send, thread-send, world-send) depth 60 fits 20000, (search (known, block-send, frame-send, thread-send, world-send) depth 60 fits 20000, tt)))))))))

pub machine-sync : IsSync Machine.the_row
machine-sync = declared_sync Machine.the_type (search (known, block-sync, frame-sync, thread-sync, world-sync) depth 60 fits 20000, (search (known, block-sync, frame-sync, thread-sync, world-sync) depth 60 fits 20000, (search (known, block-sync, frame-sync, thread-sync, world-sync) depth 60 fits 20000, (search (known, block-sync, frame-sync, thread-sync, world-sync) depth 60 fits 20000, (search (known, block-sync, frame-sync, thread-sync, world-sync) depth 60 fits 20000, (search (known, block-sync, frame-sync, thread-sync, world-sync) depth 60 fits 20000, (search (known, block-sync, frame-sync, thread-sync, world-sync) depth 60 fits 20000, (search (known, block-sync, frame-sync, thread-sync, world-sync) depth 60 fits 20000, (search (known, block-sync, frame-sync, thread-sync, world-sync) depth 60 fits 20000, tt)))))))))
