use denote.Param.Send.{sendable}
use Rattle.std.proofs.Crossing.{crosses}
use Rattle.c_runner.proofs.Crossing.{shared_sync, machine_send, program_sync}
use Rattle.c_runner.proofs.run.fn.run_crew.scope.Goals as goal

pub spawn-started-requires-send-F : goal.spawn-started-requires-send-F
spawn-started-requires-send-F g c κs h = search (shared_sync, machine_send, program_sync, crosses, sendable) depth 60 fits 20000
