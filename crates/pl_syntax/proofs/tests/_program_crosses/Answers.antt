use denote.Param.Send.{sendable}
use Rattle.pl_syntax.proofs.Crossing.{program-send, program-sync}
use Rattle.pl_syntax.proofs.tests._program_crosses.Goals as goal

pub crosses-requires-send-T : goal.crosses-requires-send-T
crosses-requires-send-T c κs = search (program-send, sendable)

pub crosses-requires-sync-T : goal.crosses-requires-sync-T
crosses-requires-sync-T c κs = search (program-sync, sendable)
