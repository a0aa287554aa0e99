use denote.Param.Send.{sendable}
use Rattle.pl_syntax.proofs.Crossing.{straight-send, straight-sync}
use Rattle.pl_syntax.proofs.tests._straight_crosses.Goals as goal

pub crosses-requires-send-T : goal.crosses-requires-send-T
crosses-requires-send-T c κs = search (straight-send, sendable)

pub crosses-requires-sync-T : goal.crosses-requires-sync-T
crosses-requires-sync-T c κs = search (straight-sync, sendable)
