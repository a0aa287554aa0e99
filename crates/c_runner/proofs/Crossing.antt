-- What workers share may be seen by several threads.
use denote.RattleType.{RattleType}
use denote.Param.Send.{IsSend, IsSync, sendable}
use denote.Param.SendFields.{declared_send, declared_sync}
use Rattle.std.proofs.Crossing.{crosses}
use Rattle.c_syntax.proofs.expr.CExpr.TheLaws.TheKnot as expr
use Rattle.c_syntax.proofs.stmt.CStmt.TheLaws.TheKnot as stmt
use Rattle.c_syntax.specs.contracts.program.CFun as CFun
use Rattle.c_syntax.specs.contracts.program.CProgram as CProgram
use Rattle.c_meaning.proofs.Crossing.{machine-send}
use Rattle.std.proofs.sync.ledger.Book.TheSendSync as Book
use Rattle.std.proofs.sync.ledger.Share.TheSendSync as Share
use Rattle.std.specs.declared.sync.ledger.Ledger as ledger
use Rattle.c_runner.specs.declared.machine.Naming as naming
use Rattle.c_runner.specs.contracts.outlook.Outlook as Outlook
use Rattle.c_runner.specs.contracts.machine.Machine as Machine
use Rattle.c_runner.specs.contracts.machine.Machine.TheInside as Inside
use Rattle.c_runner.specs.contracts.run.Shared as Shared

outlook_send : IsSend Outlook.the_row
outlook_send = search (crosses, sendable) depth 60 fits 20000

fun-sync : IsSync CFun.the_row
fun-sync = declared_sync CFun.the_type (search (crosses, sendable) depth 60 fits 20000, (search (crosses, sendable) depth 60 fits 20000, (search (crosses, sendable) depth 60 fits 20000, (search (crosses, expr.crosses, stmt.crosses, sendable) depth 60 fits 20000, tt))))

pub program_sync : IsSync CProgram.the_row
program_sync = declared_sync CProgram.the_type (search (crosses, sendable) depth 60 fits 20000, (search (crosses, fun-sync, sendable) depth 60 fits 20000, tt))

module _ (J : RattleType) (named : naming.Ghosts J.Denot) (counted : ledger.Ghosts J.Denot) where
  pub inside_send : IsSend (Inside.the_row J named counted)
  inside_send = declared_send (Inside.the_type J named counted) (search (machine-send, sendable), (search (crosses, sendable) depth 60 fits 20000, (search (outlook_send, sendable), (search (Book.the_send, sendable), (search (Share.the_send, sendable), (search sendable, (search sendable, (search sendable, (search sendable, tt)))))))))

  pub machine_send : IsSend (Machine.the_row J named counted)
  machine_send = search (inside_send, sendable)

  pub shared_sync : IsSync (Shared.the_row J named counted)
  shared_sync = search (machine_send, crosses, sendable) depth 60 fits 20000
