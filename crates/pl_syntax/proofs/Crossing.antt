-- The tree may cross threads: where the search of the rules stops, field by field.
use denote.Param.Send.{IsSend, IsSync, sendable, view_send, view_sync}
use denote.Param.SendFields.{declared_send, declared_sync, variants_send, variants_sync, as_row_send, as_row_sync}
use Rattle.std.proofs.Crossing.{crosses}
use Rattle.pl_syntax.proofs.prop.Prop.TheLaws.TheKnot as prop
use Rattle.pl_syntax.proofs.expr.Expr.TheLaws.TheKnot as expr
use Rattle.pl_syntax.proofs.stmt.Stmt.TheLaws.TheKnot as stmt
use Rattle.pl_syntax.specs.contracts.program.FunDecl as F
use Rattle.pl_syntax.specs.contracts.prop.Body as B
use Rattle.pl_syntax.specs.contracts.program.Decl as D
use Rattle.pl_syntax.specs.contracts.program.PredDecl as Pred
use Rattle.pl_syntax.specs.contracts.program.Program as Program
use Rattle.pl_syntax.specs.contracts.stmt.Stmts as S
use Rattle.pl_syntax.specs.contracts.straight.Straight as Straight
use Rattle.pl_syntax.specs.contracts.typed.Typed as Typed

ruleset known = (crosses, expr.crosses, prop.crosses, stmt.crosses, sendable)

pub stmts-send : IsSend (S.the_field).row
stmts-send = stmt.send-Stmts (search known depth 60 fits 20000) (search known depth 60 fits 20000) (search known depth 60 fits 20000) (search known depth 60 fits 20000) (search known depth 60 fits 20000) (search known depth 60 fits 20000) (search known depth 60 fits 20000) (search known depth 60 fits 20000) (search known depth 60 fits 20000) (λ h s. search known depth 60 fits 20000) (λ s. search known depth 60 fits 20000) (search known depth 60 fits 20000) (λ h s. search known depth 60 fits 20000) (search known depth 60 fits 20000) (search known depth 60 fits 20000) (search known depth 60 fits 20000) (search known depth 60 fits 20000)

pub stmts-sync : IsSync (S.the_field).row
stmts-sync = stmt.sync-Stmts (search known depth 60 fits 20000) (search known depth 60 fits 20000) (search known depth 60 fits 20000) (search known depth 60 fits 20000) (search known depth 60 fits 20000) (search known depth 60 fits 20000) (search known depth 60 fits 20000) (search known depth 60 fits 20000) (search known depth 60 fits 20000) (λ h s. search known depth 60 fits 20000) (λ s. search known depth 60 fits 20000) (search known depth 60 fits 20000) (λ h s. search known depth 60 fits 20000) (search known depth 60 fits 20000) (search known depth 60 fits 20000) (search known depth 60 fits 20000) (search known depth 60 fits 20000)

pub fun-send : IsSend F.the_row
fun-send = declared_send F.the_type ((search known depth 60 fits 20000), ((search known depth 60 fits 20000), ((search known depth 60 fits 20000), ((search known depth 60 fits 20000), ((search known depth 60 fits 20000), ((search known depth 60 fits 20000), ((search known depth 60 fits 20000), ((search known depth 60 fits 20000), ((search known depth 60 fits 20000), (as_row_send S.the_field stmts-send, tt))))))))))

pub fun-sync : IsSync F.the_row
fun-sync = declared_sync F.the_type ((search known depth 60 fits 20000), ((search known depth 60 fits 20000), ((search known depth 60 fits 20000), ((search known depth 60 fits 20000), ((search known depth 60 fits 20000), ((search known depth 60 fits 20000), ((search known depth 60 fits 20000), ((search known depth 60 fits 20000), ((search known depth 60 fits 20000), (as_row_sync S.the_field stmts-sync, tt))))))))))

body-send : IsSend B.the_row
body-send = variants_send B.enum ((search known depth 60 fits 20000, tt), ((search known depth 60 fits 20000, (search known depth 60 fits 20000, (search known depth 60 fits 20000, tt))), tt))

pred-send : IsSend Pred.the_row
pred-send = declared_send Pred.the_type (search known depth 60 fits 20000, (search known depth 60 fits 20000, (search known depth 60 fits 20000, (search (known, body-send) depth 60 fits 20000, tt))))

body-sync : IsSync B.the_row
body-sync = variants_sync B.enum ((search known depth 60 fits 20000, tt), ((search known depth 60 fits 20000, (search known depth 60 fits 20000, (search known depth 60 fits 20000, tt))), tt))

pred-sync : IsSync Pred.the_row
pred-sync = declared_sync Pred.the_type (search known depth 60 fits 20000, (search known depth 60 fits 20000, (search known depth 60 fits 20000, (search (known, body-sync) depth 60 fits 20000, tt))))

pub decl-send : IsSend D.the_row
decl-send = variants_send D.enum ((search known depth 60 fits 20000, tt), ((search (known, pred-send) depth 60 fits 20000, tt), ((search (known, fun-send) depth 60 fits 20000, tt), tt)))

pub decl-sync : IsSync D.the_row
decl-sync = variants_sync D.enum ((search known depth 60 fits 20000, tt), ((search (known, pred-sync) depth 60 fits 20000, tt), ((search (known, fun-sync) depth 60 fits 20000, tt), tt)))

pub program-send : IsSend Program.the_row
program-send = search (known, decl-send) depth 60 fits 20000

pub program-sync : IsSync Program.the_row
program-sync = search (known, decl-sync) depth 60 fits 20000

inside-send : IsSend Typed.TheInside.the_row
inside-send = declared_send Typed.TheInside.the_type (search (known, program-send) depth 60 fits 20000, tt)

inside-sync : IsSync Typed.TheInside.the_row
inside-sync = declared_sync Typed.TheInside.the_type (search (known, program-sync) depth 60 fits 20000, tt)

pub typed-send : IsSend Typed.the_row
typed-send = view_send Typed.TheInside.the_row _ _ _ _ inside-send

pub typed-sync : IsSync Typed.the_row
typed-sync = view_sync Typed.TheInside.the_row _ _ _ _ inside-sync

straight-inside-send : IsSend Straight.TheInside.the_row
straight-inside-send = declared_send Straight.TheInside.the_type (search (known, program-send) depth 60 fits 20000, tt)

straight-inside-sync : IsSync Straight.TheInside.the_row
straight-inside-sync = declared_sync Straight.TheInside.the_type (search (known, program-sync) depth 60 fits 20000, tt)

pub straight-send : IsSend Straight.the_row
straight-send = view_send Straight.TheInside.the_row _ _ _ _ straight-inside-send

pub straight-sync : IsSync Straight.the_row
straight-sync = view_sync Straight.TheInside.the_row _ _ _ _ straight-inside-sync
