use Rattle.std.proofs.Common.{sym, subst, refl}
use Rattle.std.specs.Prelude.{Result}
use Rattle.pl_words.specs.declared.command.Command.{Command}
use Rattle.pl_words.specs.declared.command.WordError.{WordError}
use Rattle.pl_top.specs.Calls.{PartDone}
use Rattle.pl_top.proofs.Delivered.{nothing_done}
use Rattle.pl_top.proofs.top.pulse_main.Goals as goal

pub returns-in-Err-Memory-clause-part : goal.returns-in-Err-Memory-clause-part
returns-in-Err-Memory-clause-part g c = nothing_done _ _ _ _ _ _ _ refl refl

pub returns-in-Err-Usage-clause-part : goal.returns-in-Err-Usage-clause-part
returns-in-Err-Usage-clause-part g c =
    let P : Result Command WordError → Type 0 = λ told. PartDone told (g.H.Host.files c.args.host.now) (g.H.Host.files c.refuse_words.new.host) (g.H.Host.input c.args.host.now) (g.H.Host.input c.refuse_words.new.host) (g.H.Host.out c.args.host.now) (g.H.Host.out c.refuse_words.new.host) in
    subst P (sym (rw c.in-Err-Usage.field-0-is at c.in-Err-Usage.ensures.told)) c.refuse_words.ensures.part

pub returns-in-Ok-answer-clause-part : goal.returns-in-Ok-answer-clause-part
returns-in-Ok-answer-clause-part g c =
    let P : Result Command WordError → Type 0 = λ told. PartDone told (g.H.Host.files c.args.host.now) (g.H.Host.files c.answer.new.host) (g.H.Host.input c.args.host.now) (g.H.Host.input c.answer.new.host) (g.H.Host.out c.args.host.now) (g.H.Host.out c.answer.new.host) in
    subst P (sym c.in-Ok.ensures.told) c.answer.ensures.part

pub returns-clause-part : goal.returns-clause-part
returns-clause-part g c =
    let P : Result Command WordError → Type 0 = λ told. PartDone told (g.H.Host.files c.args.host.now) (g.H.Host.files c.answer.new.host) (g.H.Host.input c.args.host.now) (g.H.Host.input c.answer.new.host) (g.H.Host.out c.args.host.now) (g.H.Host.out c.answer.new.host) in
    subst P (sym c.in-Ok.ensures.told) c.answer.ensures.part
