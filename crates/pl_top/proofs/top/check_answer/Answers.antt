use Rattle.std.proofs.Common.{sym, subst}
use Rattle.pl_words.specs.declared.command.Command.{Command}
use Rattle.pl_words.specs.declared.command.Command.TheVariants.{Check}
use Rattle.pl_top.specs.Calls.{DidCommand}
use Rattle.pl_top.proofs.top.check_answer.Goals as goal

pub returns-in-Check-clause-does : goal.returns-in-Check-clause-does
returns-in-Check-clause-does g c =
    let P : Command → Type 0 = λ command. DidCommand command (g.H.Host.files c.args.host.now) (g.H.Host.files c.check_file.new.host) (g.H.Host.input c.args.host.now) (g.H.Host.input c.check_file.new.host) (g.H.Host.out c.args.host.now) (g.H.Host.out c.check_file.new.host) c.check_file.result in
    subst P (sym c.in-Check.is) (subst (λ source. P (Check source c.in-Check.field-1)) c.text.ensures (c.check_file.ensures.does c.in-Check.field-1))
