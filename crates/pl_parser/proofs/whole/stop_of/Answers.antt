use Rattle.std.proofs.Common.{◌∙◌, sym}
use Rattle.pl_parser.proofs.Refusing.{file_is}
use Rattle.pl_parser.proofs.whole.stop_of.Goals as goal
use Rattle.pl_parser.proofs.whole.stop_of.Goals.{in-Ok, in-Err-Stop, in-Err-Memory}

pub returns : goal.returns
returns c =
    elim c.match-file.branch [
      | in-Ok w ↦ rw w.result-is (_, sym (file_is c.args.depth c.args.tokens.now) ∙ w.in-Ok.ensures)
      | in-Err-Stop w ↦ let h = rw w.in-Err-Stop.field-0-is at w.in-Err-Stop.ensures in rw w.result-is (sym (file_is c.args.depth c.args.tokens.now) ∙ h)
      | in-Err-Memory w ↦ rw w.result-is tt
    ]
