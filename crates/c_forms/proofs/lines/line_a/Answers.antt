use Rattle.std.proofs.Common.{sym, ap, Ok}
use Rattle.c_forms.specs.StmtReaders.{line_a}
use Rattle.c_forms.proofs.PlainLaws.{plain_atomic_store}
use Rattle.c_forms.proofs.lines.line_a.Goals as goal

pub returns : goal.returns
unfolding line_a
returns c =
    rw (c.in_ok-rest.ensures, c.in_ok-base.ensures)
    (ap (λ s. Ok (s, c.in_ok-base.rest.now)) (sym (plain_atomic_store c.in_ok-base.base c.in_ok-base.value)))
