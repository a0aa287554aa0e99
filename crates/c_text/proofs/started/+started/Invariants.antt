use Rattle.std.proofs.Common.{drop}
use Rattle.c_syntax.specs.Plain.{plain_stmts}
use Rattle.c_syntax.specs.Text.{stmts_starts}
use Rattle.c_text.proofs.NameSets.{Leads}
use Rattle.c_text.proofs.started.+started.Given as goal

abbrev pub invariant-add_stmts-loop-s : goal.invariant-add_stmts-loop-s
invariant-add_stmts-loop-s l =
    Leads (λ k. k.now) l.initial.names l.names (stmts_starts (plain_stmts l.list)) (stmts_starts (plain_stmts (drop l.s-index l.list)))
