use Rattle.std.proofs.Common.{map, drop}
use Rattle.c_syntax.specs.Plain.{plain_fun}
use Rattle.c_syntax.specs.Text.{funs_starts}
use Rattle.c_text.proofs.NameSets.{Leads}
use Rattle.c_text.proofs.started.started.Given as goal

abbrev pub invariant-loop-f : goal.invariant-loop-f
invariant-loop-f l = Leads (λ k. k.now) l.initial.names l.names (funs_starts (map plain_fun l.funs)) (funs_starts (map plain_fun (drop l.f-index l.funs)))
