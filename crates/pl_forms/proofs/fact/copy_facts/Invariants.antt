use Rattle.std.proofs.Common.{◌≡◌, take}
use Rattle.pl_forms.proofs.fact.copy_facts.Given as goal

abbrev pub invariant-loop-fact : goal.invariant-loop-fact
invariant-loop-fact l = l.out.items ≡ take l.fact-index l.facts
