use Rattle.std.proofs.Common.{◌≡◌, ◌++◌, map, drop}
use Rattle.c_syntax.specs.Plain.{plain_init}
use Rattle.c_meaning.specs.Plain.{plain_term}
use Rattle.c_meaning.specs.Resolve.{term_of}
use Rattle.c_meaning.proofs.resolve.resolve_first.Given as goal

abbrev pub invariant-loop-i : goal.invariant-loop-i
invariant-loop-i l = map (λ i. term_of i.value) (map plain_init l.list) ≡ map plain_term l.made.items ++ map (λ i. term_of i.value) (map plain_init (drop l.i-index l.list))
