use Rattle.std.proofs.Common.{◌≡◌, ◌++◌, map, drop}
use Rattle.c_syntax.specs.Plain.{plain_expr}
use Rattle.c_meaning.specs.Plain.{plain_term}
use Rattle.c_meaning.specs.Resolve.{term_of}
use Rattle.c_meaning.proofs.resolve.resolve_all.Given as goal

abbrev pub invariant-loop-e : goal.invariant-loop-e
invariant-loop-e l = map term_of (map plain_expr l.list) ≡ map plain_term l.made.items ++ map term_of (map plain_expr (drop l.e-index l.list))
