-- How many words are taken at most.
use Rattle.std.proofs.Common.{◌≤◌, Option, Some, None, arith}
use Rattle.pl_words.specs.Steps.{one, taken}
use Rattle.pl_words.specs.Words.{Said}

one_small : {A : Type 0} → (o : Option A) → one o ≤ 1
one_small None = omega arith
one_small (Some x) = omega arith

-- three plain words and five options with their values
pub taken_small : (s : Said) → taken s ≤ 13
taken_small s = omega (arith, one_small s.first, one_small s.second, one_small s.count, one_small s.output, one_small s.steps, one_small s.workers, one_small s.history, one_small s.jobs)
