use Rattle.std.proofs.Common.{ℕ, ◌<◌, ◌≤◌, ◌-◌}
use Rattle.pl_grammar.specs.Refusals.{GoesOnWith, IsCode}
use Rattle.pl_parser.proofs.whole.expected.Given as goal

abbrev pub invariant-codes : goal.invariant-codes
invariant-codes l = record {
  within : l.code ≤ 255;
  code : IsCode l.code;
  none : (m : ℕ) → m < l.code → IsCode m → GoesOnWith l.before m → ⊥;
}

abbrev pub decreases-codes : goal.decreases-codes
decreases-codes l = 255 - l.code
