use Rattle.std.proofs.Common.{map, string_bytes, ◌≡◌, ◌+◌, ◌≤◌, length}
use Rattle.pl_words.specs.Words as rule
use Rattle.pl_words.specs.Table.{row_of}
use Rattle.pl_words.specs.Steps.{said_of, taken}
use Rattle.pl_words.proofs.words.behind.Given as goal

abbrev pub invariant-loop-rest : goal.invariant-loop-rest
invariant-loop-rest l = record {
  same : rule.from l.verb 1 rule.nothing (map string_bytes l.words) ≡ rule.from l.verb l.place (said_of l.read) (map string_bytes l.rest);
  row : l.row ≡ row_of l.verb;
  small : l.place ≤ taken (said_of l.read) + 1;
}

abbrev pub decreases-loop-rest : goal.decreases-loop-rest
decreases-loop-rest l = length l.rest
