use Rattle.std.proofs.Common.{◌≡◌, ◌++◌, drop}
use Rattle.std.specs.Prelude.{flat_map}
use Rattle.pl_report.specs.Lines as text
use Rattle.pl_report.proofs.places.put_others.Given as goal

abbrev pub invariant-loop-node : goal.invariant-loop-node
invariant-loop-node l = l.words.items ++ flat_map text.next_node (drop l.node-index l.others) ≡ l.fn.words.items ++ flat_map text.next_node l.fn.others
