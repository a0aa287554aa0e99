use Rattle.std.proofs.Common.{◌≡◌, drop, length, ◌+◌, replicate, pos}
use Rattle.pl_linear.specs.Certificates.{add_items}
use Rattle.pl_linear.proofs.certificate.add_up.Given as goal

abbrev pub invariant-loop-item : goal.invariant-loop-item
invariant-loop-item l = record {
  long : length l.total.items ≡ l.atoms + 1;
  so_far : add_items l.eqs l.facts l.goal l.cert.items (replicate (l.atoms + 1) (pos 0)) ≡ add_items l.eqs l.facts l.goal (drop l.item-index l.cert.items) l.total.items;
}
