use Rattle.std.proofs.Common.{◌≡◌, map, take}
use Rattle.pl_linear.specs.Bounds.{bound_at}
use Rattle.pl_linear.proofs.finding.cert.Given as goal

abbrev pub invariant-loop-place : goal.invariant-loop-place
invariant-loop-place l = l.items.items ≡ map (λ i. (bound_at l.bounds i).item) (take l.place-index l.places)
