use Rattle.pl_linear.specs.Bounds.{forms_of}
use Rattle.pl_linear.proofs.Outcomes.{some_first, froms_within, tos_within, weights_small, places_within, done_by, point_by}
use Rattle.pl_linear.proofs.finding.outcome.Goals as goal

pub solve-requires-clause-froms : goal.solve-requires-clause-froms
solve-requires-clause-froms c = froms_within (forms_of c.args.bounds.now) c.args.nodes.now c.args.edges.now c.requires.nodes c.requires.edges

pub solve-requires-clause-tos : goal.solve-requires-clause-tos
solve-requires-clause-tos c = tos_within (forms_of c.args.bounds.now) c.args.nodes.now c.args.edges.now c.requires.nodes c.requires.edges

pub solve-requires-clause-sizes : goal.solve-requires-clause-sizes
solve-requires-clause-sizes c = weights_small c.args.bounds.now c.args.edges.now c.requires.forms c.requires.edges

pub cert-requires : goal.cert-requires
cert-requires c = rw c.as_slice.ensures (places_within c.args.bounds.now c.args.edges.now c.in_ok-places.field-0 _ c.in-Cycle.is c.requires.edges c.in_ok-places.ensures.cycle)

pub point-requires-clause-some : goal.point-requires-clause-some
point-requires-clause-some c = some_first (forms_of c.args.bounds.now) c.args.nodes.now c.requires.nodes

pub returns-in_ok-cert-in-Cycle-clause-exact : goal.returns-in_ok-cert-in-Cycle-clause-exact
returns-in_ok-cert-in-Cycle-clause-exact c = done_by (forms_of c.args.bounds.now) c.args.edges.now c.in_ok-places.field-0 c.in-Cycle.places c.in-Cycle.is c.requires.edges c.in_ok-places.ensures.unsolvable

pub returns-in_ok-point-in-Potentials-clause-exact : goal.returns-in_ok-point-in-Potentials-clause-exact
returns-in_ok-point-in-Potentials-clause-exact c =
    let values = rw c.as_slice-in-Potentials.ensures at c.in_ok-point-in-Potentials.ensures.values in
    rw c.of.ensures (point_by (forms_of c.args.bounds.now) c.args.nodes.now c.args.edges.now c.in_ok-places.field-0 c.in-Potentials.distances c.in_ok-point-in-Potentials.point.items c.in-Potentials.is c.requires.nodes c.requires.edges c.in_ok-places.ensures.distances c.in_ok-places.ensures.meets c.in_ok-point-in-Potentials.ensures.nodes values)
