use Rattle.std.proofs.Common.{◌≡◌, Ok, rules}
use Rattle.pl_linear.specs.Duty.{asked}
use Rattle.pl_linear.specs.Bounds.{forms_of}
use Rattle.pl_linear.proofs.Settling.{few_forms, few_nodes, found_cert}
use Rattle.pl_linear.proofs.finding.find_with.Goals as goal

pub settle-requires-clause-few : goal.settle-requires-clause-few
settle-requires-clause-few c =
    let exact : asked c.args.eqs.now.solved c.args.facts.now.list c.args.goal.now ≡ Ok (forms_of c.in_ok-list.list.items) = search rules in
    rw c.deref.ensures.value (few_forms c.args.eqs.now.solved c.args.facts.now.list c.args.goal.now c.in_ok-list.list.items c.requires.eqs c.requires.facts c.requires.few exact)

pub settle-requires-clause-nodes : goal.settle-requires-clause-nodes
settle-requires-clause-nodes c =
    let exact : asked c.args.eqs.now.solved c.args.facts.now.list c.args.goal.now ≡ Ok (forms_of c.in_ok-list.list.items) = search rules in
    rw c.deref.ensures.value (few_nodes c.args.eqs.now.solved c.args.facts.now.list c.args.goal.now c.in_ok-list.list.items c.requires.eqs c.requires.facts c.requires.few exact)

pub returns-clause-certificate : goal.returns-clause-certificate
returns-clause-certificate c =
    let given = rw (c.as_slice-solutions.ensures, c.as_slice.ensures) at c.in_ok-list.ensures.given in
    let cycle = rw c.deref.ensures.value at c.in_ok-settle.ensures.cycle in
    found_cert c.args.eqs.now.solved c.args.facts.now.list c.args.goal.now c.in_ok-list.list.items c.in_ok-settle.field-0 given cycle
