use Rattle.std.proofs.Common.{◌≡◌, Ok, rules}
use Rattle.pl_linear.specs.Duty.{asked}
use Rattle.pl_linear.specs.Bounds.{forms_of, AreGiven}
use Rattle.pl_linear.proofs.Settling.{few_forms, few_nodes}
use Rattle.pl_linear.proofs.Shown.{settled_done}
use Rattle.pl_linear.proofs.Witnessed.{cert_witness}
use Rattle.pl_linear.proofs.below.decide_below.Goals as goal

pub settle-requires-clause-few : goal.settle-requires-clause-few
settle-requires-clause-few c =
    let exact : asked c.args.eqs.now.solved c.args.facts.now.list c.args.goal.now ≡ Ok (forms_of c.in_ok-list.list.items) = search rules in
    rw c.deref.ensures.value (few_forms c.args.eqs.now.solved c.args.facts.now.list c.args.goal.now c.in_ok-list.list.items c.requires.eqs c.requires.facts c.requires.few exact)

pub settle-requires-clause-nodes : goal.settle-requires-clause-nodes
settle-requires-clause-nodes c =
    let exact : asked c.args.eqs.now.solved c.args.facts.now.list c.args.goal.now ≡ Ok (forms_of c.in_ok-list.list.items) = search rules in
    rw c.deref.ensures.value (few_nodes c.args.eqs.now.solved c.args.facts.now.list c.args.goal.now c.in_ok-list.list.items c.requires.eqs c.requires.facts c.requires.few exact)

pub returns-in-Cert : goal.returns-in-Cert
returns-in-Cert c =
    let asks : asked c.args.eqs.now.solved c.args.facts.now.list c.args.goal.now ≡ Ok (forms_of c.in_ok-list.list.items) = search rules in
    let is = rw c.deref.ensures.value at (settled_done c.in_ok-cert.field-0 c.in-Cert.cert _ c.in-Cert.is c.in_ok-cert.ensures.exact) in
    let given : AreGiven c.args.eqs.now.solved c.args.facts.now.list c.args.goal.now c.in_ok-list.list.items = search rules in
    let cycle = rw c.deref.ensures.value at c.in_ok-cert.ensures.cycle in
    record {
      exact = rw (asks, c.in_ok-alone-in-Cert.ensures) is;
      witness = rw c.in_ok-alone-in-Cert.ensures (cert_witness c.args.eqs.now.solved c.args.facts.now.list c.args.goal.now c.in_ok-list.list.items c.in_ok-cert.field-0 c.in-Cert.cert c.in-Cert.is given cycle);
    }
