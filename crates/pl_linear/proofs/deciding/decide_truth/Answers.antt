use Rattle.std.proofs.Common.{◌≡◌, true, false, Ok, rules}
use Rattle.pl_forms.specs.Assuming.{less_one}
use Rattle.pl_linear.proofs.Witnessed.{false_witness, true_witness}
use Rattle.pl_linear.proofs.deciding.decide_truth.Goals as goal

pub returns-then-not-truth-clause-witness : goal.returns-then-not-truth-clause-witness
returns-then-not-truth-clause-witness c =
    let no : c.args.truth ≡ false = search rules in
    rw no (false_witness c.args.facts.now.list c.args.form.now c.decide_plain.result c.decide_plain.ensures.witness)

pub returns-clause-witness : goal.returns-clause-witness
returns-clause-witness c =
    let yes : c.args.truth ≡ true = search rules in
    let less : less_one c.args.form.now ≡ Ok c.in_ok-less.less = search rules in
    rw yes (true_witness c.args.facts.now.list c.args.form.now c.in_ok-less.less c.decide_plain-2.result less c.decide_plain-2.ensures.witness)
