use Rattle.std.proofs.Common.{◌≡◌, true, Ok, rules}
use Rattle.pl_forms.specs.Equations.{reduced}
use Rattle.pl_forms.specs.Terms.{terms}
use Rattle.pl_linear.specs.Decisions.{is_nought}
use Rattle.pl_linear.proofs.Witnessed.{eqs_witness}
use Rattle.pl_linear.proofs.deciding.decide_equal.Goals as goal

pub returns-then-is_nought-clause-witness : goal.returns-then-is_nought-clause-witness
returns-then-is_nought-clause-witness c =
    let leads : reduced c.args.eqs.now.solved c.args.form.now ≡ Ok c.in_ok-reduced.reduced.form = search rules in
    let added : c.in_ok-reduced.reduced.terms ≡ terms c.args.eqs.now.solved c.args.form.now = search rules in
    let yes : is_nought c.in_ok-reduced.reduced.form ≡ true = search rules in
    rw c.in_ok-alone.ensures (eqs_witness c.args.eqs.now.solved c.args.facts.now.list c.args.form.now c.in_ok-reduced.reduced.form c.in_ok-reduced.reduced.terms c.requires.named c.requires.eqs c.requires.form leads added yes)
