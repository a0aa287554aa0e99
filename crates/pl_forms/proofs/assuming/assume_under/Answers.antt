use Rattle.std.proofs.Common.{◌≡◌, ◌∙◌, ◌≤◌, Some, None, All, length}
use Rattle.pl_forms.specs.Facts.{IsFact}
use Rattle.pl_forms.proofs.AssumingLaws.{assumes_forms, assumes_few}
use Rattle.pl_forms.proofs.assuming.assume_under.Goals as goal

pub returns-clause-forms : goal.returns-clause-forms
returns-clause-forms c =
    let before : c.into_vec-list.result.items ≡ c.args.facts.now.list = c.into_vec-list.ensures ∙ c.replace-list.ensures.value in
    let are : All IsFact c.into_vec-list.result.items = rw before c.requires.facts in
    let added = rw c.in_ok-copy.ensures at c.add_assumed-outcome.ensures in
    rw c.of-2.ensures (assumes_forms c.into_vec-list.result.items c.add_assumed-outcome.new.facts.items None (Some c.args.guard.now) _ c.args.holds c.add_assumed-outcome.result are c.requires.guard c.requires.goal added)

pub returns-clause-few : goal.returns-clause-few
returns-clause-few c =
    let before : c.into_vec-list.result.items ≡ c.args.facts.now.list = c.into_vec-list.ensures ∙ c.replace-list.ensures.value in
    let few : length c.into_vec-list.result.items ≤ 1024 = rw before c.requires.few in
    let added = rw c.in_ok-copy.ensures at c.add_assumed-outcome.ensures in
    rw c.of-2.ensures (assumes_few c.into_vec-list.result.items c.add_assumed-outcome.new.facts.items None (Some c.args.guard.now) _ c.args.holds c.add_assumed-outcome.result few added)
