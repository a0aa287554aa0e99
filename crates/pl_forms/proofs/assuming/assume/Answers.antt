use Rattle.std.proofs.Common.{None, ◌≡◌, ◌∙◌, ◌≤◌, All, length}
use Rattle.pl_forms.specs.Facts.{IsFact}
use Rattle.pl_forms.proofs.AssumingLaws.{assumes_met, assumes_forms, assumes_few, assumes_within}
use Rattle.pl_forms.proofs.assuming.assume.Goals as goal

pub returns-clause-law : goal.returns-clause-law
returns-clause-law c =
    let before : c.into_vec-list.result.items ≡ c.args.facts.now.list = c.into_vec-list.ensures ∙ c.replace-list.ensures.value in
    rw (c.of-2.ensures, ← before) (assumes_met c.into_vec-list.result.items c.add_assumed-outcome.new.facts.items c.in_ok-own_label.field-0 _ c.args.holds c.add_assumed-outcome.result c.add_assumed-outcome.ensures)

pub returns-clause-forms : goal.returns-clause-forms
returns-clause-forms c =
    let before : c.into_vec-list.result.items ≡ c.args.facts.now.list = c.into_vec-list.ensures ∙ c.replace-list.ensures.value in
    let are : All IsFact c.into_vec-list.result.items = rw before c.requires.facts in
    rw c.of-2.ensures (assumes_forms c.into_vec-list.result.items c.add_assumed-outcome.new.facts.items c.in_ok-own_label.field-0 None _ c.args.holds c.add_assumed-outcome.result are tt c.requires.goal c.add_assumed-outcome.ensures)

pub returns-clause-few : goal.returns-clause-few
returns-clause-few c =
    let before : c.into_vec-list.result.items ≡ c.args.facts.now.list = c.into_vec-list.ensures ∙ c.replace-list.ensures.value in
    let few : length c.into_vec-list.result.items ≤ 1024 = rw before c.requires.few in
    rw c.of-2.ensures (assumes_few c.into_vec-list.result.items c.add_assumed-outcome.new.facts.items c.in_ok-own_label.field-0 None _ c.args.holds c.add_assumed-outcome.result few c.add_assumed-outcome.ensures)

pub returns-clause-atoms : goal.returns-clause-atoms
returns-clause-atoms c =
    let before : c.into_vec-list.result.items ≡ c.args.facts.now.list = c.into_vec-list.ensures ∙ c.replace-list.ensures.value in
    rw (c.of-2.ensures, ← before) (assumes_within c.into_vec-list.result.items c.add_assumed-outcome.new.facts.items c.in_ok-own_label.field-0 _ c.args.holds c.add_assumed-outcome.result c.add_assumed-outcome.ensures)
