use Rattle.std.proofs.Common.{◌≡◌, true, false, Ok, None, IfOk, ap, rules}
use Rattle.pl_forms.specs.Goals.{goal_of, Truth}
use Rattle.pl_forms.specs.Assuming.{assumed, KeepsWithin}
use Rattle.pl_linear.specs.declared.found.Decided.TheVariants.{Done}
use Rattle.pl_linear.specs.Witnesses.{IsWitness, IfDone}
use Rattle.pl_linear.proofs.Witnessed.{joined_witness, either_witness, when_witness, done_is}
use Rattle.pl_linear.proofs.deciding.+decide.Goals as goal

pub returns-in_ok-join-in-Ok-Done-clause-witness : goal.returns-in_ok-join-in-Ok-Done-clause-witness
returns-in_ok-join-in-Ok-Done-clause-witness t c =
    let is : c.in-Ok-Done.field-0 ≡ Done c.in-Ok-Done.groups = search rules in
    let shown : IfDone c.in-Ok-Done.field-0 (IsWitness c.args.facts.now.list (goal_of c.in-Both.first.value)) = search rules in
    let first = done_is (IsWitness c.args.facts.now.list (goal_of c.in-Both.first.value)) c.in-Ok-Done.field-0 c.in-Ok-Done.groups is shown in
    let rest : IfDone c.in_ok-rest-in-Ok-Done.rest (IsWitness c.args.facts.now.list (goal_of c.in-Both.second.value)) = search rules in
    let whole = ap goal_of c.in-Both.is in
    rw (c.in_ok-join-in-Ok-Done.ensures, whole) (joined_witness c.args.facts.now.list (goal_of c.in-Both.first.value) (goal_of c.in-Both.second.value) c.in-Ok-Done.groups c.in_ok-rest-in-Ok-Done.rest first rest)

pub returns-in_ok-assume-in-Either-clause-witness : goal.returns-in_ok-assume-in-Either-clause-witness
returns-in_ok-assume-in-Either-clause-witness t c =
    let whole = ap goal_of c.in-Either.is in
    let known : assumed c.args.facts.now.list None None (goal_of c.in-Either.first.value) false ≡ Ok c.assume.new.facts.list = search rules in
    let kept : KeepsWithin c.args.facts.now.list c.assume.new.facts.list (goal_of c.in-Either.first.value) = search rules in
    let shown : IfOk c.decide-in-Either.result (λ x. IfDone x (IsWitness c.assume.new.facts.list (goal_of c.in-Either.second.value))) = search rules in
    rw whole (either_witness c.args.facts.now.list c.assume.new.facts.list (goal_of c.in-Either.first.value) (goal_of c.in-Either.second.value) c.decide-in-Either.result known kept shown)

pub returns-in_ok-assume-in-When-clause-witness : goal.returns-in_ok-assume-in-When-clause-witness
returns-in_ok-assume-in-When-clause-witness t c =
    let whole = ap goal_of c.in-When.is in
    let known : assumed c.args.facts.now.list None None (Truth c.in-When.guard true) true ≡ Ok c.assume-in-When.new.facts.list = search rules in
    let kept : KeepsWithin c.args.facts.now.list c.assume-in-When.new.facts.list (Truth c.in-When.guard true) = search rules in
    let shown : IfOk c.decide-in-When.result (λ x. IfDone x (IsWitness c.assume-in-When.new.facts.list (goal_of c.in-When.inner.value))) = search rules in
    rw whole (when_witness c.args.facts.now.list c.assume-in-When.new.facts.list c.in-When.guard (goal_of c.in-When.inner.value) c.decide-in-When.result known kept shown)
