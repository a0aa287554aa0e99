use Rattle.std.proofs.Common.{◌≡◌, ◌∙◌, ◌+◌, ◌&&◌, sym, ap, not, map, drop, length, arith}
use Rattle.std.specs.Option.{is_some}
use Rattle.std.specs.List.{slice_get}
use Rattle.std.proofs.lemmas.List.{drop_all}
use Rattle.pl_syntax.specs.Plain.{plain_init}
use Rattle.pl_syntax.specs.StmtRules.{is_field, same_fields}
use Rattle.pl_types.proofs.Drops.{dropped}
use Rattle.pl_types.proofs.ZipLaws.{flip, fields_step, fields_end, lent_some}
use Rattle.pl_types.proofs.calls.same_fields.Goals as goal

pub loop-i-preserved : goal.loop-i-preserved
loop-i-preserved c =
    let inits = c.args.inits.now in
    let fields = c.args.fields.now in
    let i = c.loop-i.i in
    let x = c.index-inits-i.result in
    let step = fields_step (drop (i + 1) inits) (drop i inits) fields i x c.is_field.result (dropped inits i x c.loop-i-test.true c.index-inits-i.is)
    (c.is_field.ensures ∙ ap (is_field x.name) c.binder_at.ensures) in
    sym (step ∙ ap (λ b. b && same_fields (drop (i + 1) fields) (map plain_init (drop (i + 1) inits))) c.if-not-is_field.false) ∙ c.loop-i.invariant

pub returns-then-not-is_field : goal.returns-then-not-is_field
returns-then-not-is_field c =
    let inits = c.args.inits.now in
    let fields = c.args.fields.now in
    let i = c.loop-i.i in
    let x = c.index-inits-i.result in
    let step = fields_step (drop (i + 1) inits) (drop i inits) fields i x c.is_field.result (dropped inits i x c.loop-i-test.true c.index-inits-i.is)
    (c.is_field.ensures ∙ ap (is_field x.name) c.binder_at.ensures) in
    sym (step ∙ ap (λ b. b && same_fields (drop (i + 1) fields) (map plain_init (drop (i + 1) inits))) c.if-not-is_field.true) ∙ c.loop-i.invariant

pub returns : goal.returns
returns c =
    let inits = c.args.inits.now in
    let fields = c.args.fields.now in
    let i = c.loop-i.i in
    let at : i ≡ length inits = omega arith in
    let none : c.is_none.result ≡ not (is_some (slice_get fields i)) =
    flip (is_some c.binder_at-2.result) c.is_none.result c.is_none.ensures ∙ ap not (sym (lent_some c.binder_at-2.result) ∙ ap is_some (c.binder_at-2.ensures ∙ ap (slice_get fields) (sym at))) in
    none ∙ sym (fields_end (drop i inits) fields i (drop_all i inits c.loop-i-test.false)) ∙ c.loop-i.invariant
