use Rattle.std.proofs.Common.{◌≡◌, ◌∙◌, ap, sym, refl, le_refl, Some, length, slice_get}
use Rattle.std.proofs.lemmas.Bool.{eq-eqb}
use Rattle.std.proofs.lemmas.List.{drop_all}
use Rattle.std.proofs.lemmas.Option.{slice_get_read, slice_get_past}
use Rattle.pl_forms.specs.declared.equation.Solution.{Solution}
use Rattle.pl_forms.specs.Equations.{named}
use Rattle.pl_linear.proofs.CertificateLaws.{named_at}
use Rattle.pl_linear.proofs.certificate.place_of.Goals as goal

pub returns-then-eqs-i : goal.returns-then-eqs-i
returns-then-eqs-i c =
    let at : slice_get c.args.eqs.now c.loop-i.i ≡ Some c.index-eqs-i.result = slice_get_read c.args.eqs.now (length c.args.eqs.now) c.loop-i.i c.index-eqs-i.result refl c.loop-i-test.true c.index-eqs-i.is in
    let same : c.index-eqs-i.result.fact ≡ c.args.fact = ap (λ (s : Solution). s.fact) c.index-eqs-i.is ∙ c.if-eqs-i.true in
    c.loop-i.invariant
    ∙ named_at c.args.fact c.args.eqs.now c.loop-i.i c.index-eqs-i.result at (eq-eqb c.index-eqs-i.result.fact c.args.fact same)
    ∙ sym at

pub returns : goal.returns
returns c =
    c.loop-i.invariant
    ∙ ap (named c.args.fact) (drop_all c.loop-i.i c.args.eqs.now c.loop-i-test.false)
    ∙ sym (slice_get_past c.args.eqs.now (length c.args.eqs.now) (le_refl (length c.args.eqs.now)))
