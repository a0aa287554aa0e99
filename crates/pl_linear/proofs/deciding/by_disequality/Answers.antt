use Rattle.std.proofs.Common.{◌≡◌, ◌∙◌, Ok, get_or, sym, ap}
use Rattle.pl_linear.proofs.Witnessed.{differs_witness}
use Rattle.pl_forms.specs.declared.fact.Fact.{Fact}
use Rattle.pl_forms.specs.Equations.{reduced}
use Rattle.pl_forms.specs.Terms.{between}
use Rattle.pl_linear.specs.Decisions.{done}
use Rattle.pl_linear.proofs.Matching.{match_within, match_fact, nothing_refused}
use Rattle.pl_linear.proofs.deciding.by_disequality.Goals as goal

pub bounds-list-place : goal.bounds-list-place
bounds-list-place c = rw c.as_slice-list.ensures (match_within c.args.eqs.now.solved c.args.reduct.now c.args.facts.now.list c.args.found c.requires.found)

pub terms_between-requires-clause-other : goal.terms_between-requires-clause-other
terms_between-requires-clause-other c =
    let within = match_within c.args.eqs.now.solved c.args.reduct.now c.args.facts.now.list c.args.found c.requires.found in
    rw c.as_slice-list.ensures ((c.requires.facts c.args.found.place c.index-list-place.result within).form)

pub returns-in-Err-clause-exact : goal.returns-in-Err-clause-exact
returns-in-Err-clause-exact c =
    let is : c.index-list-place.result ≡ get_or c.args.facts.now.list c.args.found.place c.index-list-place.result = rw c.as_slice-list.ensures at c.index-list-place.is in
    let known = match_fact c.args.eqs.now.solved c.args.reduct.now c.args.facts.now.list c.args.found c.index-list-place.result c.requires.found is in
    let there : reduced c.args.eqs.now.solved (get_or c.args.facts.now.list c.args.found.place c.index-list-place.result).form ≡ Ok known.form = sym (ap (λ (f : Fact). reduced c.args.eqs.now.solved f.form) is) ∙ known.leads in
    let leads = rw (c.as_slice.ensures, c.as_slice-list.ensures) at c.in-Err.ensures.exact in
    nothing_refused (reduced c.args.eqs.now.solved c.args.form.now) (reduced c.args.eqs.now.solved (get_or c.args.facts.now.list c.args.found.place c.index-list-place.result).form) c.args.reduct.now known.form (between c.args.eqs.now.solved c.args.found.same c.args.form.now (get_or c.args.facts.now.list c.args.found.place c.index-list-place.result).form) c.in-Err.error (λ o. o ≡ done) c.requires.reduct there leads

pub returns-in_ok-alone-in-Ok-clause-witness : goal.returns-in_ok-alone-in-Ok-clause-witness
returns-in_ok-alone-in-Ok-clause-witness c =
    let is : c.index-list-place.result ≡ get_or c.args.facts.now.list c.args.found.place c.index-list-place.result = rw c.as_slice-list.ensures at c.index-list-place.is in
    let leads = rw (c.as_slice.ensures, c.as_slice-list.ensures) at c.in-Ok.ensures.exact in
    let terms : c.in-Ok.terms ≡ between c.args.eqs.now.solved c.args.found.same c.args.form.now c.index-list-place.result.form = leads ∙ ap (λ (f : Fact). between c.args.eqs.now.solved c.args.found.same c.args.form.now f.form) (sym is) in
    rw c.in_ok-alone-in-Ok.ensures (differs_witness c.args.eqs.now.solved c.args.facts.now.list c.args.form.now c.args.reduct.now c.args.found c.index-list-place.result c.in-Ok.terms c.requires.named c.requires.eqs c.requires.form c.requires.facts c.requires.reduct c.requires.found is terms)
