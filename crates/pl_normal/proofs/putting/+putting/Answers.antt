use Rattle.std.proofs.Common.{◌≤◌, ◌<◌, ◌∙◌, ap, [], length}
use Rattle.std.proofs.lemmas.List.{drop_all}
use Rattle.std.proofs.lemmas.Result.{err_from_is_err_and}
use Rattle.pl_forms.proofs.FormMerging.{blank}
use Rattle.pl_normal.specs.Normal.{made_of}
use Rattle.pl_normal.specs.Putting.{put_parts, put_atom}
use Rattle.pl_normal.proofs.PuttingLaws.{nonzero_at, sum_refused}
use Rattle.pl_normal.proofs.putting.+putting.Goals as goal

pub put_form-add_part-requires-clause-some : goal.put_form-add_part-requires-clause-some
put_form-add_part-requires-clause-some t c =
    let within : c.loop-i.i < length c.args.form.now.parts = rw c.as_slice-parts.ensures at c.loop-i-test.true in
    rw c.as_slice-parts.ensures (nonzero_at 0 c.loop-i.i c.args.form.now.parts _ c.requires.form.ascends within)

pub put_form-returns-in_err-sum-clause-exact : goal.put_form-returns-in_err-sum-clause-exact
put_form-returns-in_err-sum-clause-exact t c =
    let p = err_from_is_err_and c.from_residual-in_err-sum.result c.from_residual-in_err-sum.ensures.1 in
    let so_far = rw c.as_slice-parts.ensures at c.loop-i.invariant.so_far in
    let within : c.loop-i.i < length c.args.form.now.parts = rw c.as_slice-parts.ensures at c.loop-i-test.true in
    let stands = rw c.as_slice-parts.ensures at c.in_ok-other.ensures.exact in
    let refused = rw c.as_slice-parts.ensures at c.in_err-sum.ensures.exact in
    rw (p.1, p.2) (sum_refused _ (λ a k. put_atom c.args.fresh.now c.args.solved.now c.args.depth a k) c.loop-i.i c.args.form.now.parts blank _ c.loop-i.sum c.in_ok-other.other (made_of c.loop-i.atoms.items []) (made_of c.put_atom.new.atoms.items []) (made_of c.put_atom.new.atoms.items []) within so_far stands refused)

pub put_form-returns-clause-exact : goal.put_form-returns-clause-exact
put_form-returns-clause-exact t c =
    let so_far = rw c.as_slice-parts.ensures at c.loop-i.invariant.so_far in
    let past : length c.args.form.now.parts ≤ c.loop-i.i = rw c.as_slice-parts.ensures at c.loop-i-test.false in
    so_far ∙ ap (λ ps. put_parts (λ a k. put_atom c.args.fresh.now c.args.solved.now c.args.depth a k) ps c.loop-i.sum (made_of c.loop-i.atoms.items [])) (drop_all c.loop-i.i c.args.form.now.parts past)
