use Rattle.std.proofs.Common.{◌≡◌, ◌+◌, ◌*◌, [], drop}
use Rattle.pl_forms.specs.Forms.{IsForm}
use Rattle.pl_normal.specs.Normal.{made_of}
use Rattle.pl_normal.specs.Putting.{put_parts, put_atom, AllForms}
use Rattle.pl_normal.proofs.putting.+putting.Given as goal

abbrev pub invariant-put_form-loop-i : goal.invariant-put_form-loop-i
invariant-put_form-loop-i l = record {
  so_far : put_parts (λ a k. put_atom l.fresh l.solved l.depth a k) l.parts (record { parts = []; constant = l.form.constant }) (made_of l.initial.atoms.items [])
      ≡ put_parts (λ a k. put_atom l.fresh l.solved l.depth a k) (drop l.i l.parts) l.sum (made_of l.atoms.items []);
  is_form : IsForm l.sum;
  operands : AllForms l.atoms.items;
}

abbrev pub decreases-put_form : goal.decreases-put_form
decreases-put_form l = 4 * l.depth + 3

abbrev pub decreases-put_atom : goal.decreases-put_atom
decreases-put_atom l = 4 * l.depth + 2

abbrev pub decreases-put_newer : goal.decreases-put_newer
decreases-put_newer l = 4 * l.depth + 5

abbrev pub decreases-put_inside : goal.decreases-put_inside
decreases-put_inside l = 4 * l.depth + 4
