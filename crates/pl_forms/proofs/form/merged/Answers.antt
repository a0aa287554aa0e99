use Rattle.std.proofs.Common.{rules, arith, ◌∙◌, sym, inl, inr, length, ◌≤◌, ◌⊎◌, ◌+ℤ◌, w64}
use mir.Val.{SFits}
use Rattle.std.proofs.lemmas.Int.{to_z-of_z}
use Rattle.pl_forms.proofs.FormMerging.{step_equal, rest_after, at}
use Rattle.pl_forms.proofs.form.merged.Goals as goal
use Rattle.pl_forms.proofs.form.merged.Goals.{then-loop-i-test+else-j-other, else-loop-i-test}

pub loop-i-preserved : goal.loop-i-preserved
loop-i-preserved c =
    let first : SFits w64 (at c.args.one.now c.loop-i.i).coeff = search rules in
    let second : SFits w64 (at c.args.other.now c.loop-i.j).coeff = search rules in
    let both : SFits w64 ((at c.args.one.now c.loop-i.i).coeff +ℤ (at c.args.other.now c.loop-i.j).coeff) = search rules in
    record {
      first_within = omega arith;
      second_within = omega arith;
      so_far = c.loop-i.invariant.so_far ∙ step_equal c.args.one.now c.args.other.now c.loop-i.out.items c.put.new.out.items c.loop-i.i c.loop-i.j (omega arith) (omega arith) (omega arith) (omega arith) (simp to_z-of_z at c.in_ok-put.ensures);
    }

pub returns : goal.returns
returns c =
    let over : (length c.args.one.now ≤ c.loop-i.i) ⊎ (length c.args.other.now ≤ c.loop-i.j) = elim c.loop-i-test.branch [ then-loop-i-test+else-j-other w ↦ inr (omega arith) | else-loop-i-test w ↦ inl (omega arith) ] in
    rw (c.in_ok-extend_from_slice-2.ensures.items, c.in_ok-extend_from_slice.ensures.items)
    (sym (c.loop-i.invariant.so_far ∙ rest_after c.args.one.now c.args.other.now c.loop-i.out.items c.loop-i.i c.loop-i.j (omega arith) (omega arith) over))
