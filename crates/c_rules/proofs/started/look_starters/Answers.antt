use Rattle.std.proofs.Common.{◌≡◌, ◌∙◌, ◌+◌, ◌∷◌, sym, ap, length, map, drop}
use Rattle.std.specs.List.{slice_get}
use Rattle.c_forms.specs.Text.{starter_text}
use Rattle.c_rules.specs.Groups.{starter_breaches, starters_breaches}
use Rattle.c_rules.specs.Least.{earlier, least}
use Rattle.c_rules.proofs.Drops.{dropped, fold_end, slice_get_drop, drop-drop_one}
use Rattle.c_rules.proofs.Leasts.{fold_least}
use Rattle.c_rules.proofs.started.look_starters.Goals as goal

pub loop-i-preserved : goal.loop-i-preserved
loop-i-preserved c =
    let list = c.args.list.now in
    let heads = map (λ h. h.now) c.args.heads.now in
    let i = c.loop-i.i in
    let x = c.index-list-i.result in
    let here = c.loop-i.part.end in
    let behind = c.look_starter-next.result.end in
    let rest = drop (i + 1) list in
    let parts : drop i list ≡ x ∷ rest = dropped list i x c.loop-i-test.true c.index-list-i.is in
    let left = starters_breaches behind rest (drop (i + 1) heads) in
    let head = c.head_at.ensures ∙ sym (slice_get_drop heads i) in
    record {
      end = fold_end starter_text x rest (drop i list) here behind _ parts c.look_starter-next.ensures.end c.loop-i.invariant.end;
      least = ap (λ r. earlier r (least left)) c.earlier.ensures
          ∙ fold_least c.loop-i.part.least c.look_starter-next.result.least _ (starter_breaches here x (slice_get (drop i heads) 0))
          (starters_breaches (here + length (starter_text x)) rest (drop 1 (drop i heads)))
          (starters_breaches here (drop i list) (drop i heads)) left
          (ap (λ xs. starters_breaches here xs (drop i heads)) parts)
          (c.look_starter-next.ensures.least ∙ ap (λ h. least (starter_breaches here x h)) head)
          (ap (λ k. starters_breaches k rest (drop (i + 1) heads)) c.look_starter-next.ensures.end
          ∙ ap (starters_breaches (here + length (starter_text x)) rest) (sym (drop-drop_one heads i)))
          c.loop-i.invariant.least;
    }
