use Rattle.std.proofs.Common.{◌≡◌, ◌∙◌, ◌+◌, ◌∷◌, sym, ap, length, map, drop}
use Rattle.std.specs.List.{slice_get}
use Rattle.std.specs.Option.{option_map}
use Rattle.std.proofs.lemmas.Option.{slice_get-map}
use Rattle.c_forms.specs.Plain.{plain_fun}
use Rattle.c_forms.specs.Text.{prototype_text}
use Rattle.c_rules.specs.Groups.{prototype_breaches, prototypes_breaches, put}
use Rattle.c_rules.specs.Least.{earlier, least}
use Rattle.c_rules.specs.Seen.{taken_in}
use Rattle.c_rules.specs.Tables.{known_of}
use Rattle.c_rules.proofs.Drops.{dropped, fold_end, slice_get_drop, drop-drop_one}
use Rattle.c_rules.proofs.Leasts.{fold_least}
use Rattle.c_rules.proofs.prototypes.look_prototypes.Goals as goal

pub loop-i-preserved : goal.loop-i-preserved
loop-i-preserved c =
    let list = c.args.list.now in
    let funs = map plain_fun c.args.funs.now in
    let i = c.loop-i.i in
    let x = c.index-list-i.result in
    let structs = (known_of c.args.tables.now).structs in
    let taken = taken_in c.loop-i.seen in
    let here = c.loop-i.part.end in
    let behind = c.in_ok-next.next.end in
    let rest = drop (i + 1) list in
    let parts : drop i list ≡ x ∷ rest = dropped list i x c.loop-i-test.true c.index-list-i.is in
    let left = prototypes_breaches structs (taken_in c.put.new.self) behind rest (drop (i + 1) funs) in
    let fun = ap (option_map plain_fun) c.fun_at.ensures ∙ sym (slice_get-map plain_fun c.args.funs.now i) ∙ sym (slice_get_drop funs i) in
    record {
      end = fold_end prototype_text x rest (drop i list) here behind _ parts c.in_ok-next.ensures.end c.loop-i.invariant.end;
      least = ap (λ r. earlier r (least left)) c.earlier.ensures
          ∙ fold_least c.loop-i.part.least c.in_ok-next.next.least _ (prototype_breaches structs taken here x (slice_get (drop i funs) 0))
          (prototypes_breaches structs (put x.name taken) (here + length (prototype_text x)) rest (drop 1 (drop i funs)))
          (prototypes_breaches structs taken here (drop i list) (drop i funs)) left
          (ap (λ xs. prototypes_breaches structs taken here xs (drop i funs)) parts)
          (c.in_ok-next.ensures.least ∙ ap (λ f. least (prototype_breaches structs taken here x f)) fun)
          (ap (λ t. prototypes_breaches structs t behind rest (drop (i + 1) funs)) c.in_ok-put.ensures ∙ ap (λ k. prototypes_breaches structs (put x.name taken) k rest (drop (i + 1) funs)) c.in_ok-next.ensures.end
          ∙ ap (prototypes_breaches structs (put x.name taken) (here + length (prototype_text x)) rest) (sym (drop-drop_one funs i)))
          c.loop-i.invariant.least;
    }
