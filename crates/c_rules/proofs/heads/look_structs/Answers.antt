use Rattle.std.proofs.Common.{◌≡◌, ◌∙◌, ◌+◌, ◌∷◌, sym, ap, length, map, drop}
use Rattle.c_forms.specs.Text.{struct_text}
use Rattle.c_rules.specs.Groups.{struct_breaches, structs_breaches, put, put_all}
use Rattle.c_rules.specs.Least.{earlier, least}
use Rattle.c_rules.specs.Seen.{taken_in}
use Rattle.c_rules.specs.Tables.{known_of}
use Rattle.c_rules.proofs.Drops.{dropped, fold_end}
use Rattle.c_rules.proofs.Leasts.{fold_least}
use Rattle.c_rules.proofs.heads.look_structs.Goals as goal

pub loop-d-preserved : goal.loop-d-preserved
loop-d-preserved c =
    let list = c.args.list.now in
    let i = c.loop-d.d-index in
    let x = c.d-item.result in
    let structs = (known_of c.args.tables.now).structs in
    let taken = taken_in c.loop-d.seen in
    let here = c.loop-d.part.end in
    let behind = c.in_ok-next.next.end in
    let rest = drop (i + 1) list in
    let parts : drop i list ≡ x ∷ rest = dropped list i x c.loop-d-test.true c.d-item.is in
    let left = structs_breaches structs (taken_in c.put.new.self) behind rest in
    record {
      end = fold_end struct_text x rest (drop i list) here behind _ parts c.in_ok-next.ensures.end c.loop-d.invariant.end;
      least = ap (λ r. earlier r (least left)) c.earlier.ensures
          ∙ fold_least c.loop-d.part.least c.in_ok-next.next.least _ (struct_breaches structs taken here x) (structs_breaches structs (put x.name taken) (here + length (struct_text x)) rest)
          (structs_breaches structs taken here (drop i list)) left
          (ap (structs_breaches structs taken here) parts) c.in_ok-next.ensures.least
          (ap (λ t. structs_breaches structs t behind rest) c.in_ok-put.ensures ∙ ap (λ k. structs_breaches structs (put x.name taken) k rest) c.in_ok-next.ensures.end)
          c.loop-d.invariant.least;
      seen = ap (put_all (map (λ d. d.name) rest)) c.in_ok-put.ensures ∙ ap (λ xs. put_all (map (λ d. d.name) xs) taken) (sym parts) ∙ c.loop-d.invariant.seen;
    }
