use Rattle.std.proofs.Common.{◌≡◌, ◌∙◌, ◌+◌, ◌∷◌, ap, length, map, drop}
use Rattle.c_forms.specs.Plain.{plain_fun}
use Rattle.c_forms.specs.Text.{fun_text}
use Rattle.c_rules.specs.Groups.{fun_breaches, funs_breaches}
use Rattle.c_rules.specs.Least.{earlier, least}
use Rattle.c_rules.specs.Tables.{known_of}
use Rattle.c_rules.proofs.Drops.{dropped, fold_end}
use Rattle.c_rules.proofs.Leasts.{fold_least}
use Rattle.c_rules.proofs.funs.look_funs.Goals as goal

pub loop-i-preserved : goal.loop-i-preserved
loop-i-preserved c =
    let list = c.args.list.now in
    let i = c.loop-i.i in
    let x = plain_fun c.index-list-i.result in
    let known = known_of c.args.tables.now in
    let count = c.args.count in
    let here = c.loop-i.part.end in
    let behind = c.in_ok-next.next.end in
    let all = map plain_fun (drop i list) in
    let rest = map plain_fun (drop (i + 1) list) in
    let parts : all ≡ x ∷ rest = ap (map plain_fun) (dropped list i c.index-list-i.result c.loop-i-test.true c.index-list-i.is) in
    let left = funs_breaches known count (i + 1) behind rest in
    record {
      end = fold_end fun_text x rest all here behind _ parts c.in_ok-next.ensures.end c.loop-i.invariant.end;
      least = ap (λ r. earlier r (least left)) c.earlier.ensures
          ∙ fold_least c.loop-i.part.least c.in_ok-next.next.least _ (fun_breaches known count i here x) (funs_breaches known count (i + 1) (here + length (fun_text x)) rest)
          (funs_breaches known count i here all) left (ap (funs_breaches known count i here) parts) c.in_ok-next.ensures.least
          (ap (λ k. funs_breaches known count (i + 1) k rest) c.in_ok-next.ensures.end) c.loop-i.invariant.least;
    }
