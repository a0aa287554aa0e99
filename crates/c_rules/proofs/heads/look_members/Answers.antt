use Rattle.std.proofs.Common.{◌≡◌, ◌∙◌, ◌+◌, ◌∷◌, ap, length, drop}
use Rattle.c_rules.specs.Groups.{member_text, member_breaches, members_breaches, put}
use Rattle.c_rules.specs.Least.{earlier, least}
use Rattle.c_rules.specs.Seen.{taken_in}
use Rattle.c_rules.specs.Tables.{known_of}
use Rattle.c_rules.proofs.Drops.{dropped, fold_end}
use Rattle.c_rules.proofs.Leasts.{fold_least}
use Rattle.c_rules.proofs.heads.look_members.Goals as goal

pub loop-m-preserved : goal.loop-m-preserved
loop-m-preserved c =
    let list = c.args.list.now in
    let i = c.loop-m.m-index in
    let x = c.m-item.result in
    let structs = (known_of c.args.tables.now).structs in
    let taken = taken_in c.loop-m.seen in
    let here = c.loop-m.part.end in
    let behind = c.look_member-next.result.end in
    let rest = drop (i + 1) list in
    let parts : drop i list ≡ x ∷ rest = dropped list i x c.loop-m-test.true c.m-item.is in
    let left = members_breaches structs (taken_in c.put.new.self) behind rest in
    record {
      end = fold_end member_text x rest (drop i list) here behind _ parts c.look_member-next.ensures.end c.loop-m.invariant.end;
      least = ap (λ r. earlier r (least left)) c.earlier.ensures
          ∙ fold_least c.loop-m.part.least c.look_member-next.result.least _ (member_breaches structs taken here x) (members_breaches structs (put x.name taken) (here + length (member_text x)) rest)
          (members_breaches structs taken here (drop i list)) left
          (ap (members_breaches structs taken here) parts) c.look_member-next.ensures.least
          (ap (λ t. members_breaches structs t behind rest) c.in_ok-put.ensures ∙ ap (λ k. members_breaches structs (put x.name taken) k rest) c.look_member-next.ensures.end)
          c.loop-m.invariant.least;
    }
