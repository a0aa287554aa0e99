use Rattle.std.proofs.Common.{◌≡◌, ◌∙◌, ◌+◌, ◌∷◌, ap, length, map, drop}
use Rattle.c_forms.specs.Text.{param_text}
use Rattle.c_rules.specs.Commas.{gap}
use Rattle.c_rules.specs.Groups.{param_breaches, params_breaches, put}
use Rattle.c_rules.specs.Least.{earlier, least}
use Rattle.c_rules.specs.Seen.{taken_in}
use Rattle.c_rules.specs.Tables.{known_of}
use Rattle.c_rules.proofs.Arguments.{next_end}
use Rattle.c_rules.proofs.Drops.{dropped, gap_next}
use Rattle.c_rules.proofs.Leasts.{fold_least}
use Rattle.c_rules.proofs.heads.look_params.Goals as goal

pub loop-i-preserved : goal.loop-i-preserved
loop-i-preserved c =
    let list = c.args.list.now in
    let i = c.loop-i.i in
    let x = c.index-list-i.result in
    let structs = (known_of c.args.tables.now).structs in
    let taken = taken_in c.loop-i.seen in
    let end = c.loop-i.part.end in
    let here = c.after_comma.result in
    let behind = c.look_param-next.result.end in
    let rest = drop (i + 1) list in
    let parts : drop i list ≡ x ∷ rest = dropped list i x c.loop-i-test.true c.index-list-i.is in
    let left = params_breaches structs (taken_in c.put.new.self) (i + 1 + 1) (behind + gap (i + 1)) rest in
    let at : behind + gap (i + 1) ≡ end + gap i + length (param_text x) + 2 =
    ap (λ g. behind + g) (gap_next i) ∙ ap (λ b. b + 2) (c.look_param-next.ensures.end ∙ ap (λ h. h + length (param_text x)) c.after_comma.ensures) in
    record {
      end = next_end i (param_text x) (map param_text rest) (map param_text (drop i list)) end here behind _ (ap (map param_text) parts) c.after_comma.ensures
          c.look_param-next.ensures.end c.loop-i.invariant.end;
      least = ap (λ r. earlier r (least left)) c.earlier.ensures
          ∙ fold_least c.loop-i.part.least c.look_param-next.result.least _ (param_breaches structs taken (i + 1) (end + gap i) x)
          (params_breaches structs (put x.local.name taken) (i + 1 + 1) (end + gap i + length (param_text x) + 2) rest)
          (params_breaches structs taken (i + 1) (end + gap i) (drop i list)) left
          (ap (params_breaches structs taken (i + 1) (end + gap i)) parts)
          (c.look_param-next.ensures.least ∙ ap (λ k. least (param_breaches structs taken (i + 1) k x)) c.after_comma.ensures)
          (ap (λ t. params_breaches structs t (i + 1 + 1) (behind + gap (i + 1)) rest) c.in_ok-put.ensures ∙ ap (λ k. params_breaches structs (put x.local.name taken) (i + 1 + 1) k rest) at)
          c.loop-i.invariant.least;
    }
