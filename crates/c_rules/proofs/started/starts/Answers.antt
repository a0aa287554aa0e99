use Rattle.std.proofs.Common.{◌∙◌, ◌+◌, sym, ap, map, drop}
use Rattle.c_forms.specs.Plain.{plain_fun, plain_stmts}
use Rattle.c_rules.specs.Groups.{put_all, funs_starts, stmts_starts}
use Rattle.c_rules.specs.Seen.{taken_in}
use Rattle.c_rules.proofs.Drops.{dropped}
use Rattle.c_rules.proofs.SeenLaws.{put_all_append}
use Rattle.c_rules.proofs.started.starts.Goals as goal

pub loop-f-preserved : goal.loop-f-preserved
loop-f-preserved c =
    let list = c.args.funs.now in
    let i = c.loop-f.f-index in
    let x = c.f-item.result in
    let rest = funs_starts (map plain_fun (drop (i + 1) list)) in
    let before = taken_in c.loop-f.seen in
    let parts = dropped list i x c.loop-f-test.true c.f-item.is in
    let one = c.in_ok-add_stmts.ensures ∙ ap (λ xs. put_all (stmts_starts (plain_stmts xs)) before) c.as_slice.ensures in
    ap (put_all rest) one
    ∙ sym (ap (λ xs. put_all (funs_starts (map plain_fun xs)) before) parts ∙ put_all_append (stmts_starts (plain_stmts x.body)) rest before)
    ∙ c.loop-f.invariant
