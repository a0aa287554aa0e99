use Rattle.std.proofs.Common.{◌≡◌, ◌∙◌, ◌++◌, ◌∷◌, [], ◌+◌, ap, List, map, drop}
use Rattle.c_forms.specs.Plain as written
use Rattle.c_syntax.specs.declared.kind.Local.{Local}
use Rattle.c_syntax.specs.declared.stmt.CStmt.{CStmt}
use Rattle.c_syntax.specs.Plain.{plain_stmt, plain_stmts}
use Rattle.c_syntax.specs.Tree as t
use Rattle.c_reader.specs.Follow.{follow}
use Rattle.c_reader.specs.Standing as spec
use Rattle.c_reader.proofs.FollowLaws.{load_made, loads_end, stmts_end}
use Rattle.c_reader.proofs.lines.loads_of.Goals as goal

pub loop-l-preserved : goal.loop-l-preserved
loop-l-preserved c =
    let i = c.loop-l.l-index in
    let list = c.args.list.now in
    let put : c.push.new.self.items ≡ c.loop-l.made.items ++ (c.in_ok-next.next ∷ []) = c.in_ok-push.ensures.items in
    ap (λ (made : List CStmt). follow (map plain_stmt made) (spec.loads_of (map written.plain_load (drop (i + 1) list)))) put
    ∙ load_made c.loop-l.made.items c.in_ok-next.next list i c.l-item.result c.loop-l-test.true c.l-item.is
    (c.in_ok-next.ensures ∙ ap (λ (x : Local). t.Load c.l-item.result.kind x (spec.cell_of (written.plain_cell c.l-item.result.cell))) c.in_ok-local.ensures)
    ∙ c.loop-l.invariant

pub returns : goal.returns
returns c =
    let list = c.args.list.now in
    ap plain_stmts c.of.ensures
    ∙ stmts_end c.loop-l.made.items _ _ (loads_end list c.loop-l.l-index c.loop-l-test.false) c.loop-l.invariant
