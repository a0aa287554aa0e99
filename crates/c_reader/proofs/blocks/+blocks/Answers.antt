use Rattle.std.proofs.Common.{◌≡◌, ◌∙◌, ◌++◌, ◌∷◌, [], ap, List, map}
use Rattle.c_forms.specs.Plain as written
use Rattle.c_rules.specs.ByName.{structs_in}
use Rattle.c_syntax.specs.declared.stmt.CStmt.{CStmt}
use Rattle.c_syntax.specs.Plain.{plain_stmt, plain_stmts}
use Rattle.c_reader.specs.Follow.{follow}
use Rattle.c_reader.specs.Gathers.{gathering}
use Rattle.c_reader.specs.Standing as spec
use Rattle.c_reader.proofs.FollowLaws.{follow_made, lines_end, stmts_end}
use Rattle.c_reader.proofs.blocks.+blocks.Goals as goal

pub put_stmt-returns : goal.put_stmt-returns
put_stmt-returns t c = λ rest.
    let before = c.args.out.now.items in
    let made = spec.stmt_of (structs_in c.args.structs.now.table) (written.plain_stmt c.args.s.now) in
    let put : c.push.new.self.items ≡ before ++ (c.in_ok-made.made ∷ []) = c.in_ok-push.ensures.items in
    ap (λ (list : List CStmt). follow (map plain_stmt list) rest) put ∙ follow_made before c.in_ok-made.made made rest c.in_ok-made.ensures

pub stmts_of-returns : goal.stmts_of-returns
stmts_of-returns t c =
    let structs = structs_in c.args.structs.now.table in
    let none = lines_end structs (gathering c.loop-s.gathered) c.args.list.now c.loop-s.s-index c.loop-s-test.false in
    ap plain_stmts (c.of.ensures ∙ c.shrink_to_fit.ensures.items) ∙ stmts_end c.loop-s.out.items _ _ none c.loop-s.invariant
