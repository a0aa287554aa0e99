use Rattle.std.proofs.Common.{◌≡◌, ◌∙◌, ◌++◌, ◌∷◌, [], ap, List, map}
use Rattle.c_rules.specs.Lines.{member_of}
use Rattle.c_syntax.specs.declared.stmt.CStmt.{CStmt}
use Rattle.c_syntax.specs.Plain.{plain_stmt}
use Rattle.c_reader.specs.Follow.{follow}
use Rattle.c_reader.specs.Standing as spec
use Rattle.c_reader.specs.Gathers.{gathered_of}
use Rattle.c_reader.proofs.FollowLaws.{follow_made, none_left, block_whole}
use Rattle.c_reader.proofs.blocks.settle.Goals as goal

pub returns-in_ok-push-in-empty : goal.returns-in_ok-push-in-empty
returns-in_ok-push-in-empty c = λ rest.
    let before = c.args.out.now.items in
    let g = gathered_of c.args.g in
    let none = none_left c.args.g.members.now c.in-empty.len_below in
    let put : c.push.new.self.items ≡ before ++ (c.in_ok-block-in-empty.block ∷ []) = c.in_ok-push-in-empty.ensures.items in
    ap (λ (list : List CStmt). follow (map plain_stmt list) (rest _)) put
    ∙ follow_made before c.in_ok-block-in-empty.block (spec.block_of g) (rest _) c.in_ok-block-in-empty.ensures
    ∙ ap (follow (map plain_stmt before)) (block_whole g (map member_of c.args.g.members.now) rest none)
