use Rattle.std.proofs.Common.{◌≡◌, ◌∙◌, ◌+◌, ◌-◌, ◌<◌, ◌∷◌, ◌==◌, ◌&&◌, ℕ, None, if◌then◌else◌, sym, ap, refl, length, drop, arith, option_map}
use Rattle.std.proofs.lemmas.List.{length-drop}
use Rattle.pl_syntax.specs.declared.expr.Sort.TheVariants as sort
use Rattle.pl_syntax.specs.Plain.{otherwise, plain_block, plain_expr, plain_prop, plain_stmt, plain_stmts}
use Rattle.pl_syntax.specs.Tree as tree
use Rattle.pl_syntax.specs.Breaches.{earlier, least}
use Rattle.pl_syntax.specs.ExprRules.{sorted, wanted}
use Rattle.pl_types.specs.Held.{lent, sorts}
use Rattle.pl_syntax.specs.PropRules.{after_breaches}
use Rattle.pl_syntax.specs.StmtRules.{are_ghost, behind, behind_all, condition, stmt_breaches, stmts_breaches, under}
use Rattle.pl_types.specs.Tables.{known_of}
use Rattle.pl_types.proofs.ArmLaws.{choice_found, if_ok_to, lent_copied, loop_found, loop_left, opened_found}
use Rattle.pl_types.proofs.Drops.{dropped}
use Rattle.pl_types.proofs.StmtLaws.{end_wants, step_least, step_ghost, step_scope}
use Rattle.pl_types.proofs.TreeLaws.{plain_stmt-If, plain_stmt-While, plain_stmt-With}
use Rattle.pl_types.proofs.stmts.+stmts.Goals as goal

pub look_stmts-loop-i-preserved : goal.look_stmts-loop-i-preserved
look_stmts-loop-i-preserved t c =
    let list = c.args.list.now in
    let i = c.loop-i.i in
    let x = c.index-list-i.result in
    let known = known_of c.args.tables.now in
    let last = sorts c.args.last in
    let rest = drop (i + 1) list in
    let lt : i < length list = c.loop-i-test.true in
    let parts : drop i list ≡ x ∷ rest = dropped list i x lt c.index-list-i.is in
    let n : length list - i ≡ 1 + length rest = ap (λ k. length list - i) (sym (length-drop (i + 1) list)) ∙ omega (arith, length-drop (i + 1) list) in
    let here : sorts c.at_end-here.result ≡ (if 1 + length rest == 1 then last else None) =
    c.at_end-here.ensures ∙ ap (λ k. if k == 1 then last else None) n in
    let next = c.in_ok-next.next in
    record {
      found = ap (λ r. earlier r (least (stmts_breaches known c.args.spot last c.look_stmt.new.scope (plain_stmts rest)))) c.joined-looked.ensures.found
          ∙ step_least known c.args.spot last (sorts c.at_end-here.result) x rest (drop i list) c.loop-i.scope c.look_stmt.new.scope c.loop-i.looked.found next.found _
          parts (here ∙ sym (end_wants rest last)) c.in_ok-next.ensures.scope c.in_ok-next.ensures.found c.loop-i.invariant.found;
      ghosts = ap (λ g. g && are_ghost known (plain_stmts rest) c.look_stmt.new.scope) c.joined-looked.ensures.ghosts
          ∙ step_ghost known x rest (drop i list) c.loop-i.scope c.look_stmt.new.scope c.loop-i.looked.is_ghost next.is_ghost _
          parts c.in_ok-next.ensures.scope c.in_ok-next.ensures.ghosts c.loop-i.invariant.ghosts;
      scope = step_scope known x rest (drop i list) c.loop-i.scope c.look_stmt.new.scope _ parts c.in_ok-next.ensures.scope c.loop-i.invariant.scope;
    }

pub look_stmt-returns-in-None-clause-found : goal.look_stmt-returns-in-None-clause-found
look_stmt-returns-in-None-clause-found t c =
    let x = c.in-If in
    let one = c.in_ok-one-in-If in
    let known = known_of c.args.tables.now in
    let spot = c.args.spot in
    let last = sorts c.args.last in
    let scope = c.args.scope.now in
    let now = c.look_arm.new.scope in
    let second = tree.no_else in
    let after : option_map plain_prop (lent c.as_ref.result) ≡ option_map plain_prop x.after = ap (option_map plain_prop) (lent_copied c.as_ref.result ∙ c.as_ref.ensures.value) in
    let whole : plain_stmt c.args.s.now ≡ tree.If x.field-0 (plain_expr x.e) (plain_block x.first) second (option_map plain_prop x.after) =
    ap plain_stmt x.is ∙ plain_stmt-If x.field-0 x.e x.first x.second x.after
    ∙ ap (λ o. tree.If x.field-0 (plain_expr x.e) (plain_block x.first) (otherwise (option_map plain_block o)) (option_map plain_prop x.after)) c.in-None.is in
    if_ok_to _ _ c.look_choice.result (λ r h.
    choice_found known spot c.under.result (under spot) scope scope now x.field-0 (plain_expr x.e) (plain_block x.first) second (option_map plain_prop x.after) last
    one.one.found c.not_executed-two.result.found r.found one.one.is_ghost c.not_executed-two.result.is_ghost
    c.under.ensures refl refl one.ensures.scope one.ensures.found c.not_executed-two.ensures.found one.ensures.ghosts c.not_executed-two.ensures.ghosts
    (h ∙ ap (λ q. earlier (earlier (earlier (least (wanted (condition spot (one.one.is_ghost && c.not_executed-two.result.is_ghost)) now (sorted sort.Bool) (plain_expr x.e))) one.one.found) c.not_executed-two.result.found) (least (after_breaches known now q))) after)
    ∙ ap (λ s. least (stmt_breaches known spot last scope s)) (sym whole)) c.look_choice.ensures.found

pub look_stmt-returns-in_ok-two-in-Some-clause-found : goal.look_stmt-returns-in_ok-two-in-Some-clause-found
look_stmt-returns-in_ok-two-in-Some-clause-found t c =
    let x = c.in-If in
    let one = c.in_ok-one-in-If in
    let known = known_of c.args.tables.now in
    let spot = c.args.spot in
    let last = sorts c.args.last in
    let scope = c.args.scope.now in
    let now = c.look_arm-in-Some.new.scope in
    let second = tree.else (plain_block c.in-Some.block) in
    let after : option_map plain_prop (lent c.as_ref-in-Some.result) ≡ option_map plain_prop x.after = ap (option_map plain_prop) (lent_copied c.as_ref-in-Some.result ∙ c.as_ref-in-Some.ensures.value) in
    let whole : plain_stmt c.args.s.now ≡ tree.If x.field-0 (plain_expr x.e) (plain_block x.first) second (option_map plain_prop x.after) =
    ap plain_stmt x.is ∙ plain_stmt-If x.field-0 x.e x.first x.second x.after
    ∙ ap (λ o. tree.If x.field-0 (plain_expr x.e) (plain_block x.first) (otherwise (option_map plain_block o)) (option_map plain_prop x.after)) c.in-Some.is in
    if_ok_to _ _ c.look_choice-in-Some.result (λ r h.
    choice_found known spot c.under.result c.under-in-Some.result scope c.look_arm.new.scope now x.field-0 (plain_expr x.e) (plain_block x.first) second (option_map plain_prop x.after) last
    one.one.found c.in_ok-two-in-Some.two.found r.found one.one.is_ghost c.in_ok-two-in-Some.two.is_ghost
    c.under.ensures c.under-in-Some.ensures one.ensures.scope (c.in_ok-two-in-Some.ensures.scope ∙ one.ensures.scope) one.ensures.found c.in_ok-two-in-Some.ensures.found one.ensures.ghosts c.in_ok-two-in-Some.ensures.ghosts
    (h ∙ ap (λ q. earlier (earlier (earlier (least (wanted (condition spot (one.one.is_ghost && c.in_ok-two-in-Some.two.is_ghost)) now (sorted sort.Bool) (plain_expr x.e))) one.one.found) c.in_ok-two-in-Some.two.found) (least (after_breaches known now q))) after)
    ∙ ap (λ s. least (stmt_breaches known spot last scope s)) (sym whole)) c.look_choice-in-Some.ensures.found

loop_is : (t : ℕ) (c : goal.look_stmt-After-executed t) → plain_stmt c.args.s.now ≡ tree.While c.in-While.pos (plain_stmts c.in-While.loads) (plain_expr c.in-While.e) (plain_prop c.in-While.kept) (plain_block c.in-While.body)
loop_is t c = ap plain_stmt c.in-While.is ∙ plain_stmt-While c.in-While.pos c.in-While.loads c.in-While.e c.in-While.kept c.in-While.body

loop_back : (t : ℕ) (c : goal.look_stmt-After-executed t) → c.leave.new.self ≡ c.args.scope.now
loop_back t c =
    let known = known_of c.args.tables.now in
    loop_left known (plain_stmts c.in-While.loads) (plain_block c.in-While.body) c.args.scope.now c.look_stmts.new.scope c.look_block.new.scope c.leave.new.self c.mark-mark.result
    c.mark-mark.ensures (c.in_ok-head-in-While.ensures.scope ∙ ap (λ xs. behind_all known (plain_stmts xs) c.args.scope.now) c.as_slice.ensures) c.in_ok-inner-in-While.ensures.scope c.leave.ensures

pub look_stmt-returns-in_ok-again-in-While-clause-found : goal.look_stmt-returns-in_ok-again-in-While-clause-found
look_stmt-returns-in_ok-again-in-While-clause-found t c =
    let x = c.in-While in
    let known = known_of c.args.tables.now in
    let spot = c.args.spot in
    let last = sorts c.args.last in
    let scope = c.args.scope.now in
    let head = c.in_ok-head-in-While in
    let inner = c.in_ok-inner-in-While in
    let again = c.in_ok-again-in-While in
    loop_found known spot c.under-in-While.result c.under-in-While-2.result scope c.look_stmts.new.scope c.leave.new.self x.pos (plain_stmts x.loads) (plain_expr x.e) (plain_prop x.kept) (plain_block x.body) last
    c.real.result head.head.found c.real-test.result again.again inner.inner.found c.executed.result.found
    c.under-in-While.ensures c.under-in-While-2.ensures (head.ensures.scope ∙ ap (λ xs. behind_all known (plain_stmts xs) scope) c.as_slice.ensures) (loop_back t c)
    c.real.ensures (head.ensures.found ∙ ap (λ xs. least (stmts_breaches known c.under-in-While.result None scope (plain_stmts xs))) c.as_slice.ensures)
    c.real-test.ensures again.ensures.found inner.ensures.found
    (c.executed.ensures.found ∙ c.earlier-in-While-2.ensures
    ∙ ap (λ r. earlier r inner.inner.found) (c.earlier-in-While.ensures ∙ ap (λ r. earlier r again.again) (c.earlier-before.ensures ∙ ap (λ r. earlier r c.real-test.result) c.earlier.ensures)))
    ∙ ap (λ s. least (stmt_breaches known spot last scope s)) (sym (loop_is t c))

pub look_stmt-returns-in_ok-again-in-While-clause-scope : goal.look_stmt-returns-in_ok-again-in-While-clause-scope
look_stmt-returns-in_ok-again-in-While-clause-scope t c =
    c.in_ok-again-in-While.ensures.scope ∙ loop_back t c ∙ ap (λ s. behind (known_of c.args.tables.now) s c.args.scope.now) (sym (loop_is t c))

pub look_stmt-returns-in_ok-behind-in-With-clause-found : goal.look_stmt-returns-in_ok-behind-in-With-clause-found
look_stmt-returns-in_ok-behind-in-With-clause-found t c =
    let x = c.in-With in
    let known = known_of c.args.tables.now in
    let spot = c.args.spot in
    let last = sorts c.args.last in
    let scope = c.args.scope.now in
    let mid = c.look_block-in-With.new.scope in
    let inner = c.in_ok-inner-in-With in
    let behind = c.in_ok-behind-in-With in
    let after : option_map plain_prop (lent c.as_ref-in-With.result) ≡ option_map plain_prop x.after = ap (option_map plain_prop) (lent_copied c.as_ref-in-With.result ∙ c.as_ref-in-With.ensures.value) in
    let whole : plain_stmt c.args.s.now ≡ tree.With x.pos x.name (plain_block x.body) (option_map plain_prop x.after) = ap plain_stmt x.is ∙ plain_stmt-With x.pos x.name x.body x.after in
    opened_found known spot c.move_to.result scope mid x.pos x.name (plain_block x.body) (option_map plain_prop x.after) last
    c.look_opened-opened.result inner.inner.found behind.behind c.executed-in-With.result.found
    c.move_to.ensures inner.ensures.scope c.look_opened-opened.ensures inner.ensures.found
    (behind.ensures.found ∙ ap (λ q. least (after_breaches known mid q)) after)
    (c.executed-in-With.ensures.found ∙ c.earlier-in-With-2.ensures ∙ ap (λ r. earlier r behind.behind) c.earlier-in-With.ensures)
    ∙ ap (λ s. least (stmt_breaches known spot last scope s)) (sym whole)
