use Rattle.std.proofs.Common.{◌≡◌, ◌+◌, sym, ap, ◌∙◌, subst, drop, drop_of_length-le}
use Rattle.c_meaning.specs.Tree.{end}
use Rattle.c_syntax.specs.Plain.{plain_stmt, plain_stmts, plain_expr}
use Rattle.c_meaning.specs.Resolve.{resolved, term_of, last_of}
use Rattle.c_meaning.specs.Compiled.{names_with}
use Rattle.c_meaning.proofs.Folds.{plain_if, plain_while, step_in, flat_before, unbound_before}
use Rattle.c_meaning.proofs.Tables.{made_if, made_while, made_one, made_block, begun, Making}
use Rattle.c_meaning.proofs.code.+compile.Goals as goal

pub compile-returns : goal.compile-returns
compile-returns t c =
    let N = names_with c.args.structs.now c.args.funs.now c.args.pointers.now in
    let W = resolved N (plain_stmts c.args.list.now) in
    let p = c.in_ok-block.ensures in
    let at_end : resolved N (plain_stmts (drop c.loop-s.s-index c.args.list.now)) ≡ end = ap (λ z. resolved N (plain_stmts z)) (drop_of_length-le c.args.list.now {i = c.loop-s.s-index} c.loop-s-test.false) in
    made_block c.args.code.now.items c.loop-s.code.items c.push_block.new.code.items W c.loop-s.ops.items c.loop-s.depth c.loop-s.greatest c.in_ok-block.block
    (subst (λ z. Making c.args.code.now.items c.loop-s.code.items W c.loop-s.ops.items z c.loop-s.depth c.loop-s.greatest) at_end c.loop-s.invariant) p.0 p.1 p.2

pub compile-loop-s-preserved : goal.compile-loop-s-preserved
compile-loop-s-preserved t c =
    let N = names_with c.args.structs.now c.args.funs.now c.args.pointers.now in
    let W = resolved N (plain_stmts c.args.list.now) in
    let s = c.s-item.result in
    let o = c.in_ok-op.ensures in
    let q = c.in_ok-push.ensures in
    let head = step_in N c.args.list.now c.loop-s.s-index s c.s-item.is c.loop-s-test.true in
    let m = subst (λ z. Making c.args.code.now.items c.loop-s.code.items W c.loop-s.ops.items z c.loop-s.depth c.loop-s.greatest) head c.loop-s.invariant in
    let b = begun N (plain_stmt s) c.loop-s.ops.items c.add_before.new.ops.items c.in_ok-add_before.ensures in
    subst (λ z. Making c.args.code.now.items c.compile_one.new.code.items W z (resolved N (plain_stmts (drop (c.loop-s.s-index + 1) c.args.list.now))) c.larger-depth.result c.larger-greatest.result) (sym q.items) (made_one _ _ _ _ _ _ _ _ _ _ _ _ _ _ _ _ m b (flat_before N (plain_stmt s)) (unbound_before N (plain_stmt s)) o c.larger-depth.ensures c.larger-greatest.ensures)

pub compile_one-returns-in_ok-resolve-in-If : goal.compile_one-returns-in_ok-resolve-in-If
compile_one-returns-in_ok-resolve-in-If t c =
    let N = names_with c.args.structs.now c.args.funs.now c.args.pointers.now in
    let q = ap plain_stmt c.in-If.is ∙ plain_if c.in-If.e c.in-If.first c.in-If.second in
    let x = ap (λ z. resolved N (plain_stmts z)) c.as_slice.ensures in
    let y = ap (λ z. resolved N (plain_stmts z)) c.as_slice-in-If.ensures in
    made_if c.args.code.now.items c.compile.new.code.items c.compile-in-If.new.code.items _ _ _ _ _ _ _ _ _ _ c.in_ok-a-in-If.ensures c.in_ok-b-in-If.ensures c.in_ok-size-in-If.ensures.0 c.in_ok-size-in-If.ensures.1 c.in_ok-resolve-in-If.field-0 (last_of N (plain_stmt c.args.s.now)) (term_of (plain_expr c.in-If.e)) (ap (last_of N) q ∙ cc (x, y)) c.in_ok-resolve-in-If.ensures

pub compile_one-returns-in_ok-resolve-in-While : goal.compile_one-returns-in_ok-resolve-in-While
compile_one-returns-in_ok-resolve-in-While t c =
    let N = names_with c.args.structs.now c.args.funs.now c.args.pointers.now in
    let q = ap plain_stmt c.in-While.is ∙ plain_while c.in-While.loads c.in-While.e c.in-While.body in
    let x = ap (λ z. resolved N (plain_stmts z)) c.as_slice-in-While.ensures in
    let y = ap (λ z. resolved N (plain_stmts z)) c.as_slice-in-While-2.ensures in
    made_while c.args.code.now.items c.compile-in-While.new.code.items c.compile-in-While-2.new.code.items _ _ _ _ _ _ _ _ _ _ c.in_ok-l-in-While.ensures c.in_ok-b-in-While.ensures c.in_ok-size-in-While.ensures.0 c.in_ok-size-in-While.ensures.1 c.in_ok-resolve-in-While.field-0 (last_of N (plain_stmt c.args.s.now)) (term_of (plain_expr c.in-While.e)) (ap (last_of N) q ∙ cc (x, y)) c.in_ok-resolve-in-While.ensures
