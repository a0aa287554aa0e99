use Rattle.std.proofs.Common.{◌≡◌, None, [], ◌∷◌, ◌∙◌, ◌+◌, ◌<◌, ◌^◌, sym, ap, subst, length, map, drop, flat_map, arith}
use Rattle.std.specs.Prelude.{codes}
use Rattle.c_syntax.specs.Text.{line}
use Rattle.c_forms.specs.Plain.{plain_expr, plain_load, plain_par, plain_stmt, plain_stmts}
use Rattle.c_forms.specs.Text.{load_text, stmt_text, stmts_text}
use Rattle.c_forms.specs.Tree as w
use Rattle.c_rules.specs.Kinds.{types}
use Rattle.c_rules.specs.Least.{earlier, least}
use Rattle.c_rules.specs.Lines.{at_end, bind_loads, ended, loads_breaches, settled, stmt_found, stmts_found}
use Rattle.c_rules.specs.Locals.{scope_of}
use Rattle.c_rules.specs.States.{state_of}
use Rattle.c_rules.specs.Tables.{known_of}
use Rattle.c_rules.proofs.BlockLaws.{close_length, if_length, while_length}
use Rattle.c_rules.proofs.Drops.{dropped, indent_length}
use Rattle.c_rules.proofs.Scopes.{close_scope, grows_on}
use Rattle.c_rules.proofs.StmtLaws.{plain_stmt-If, plain_stmt-Par, plain_stmt-While, end_wants, step_end, step_least, step_state, if_least, while_least, while_state}
use Rattle.c_rules.proofs.stmts.+stmts.Goals as goal

pub look_stmt-returns-in-Par-clause-end : goal.look_stmt-returns-in-Par-clause-end
look_stmt-returns-in-Par-clause-end t c =
    let e : plain_stmt c.args.s.now ≡ w.Par (plain_par c.deref-in-Par.result.now) = ap plain_stmt c.in-Par.is ∙ plain_stmt-Par c.in-Par.p ∙ ap (λ p. w.Par (plain_par p)) (sym c.deref-in-Par.ensures) in
    c.par_line.ensures.end ∙ ap (λ s. c.args.at + length (stmt_text c.args.level s)) (sym e)

pub look_stmt-returns-in-Par-clause-least : goal.look_stmt-returns-in-Par-clause-least
look_stmt-returns-in-Par-clause-least t c =
    let e : plain_stmt c.args.s.now ≡ w.Par (plain_par c.deref-in-Par.result.now) = ap plain_stmt c.in-Par.is ∙ plain_stmt-Par c.in-Par.p ∙ ap (λ p. w.Par (plain_par p)) (sym c.deref-in-Par.ensures) in
    c.par_line.ensures.least
    ∙ ap (λ s. least (stmt_found (known_of c.args.tables.now) (types c.args.last) c.args.level c.args.at s (scope_of c.args.locals.now.slots.items)).places) (sym e)

pub look_stmt-overflow_add-level : goal.look_stmt-overflow_add-level
look_stmt-overflow_add-level t c =
    let first = c.in-If.first in
    let second = c.in-If.second in
    let n = c.args.level in
    let x = plain_expr c.in-If.e in
    let e : plain_stmt c.args.s.now ≡ w.If x (plain_stmts first) (plain_stmts second) = ap plain_stmt c.in-If.is ∙ plain_stmt-If c.in-If.e first second in
    let r : c.args.at + length (stmt_text n (w.If x (plain_stmts first) (plain_stmts second))) < 2 ^ 32 = subst (λ s. c.args.at + length (stmt_text n s) < 2 ^ 32) e c.requires in
    let l = if_length n x (plain_stmts first) (plain_stmts second) in
    let i = indent_length n in
    let k = close_length n in
    omega arith

pub look_stmt-else_begin-begin-requires : goal.look_stmt-else_begin-begin-requires
look_stmt-else_begin-begin-requires t c =
    let first = c.in-If.first in
    let second = c.in-If.second in
    let n = c.args.level in
    let x = plain_expr c.in-If.e in
    let e : plain_stmt c.args.s.now ≡ w.If x (plain_stmts first) (plain_stmts second) = ap plain_stmt c.in-If.is ∙ plain_stmt-If c.in-If.e first second in
    let r : c.args.at + length (stmt_text n (w.If x (plain_stmts first) (plain_stmts second))) < 2 ^ 32 = subst (λ s. c.args.at + length (stmt_text n s) < 2 ^ 32) e c.requires in
    let l = if_length n x (plain_stmts first) (plain_stmts second) in
    let t1 = c.look_test-test.ensures.end in
    let o1 = c.in_ok-one-in-If.ensures.end in
    let a1 = ap (λ xs. length (stmts_text (n + 1) (plain_stmts xs))) c.as_slice-in-If.ensures in
    omega arith

pub look_stmt-overflow_add-level-in-If : goal.look_stmt-overflow_add-level-in-If
look_stmt-overflow_add-level-in-If t c =
    let first = c.in-If.first in
    let second = c.in-If.second in
    let n = c.args.level in
    let x = plain_expr c.in-If.e in
    let e : plain_stmt c.args.s.now ≡ w.If x (plain_stmts first) (plain_stmts second) = ap plain_stmt c.in-If.is ∙ plain_stmt-If c.in-If.e first second in
    let r : c.args.at + length (stmt_text n (w.If x (plain_stmts first) (plain_stmts second))) < 2 ^ 32 = subst (λ s. c.args.at + length (stmt_text n s) < 2 ^ 32) e c.requires in
    let l = if_length n x (plain_stmts first) (plain_stmts second) in
    let i = indent_length n in
    let k = close_length n in
    omega arith

pub look_stmt-brace_end-requires : goal.look_stmt-brace_end-requires
look_stmt-brace_end-requires t c =
    let first = c.in-If.first in
    let second = c.in-If.second in
    let n = c.args.level in
    let x = plain_expr c.in-If.e in
    let e : plain_stmt c.args.s.now ≡ w.If x (plain_stmts first) (plain_stmts second) = ap plain_stmt c.in-If.is ∙ plain_stmt-If c.in-If.e first second in
    let r : c.args.at + length (stmt_text n (w.If x (plain_stmts first) (plain_stmts second))) < 2 ^ 32 = subst (λ s. c.args.at + length (stmt_text n s) < 2 ^ 32) e c.requires in
    let l = if_length n x (plain_stmts first) (plain_stmts second) in
    let t1 = c.look_test-test.ensures.end in
    let o1 = c.in_ok-one-in-If.ensures.end in
    let a1 = ap (λ xs. length (stmts_text (n + 1) (plain_stmts xs))) c.as_slice-in-If.ensures in
    let b1 = c.else_begin-begin.ensures in
    let o2 = c.in_ok-two-in-If.ensures.end in
    let a2 = ap (λ xs. length (stmts_text (n + 1) (plain_stmts xs))) c.as_slice-in-If-2.ensures in
    omega arith

pub look_stmt-while_begin-begin-requires : goal.look_stmt-while_begin-begin-requires
look_stmt-while_begin-begin-requires t c =
    let loads = c.in-While.loads in
    let body = c.in-While.body in
    let n = c.args.level in
    let x = plain_expr c.in-While.e in
    let e : plain_stmt c.args.s.now ≡ w.While (map plain_load loads) x (plain_stmts body) = ap plain_stmt c.in-While.is ∙ plain_stmt-While loads c.in-While.e body in
    let r : c.args.at + length (stmt_text n (w.While (map plain_load loads) x (plain_stmts body))) < 2 ^ 32 = subst (λ s. c.args.at + length (stmt_text n s) < 2 ^ 32) e c.requires in
    let l = while_length n (map plain_load loads) x (plain_stmts body) in
    omega arith

pub look_stmt-overflow_add-level-in-While : goal.look_stmt-overflow_add-level-in-While
look_stmt-overflow_add-level-in-While t c =
    let loads = c.in-While.loads in
    let body = c.in-While.body in
    let n = c.args.level in
    let x = plain_expr c.in-While.e in
    let e : plain_stmt c.args.s.now ≡ w.While (map plain_load loads) x (plain_stmts body) = ap plain_stmt c.in-While.is ∙ plain_stmt-While loads c.in-While.e body in
    let r : c.args.at + length (stmt_text n (w.While (map plain_load loads) x (plain_stmts body))) < 2 ^ 32 = subst (λ s. c.args.at + length (stmt_text n s) < 2 ^ 32) e c.requires in
    let l = while_length n (map plain_load loads) x (plain_stmts body) in
    let i = indent_length n in
    let k = close_length n in
    omega arith

pub look_stmt-look_loads-requires : goal.look_stmt-look_loads-requires
look_stmt-look_loads-requires t c =
    let loads = c.in-While.loads in
    let body = c.in-While.body in
    let n = c.args.level in
    let x = plain_expr c.in-While.e in
    let e : plain_stmt c.args.s.now ≡ w.While (map plain_load loads) x (plain_stmts body) = ap plain_stmt c.in-While.is ∙ plain_stmt-While loads c.in-While.e body in
    let r : c.args.at + length (stmt_text n (w.While (map plain_load loads) x (plain_stmts body))) < 2 ^ 32 = subst (λ s. c.args.at + length (stmt_text n s) < 2 ^ 32) e c.requires in
    let l = while_length n (map plain_load loads) x (plain_stmts body) in
    let wb = c.while_begin-begin.ensures in
    let a1 = ap (λ xs. length (flat_map (load_text (n + 1)) (map plain_load xs))) c.as_slice-in-While.ensures in
    omega arith

pub look_stmt-overflow_add-level-in-While-2 : goal.look_stmt-overflow_add-level-in-While-2
look_stmt-overflow_add-level-in-While-2 t c =
    let loads = c.in-While.loads in
    let body = c.in-While.body in
    let n = c.args.level in
    let x = plain_expr c.in-While.e in
    let e : plain_stmt c.args.s.now ≡ w.While (map plain_load loads) x (plain_stmts body) = ap plain_stmt c.in-While.is ∙ plain_stmt-While loads c.in-While.e body in
    let r : c.args.at + length (stmt_text n (w.While (map plain_load loads) x (plain_stmts body))) < 2 ^ 32 = subst (λ s. c.args.at + length (stmt_text n s) < 2 ^ 32) e c.requires in
    let l = while_length n (map plain_load loads) x (plain_stmts body) in
    let i = indent_length n in
    let k = close_length n in
    omega arith

pub look_stmt-look_loop_test-test-requires : goal.look_stmt-look_loop_test-test-requires
look_stmt-look_loop_test-test-requires t c =
    let loads = c.in-While.loads in
    let body = c.in-While.body in
    let n = c.args.level in
    let x = plain_expr c.in-While.e in
    let e : plain_stmt c.args.s.now ≡ w.While (map plain_load loads) x (plain_stmts body) = ap plain_stmt c.in-While.is ∙ plain_stmt-While loads c.in-While.e body in
    let r : c.args.at + length (stmt_text n (w.While (map plain_load loads) x (plain_stmts body))) < 2 ^ 32 = subst (λ s. c.args.at + length (stmt_text n s) < 2 ^ 32) e c.requires in
    let l = while_length n (map plain_load loads) x (plain_stmts body) in
    let wb = c.while_begin-begin.ensures in
    let h1 = c.in_ok-heads-in-While.ensures.end in
    let a1 = ap (λ xs. length (flat_map (load_text (n + 1)) (map plain_load xs))) c.as_slice-in-While.ensures in
    omega arith

pub look_stmt-overflow_add-level-in-While-3 : goal.look_stmt-overflow_add-level-in-While-3
look_stmt-overflow_add-level-in-While-3 t c =
    let loads = c.in-While.loads in
    let body = c.in-While.body in
    let n = c.args.level in
    let x = plain_expr c.in-While.e in
    let e : plain_stmt c.args.s.now ≡ w.While (map plain_load loads) x (plain_stmts body) = ap plain_stmt c.in-While.is ∙ plain_stmt-While loads c.in-While.e body in
    let r : c.args.at + length (stmt_text n (w.While (map plain_load loads) x (plain_stmts body))) < 2 ^ 32 = subst (λ s. c.args.at + length (stmt_text n s) < 2 ^ 32) e c.requires in
    let l = while_length n (map plain_load loads) x (plain_stmts body) in
    let i = indent_length n in
    let k = close_length n in
    omega arith

pub look_stmt-brace_end-requires-in-While : goal.look_stmt-brace_end-requires-in-While
look_stmt-brace_end-requires-in-While t c =
    let loads = c.in-While.loads in
    let body = c.in-While.body in
    let n = c.args.level in
    let x = plain_expr c.in-While.e in
    let e : plain_stmt c.args.s.now ≡ w.While (map plain_load loads) x (plain_stmts body) = ap plain_stmt c.in-While.is ∙ plain_stmt-While loads c.in-While.e body in
    let r : c.args.at + length (stmt_text n (w.While (map plain_load loads) x (plain_stmts body))) < 2 ^ 32 = subst (λ s. c.args.at + length (stmt_text n s) < 2 ^ 32) e c.requires in
    let l = while_length n (map plain_load loads) x (plain_stmts body) in
    let wb = c.while_begin-begin.ensures in
    let h1 = c.in_ok-heads-in-While.ensures.end in
    let a1 = ap (λ xs. length (flat_map (load_text (n + 1)) (map plain_load xs))) c.as_slice-in-While.ensures in
    let t1 = c.look_loop_test-test.ensures.end in
    let r1 = c.in_ok-rest-in-While.ensures.end in
    let a2 = ap (λ xs. length (stmts_text (n + 1) (plain_stmts xs))) c.as_slice-in-While-2.ensures in
    omega arith

pub look_stmt-returns-in_ok-two-in-If-clause-end : goal.look_stmt-returns-in_ok-two-in-If-clause-end
look_stmt-returns-in_ok-two-in-If-clause-end t c =
    let first = c.in-If.first in
    let second = c.in-If.second in
    let n = c.args.level in
    let x = plain_expr c.in-If.e in
    let e : plain_stmt c.args.s.now ≡ w.If x (plain_stmts first) (plain_stmts second) = ap plain_stmt c.in-If.is ∙ plain_stmt-If c.in-If.e first second in
    let r : c.args.at + length (stmt_text n (w.If x (plain_stmts first) (plain_stmts second))) < 2 ^ 32 = subst (λ s. c.args.at + length (stmt_text n s) < 2 ^ 32) e c.requires in
    let l = if_length n x (plain_stmts first) (plain_stmts second) in
    let t1 = c.look_test-test.ensures.end in
    let o1 = c.in_ok-one-in-If.ensures.end in
    let a1 = ap (λ xs. length (stmts_text (n + 1) (plain_stmts xs))) c.as_slice-in-If.ensures in
    let b1 = c.else_begin-begin.ensures in
    let o2 = c.in_ok-two-in-If.ensures.end in
    let a2 = ap (λ xs. length (stmts_text (n + 1) (plain_stmts xs))) c.as_slice-in-If-2.ensures in
    let b2 = c.brace_end.ensures in
    let q = c.plain_line.ensures.end in
    let end : c.plain_line.result.end ≡ c.args.at + length (stmt_text n (w.If x (plain_stmts first) (plain_stmts second))) = omega arith in
    end ∙ ap (λ s. c.args.at + length (stmt_text n s)) (sym e)

pub look_stmt-returns-in_ok-rest-in-While-clause-end : goal.look_stmt-returns-in_ok-rest-in-While-clause-end
look_stmt-returns-in_ok-rest-in-While-clause-end t c =
    let loads = c.in-While.loads in
    let body = c.in-While.body in
    let n = c.args.level in
    let x = plain_expr c.in-While.e in
    let e : plain_stmt c.args.s.now ≡ w.While (map plain_load loads) x (plain_stmts body) = ap plain_stmt c.in-While.is ∙ plain_stmt-While loads c.in-While.e body in
    let r : c.args.at + length (stmt_text n (w.While (map plain_load loads) x (plain_stmts body))) < 2 ^ 32 = subst (λ s. c.args.at + length (stmt_text n s) < 2 ^ 32) e c.requires in
    let l = while_length n (map plain_load loads) x (plain_stmts body) in
    let wb = c.while_begin-begin.ensures in
    let h1 = c.in_ok-heads-in-While.ensures.end in
    let a1 = ap (λ xs. length (flat_map (load_text (n + 1)) (map plain_load xs))) c.as_slice-in-While.ensures in
    let t1 = c.look_loop_test-test.ensures.end in
    let r1 = c.in_ok-rest-in-While.ensures.end in
    let a2 = ap (λ xs. length (stmts_text (n + 1) (plain_stmts xs))) c.as_slice-in-While-2.ensures in
    let b2 = c.brace_end-in-While.ensures in
    let q = c.plain_line-in-While.ensures.end in
    let end : c.plain_line-in-While.result.end ≡ c.args.at + length (stmt_text n (w.While (map plain_load loads) x (plain_stmts body))) = omega arith in
    end ∙ ap (λ s. c.args.at + length (stmt_text n s)) (sym e)

pub look_stmt-returns-in_ok-two-in-If-clause-least : goal.look_stmt-returns-in_ok-two-in-If-clause-least
look_stmt-returns-in_ok-two-in-If-clause-least t c =
    let first = c.in-If.first in
    let second = c.in-If.second in
    let n = c.args.level in
    let x = plain_expr c.in-If.e in
    let e : plain_stmt c.args.s.now ≡ w.If x (plain_stmts first) (plain_stmts second) = ap plain_stmt c.in-If.is ∙ plain_stmt-If c.in-If.e first second in
    let t1 = c.look_test-test.ensures.end in
    let o1 = c.in_ok-one-in-If.ensures.end in
    let a1 = ap (λ xs. length (stmts_text (n + 1) (plain_stmts xs))) c.as_slice-in-If.ensures in
    let b1 = c.else_begin-begin.ensures in
    let o2 = c.in_ok-two-in-If.ensures.end in
    let a2 = ap (λ xs. length (stmts_text (n + 1) (plain_stmts xs))) c.as_slice-in-If-2.ensures in
    let known = known_of c.args.tables.now in
    let scope = scope_of c.args.locals.now.slots.items in
    let at = c.args.at in
    let between = scope_of c.look_block.new.locals.slots.items in
    let other : c.else_begin-begin.result ≡ c.look_test-test.result.end + length (stmts_text (n + 1) (plain_stmts first)) + length (line n (codes "} else {" ∷ [])) =
    b1 ∙ ap (λ p. p + length (line n (codes "} else {" ∷ []))) (o1 ∙ ap (λ m. c.look_test-test.result.end + m) a1) in
    let one = c.in_ok-one-in-If.ensures.least ∙ ap (λ xs. least (stmts_found known None (n + 1) c.look_test-test.result.end (plain_stmts xs) (settled scope)).places) c.as_slice-in-If.ensures in
    let scopes = c.in_ok-one-in-If.ensures.scope ∙ ap (λ xs. ended scope (stmts_found known None (n + 1) c.look_test-test.result.end (plain_stmts xs) (settled scope)).state) c.as_slice-in-If.ensures in
    let two = c.in_ok-two-in-If.ensures.least ∙ ap (λ xs. least (stmts_found known None (n + 1) c.else_begin-begin.result (plain_stmts xs) (settled between)).places) c.as_slice-in-If-2.ensures in
    c.plain_line.ensures.least ∙ c.earlier-least.ensures ∙ ap (λ v. earlier v c.in_ok-two-in-If.two.least) c.earlier.ensures
    ∙ if_least known (types c.args.last) n at x (plain_stmts first) (plain_stmts second) scope between c.look_test-test.result.end c.else_begin-begin.result
    c.look_test-test.result.least c.in_ok-one-in-If.one.least c.in_ok-two-in-If.two.least t1 other c.look_test-test.ensures.least one scopes two
    ∙ ap (λ s. least (stmt_found known (types c.args.last) n at s scope).places) (sym e)

pub look_stmt-returns-in_ok-rest-in-While-clause-least : goal.look_stmt-returns-in_ok-rest-in-While-clause-least
look_stmt-returns-in_ok-rest-in-While-clause-least t c =
    let loads = c.in-While.loads in
    let body = c.in-While.body in
    let n = c.args.level in
    let x = plain_expr c.in-While.e in
    let e : plain_stmt c.args.s.now ≡ w.While (map plain_load loads) x (plain_stmts body) = ap plain_stmt c.in-While.is ∙ plain_stmt-While loads c.in-While.e body in
    let wb = c.while_begin-begin.ensures in
    let h1 = c.in_ok-heads-in-While.ensures.end in
    let a1 = ap (λ xs. length (flat_map (load_text (n + 1)) (map plain_load xs))) c.as_slice-in-While.ensures in
    let t1 = c.look_loop_test-test.ensures.end in
    let r1 = c.in_ok-rest-in-While.ensures.end in
    let a2 = ap (λ xs. length (stmts_text (n + 1) (plain_stmts xs))) c.as_slice-in-While-2.ensures in
    let known = known_of c.args.tables.now in
    let scope = scope_of c.args.locals.now.slots.items in
    let at = c.args.at in
    let inside = scope_of c.look_loads.new.locals.slots.items in
    let head = c.while_begin-begin.result in
    let test = c.in_ok-heads-in-While.heads.end in
    let begin = c.look_loop_test-test.result.end in
    let tests : test ≡ head + length (flat_map (load_text (n + 1)) (map plain_load loads)) = h1 ∙ ap (λ m. head + m) a1 in
    let scopes : inside ≡ bind_loads scope (map plain_load loads) = c.in_ok-heads-in-While.ensures.scope ∙ ap (λ xs. bind_loads scope (map plain_load xs)) c.as_slice-in-While.ensures in
    let one = c.in_ok-heads-in-While.ensures.least ∙ ap (λ xs. least (loads_breaches known scope (n + 1) head (map plain_load xs))) c.as_slice-in-While.ensures in
    let three = c.in_ok-rest-in-While.ensures.least ∙ ap (λ xs. least (stmts_found known None (n + 1) begin (plain_stmts xs) (settled inside)).places) c.as_slice-in-While-2.ensures in
    c.plain_line-in-While.ensures.least ∙ c.earlier-least-in-While.ensures ∙ ap (λ v. earlier v c.in_ok-rest-in-While.rest.least) c.earlier-in-While.ensures
    ∙ while_least known (types c.args.last) n at (map plain_load loads) x (plain_stmts body) scope inside head test begin wb tests t1 scopes
    c.in_ok-heads-in-While.heads.least c.look_loop_test-test.result.least c.in_ok-rest-in-While.rest.least one c.look_loop_test-test.ensures.least three
    ∙ ap (λ s. least (stmt_found known (types c.args.last) n at s scope).places) (sym e)

pub look_stmt-returns-in_ok-rest-in-While-clause-state : goal.look_stmt-returns-in_ok-rest-in-While-clause-state
look_stmt-returns-in_ok-rest-in-While-clause-state t c =
    let loads = c.in-While.loads in
    let body = c.in-While.body in
    let n = c.args.level in
    let x = plain_expr c.in-While.e in
    let e : plain_stmt c.args.s.now ≡ w.While (map plain_load loads) x (plain_stmts body) = ap plain_stmt c.in-While.is ∙ plain_stmt-While loads c.in-While.e body in
    let wb = c.while_begin-begin.ensures in
    let h1 = c.in_ok-heads-in-While.ensures.end in
    let a1 = ap (λ xs. length (flat_map (load_text (n + 1)) (map plain_load xs))) c.as_slice-in-While.ensures in
    let t1 = c.look_loop_test-test.ensures.end in
    let r1 = c.in_ok-rest-in-While.ensures.end in
    let a2 = ap (λ xs. length (stmts_text (n + 1) (plain_stmts xs))) c.as_slice-in-While-2.ensures in
    let known = known_of c.args.tables.now in
    let scope = scope_of c.args.locals.now.slots.items in
    let at = c.args.at in
    let inside = scope_of c.look_loads.new.locals.slots.items in
    let head = c.while_begin-begin.result in
    let test = c.in_ok-heads-in-While.heads.end in
    let begin = c.look_loop_test-test.result.end in
    let tests : test ≡ head + length (flat_map (load_text (n + 1)) (map plain_load loads)) = h1 ∙ ap (λ m. head + m) a1 in
    let scopes : inside ≡ bind_loads scope (map plain_load loads) = c.in_ok-heads-in-While.ensures.scope ∙ ap (λ xs. bind_loads scope (map plain_load xs)) c.as_slice-in-While.ensures in
    let old = c.args.locals.now.slots.items in
    let new = c.look_stmts.new.locals.slots.items in
    let bound = c.in_ok-rest-in-While.ensures.scope ∙ ap (λ xs. (stmts_found known None (n + 1) begin (plain_stmts xs) (settled inside)).state.scope) c.as_slice-in-While-2.ensures in
    let grown = grows_on old c.look_loads.new.locals.slots.items new c.in_ok-heads-in-While.ensures.grows c.in_ok-rest-in-While.ensures.grows in
    let after = close_scope old new c.close.new.self.slots.items c.count-mark.result c.count-mark.ensures c.close.ensures grown
    ∙ ap (λ s. record { bound = scope.bound; next = s.next }) bound in
    ap (state_of c.close.new.self.slots.items) c.plain_line-in-While.ensures.waiting
    ∙ while_state known (types c.args.last) n at (map plain_load loads) x (plain_stmts body) scope inside head test begin wb tests t1 scopes (scope_of c.close.new.self.slots.items) after
    ∙ ap (λ s. (stmt_found known (types c.args.last) n at s scope).state) (sym e)

pub look_stmts-loop-i-preserved : goal.look_stmts-loop-i-preserved
look_stmts-loop-i-preserved t c =
    let list = c.args.list.now in
    let i = c.loop-i.i in
    let x = c.index-list-i.result in
    let n = c.args.level in
    let known = known_of c.args.tables.now in
    let last = types c.args.last in
    let wants = types c.wanted_at-wants.result in
    let rest = plain_stmts (drop (i + 1) list) in
    let all = plain_stmts (drop i list) in
    let here = c.loop-i.line.end in
    let behind = c.in_ok-next.next.end in
    let before = state_of c.loop-i.locals.slots.items c.loop-i.line.waiting in
    let after = state_of c.look_line.new.locals.slots.items c.in_ok-next.next.waiting in
    let parts : all ≡ w.more (plain_stmt x) rest = ap plain_stmts (dropped list i x c.loop-i-test.true c.index-list-i.is) in
    let e : wants ≡ at_end rest last = end_wants list i last wants c.loop-i-test.true c.wanted_at-wants.ensures.last c.wanted_at-wants.ensures.before in
    let b = c.in_ok-next.ensures.end in
    let s = c.in_ok-next.ensures.state in
    record {
      end = step_end n (plain_stmt x) rest all here behind _ parts b c.loop-i.invariant.end;
      least = ap (λ r. earlier r (least (stmts_found known last n behind rest after).places)) c.earlier.ensures
          ∙ step_least known last wants n (plain_stmt x) rest all here behind before after c.loop-i.line.least c.in_ok-next.next.least _ parts b e s
          c.in_ok-next.ensures.least c.loop-i.invariant.least;
      state = step_state known last wants n (plain_stmt x) rest all here behind before after _ parts b e s c.loop-i.invariant.state;
      grows = grows_on _ _ _ c.loop-i.invariant.grows c.in_ok-next.ensures.grows;
    }
