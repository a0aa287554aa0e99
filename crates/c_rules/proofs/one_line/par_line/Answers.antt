use Rattle.std.proofs.Common.{arith}
use Rattle.c_forms.specs.Plain.{plain_par}
use Rattle.c_rules.proofs.BlockLaws.{brace_length, close_length}
use Rattle.c_rules.proofs.Drops.{indent_length}
use Rattle.c_rules.proofs.ThreadLaws.{par_length}
use Rattle.c_rules.proofs.one_line.par_line.Goals as goal

pub overflow_add-level : goal.overflow_add-level
overflow_add-level c = let l = par_length c.args.level (plain_par c.args.p.now) in let i = indent_length c.args.level in let r = c.requires in omega arith

pub thread_lines-part-requires : goal.thread_lines-part-requires
thread_lines-part-requires c =
    let l = par_length c.args.level (plain_par c.args.p.now) in
    let b = brace_length c.args.level in
    let e = c.brace_begin.ensures in
    let r = c.requires in
    omega arith

pub brace_end-requires : goal.brace_end-requires
brace_end-requires c =
    let l = par_length c.args.level (plain_par c.args.p.now) in
    let b = brace_length c.args.level in
    let e = c.brace_begin.ensures in
    let r = c.requires in
    let t = c.thread_lines-part.ensures.end in
    let k = close_length c.args.level in
    omega arith

pub returns-clause-end : goal.returns-clause-end
returns-clause-end c =
    let l = par_length c.args.level (plain_par c.args.p.now) in
    let b = brace_length c.args.level in
    let k = close_length c.args.level in
    let e = c.brace_begin.ensures in
    let t = c.thread_lines-part.ensures.end in
    let f = c.brace_end.ensures in
    let p = c.plain_line.ensures.end in
    omega arith
