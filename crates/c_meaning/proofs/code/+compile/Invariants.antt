use Rattle.std.proofs.Common.{drop}
use Rattle.c_syntax.specs.Plain.{plain_stmts}
use Rattle.c_meaning.specs.Resolve.{resolved}
use Rattle.c_meaning.specs.Compiled.{names_with}
use Rattle.c_meaning.proofs.Tables.{Making}
use Rattle.c_meaning.proofs.code.+compile.Given as goal

abbrev pub invariant-compile-loop-s : goal.invariant-compile-loop-s
invariant-compile-loop-s l =
    let N = names_with l.structs l.funs l.pointers in
    Making l.fn.code.items l.code.items (resolved N (plain_stmts l.list)) l.ops.items (resolved N (plain_stmts (drop l.s-index l.list))) l.depth l.greatest
