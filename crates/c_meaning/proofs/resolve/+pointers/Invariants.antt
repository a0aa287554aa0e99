use Rattle.std.proofs.Common.{◌≡◌, ◌++◌, drop}
use Rattle.c_syntax.specs.Plain.{plain_stmts}
use Rattle.c_meaning.specs.Resolve.{pointers_in}
use Rattle.c_meaning.proofs.resolve.+pointers.Given as goal

abbrev pub invariant-add_pointers-loop-s : goal.invariant-add_pointers-loop-s
invariant-add_pointers-loop-s l = l.fn.pointers.items ++ pointers_in l.structs (plain_stmts l.list) ≡ l.pointers.items ++ pointers_in l.structs (plain_stmts (drop l.s-index l.list))
