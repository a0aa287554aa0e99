use Rattle.std.proofs.Common.{map, drop}
use Rattle.c_meaning.proofs.Loading.{Loading, as_loaded}
use Rattle.c_meaning.proofs.load.load.Given as goal

abbrev pub invariant-loop-f : goal.invariant-loop-f
invariant-loop-f l =
    Loading l.code.items l.functions.items (map (as_loaded l.program.structs l.program.funs) l.program.funs) (map (as_loaded l.program.structs l.program.funs) (drop l.f-index l.program.funs))
