use Rattle.std.proofs.Common.{◌≡◌, ◌++◌, map, drop}
use Rattle.c_forms.specs.Plain as written
use Rattle.c_rules.specs.ByName.{structs_in}
use Rattle.c_syntax.specs.Plain.{plain_fun}
use Rattle.c_reader.specs.Standing.{fun_of}
use Rattle.c_reader.proofs.build.funs_of.Given as goal

abbrev pub invariant-loop-f : goal.invariant-loop-f
invariant-loop-f l =
    map plain_fun l.made.items ++ map (fun_of (structs_in l.structs.table)) (map written.plain_fun (drop l.f-index l.list)) ≡ map (fun_of (structs_in l.structs.table)) (map written.plain_fun l.list)
