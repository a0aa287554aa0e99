use Rattle.std.proofs.Common.{◌≡◌, ◌++◌, map}
use Rattle.std.specs.Vec.Iter.{into_iter_items}
use Rattle.c_forms.specs.Plain as written
use Rattle.c_rules.specs.ByName.{structs_in}
use Rattle.c_syntax.specs.Plain.{plain_fun}
use Rattle.c_reader.specs.Standing.{fun_of}
use Rattle.c_reader.proofs.consume.funs_from.Given as goal

abbrev pub invariant-loop-f : goal.invariant-loop-f
invariant-loop-f l =
    map plain_fun l.made.items ++ map (fun_of (structs_in l.structs.table)) (map written.plain_fun (into_iter_items l.f-iterator)) ≡ map (fun_of (structs_in l.structs.table)) (map written.plain_fun l.fn.list)
