use Rattle.std.proofs.Common.{◌≡◌, None, map}
use Rattle.std.specs.Vec.Iter.{into_iter_items}
use Rattle.c_forms.specs.Plain.{plain_stmts}
use Rattle.c_rules.specs.ByName.{structs_in}
use Rattle.c_syntax.specs.Plain.{plain_stmt}
use Rattle.c_reader.specs.Follow.{follow}
use Rattle.c_reader.specs.Gathers.{gathering}
use Rattle.c_reader.specs.Standing as spec
use Rattle.c_reader.proofs.consume.body_from.Given as goal

abbrev pub invariant-loop-s : goal.invariant-loop-s
invariant-loop-s l =
    follow (map plain_stmt l.out.items) (spec.stmts_of (structs_in l.structs.table) (plain_stmts (into_iter_items l.s-iterator)) (gathering l.gathered))
    ≡ spec.stmts_of (structs_in l.structs.table) (plain_stmts l.fn.list) None
