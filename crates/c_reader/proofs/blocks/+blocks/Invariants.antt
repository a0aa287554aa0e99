use Rattle.std.proofs.Common.{◌≡◌, None, map, drop}
use Rattle.c_forms.specs.Plain.{plain_stmts}
use Rattle.c_rules.specs.ByName.{structs_in}
use Rattle.c_syntax.specs.Plain.{plain_stmt}
use Rattle.c_reader.specs.Follow.{follow}
use Rattle.c_reader.specs.Gathers.{gathering}
use Rattle.c_reader.specs.Standing as spec
use Rattle.c_reader.proofs.blocks.+blocks.Given as goal

abbrev pub invariant-stmts_of-loop-s : goal.invariant-stmts_of-loop-s
invariant-stmts_of-loop-s l =
    follow (map plain_stmt l.out.items) (spec.stmts_of (structs_in l.structs.table) (plain_stmts (drop l.s-index l.list)) (gathering l.gathered))
    ≡ spec.stmts_of (structs_in l.structs.table) (plain_stmts l.list) None
