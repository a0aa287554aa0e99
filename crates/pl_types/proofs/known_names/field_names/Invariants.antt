use Rattle.std.proofs.Common.{◌≡◌, map, drop}
use Rattle.pl_syntax.specs.Plain.{plain_decl}
use Rattle.pl_syntax.specs.Known.{fields_of, nothing}
use Rattle.pl_types.specs.Tables.{taken_in}
use Rattle.pl_types.proofs.known_names.field_names.Given as goal

abbrev pub invariant-loop-d : goal.invariant-loop-d
invariant-loop-d l = fields_of (map plain_decl (drop l.d-index l.list)) (taken_in l.seen) ≡ fields_of (map plain_decl l.list) nothing
