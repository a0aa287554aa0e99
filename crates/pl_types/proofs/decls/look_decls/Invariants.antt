use Rattle.std.proofs.Common.{◌≡◌, drop, map}
use Rattle.pl_syntax.specs.Plain.{plain_decl}
use Rattle.pl_syntax.specs.Breaches.{earlier, least}
use Rattle.pl_syntax.specs.DeclRules.{decls_breaches}
use Rattle.pl_syntax.specs.Known.{nothing}
use Rattle.pl_types.specs.Tables.{known_of, taken_in}
use Rattle.pl_types.proofs.decls.look_decls.Given as goal

abbrev pub invariant-loop-i : goal.invariant-loop-i
invariant-loop-i l =
    earlier l.found (least (decls_breaches (known_of l.tables) (taken_in l.seen) l.i (map plain_decl (drop l.i l.list))))
    ≡ least (decls_breaches (known_of l.tables) nothing 0 (map plain_decl l.list))
