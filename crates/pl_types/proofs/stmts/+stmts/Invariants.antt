use Rattle.std.proofs.Common.{◌≡◌, ◌&&◌, drop}
use Rattle.pl_syntax.specs.Plain.{plain_stmts}
use Rattle.pl_syntax.specs.Breaches.{earlier, least}
use Rattle.pl_types.specs.Held.{sorts}
use Rattle.pl_syntax.specs.StmtRules.{stmts_breaches, are_ghost, behind_all}
use Rattle.pl_types.specs.Tables.{known_of}
use Rattle.pl_types.proofs.stmts.+stmts.Given as goal

abbrev pub invariant-look_stmts-loop-i : goal.invariant-look_stmts-loop-i
invariant-look_stmts-loop-i l =
    let known = known_of l.tables in
    let left = plain_stmts (drop l.i l.list) in
    record {
      found : earlier l.looked.found (least (stmts_breaches known l.spot (sorts l.last) l.scope left)) ≡ least (stmts_breaches known l.spot (sorts l.last) l.initial.scope (plain_stmts l.list));
      ghosts : (l.looked.is_ghost && are_ghost known left l.scope) ≡ are_ghost known (plain_stmts l.list) l.initial.scope;
      scope : behind_all known left l.scope ≡ behind_all known (plain_stmts l.list) l.initial.scope;
    }
