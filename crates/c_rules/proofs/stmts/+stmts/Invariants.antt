use Rattle.std.proofs.Common.{◌≡◌, ◌+◌, length, drop}
use Rattle.c_forms.specs.Plain.{plain_stmts}
use Rattle.c_forms.specs.Text.{stmts_text}
use Rattle.c_rules.specs.Kinds.{types}
use Rattle.c_rules.specs.Least.{earlier, least}
use Rattle.c_rules.specs.Lines.{Found, settled, stmts_found}
use Rattle.c_rules.specs.Locals.{scope_of, Grows}
use Rattle.c_rules.specs.States.{state_of}
use Rattle.c_rules.specs.Tables.{known_of}
use Rattle.c_rules.proofs.stmts.+stmts.Given as goal

abbrev pub invariant-look_stmts-loop-i : goal.invariant-look_stmts-loop-i
invariant-look_stmts-loop-i l =
    let whole : Found = stmts_found (known_of l.tables) (types l.last) l.level l.at (plain_stmts l.list) (settled (scope_of l.initial.locals.slots.items)) in
    let left : Found = stmts_found (known_of l.tables) (types l.last) l.level l.line.end (plain_stmts (drop l.i l.list)) (state_of l.locals.slots.items l.line.waiting) in
    record {
      end : l.line.end + length (stmts_text l.level (plain_stmts (drop l.i l.list))) ≡ l.at + length (stmts_text l.level (plain_stmts l.list));
      least : earlier l.line.least (least left.places) ≡ least whole.places;
      state : left.state ≡ whole.state;
      grows : Grows l.initial.locals.slots.items l.locals.slots.items;
    }
