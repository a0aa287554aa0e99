use Rattle.std.proofs.Common.{◌≡◌, ◌+◌, length, map, drop, flat_map}
use Rattle.c_forms.specs.Plain.{plain_load}
use Rattle.c_forms.specs.Text.{load_text}
use Rattle.c_rules.specs.Least.{earlier, least}
use Rattle.c_rules.specs.Lines.{loads_breaches, bind_loads}
use Rattle.c_rules.specs.Locals.{scope_of, Grows}
use Rattle.c_rules.specs.Tables.{known_of}
use Rattle.c_rules.proofs.one_line.look_loads.Given as goal

abbrev pub invariant-loop-l : goal.invariant-loop-l
invariant-loop-l l = record {
  end : l.part.end + length (flat_map (load_text l.level) (map plain_load (drop l.l-index l.list))) ≡ l.at + length (flat_map (load_text l.level) (map plain_load l.list));
  least : earlier l.part.least (least (loads_breaches (known_of l.tables) (scope_of l.locals.slots.items) l.level l.part.end (map plain_load (drop l.l-index l.list))))
      ≡ least (loads_breaches (known_of l.tables) (scope_of l.initial.locals.slots.items) l.level l.at (map plain_load l.list));
  scope : bind_loads (scope_of l.locals.slots.items) (map plain_load (drop l.l-index l.list)) ≡ bind_loads (scope_of l.initial.locals.slots.items) (map plain_load l.list);
  grows : Grows l.initial.locals.slots.items l.locals.slots.items;
}
