use Rattle.std.proofs.Common.{◌≡◌, ◌+◌, length, map, drop, flat_map}
use Rattle.c_forms.specs.Plain.{plain_fun}
use Rattle.c_forms.specs.Text.{fun_text}
use Rattle.c_rules.specs.Groups.{funs_breaches}
use Rattle.c_rules.specs.Least.{earlier, least}
use Rattle.c_rules.specs.Tables.{known_of}
use Rattle.c_rules.proofs.funs.look_funs.Given as goal

abbrev pub invariant-loop-i : goal.invariant-loop-i
invariant-loop-i l = record {
  end : l.part.end + length (flat_map fun_text (map plain_fun (drop l.i l.list))) ≡ l.at + length (flat_map fun_text (map plain_fun l.list));
  least : earlier l.part.least (least (funs_breaches (known_of l.tables) l.count l.i l.part.end (map plain_fun (drop l.i l.list))))
      ≡ least (funs_breaches (known_of l.tables) l.count 0 l.at (map plain_fun l.list));
}
