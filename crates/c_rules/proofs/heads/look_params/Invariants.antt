use Rattle.std.proofs.Common.{◌≡◌, ◌+◌, length, map, drop}
use Rattle.c_syntax.specs.Text.{commas}
use Rattle.c_forms.specs.Text.{param_text}
use Rattle.c_rules.specs.Commas.{gap, commas_from}
use Rattle.c_rules.specs.Groups.{params_breaches, nothing}
use Rattle.c_rules.specs.Least.{earlier, least}
use Rattle.c_rules.specs.Seen.{taken_in}
use Rattle.c_rules.specs.Tables.{known_of}
use Rattle.c_rules.proofs.heads.look_params.Given as goal

abbrev pub invariant-loop-i : goal.invariant-loop-i
invariant-loop-i l = record {
  end : l.part.end + length (commas_from l.i (map param_text (drop l.i l.list))) ≡ l.at + length (commas (map param_text l.list));
  least : earlier l.part.least (least (params_breaches (known_of l.tables).structs (taken_in l.seen) (l.i + 1) (l.part.end + gap l.i) (drop l.i l.list)))
      ≡ least (params_breaches (known_of l.tables).structs nothing 1 l.at l.list);
}
