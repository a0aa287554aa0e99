use Rattle.std.proofs.Common.{◌≡◌, ◌+◌, length, map, drop}
use Rattle.c_syntax.specs.Text.{commas}
use Rattle.c_rules.specs.Commas.{commas_from}
use Rattle.c_rules.specs.Groups.{handed_text}
use Rattle.c_rules.proofs.starters.handed_end.Given as goal

abbrev pub invariant-loop-i : goal.invariant-loop-i
invariant-loop-i l = l.end + length (commas_from l.i (map handed_text (drop l.i l.list))) ≡ l.at + length (commas (map handed_text l.list))
