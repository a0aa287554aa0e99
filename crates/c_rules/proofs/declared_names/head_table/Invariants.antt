use Rattle.std.proofs.Common.{◌≡◌, ◌≤◌, length, map, drop}
use Rattle.c_forms.specs.Plain.{plain_fun}
use Rattle.c_rules.specs.ByName.{heads_in}
use Rattle.c_rules.specs.Groups.{head_of}
use Rattle.c_rules.proofs.declared_names.head_table.Given as goal

abbrev pub decreases-loop-i : goal.decreases-loop-i
decreases-loop-i l = l.i

abbrev pub invariant-loop-i : goal.invariant-loop-i
invariant-loop-i l = record { place : l.i ≤ length l.list; table : heads_in l.table ≡ head_of (map (λ f. f.head) (map plain_fun (drop l.i l.list))) }
