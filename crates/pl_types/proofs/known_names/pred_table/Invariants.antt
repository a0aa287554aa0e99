use Rattle.std.proofs.Common.{◌≡◌, ◌≤◌, length, map, drop}
use Rattle.pl_syntax.specs.Plain.{plain_decl}
use Rattle.pl_syntax.specs.Known.{preds_of}
use Rattle.pl_types.specs.Tables.{lists_in}
use Rattle.pl_types.proofs.known_names.pred_table.Given as goal

abbrev pub decreases-loop-i : goal.decreases-loop-i
decreases-loop-i l = l.i

abbrev pub invariant-loop-i : goal.invariant-loop-i
invariant-loop-i l = record { place : l.i ≤ length l.list; table : lists_in l.table ≡ preds_of (map plain_decl (drop l.i l.list)) }
