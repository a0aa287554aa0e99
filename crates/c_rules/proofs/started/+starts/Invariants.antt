use Rattle.std.proofs.Common.{◌≡◌, drop}
use Rattle.c_forms.specs.Plain.{plain_stmts}
use Rattle.c_rules.specs.Groups.{put_all, stmts_starts}
use Rattle.c_rules.specs.Seen.{taken_in}
use Rattle.c_rules.proofs.started.+starts.Given as goal

abbrev pub invariant-add_stmts-loop-s : goal.invariant-add_stmts-loop-s
invariant-add_stmts-loop-s l = put_all (stmts_starts (plain_stmts (drop l.s-index l.list))) (taken_in l.seen) ≡ put_all (stmts_starts (plain_stmts l.list)) (taken_in l.initial.seen)
