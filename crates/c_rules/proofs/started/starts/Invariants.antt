use Rattle.std.proofs.Common.{◌≡◌, drop, map}
use Rattle.c_forms.specs.Plain.{plain_fun}
use Rattle.c_rules.specs.Groups.{among, put_all, funs_starts}
use Rattle.c_rules.specs.Seen.{taken_in}
use Rattle.c_rules.proofs.started.starts.Given as goal

abbrev pub invariant-loop-f : goal.invariant-loop-f
invariant-loop-f l = put_all (funs_starts (map plain_fun (drop l.f-index l.funs))) (taken_in l.seen) ≡ among (funs_starts (map plain_fun l.funs))
