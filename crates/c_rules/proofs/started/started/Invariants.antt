use Rattle.std.proofs.Common.{◌≡◌, ◌++◌, drop, map, filter}
use Rattle.c_forms.specs.Plain.{plain_fun}
use Rattle.c_rules.specs.Seen.{taken_in}
use Rattle.c_rules.proofs.started.started.Given as goal

abbrev pub invariant-loop-f : goal.invariant-loop-f
invariant-loop-f l =
    map (λ h. h.now) l.heads.items ++ map (λ f. f.head) (filter (λ f. taken_in l.names f.head.name) (map plain_fun (drop l.f-index l.funs)))
    ≡ map (λ f. f.head) (filter (λ f. taken_in l.names f.head.name) (map plain_fun l.funs))
