use Rattle.std.proofs.Common.{◌≡◌, map, drop}
use Rattle.c_rules.specs.Groups.{put_all, among}
use Rattle.c_rules.specs.Seen.{taken_in}
use Rattle.c_rules.proofs.declared_names.names_of.Given as goal

abbrev pub invariant-loop-h : goal.invariant-loop-h
invariant-loop-h l =
    put_all (map (λ h. h.name) (map (λ h. h.now) (drop l.h-index l.heads))) (taken_in l.seen) ≡ among (map (λ h. h.name) (map (λ h. h.now) l.heads))
