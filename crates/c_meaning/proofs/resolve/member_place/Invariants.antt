use Rattle.std.proofs.Common.{◌≡◌, ◌+◌, map, drop}
use Rattle.c_meaning.specs.Resolve.{place_of}
use Rattle.c_meaning.proofs.resolve.member_place.Given as goal

abbrev pub invariant-loop-m : goal.invariant-loop-m
invariant-loop-m l = place_of (map (λ d. d.name) l.members) l.name ≡ l.place + place_of (map (λ d. d.name) (drop l.m-index l.members)) l.name
