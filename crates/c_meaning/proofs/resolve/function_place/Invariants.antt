use Rattle.std.proofs.Common.{◌≡◌, ◌+◌, map, drop}
use Rattle.c_meaning.specs.Resolve.{place_of}
use Rattle.c_meaning.proofs.resolve.function_place.Given as goal

abbrev pub invariant-loop-f : goal.invariant-loop-f
invariant-loop-f l = place_of (map (λ d. d.name) l.funs) l.name ≡ l.place + place_of (map (λ d. d.name) (drop l.f-index l.funs)) l.name
