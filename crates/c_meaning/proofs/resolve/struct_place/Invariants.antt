use Rattle.std.proofs.Common.{◌≡◌, ◌+◌, map, drop}
use Rattle.c_meaning.specs.Resolve.{place_of}
use Rattle.c_meaning.proofs.resolve.struct_place.Given as goal

abbrev pub invariant-loop-s : goal.invariant-loop-s
invariant-loop-s l = place_of (map (λ d. d.name) l.structs) l.name ≡ l.place + place_of (map (λ d. d.name) (drop l.s-index l.structs)) l.name
