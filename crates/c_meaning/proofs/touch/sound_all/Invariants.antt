use Rattle.std.proofs.Common.{◌≡◌, map, drop}
use Rattle.c_meaning.specs.Plain.{plain_term}
use Rattle.c_meaning.specs.Touching.{sound_all}
use Rattle.c_meaning.proofs.touch.sound_all.Given as goal

abbrev pub invariant-loop-e : goal.invariant-loop-e
invariant-loop-e l = sound_all l.env (map plain_term l.list) ≡ sound_all l.env (map plain_term (drop l.e-index l.list))
