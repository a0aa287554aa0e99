use Rattle.std.proofs.Common.{◌≡◌, ◌+◌, map, drop, vec_len}
use Rattle.c_meaning.specs.Plain.{plain_term}
use Rattle.c_meaning.specs.Values.{arguments}
use Rattle.c_meaning.proofs.act.pass.Given as goal

abbrev pub invariant-loop-e : goal.invariant-loop-e
invariant-loop-e l =
    (arguments l.env (map plain_term l.args) 1 l.fn.locals.items ≡ arguments l.env (map plain_term (drop l.e-index l.args)) l.x l.locals.items) × (l.x ≡ l.e-index + 1) × (vec_len l.locals ≡ vec_len l.fn.locals)
