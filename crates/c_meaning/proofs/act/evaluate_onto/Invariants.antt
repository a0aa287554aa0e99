use Rattle.std.proofs.Common.{◌≡◌, ◌+◌, map, drop, vec_len}
use Rattle.std.specs.Prelude.{vec_capacity}
use Rattle.c_meaning.specs.Plain.{plain_term}
use Rattle.c_meaning.specs.Values.{eval_onto}
use Rattle.c_meaning.proofs.act.evaluate_onto.Given as goal

abbrev pub invariant-loop-e : goal.invariant-loop-e
invariant-loop-e l =
    (eval_onto l.fn.values.items l.env (map plain_term l.list) ≡ eval_onto l.values.items l.env (map plain_term (drop l.e-index l.list))) × (vec_len l.values ≡ vec_len l.fn.values + l.e-index) × (vec_capacity l.values ≡ vec_capacity l.fn.values)
