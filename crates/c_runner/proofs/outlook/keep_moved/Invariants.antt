use Rattle.std.proofs.Common.{◌≡◌, ◌++◌, ◌≤◌, drop}
use Rattle.std.specs.Prelude.{filter, vec_len, vec_capacity}
use Rattle.c_runner.specs.Standings.{has_moved}
use Rattle.c_runner.proofs.outlook.keep_moved.Given as goal

abbrev pub invariant-loop-a : goal.invariant-loop-a
invariant-loop-a l = record {
  moved : l.moved.items ++ filter (has_moved l.stepped l.made) (drop l.a-index l.standings) ≡ filter (has_moved l.stepped l.made) l.standings;
  len : vec_len l.moved ≤ l.a-index;
  room : vec_capacity l.moved ≡ vec_capacity l.fn.moved;
}
