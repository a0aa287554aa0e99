use Rattle.std.proofs.Common.{◌≡◌, ◌++◌, ◌≤◌, drop, map}
use Rattle.std.specs.Prelude.{filter, vec_len, vec_capacity}
use Rattle.c_meaning.specs.Events.{next_of, is_enabled}
use Rattle.c_meaning.specs.States.{shown, runs}
use Rattle.c_runner.specs.Standings.{stands}
use Rattle.c_runner.proofs.outlook.look.Given as goal

abbrev pub invariant-loop-t : goal.invariant-loop-t
invariant-loop-t l = record {
  standings : l.standings.items ++ map (stands (next_of (runs l.state) (shown l.state))) (drop l.t-index l.threads) ≡ map (stands (next_of (runs l.state) (shown l.state))) l.threads;
  enabled : l.enabled.items ++ filter (is_enabled (runs l.state) (shown l.state)) (drop l.t-index l.threads) ≡ filter (is_enabled (runs l.state) (shown l.state)) l.threads;
  standings_len : vec_len l.standings ≡ l.t-index;
  enabled_len : vec_len l.enabled ≤ l.t-index;
  standings_room : vec_capacity l.standings ≡ vec_capacity l.fn.standings;
  enabled_room : vec_capacity l.enabled ≡ vec_capacity l.fn.enabled;
}
