-- The names that were declared, as the code holds them.
use Rattle.std.specs.HashMap.{get_by}
use Rattle.std.specs.Option.{is_some}
use Rattle.std.specs.Str.{bytes_eq}
use Rattle.c_rules.specs.declared.seen.Seen as seen
use Rattle.c_rules.specs.Groups.{Taken}

abbrev pub taken_in : seen.Seen → Taken
taken_in s = λ q. is_some (get_by (λ k. bytes_eq q k.now) s.names)
