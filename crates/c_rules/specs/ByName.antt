-- Tables of structures and of heads, as partial maps.
use Rattle.std.specs.Prelude.{ℕ, Option, List}
use Rattle.std.specs.Borrow.{Bor}
use Rattle.std.specs.HashMap.{HashMap, get_by}
use Rattle.std.specs.Str.{bytes_eq}
use Rattle.c_forms.specs.declared.source.Member.{Member}
use Rattle.c_forms.specs.declared.source.Head.{Head}
use Rattle.c_forms.specs.Tree.{Name}
use Rattle.c_rules.specs.Sorts.{Structs}
use Rattle.c_rules.specs.Tables.{members_lent, head_lent}

-- members by the name of their structure
abbrev pub structs_in : {S : Type 0} → HashMap (Bor (List ℕ)) (Bor (List Member)) S → Structs
structs_in table = λ q. members_lent (get_by (λ k. bytes_eq q k.now) table)

-- heads by the name of their function
abbrev pub heads_in : {S : Type 0} → HashMap (Bor (List ℕ)) (Bor Head) S → Name → Option Head
heads_in table = λ q. head_lent (get_by (λ k. bytes_eq q k.now) table)
