-- What the tables of the code hold, as partial maps.
use Rattle.std.specs.Prelude.{Option, Some, None, List, map}
use Rattle.std.specs.Borrow.{Bor}
use Rattle.std.specs.HashMap.{get_by}
use Rattle.std.specs.Str.{bytes_eq}
use Rattle.c_syntax.specs.declared.program.CMember.{CMember}
use Rattle.c_forms.specs.declared.source.Member.{Member}
use Rattle.c_forms.specs.declared.source.Head.{Head}
use Rattle.c_rules.specs.declared.tables.Tables as tables
use Rattle.c_rules.specs.Lines.{Known, member_of}
use Rattle.c_rules.specs.Seen.{taken_in}

-- lent members, and a lent head
abbrev pub members_lent : Option (Bor (List Member)) → Option (List CMember)
members_lent None = None
members_lent (Some b) = Some (map member_of b.now)

abbrev pub head_lent : Option (Bor Head) → Option Head
head_lent None = None
head_lent (Some b) = Some b.now

-- what the tables tell
abbrev pub known_of : tables.Tables → Known
known_of t = record {
  structs = λ q. members_lent (get_by (λ k. bytes_eq q k.now) t.structs);
  heads = λ q. head_lent (get_by (λ k. bytes_eq q k.now) t.heads);
  missing = taken_in t.missing;
}
