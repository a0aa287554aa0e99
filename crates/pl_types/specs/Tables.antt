-- What the tables of the code hold, as partial maps.
use Rattle.std.specs.Prelude.{ℕ, Option, Some, None, List}
use Rattle.std.specs.Borrow.{Bor}
use Rattle.std.specs.HashMap.{HashMap, get_by}
use Rattle.std.specs.Option.{is_some}
use Rattle.std.specs.Str.{bytes_eq}
use Rattle.pl_syntax.specs.declared.expr.Binder.{Binder}
use Rattle.pl_syntax.specs.Plain.{plain_fun}
use Rattle.pl_syntax.specs.Tree.{Name}
use Rattle.pl_types.specs.declared.seen.Seen as seen
use Rattle.pl_types.specs.declared.tables.Callee.{Callee}
use Rattle.pl_types.specs.declared.tables.Tables as tables
use Rattle.pl_types.specs.Held.{lent}
use Rattle.pl_syntax.specs.Known.{Known, Placed, Taken}

abbrev pub taken_in : seen.Seen → Taken
taken_in s = λ q. is_some (get_by (λ k. bytes_eq q k.now) s.names)

-- a function with its place
abbrev pub callee : Callee → Placed
callee c = record { place = c.place; fun = plain_fun c.decl.now }

abbrev pub placed : Option Callee → Option Placed
placed None = None
placed (Some c) = Some (callee c)

-- lists of binders by name, and functions by name
abbrev pub lists_in : {S : Type 0} → HashMap (Bor (List ℕ)) (Bor (List Binder)) S → Name → Option (List Binder)
lists_in table = λ q. lent (get_by (λ k. bytes_eq q k.now) table)

abbrev pub funs_in : {S : Type 0} → HashMap (Bor (List ℕ)) Callee S → Name → Option Placed
funs_in table = λ q. placed (get_by (λ k. bytes_eq q k.now) table)

-- what the tables tell
abbrev pub known_of : tables.Tables → Known
known_of t = record {
  structs = lists_in t.structs;
  preds = lists_in t.preds;
  funs = funs_in t.funs;
  has_field = taken_in t.fields;
}
