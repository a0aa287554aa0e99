-- Breaches of the rules by kind and place, and the first of them.
use Rattle.std.specs.Prelude.{ℕ, ◌==◌, ◌&&◌, ◌||◌, nat_lt, Bool, false, Option, Some, None, if◌then◌else◌, List, [], ◌∷◌}
use Rattle.pl_base.specs.declared.pos.Pos.{Pos}
use Rattle.pl_syntax.specs.declared.rules.Rule.{Rule}
use Rattle.pl_syntax.specs.declared.rules.Rule.TheVariants.{Unknown, Twice, GhostFlow, IllTyped, Opening, Measure}
use Rattle.pl_syntax.specs.declared.rules.Breach.{Breach}

-- rules on names come before all others
abbrev pub group : Rule → ℕ
group Unknown = 0
group Twice = 0
group _ = 1

-- the order of several breaches at one place
abbrev pub rank : Rule → ℕ
rank Unknown = 0
rank Twice = 1
rank GhostFlow = 2
rank IllTyped = 3
rank Opening = 4
rank Measure = 5

-- the lesser number goes first; between equal ones the rest decides
abbrev pub precedes : ℕ → ℕ → Bool → Bool
precedes m n rest = nat_lt m n || (m == n && rest)

-- whether a breach comes before another: by names and other rules, then by place, then by kind
abbrev pub comes_before : Breach → Breach → Bool
comes_before a b =
    precedes (group a.rule) (group b.rule) (precedes a.pos.byte b.pos.byte (precedes (rank a.rule) (rank b.rule) false))

-- the one that comes first, where there are any
abbrev pub earlier : Option Breach → Option Breach → Option Breach
earlier None b = b
earlier (Some a) None = Some a
earlier (Some a) (Some b) = if comes_before b a then Some b else Some a

-- the first of breaches
abbrev pub least : List Breach → Option Breach
least [] = None
least (a ∷ rest) = earlier (Some a) (least rest)

-- the one, or where it isn't there the other
abbrev pub first : Option Breach → Option Breach → Option Breach
first None b = b
first (Some a) b = Some a

-- a breach of that kind at that place
abbrev pub at : Rule → Pos → Breach
at rule pos = record { rule = rule; pos = pos }

-- such a breach, unless the test holds
abbrev pub unless : Bool → Rule → Pos → List Breach
unless test rule pos = if test then [] else at rule pos ∷ []

-- these, or where there are none those
abbrev pub or_else : List Breach → List Breach → List Breach
or_else [] others = others
or_else (a ∷ rest) others = a ∷ rest
