-- The first of places.
use Rattle.std.specs.Prelude.{ℕ, min, Option, Some, None, List, [], ◌∷◌}

-- the earlier of two places, where there are any
abbrev pub earlier : Option ℕ → Option ℕ → Option ℕ
earlier None b = b
earlier (Some n) None = Some n
earlier (Some n) (Some k) = Some (min n k)

-- the first of places
abbrev pub least : List ℕ → Option ℕ
least [] = None
least (n ∷ ns) = earlier (Some n) (least ns)

-- the one, or where it isn't there the other
abbrev pub first : Option ℕ → Option ℕ → Option ℕ
first None b = b
first (Some n) b = Some n
