-- What a look-up in a list lends.
use Rattle.std.specs.Prelude.{Option, Some, None}
use Rattle.std.specs.Borrow.{Bor}

-- the element that is lent, if there is one
abbrev pub lent : {X : Type 0} → Option (Bor X) → Option X
lent None = None
lent (Some b) = Some b.now
