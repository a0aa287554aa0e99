-- What a call adds to the end of a text.
use Rattle.std.specs.Prelude.{◌≡◌, ◌++◌, ℕ, List, OnOk, Result, Vec}

-- where the call succeeds, the new bytes are the old ones and this text
abbrev pub Adds : {X E Z : Type 0} → Result X E → Vec ℕ Z → Vec ℕ Z → List ℕ → Type 0
Adds result old new text = OnOk result (new.items ≡ old.items ++ text)
