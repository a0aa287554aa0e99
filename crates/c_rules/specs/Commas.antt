-- Texts with commas between them, from the i-th on.
use Rattle.std.specs.Prelude.{ℕ, ◌==◌, List, if◌then◌else◌}
use Rattle.c_syntax.specs.Text.{commas, behind_commas}

-- the length of the comma and the blank before the i-th
abbrev pub gap : ℕ → ℕ
gap i = if i == 0 then 0 else 2

-- what is left from the i-th on
abbrev pub commas_from : ℕ → List (List ℕ) → List ℕ
commas_from i texts = if i == 0 then commas texts else behind_commas texts
