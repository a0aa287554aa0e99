-- The rows of forms.
use Rattle.std.specs.Prelude.{ℕ, zero, suc, ◌+◌, ℤ, List, [], ◌∷◌}
use Rattle.pl_forms.specs.declared.form.Part.{Part}
use Rattle.pl_forms.specs.declared.form.Form.{Form}
use Rattle.pl_forms.specs.Equations.{coeff_of}

-- so many multiples, from atom a on
abbrev pub multiples : ℕ → ℕ → List Part → List ℤ
multiples zero a ps = []
multiples (suc n) a ps = coeff_of a ps ∷ multiples n (a + 1) ps

-- the row of a form, with places for n atoms
abbrev pub row_of : ℕ → Form → List ℤ
row_of n f = f.constant ∷ multiples n 0 f.parts
