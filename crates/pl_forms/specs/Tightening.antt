-- Inequalities between whole numbers, tightened.
use Rattle.std.specs.Prelude.{ℕ, pos, unsigned_abs, int_div, nat_lt, if◌then◌else◌, List, [], ◌∷◌, map}
use Rattle.pl_forms.specs.declared.form.Part.{Part}
use Rattle.pl_forms.specs.declared.form.Form.{Form}
use Rattle.pl_forms.specs.Rows.{gcd, ceil_div}

-- the greatest common divisor of g and of all multiples
abbrev pub common : ℕ → List Part → ℕ
common g [] = g
common g (p ∷ ps) = common (gcd (unsigned_abs p.coeff) g) ps

abbrev pub divided : ℕ → Part → Part
divided g p = record { coeff = int_div p.coeff (pos g); atom = p.atom }

-- a form divided by g, its constant rounded up
abbrev pub tight_form_by : ℕ → Form → Form
tight_form_by g f = if nat_lt 1 g then (record { parts = map (divided g) f.parts; constant = ceil_div f.constant g }) else f

-- a form divided by the greatest common divisor of its multiples, its constant rounded up; without atoms it stays as it is
abbrev pub tight_form : Form → Form
tight_form f = tight_form_by (common 0 f.parts) f
