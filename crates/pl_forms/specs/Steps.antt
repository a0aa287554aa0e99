-- The sum of a form and a multiple of another.
use Rattle.std.specs.Prelude.{◌≡◌, ℤ, negsuc, ◌+ℤ◌, ◌*ℤ◌, List, ◌++◌, map, Some, None, Result, Ok, Err}
use Rattle.std.specs.declared.vec.Vec.{Vec}
use Rattle.std.specs.declared.alloc.Global.{Global}
use Rattle.pl_forms.specs.declared.form.Part.{Part}
use Rattle.pl_forms.specs.declared.form.Form.{Form}
use Rattle.pl_forms.specs.declared.form.TermError.{TermError}
use Rattle.pl_forms.specs.declared.form.TermError.TheVariants.{TooLarge, Memory}
use Rattle.pl_forms.specs.Forms.{merge, excess, limited}

-- a multiple of a part
abbrev pub times_part : ℤ → Part → Part
times_part k p = record { coeff = k *ℤ p.coeff; atom = p.atom }

-- a form and k times another; only the sum is held to the limits
abbrev pub plus : Form → ℤ → Form → Result Form TermError
plus f k g = limited (merge f.parts (map (times_part k) g.parts)) (f.constant +ℤ (k *ℤ g.constant))

-- a form less another, and k; only the whole is held to the limits
abbrev pub difference : Form → Form → ℤ → Result Form TermError
difference f g k = limited (merge f.parts (map (times_part (negsuc 0)) g.parts)) ((f.constant +ℤ (negsuc 0 *ℤ g.constant)) +ℤ k)

-- parts that keep their limits were put behind those before, or the first past its limit is told
abbrev pub Put : Result (Unit {0}) TermError → List Part → List Part → List Part → Type 0
Put (Ok u) before now ps = (excess ps ≡ None) × (now ≡ before ++ ps)
Put (Err (TooLarge n)) before now ps = excess ps ≡ Some n
Put (Err Memory) before now ps = Unit {0}

-- these are the parts, and they keep their limits, or the first past its limit is told
abbrev pub Merged : Result (Vec Part Global) TermError → List Part → Type 0
Merged (Ok v) ps = (excess ps ≡ None) × (v.items ≡ ps)
Merged (Err (TooLarge n)) ps = excess ps ≡ Some n
Merged (Err Memory) ps = Unit {0}
