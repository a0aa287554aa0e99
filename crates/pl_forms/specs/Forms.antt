-- Linear forms: a sum of whole multiples of atoms and a constant.
use Rattle.std.specs.Prelude.{◌≡◌, ℕ, zero, suc, ◌≤◌, ◌^◌, ◌+◌, ◌-◌, min, ℤ, pos, negsuc, ◌+ℤ◌, ◌*ℤ◌, unsigned_abs, Bool, true, false, nat_lt, if◌then◌else◌, List, [], ◌∷◌, ◌++◌, Option, Some, None, Result, Ok, Err}
use Rattle.std.specs.List.{All}
use Rattle.std.specs.declared.vec.Vec.{Vec}
use Rattle.std.specs.declared.alloc.Global.{Global}
use Rattle.pl_forms.specs.declared.form.Part.{Part}
use Rattle.pl_forms.specs.declared.form.Form.{Form}
use Rattle.pl_forms.specs.declared.form.TermError.{TermError}
use Rattle.pl_forms.specs.declared.form.TermError.TheVariants.{TooLarge, Memory}

-- the sum of the parts, at whole numbers for the atoms
abbrev pub parts_value : (ℕ → ℤ) → List Part → ℤ
parts_value v [] = pos 0
parts_value v (p ∷ ps) = (p.coeff *ℤ v p.atom) +ℤ parts_value v ps

-- the value of a form, at whole numbers for the atoms
abbrev pub value : (ℕ → ℤ) → Form → ℤ
value v f = parts_value v f.parts +ℤ f.constant

-- no multiple is past its limit
abbrev pub Small : List Part → Type 0
Small ps = All (λ p. unsigned_abs p.coeff ≤ 2 ^ 40) ps

abbrev pub is_zero : ℤ → Bool
is_zero (pos zero) = true
is_zero (pos (suc n)) = false
is_zero (negsuc n) = false

-- the atoms ascend from `low` on, and no multiple is zero
abbrev pub Ascends : ℕ → List Part → Type 0
Ascends low [] = Unit {0}
Ascends low (p ∷ ps) = (low ≤ p.atom) × (is_zero p.coeff ≡ false) × Ascends (p.atom + 1) ps

-- the one way in which a sum is written, within its limits
pub record IsForm (f : Form) : Type 0 where
  pub ascends : Ascends 0 f.parts
  pub small : Small f.parts
  pub bounded : unsigned_abs f.constant ≤ 2 ^ 80

-- the form of an atom
abbrev pub atom_form : ℕ → Form
atom_form a = record { parts = record { coeff = pos 1; atom = a } ∷ []; constant = pos 0 }

-- a multiple in front of others, unless it is zero
abbrev pub put_part : ℕ → ℤ → List Part → List Part
put_part atom c rest = if is_zero c then rest else (record { coeff = c; atom = atom } ∷ rest)

-- a part among those of another list, and `rest` of what is left of that list
abbrev pub merge_into : Part → (List Part → List Part) → List Part → List Part
merge_into a rest [] = a ∷ rest []
merge_into a rest (b ∷ bs) =
    if nat_lt a.atom b.atom
    then (a ∷ rest (b ∷ bs))
    else (if nat_lt b.atom a.atom then (b ∷ merge_into a rest bs) else put_part a.atom (a.coeff +ℤ b.coeff) (rest bs))

-- the parts of both, in the order of their atoms
abbrev pub merge : List Part → List Part → List Part
merge [] bs = bs
merge (a ∷ more) bs = merge_into a (λ rest. merge more rest) bs

-- the size of the first multiple past its limit
abbrev pub excess : List Part → Option ℕ
excess [] = None
excess (p ∷ ps) = if nat_lt (2 ^ 40) (unsigned_abs p.coeff) then Some (unsigned_abs p.coeff) else excess ps

-- a size past its limit, or 2^127 - 1 where it is greater
abbrev pub too_large : ℕ → TermError
too_large n = TooLarge (min n (2 ^ 127 - 1))

abbrev pub limited_by : Option ℕ → List Part → ℤ → Result Form TermError
limited_by (Some n) ps c = Err (TooLarge n)
limited_by None ps c = if nat_lt (2 ^ 80) (unsigned_abs c) then Err (too_large (unsigned_abs c)) else Ok (record { parts = ps; constant = c })

-- the form of these parts and this constant, or the first size past its limit
abbrev pub limited : List Part → ℤ → Result Form TermError
limited ps c = limited_by (excess ps) ps c

-- the sum of two forms
abbrev pub sum : Form → Form → Result Form TermError
sum f g = limited (merge f.parts g.parts) (f.constant +ℤ g.constant)

-- exactly this answer, or want of memory
abbrev pub Answers : Result Form TermError → Result Form TermError → Type 0
Answers (Ok f) wanted = wanted ≡ Ok f
Answers (Err (TooLarge n)) wanted = wanted ≡ Err (TooLarge n)
Answers (Err Memory) wanted = Unit {0}

-- a constant within its limit
abbrev pub limited_constant : ℤ → Result ℤ TermError
limited_constant c = if nat_lt (2 ^ 80) (unsigned_abs c) then Err (too_large (unsigned_abs c)) else Ok c

-- a multiple of a part, within its limit
abbrev pub limited_part : ℤ → Part → Result Part TermError
limited_part k p =
    if nat_lt (2 ^ 40) (unsigned_abs (k *ℤ p.coeff))
    then (Err (too_large (unsigned_abs (k *ℤ p.coeff))))
    else (Ok (record { coeff = k *ℤ p.coeff; atom = p.atom }))

-- what was made so far before what is still to be made
abbrev pub onto : List Part → Result (List Part) TermError → Result (List Part) TermError
onto made (Ok rest) = Ok (made ++ rest)
onto made (Err e) = Err e

abbrev pub after_part : Result Part TermError → Result (List Part) TermError → Result (List Part) TermError
after_part (Err e) rest = Err e
after_part (Ok p) rest = onto (p ∷ []) rest

-- the multiples of parts, or the first size past its limit
abbrev pub all_limited : ℤ → List Part → Result (List Part) TermError
all_limited k [] = Ok []
all_limited k (p ∷ ps) = after_part (limited_part k p) (all_limited k ps)

-- exactly these parts, or want of memory
abbrev pub Multiplied : Result (Vec Part Global) TermError → Result (List Part) TermError → Type 0
Multiplied (Ok v) wanted = wanted ≡ Ok v.items
Multiplied (Err (TooLarge n)) wanted = wanted ≡ Err (TooLarge n)
Multiplied (Err Memory) wanted = Unit {0}

abbrev pub with_constant : Result (List Part) TermError → Result ℤ TermError → Result Form TermError
with_constant (Err e) c = Err e
with_constant (Ok ps) (Err e) = Err e
with_constant (Ok ps) (Ok c) = Ok (record { parts = ps; constant = c })

-- a multiple of a form, or the first size past its limit
abbrev pub scaled : ℤ → Form → Result Form TermError
scaled k f =
    if is_zero k
    then (Ok (record { parts = []; constant = pos 0 }))
    else with_constant (all_limited k f.parts) (limited_constant (k *ℤ f.constant))
