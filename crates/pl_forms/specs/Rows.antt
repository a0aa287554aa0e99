-- Rows of numbers: the constant of a sum, and then the multiples of its atoms from atom 0 on.
use Rattle.std.specs.Prelude.{◌≡◌, ℕ, zero, suc, ◌^◌, ◌+◌, ◌-◌, ◌/◌, ◌%◌, ℤ, pos, negsuc, ◌+ℤ◌, ◌*ℤ◌, neg_ℤ, unsigned_abs, int_div, Bool, true, false, nat_lt, nat_le, if◌then◌else◌, List, [], ◌∷◌, map, set, drop, get_or, Option, Some, None}
use Rattle.pl_forms.specs.declared.form.Part.{Part}
use Rattle.pl_forms.specs.declared.form.Form.{Form}

-- the number at a place; 0 past the end
abbrev pub at : List ℤ → ℕ → ℤ
at d k = get_or d k (pos 0)

-- the sum that numbers stand for, where the first of them stands at place i
abbrev pub places_value : (ℕ → ℤ) → ℕ → List ℤ → ℤ
places_value v i [] = pos 0
places_value v i (c ∷ cs) = (c *ℤ v i) +ℤ places_value v (i + 1) cs

-- whole numbers for the places, of whole numbers for the atoms: the constant counts once
abbrev pub placed : (ℕ → ℤ) → ℕ → ℤ
placed v zero = pos 1
placed v (suc k) = v k

-- the value of a row
abbrev pub row_value : (ℕ → ℤ) → List ℤ → ℤ
row_value v d = places_value (placed v) 0 d

-- a number, unless it passes 2^126 in size
abbrev pub made : ℤ → Option ℤ
made z = if nat_le (unsigned_abs z) (2 ^ 126) then Some z else None

abbrev pub then_row : Option ℤ → (ℤ → Option (List ℤ)) → Option (List ℤ)
then_row None f = None
then_row (Some z) f = f z

abbrev pub then_more : Option (List ℤ) → (List ℤ → Option (List ℤ)) → Option (List ℤ)
then_more None f = None
then_more (Some d) f = f d

-- a multiple of c is added at place i, unless the product or the sum passes the limit
abbrev pub put_times : ℤ → ℤ → ℕ → List ℤ → Option (List ℤ)
put_times times c i d = then_row (made (times *ℤ c)) (λ p. then_row (made (at d i +ℤ p)) (λ s. Some (set d i s)))

-- a multiple of the parts is added, in their order
abbrev pub scatter : ℤ → List Part → List ℤ → Option (List ℤ)
scatter times [] d = Some d
scatter times (p ∷ ps) d = then_more (put_times times p.coeff (p.atom + 1) d) (λ e. scatter times ps e)

-- a multiple of a form is added: the constant, and then the parts
abbrev pub form_times : ℤ → Form → List ℤ → Option (List ℤ)
form_times times f d = then_more (put_times times f.constant 0 d) (λ e. scatter times f.parts e)

-- a multiple of numbers is added, from place i on
abbrev pub add_rows : ℤ → ℕ → List ℤ → List ℤ → Option (List ℤ)
add_rows times i [] d = Some d
add_rows times i (c ∷ cs) d = then_more (put_times times c i d) (λ e. add_rows times (i + 1) cs e)

-- the row is this one, or there is none
abbrev pub Added : Bool → List ℤ → Option (List ℤ) → Type 0
Added true d wanted = wanted ≡ Some d
Added false d wanted = wanted ≡ None

-- Euclid's algorithm, in so many steps
abbrev pub gcd_by : ℕ → ℕ → ℕ → ℕ
gcd_by zero a b = a
gcd_by (suc f) a zero = a
gcd_by (suc f) a (suc b) = gcd_by f (suc b) (a % suc b)

-- the greatest common divisor
unfoldable pub gcd : ℕ → ℕ → ℕ
gcd a b = gcd_by b a b

-- .. of g and of all the numbers
abbrev pub gcd_from : ℕ → List ℤ → ℕ
gcd_from g [] = g
gcd_from g (c ∷ cs) = gcd_from (gcd (unsigned_abs c) g) cs

-- the least whole number not below a quotient
abbrev pub ceil_div : ℤ → ℕ → ℤ
ceil_div (pos n) g = pos ((n + (g - 1)) / g)
ceil_div (negsuc n) g = neg_ℤ (pos (suc n / g))

-- the divisor by which a row is tightened
abbrev pub divisor : List ℤ → ℕ
divisor d = gcd_from 0 (drop 1 d)

-- a row divided by g, its constant rounded up
abbrev pub tight_by : ℕ → List ℤ → List ℤ
tight_by g d = if nat_lt 1 g then (set (map (λ c. int_div c (pos g)) d) 0 (ceil_div (at d 0) g)) else d

-- a row divided by the greatest common divisor of its multiples, its constant rounded up
abbrev pub tight : List ℤ → List ℤ
tight d = tight_by (divisor d) d
