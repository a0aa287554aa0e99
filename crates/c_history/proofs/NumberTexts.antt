-- What readers of numbers take is what is written of numbers.
use Rattle.std.proofs.Common.{◌≡◌, ◌∙◌, sym, ap, subst, refl, ℕ, zero, suc, ◌+◌, ◌-◌, ◌*◌, ◌<◌, ◌≤◌, ◌^◌, arith, rules, true, List, [], ◌∷◌, length, get_or}
use Rattle.std.specs.Char.{is_ascii_digit}
use Rattle.std.specs.List.{list_all}
use Rattle.std.specs.Fmt.{decimal}
use Rattle.std.proofs.lemmas.Bool.{and_parts}
use Rattle.std.proofs.lemmas.Str.Parse.{IsNumeralModel, numerals_by_fold}
use Rattle.std.proofs.lemmas.Fmt.{decimal-digits_value, digits_decimal, digits_value-decimal, decimal_nonempty, first_decimal, decimal_digit}
use Rattle.pl_readers.specs.Bytes.{Number, value_from}

pub own : IsNumeralModel (λ ds. list_all is_ascii_digit ds ≡ true) (value_from 0)
own = numerals_by_fold _ (search rules) value_from (search rules)

-- what is read as a number is that number in decimal
pub number_is : (limit n : ℕ) (t : List ℕ) → limit ≤ 2 ^ 64 → Number limit n t → t ≡ decimal n
number_is limit n t small h =
    let z : 0 * 10 + (h.0 - 48) ≡ h.0 - 48 = omega arith in
    let v : value_from 0 t ≡ n = rw h.2 (ap (λ (m : ℕ). value_from m h.1) z ∙ h.6) in
    let each : list_all is_ascii_digit t ≡ true = rw (h.2, h.3) h.4 in
    let some : 0 < length t = rw h.2 (omega arith) in
    let no_zero : get_or t 0 0 ≡ 48 → length t ≡ 1 = λ first. let c_is : h.0 ≡ 48 = (rw h.2 at first) in rw (h.2, h.5 c_is) refl in
    sym (ap decimal (sym v) ∙ decimal-digits_value own t each some no_zero (rw v (omega (arith, h.7))))

abbrev tail : List ℕ → List ℕ
tail [] = []
tail (x ∷ xs) = xs

alone : (c : ℕ) (cs : List ℕ) (n : ℕ) → n < 2 ^ 64 → decimal n ≡ c ∷ cs → c ≡ 48 → cs ≡ []
alone c cs zero small e is = let f = sym e ∙ decimal_digit 0 (omega arith) in ap (λ (xs : List ℕ). tail xs) f
alone c cs (suc n) small e is =
    let first : 48 < get_or (decimal (suc n)) 0 0 = first_decimal (suc n) (omega arith) small in
    absurd (omega (arith, subst (λ (xs : List ℕ). 48 < get_or xs 0 0) e first, is))

number_from : (limit n : ℕ) (ds : List ℕ) → limit ≤ 2 ^ 64 → n < limit → decimal n ≡ ds → Number limit n ds
number_from limit n [] small lt e = absurd (omega (arith, decimal_nonempty n (omega arith), ap length e))
number_from limit n (c ∷ cs) small lt e =
    let fits : n < 2 ^ 64 = omega arith in
    let each : list_all is_ascii_digit (c ∷ cs) ≡ true = subst (λ (ds : List ℕ). list_all is_ascii_digit ds ≡ true) e (digits_decimal own n fits) in
    let p = and_parts (is_ascii_digit c) (list_all is_ascii_digit cs) each in
    let value : value_from 0 (c ∷ cs) ≡ n = ap (λ (ds : List ℕ). value_from 0 ds) (sym e) ∙ digits_value-decimal own n fits in
    let z : c - 48 ≡ 0 * 10 + (c - 48) = omega arith in
    (c, cs, refl, p.0, p.1, alone c cs n fits e, ap (λ (m : ℕ). value_from m cs) z ∙ value, lt)

-- a number in decimal is read as it
pub is_number : (limit n : ℕ) → limit ≤ 2 ^ 64 → n < limit → Number limit n (decimal n)
is_number limit n small lt = number_from limit n (decimal n) small lt refl
