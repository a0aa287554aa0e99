-- What a numeral's text parses to.
use Rattle.std.proofs.Common.{◌≡◌, ℕ, ◌≤◌, ◌<◌, ◌^◌, true, List, length, Result, Ok, Err, rules, arith, sym, ◌∙◌}
use Rattle.std.proofs.lemmas.Bool.Decides.{nat_tests}
use Rattle.std.proofs.lemmas.Str.Parse.{IsNumeralModel, numerals_by_value, parse_gives, digits_value_short}
use Rattle.std.specs.Char.{is_ascii_digit}
use Rattle.std.specs.List.{list_all}
use Rattle.std.specs.Str.Parse.{digits_value, ParsesUnsigned}
use Rattle.pl_words.specs.Numbers.{is_numeral}

-- digits alone, as std's lemmas on `parse` want them
own : IsNumeralModel (λ ds. list_all is_ascii_digit ds ≡ true) (digits_value 10)
own = numerals_by_value _ (search rules)

record Parts (w : List ℕ) : Type 0 where
  some : 0 < length w
  few : length w ≤ 7
  digits : list_all is_ascii_digit w ≡ true

parts : (w : List ℕ) → is_numeral w ≡ true → Parts w
parts w h = record { some = grind (arith, nat_tests); few = grind (arith, nat_tests); digits = grind (arith, nat_tests) }

-- a numeral parses to its value
pub parsed : {E : Type 0} → (w : List ℕ) (r : Result ℕ E) → ParsesUnsigned 32 10 w r → is_numeral w ≡ true → r ≡ Ok (digits_value 10 w)
parsed w r p h =
    let q = parts w h in
    let short : digits_value 10 w < 10 ^ 7 = digits_value_short own w 7 q.digits q.few in
    parse_gives own 32 w r p q.digits q.some (omega (arith, short))

-- so it is not refused
pub refuted : {E : Type 0} → (w : List ℕ) (r : Result ℕ E) (e : E) → ParsesUnsigned 32 10 w r → is_numeral w ≡ true → r ≡ Err e → ⊥
refuted w r e p h q = grind (arith, sym q ∙ parsed w r p h)
