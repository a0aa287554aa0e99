-- Numbers of one digit.
use Rattle.std.proofs.Common.{◌≡◌, ℕ, ◌-◌, true, false, List, [], ◌∷◌, Ok, Option, Some, None, IfSome, SomeIff, IsTrue, ap, sym, ◌∙◌, refl}
use Rattle.std.specs.Char.{is_ascii_digit}
use Rattle.pl_readers.specs.Reader.{begins}
use Rattle.pl_readers.specs.Bytes.{number, digits}
use Rattle.c_history.specs.Readers.{unsigned}

one_read : (c : ℕ) (rest : List ℕ) → is_ascii_digit c ≡ true → begins is_ascii_digit rest ≡ false → unsigned (c ∷ rest) ≡ Ok (c - 48, rest)
unfolding unsigned number digits
one_read c [] h k = rw h refl
one_read c (d ∷ rest) h k = rw h (rw k refl)

pub lone_read : (c : ℕ) (rest : List ℕ) (r : Option ℕ) → SomeIff r (IsTrue (is_ascii_digit c)) (c - 48) → begins is_ascii_digit rest ≡ false → IfSome r (λ n. unsigned (c ∷ rest) ≡ Ok (n, rest))
lone_read c rest None told k = tt
lone_read c rest (Some n) told k = one_read c rest told.0 k ∙ ap (λ z. Ok (z, rest)) (sym told.1)
