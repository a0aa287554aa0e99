-- Fractions in lowest terms.
use Rattle.std.proofs.Common.{◌≡◌, ℕ, zero, suc, ◌<◌, ◌%◌, refl, arith, mod-lt}
use Rattle.std.specs.Int.{IsGcd}
use Rattle.std.proofs.lemmas.Nat.Gcd.{IsGcd-from_mod, IsGcd-from_zero}
use Rattle.pl_base.specs.Fraction.{IsPart, IsReduced}
use Rattle.pl_base.proofs.FractionLaws.{is_reduced, reduced_same}
use Rattle.pl_grammar.specs.PropGrammar.{divisor, lowest}

smaller : (a b count : ℕ) → suc b < suc count → a % suc b < count
smaller a b count h = omega (arith, mod-lt)

pub divisor_is : (count a b : ℕ) → b < count → IsGcd a b (divisor count a b)
unfolding divisor
divisor_is zero a b h = absurd (omega arith)
divisor_is (suc count) a zero h = IsGcd-from_zero a 0 refl
divisor_is (suc count) a (suc b) h = IsGcd-from_mod a (suc b) (divisor count (suc b) (a % suc b)) (divisor_is count (suc b) (a % suc b) (smaller a b count h))

pub part_is : (n d : ℕ) (p : ℕ × ℕ) → IsPart n d → IsReduced n d p → p ≡ lowest n d
part_is n d p part reduced = reduced_same n d p (lowest n d) (omega (arith, part.some, part.within)) reduced (is_reduced n d (divisor (suc d) n d) part.some (divisor_is (suc d) n d (omega arith)))
