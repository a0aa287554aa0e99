-- Laws of the text.
use Rattle.std.proofs.Common.{◌≡◌, ◌∙◌, ℕ, zero, suc, ◌+◌, List, ◌++◌, refl, ap, add-one, append_assoc, Result, Ok, Err}
use Rattle.std.specs.Prelude.{codes, OnOk}
use Rattle.pl_print.specs.Lists.{indent}

indent-suc : (n : ℕ) → indent (suc n) ≡ indent n ++ codes "  "
indent-suc zero = refl
indent-suc (suc n) = ap (λ t. codes "  " ++ t) (indent-suc n)

-- one level more is two blanks more
pub indent-add_one : (n : ℕ) → indent (n + 1) ≡ indent n ++ codes "  "
indent-add_one n = ap indent (add-one n) ∙ indent-suc n

three : (o a b c x y z : List ℕ) → x ≡ o ++ a → y ≡ x ++ b → z ≡ y ++ c → z ≡ o ++ (a ++ (b ++ c))
three o a b c x y z h k l = l ∙ ap (λ t. t ++ c) (k ∙ ap (λ t. t ++ b) h) ∙ append_assoc (o ++ a) b c ∙ append_assoc o a (b ++ c)

behind : (o a w z rest : List ℕ) → w ≡ o ++ a → z ≡ w ++ rest → z ≡ o ++ (a ++ rest)
behind o a w z rest h k = k ∙ ap (λ t. t ++ rest) h ∙ append_assoc o a rest

-- four texts that are added one behind the other
pub four : {X E : Type 0} (r : Result X E) (o a b c d w x y z : List ℕ) → w ≡ o ++ a → x ≡ w ++ b → y ≡ x ++ c → OnOk r (z ≡ y ++ d) → OnOk r (z ≡ o ++ (a ++ (b ++ (c ++ d))))
four (Ok u) o a b c d w x y z h k l m = behind o a w z (b ++ (c ++ d)) h (three w b c d x y z k l m)
four (Err u) o a b c d w x y z h k l m = tt

-- five texts
pub five : {X E : Type 0} (r : Result X E) (o a b c d e v w x y z : List ℕ) → v ≡ o ++ a → w ≡ v ++ b → x ≡ w ++ c → y ≡ x ++ d → OnOk r (z ≡ y ++ e) → OnOk r (z ≡ o ++ (a ++ (b ++ (c ++ (d ++ e)))))
five (Ok u) o a b c d e v w x y z h k l m n =
    behind o a v z (b ++ (c ++ (d ++ e))) h (behind v b w z (c ++ (d ++ e)) k (three w c d e x y z l m n))
five (Err u) o a b c d e v w x y z h k l m n = tt
