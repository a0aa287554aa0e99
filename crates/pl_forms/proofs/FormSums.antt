-- The value of two lists of parts together.
use Rattle.std.proofs.Common.{◌≡◌, ℕ, ℤ, pos, negsuc, zero, suc, ◌+ℤ◌, ◌*ℤ◌, true, false, cond, List, [], ◌∷◌, refl, ◌∙◌, arith}
use Rattle.std.proofs.lemmas.Int.{ints}
use Rattle.std.proofs.lemmas.Bool.Decides.{nat_tests}
use Rattle.std.specs.Prelude.{nat_lt}
use Rattle.pl_forms.proofs.Products.{add-mul}
use Rattle.pl_forms.specs.declared.form.Part.{Part}
use Rattle.pl_forms.specs.Forms.{merge, merge_into, put_part, is_zero, parts_value}

is_zero-true : (z : ℤ) → is_zero z ≡ true → z ≡ pos 0
is_zero-true (pos zero) h = refl
is_zero-true (pos (suc n)) h = cc
is_zero-true (negsuc n) h = cc

pub value-put : (v : ℕ → ℤ) (n : ℕ) (c : ℤ) (rest : List Part) → parts_value v (put_part n c rest) ≡ (c *ℤ v n) +ℤ parts_value v rest
value-put v n c rest =
    (elim (is_zero c) as (λ z. is_zero c ≡ z → parts_value v (cond z rest (record { coeff = c; atom = n } ∷ rest)) ≡ (c *ℤ v n) +ℤ parts_value v rest) [ true ↦ λ h. rw (is_zero-true c h) (omega (arith, ints)) | false ↦ λ h. refl ]) refl

-- one of three lists, by how two numbers compare
pub chosen : (v : ℕ → ℤ) (m n : ℕ) (r : ℤ) (less same more : List Part) → parts_value v less ≡ r → parts_value v more ≡ r → (m ≡ n → parts_value v same ≡ r) → parts_value v (cond (nat_lt m n) less (cond (nat_lt n m) more same)) ≡ r
chosen v m n r less same more p q e =
    (elim (nat_lt m n) as (λ s. nat_lt m n ≡ s → parts_value v (cond s less (cond (nat_lt n m) more same)) ≡ r) [
      | true ↦ λ _. p
      | false ↦ λ lo. (elim (nat_lt n m) as (λ t. nat_lt n m ≡ t → parts_value v (cond t more same) ≡ r) [ true ↦ λ _. q | false ↦ λ hi. e (grind (arith, nat_tests)) ]) refl
    ])
    refl

value-into : (v : ℕ → ℤ) (a : Part) (more : List Part) → ((ys : List Part) → parts_value v (merge more ys) ≡ parts_value v more +ℤ parts_value v ys) → (ys : List Part) → parts_value v (merge_into a (λ rest. merge more rest) ys) ≡ ((a.coeff *ℤ v a.atom) +ℤ parts_value v more) +ℤ parts_value v ys
value-into v a more ih [] = omega (arith, ints, ih [])
value-into v a more ih (b ∷ bs) =
    chosen v a.atom b.atom _ (a ∷ merge more (b ∷ bs)) (put_part a.atom (a.coeff +ℤ b.coeff) (merge more bs)) (b ∷ merge_into a (λ rest. merge more rest) bs)
    (omega (arith, ints, ih (b ∷ bs)))
    (omega (arith, ints, value-into v a more ih bs))
    (λ e. value-put v a.atom (a.coeff +ℤ b.coeff) (merge more bs) ∙ rw (← e) (omega (arith, ints, ih bs, add-mul a.coeff b.coeff (v a.atom))))

pub value-merge : (v : ℕ → ℤ) (xs ys : List Part) → parts_value v (merge xs ys) ≡ parts_value v xs +ℤ parts_value v ys
value-merge v [] ys = omega (arith, ints)
value-merge v (a ∷ more) ys = value-into v a more (λ zs. value-merge v more zs) ys
