-- A tightened form is a form.
use Rattle.std.proofs.Common.{◌≡◌, ℕ, zero, suc, ◌<◌, ◌≤◌, ◌+◌, ◌-◌, ◌*◌, ◌/◌, ◌^◌, ℤ, pos, negsuc, ◌*ℤ◌, unsigned_abs, int_div, nat_lt, true, false, cond, List, [], ◌∷◌, map, Result, Ok, Err, IfOk, refl, ap, sym, ◌∙◌, arith, All, div-lt_iff_lt-mul, mul-le-mul, le_refl}
use Rattle.std.proofs.Math.Nat.{div-le_self}
use Rattle.std.proofs.lemmas.Int.{ints}
use Rattle.std.proofs.lemmas.Bool.{ltb-true}
use Rattle.std.proofs.lemmas.List.Elements.{All-map}
use Prim.Native.Nat.{◌∣◌}
use lib.IntN.{*ℤ-zero}
use Rattle.pl_base.specs.declared.pos.Memory.{Memory}
use Rattle.pl_forms.specs.declared.form.Part.{Part}
use Rattle.pl_forms.specs.declared.form.Form.{Form}
use Rattle.pl_forms.specs.Forms.{IsForm, Ascends, is_zero}
use Rattle.pl_forms.specs.Rows.{gcd, gcd_from, ceil_div}
use Rattle.pl_forms.specs.Tightening.{common, divided, tight_form}
use Rattle.pl_forms.proofs.Divisors.{one_le, Each, more, all_divided}
use Rattle.pl_forms.proofs.RowValues.{exact}

pub common_le : (g m : ℕ) (ps : List Part) → g ≤ m → All (λ p. unsigned_abs p.coeff ≤ m) ps → common g ps ≤ m
common_le g m [] h s = h
common_le g m (p ∷ ps) h s = common_le (gcd (unsigned_abs p.coeff) g) m ps (one_le (unsigned_abs p.coeff) g m (s 0 p (omega arith)) h) (λ k d lt. s (suc k) d (omega arith))

pub common_is : (g : ℕ) (ps : List Part) → common g ps ≡ gcd_from g (map (λ p. p.coeff) ps)
common_is g [] = refl
common_is g (p ∷ ps) = common_is (gcd (unsigned_abs p.coeff) g) ps

common_each : (ps : List Part) → Each (common 0 ps) (map (λ p. p.coeff) ps)
common_each ps = rw (common_is 0 ps) (all_divided 0 (map (λ p. p.coeff) ps))

nought : (z : ℤ) → is_zero z ≡ true → z ≡ pos 0
nought (pos zero) h = refl
nought (pos (suc n)) h = absurd cc
nought (negsuc n) h = absurd cc

not_nought : (z : ℤ) → is_zero z ≡ false → z ≡ pos 0 → ⊥
not_nought (pos zero) h e = absurd cc
not_nought (pos (suc n)) h e = absurd cc
not_nought (negsuc n) h e = absurd cc

some_left : (g : ℕ) (c : ℤ) → 0 < g → g ∣ unsigned_abs c → is_zero c ≡ false → is_zero (int_div c (pos g)) ≡ false
some_left g c h p s =
    (elim (is_zero (int_div c (pos g))) as (λ b. is_zero (int_div c (pos g)) ≡ b → b ≡ false) [
      | true ↦ λ e.
          let z : pos g *ℤ int_div c (pos g) ≡ pos 0 = ap (λ x. pos g *ℤ x) (nought (int_div c (pos g)) e) ∙ *ℤ-zero (pos g) in
          absurd (not_nought c s (sym (exact g c h p) ∙ z))
      | false ↦ λ e. refl
    ]) refl

ascends_divided : (g low : ℕ) (ps : List Part) → 0 < g → Each g (map (λ p. p.coeff) ps) → Ascends low ps → Ascends low (map (divided g) ps)
ascends_divided g low [] h e s = tt
ascends_divided g low (p ∷ ps) h (more q e) s = (s.0, some_left g p.coeff h q s.1, ascends_divided g (p.atom + 1) ps h e s.2)

quotient_small : (g : ℕ) (c : ℤ) (m : ℕ) → unsigned_abs c ≤ m → unsigned_abs (int_div c (pos g)) ≤ m
quotient_small g (pos n) m h = omega (arith, ints, div-le_self n g)
quotient_small g (negsuc n) m h = omega (arith, ints, div-le_self (suc n) g)

ceil_nat : (n g : ℕ) → 0 < g → (n + (g - 1)) / g ≤ n
ceil_nat zero g h = let lt : (zero + (g - 1)) / g < 1 = (div-lt_iff_lt-mul h).1 (omega arith) in omega arith
ceil_nat (suc n) g h = let m : suc n * 1 ≤ suc n * g = mul-le-mul (le_refl (suc n)) h in let lt : (suc n + (g - 1)) / g < suc n + 1 = (div-lt_iff_lt-mul h).1 (omega arith) in omega arith

ceil_small : (g : ℕ) (c : ℤ) (m : ℕ) → 0 < g → unsigned_abs c ≤ m → unsigned_abs (ceil_div c g) ≤ m
ceil_small g (pos n) m h k = omega (arith, ints, ceil_nat n g h)
ceil_small g (negsuc n) m h k = omega (arith, ints, div-le_self (suc n) g)

pub tight_is_form : (f : Form) → IsForm f → IsForm (tight_form f)
tight_is_form f p =
    (elim (nat_lt 1 (common 0 f.parts)) as (λ b. nat_lt 1 (common 0 f.parts) ≡ b → IsForm (cond b (record { parts = map (divided (common 0 f.parts)) f.parts; constant = ceil_div f.constant (common 0 f.parts) }) f)) [
      | true ↦ λ e.
          let g = common 0 f.parts in
          let big : 1 < common 0 f.parts = ltb-true 1 (common 0 f.parts) e in
          record {
            ascends = ascends_divided g 0 f.parts (omega arith) (common_each f.parts) p.ascends;
            small = All-map (λ p. unsigned_abs p.coeff ≤ 2 ^ 40) (divided g) f.parts (λ k d lt. quotient_small g _ (2 ^ 40) (p.small k d lt));
            bounded = ceil_small g f.constant (2 ^ 80) (omega arith) p.bounded;
          }
      | false ↦ λ e. p
    ]) refl

pub tightened_form : (f : Form) (r : Result Form Memory) → IsForm f → IfOk r (λ g. g ≡ tight_form f) → IfOk r (λ g. IsForm g)
tightened_form f (Err e) p h = tt
tightened_form f (Ok g) p h = rw h (tight_is_form f p)
