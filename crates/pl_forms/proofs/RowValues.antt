-- The values of rows.
use Rattle.std.proofs.Common.{◌≡◌, ℕ, zero, suc, ◌<◌, ◌≤◌, ◌+◌, ◌-◌, ◌*◌, ◌/◌, ◌^◌, ℤ, pos, negsuc, neg_ℤ, ◌+ℤ◌, ◌*ℤ◌, ◌≤ℤ◌, unsigned_abs, int_div, true, false, nat_lt, cond, List, [], ◌∷◌, map, set, replicate, length, Option, Some, None, refl, ap, sym, ◌∙◌, arith, All, add-one, length-set, div-lt_iff_lt-mul, le-div_iff_mul-le, mul-le-mul, le_refl}
use Prim.Native.Nat.{◌∣◌}
use Rattle.std.proofs.lemmas.Int.{ints}
use Rattle.std.proofs.lemmas.Bool.{ltb-true}
use lib.IntN.{one, *ℤ-one, *ℤ-zero, zero-*ℤ, pos-*ℤ-pos, pos-*ℤ-negsuc}
use native.Mathlib.Nat.{div-mul_cancel}
use Rattle.pl_forms.specs.declared.form.Part.{Part}
use Rattle.pl_forms.specs.declared.form.Form.{Form}
use Rattle.pl_forms.specs.Forms.{parts_value, value}
use Rattle.pl_forms.specs.Rows.{at, made, then_row, then_more, put_times, scatter, add_rows, form_times, gcd_from, ceil_div, tight, places_value, placed, row_value}
use Rattle.pl_forms.proofs.Products.{mul-add, add-mul, mul-assoc}
use Rattle.pl_forms.proofs.Divisors.{Each, more, all_divided}

-- a set place
pub places-set : (v : ℕ → ℤ) (i k : ℕ) (d : List ℤ) (x : ℤ) → k < length d → places_value v i (set d k (at d k +ℤ x)) ≡ places_value v i d +ℤ (x *ℤ v (i + k))
places-set v i k [] x h = absurd (omega arith)
places-set v i zero (c ∷ cs) x h = let e : v i ≡ v (i + 0) = ap v (omega arith) in omega (arith, ints, add-mul c x (v i), ap (λ z. x *ℤ z) e)
places-set v i (suc k) (c ∷ cs) x h = let e : v (i + 1 + k) ≡ v (i + suc k) = ap v (omega arith) in omega (arith, ints, places-set v (i + 1) k cs x (omega arith), ap (λ z. x *ℤ z) e)

made_is : (z s : ℤ) → made z ≡ Some s → (z ≡ s) × (unsigned_abs z ≤ 2 ^ 126)
made_is z s h = grind arith

put_sum : (v : ℕ → ℤ) (p s : ℤ) (i : ℕ) (d e : List ℤ) → i < length d → then_row (made (at d i +ℤ p)) (λ s. Some (set d i s)) ≡ Some e → e ≡ set d i (at d i +ℤ p)
put_sum v p s i d e h q = grind arith

-- a number added at a place
pub put_is : (times c : ℤ) (i : ℕ) (d e : List ℤ) → put_times times c i d ≡ Some e → e ≡ set d i (at d i +ℤ (times *ℤ c))
put_is times c i d e q = grind arith

pub put_law : (v : ℕ → ℤ) (times c : ℤ) (i : ℕ) (d e : List ℤ) → i < length d → put_times times c i d ≡ Some e → (places_value v 0 e ≡ places_value v 0 d +ℤ ((times *ℤ c) *ℤ v i)) × (length e ≡ length d)
put_law v times c i d e h q =
    let is = put_is times c i d e q in
    let z : v (0 + i) ≡ v i = ap v (omega arith) in
    rw is (places-set v 0 i d (times *ℤ c) h ∙ ap (λ y. places_value v 0 d +ℤ ((times *ℤ c) *ℤ y)) z, length-set d i (at d i +ℤ (times *ℤ c)))

ceil_nat : (n g m : ℕ) → 0 < g → n ≤ g * m → (n + (g - 1)) / g ≤ m
ceil_nat n g m h k =
    let lt : (n + (g - 1)) / g < m + 1 = (div-lt_iff_lt-mul h).1 (omega arith) in omega arith

floor_nat : (n g a : ℕ) → 0 < g → g * a ≤ n → a ≤ n / g
floor_nat n g a h k = (le-div_iff_mul-le h).1 (omega arith)

pub ceil_law : (g : ℕ) (x k : ℤ) → 0 < g → ((pos g *ℤ x) +ℤ k) ≤ℤ pos 0 → (x +ℤ ceil_div k g) ≤ℤ pos 0
ceil_law g (pos a) (pos n) h le = let e = ceil_nat n g 0 h (omega (arith, ints, pos-*ℤ-pos g a)) in let m : 1 * a ≤ g * a = mul-le-mul h (le_refl a) in omega (arith, ints, pos-*ℤ-pos g a)
ceil_law g (negsuc a) (pos n) h le = let e = ceil_nat n g (suc a) h (omega (arith, ints, pos-*ℤ-negsuc g a)) in omega (arith, ints)
ceil_law g (pos a) (negsuc n) h le = let e = floor_nat (suc n) g a h (omega (arith, ints, pos-*ℤ-pos g a)) in omega (arith, ints)
ceil_law g (negsuc a) (negsuc n) h le = omega (arith, ints)

neg_exact : (g q n : ℕ) → q * g ≡ suc n → pos g *ℤ neg_ℤ (pos q) ≡ negsuc n
neg_exact g zero n e = absurd (omega arith)
neg_exact g (suc q) n e = let k : g * suc q ≡ suc n = omega arith in pos-*ℤ-negsuc g q ∙ ap (λ z. neg_ℤ (pos z)) k

pub exact : (g : ℕ) (c : ℤ) → 0 < g → g ∣ unsigned_abs c → pos g *ℤ int_div c (pos g) ≡ c
exact g (pos n) h p = pos-*ℤ-pos g (n / g) ∙ ap pos (omega (arith, div-mul_cancel g p))
exact g (negsuc n) h p = neg_exact g (suc n / g) n (div-mul_cancel g p)

pub divided_law : (v : ℕ → ℤ) (i g : ℕ) (cs : List ℤ) → 0 < g → Each g cs → pos g *ℤ places_value v i (map (λ c. int_div c (pos g)) cs) ≡ places_value v i cs
divided_law v i g [] h e = pos-*ℤ-pos g 0 ∙ ap pos (omega arith)
divided_law v i g (c ∷ cs) h (more p e) =
    omega (arith, ints, mul-add (pos g) (int_div c (pos g) *ℤ v i) (places_value v (i + 1) (map (λ c. int_div c (pos g)) cs)), divided_law v (i + 1) g cs h e, sym (mul-assoc (pos g) (int_div c (pos g)) (v i)) ∙ ap (λ z. z *ℤ v i) (exact g c h p))

pub one_times : (k : ℤ) → k *ℤ pos 1 ≡ k
unfolding one
one_times k = *ℤ-one k

-- a row with a value at most 0 keeps one when it is tightened
pub tight_law : (v : ℕ → ℤ) (d : List ℤ) → row_value v d ≤ℤ pos 0 → row_value v (tight d) ≤ℤ pos 0
tight_law v [] h = h
tight_law v (k ∷ cs) h =
    (elim (nat_lt 1 (gcd_from 0 cs)) as (λ s. nat_lt 1 (gcd_from 0 cs) ≡ s → row_value v (cond s (set (map (λ c. int_div c (pos (gcd_from 0 cs))) (k ∷ cs)) 0 (ceil_div k (gcd_from 0 cs))) (k ∷ cs)) ≤ℤ pos 0) [
      | true ↦ λ e.
          let g = gcd_from 0 cs in
          let big : 1 < gcd_from 0 cs = ltb-true 1 (gcd_from 0 cs) e in
          let q = divided_law (placed v) 1 (gcd_from 0 cs) cs (omega arith) (all_divided 0 cs) in
          let c = ceil_law (gcd_from 0 cs) (places_value (placed v) 1 (map (λ c. int_div c (pos (gcd_from 0 cs))) cs)) k (omega arith) (omega (arith, ints, q, one_times k)) in
          omega (arith, ints, one_times (ceil_div k (gcd_from 0 cs)))
      | false ↦ λ e. h
    ]) refl

pub more_is : (o : Option (List ℤ)) (f : List ℤ → Option (List ℤ)) (e : List ℤ) → then_more o f ≡ Some e → (d : List ℤ) × (o ≡ Some d) × (f d ≡ Some e)
more_is None f e h = absurd cc
more_is (Some d) f e h = (d, refl, h)

pub scatter_law : (v : ℕ → ℤ) (times : ℤ) (ps : List Part) (d e : List ℤ) → All (λ p. p.atom + 1 < length d) ps → scatter times ps d ≡ Some e → (row_value v e ≡ row_value v d +ℤ (times *ℤ parts_value v ps)) × (length e ≡ length d)
scatter_law v times [] d e a h = let s : d ≡ e = cc in rw (← s) (omega (arith, ints, *ℤ-zero times), refl)
scatter_law v times (p ∷ ps) d e a h =
    let m = more_is (put_times times p.coeff (p.atom + 1) d) (λ x. scatter times ps x) e h in
    let q = put_law (placed v) times p.coeff (p.atom + 1) d m.0 (a 0 p (omega arith)) m.1 in
    let r = scatter_law v times ps m.0 e (λ k z lt. rw q.1 (a (suc k) z (omega arith))) m.2 in
    let at_p : placed v (p.atom + 1) ≡ v p.atom = ap (placed v) (add-one p.atom) in
    (omega (arith, ints, q.0, r.0, mul-add times (p.coeff *ℤ v p.atom) (parts_value v ps), mul-assoc times p.coeff (v p.atom), ap (λ y. (times *ℤ p.coeff) *ℤ y) at_p), r.1 ∙ q.1)

pub form_law : (v : ℕ → ℤ) (times : ℤ) (f : Form) (d e : List ℤ) → 0 < length d → All (λ p. p.atom + 1 < length d) f.parts → form_times times f d ≡ Some e → (row_value v e ≡ row_value v d +ℤ (times *ℤ value v f)) × (length e ≡ length d)
form_law v times f d e some a h =
    let m = more_is (put_times times f.constant 0 d) (λ x. scatter times f.parts x) e h in
    let q = put_law (placed v) times f.constant 0 d m.0 some m.1 in
    let r = scatter_law v times f.parts m.0 e (λ k z lt. rw q.1 (a k z lt)) m.2 in
    (omega (arith, ints, q.0, r.0, mul-add times (parts_value v f.parts) f.constant, one_times (times *ℤ f.constant)), r.1 ∙ q.1)

pub rows_law : (v : ℕ → ℤ) (times : ℤ) (i : ℕ) (cs d e : List ℤ) → i + length cs ≤ length d → add_rows times i cs d ≡ Some e → (places_value v 0 e ≡ places_value v 0 d +ℤ (times *ℤ places_value v i cs)) × (length e ≡ length d)
rows_law v times i [] d e b h = let s : d ≡ e = cc in rw (← s) (omega (arith, ints, *ℤ-zero times), refl)
rows_law v times i (c ∷ cs) d e b h =
    let m = more_is (put_times times c i d) (λ x. add_rows times (i + 1) cs x) e h in
    let q = put_law v times c i d m.0 (omega arith) m.1 in
    let r = rows_law v times (i + 1) cs m.0 e (omega (arith, q.1)) m.2 in
    (omega (arith, ints, q.0, r.0, mul-add times (c *ℤ v i) (places_value v (i + 1) cs), mul-assoc times c (v i)), r.1 ∙ q.1)

pub zeros_value : (v : ℕ → ℤ) (i n : ℕ) → places_value v i (replicate n (pos 0)) ≡ pos 0
zeros_value v i zero = refl
zeros_value v i (suc n) = omega (arith, ints, zeros_value v (i + 1) n, zero-*ℤ (v i))
