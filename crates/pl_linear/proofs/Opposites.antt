-- The opposite of an inequality has the same two nodes, turned.
use Rattle.std.proofs.Common.{◌≡◌, ℕ, suc, ◌<◌, ◌≤◌, ◌+◌, ◌^◌, ◌/◌, ◌⊎◌, inl, inr, zero, ℤ, pos, negsuc, neg_ℤ, ◌-ℤ◌, unsigned_abs, int_div, int_lt, int_eq, nat_eq, nat_lt, Bool, true, false, ◌&&◌, cond, List, [], ◌∷◌, map, refl, ap, sym, ◌∙◌, arith}
use Rattle.std.proofs.Math.Nat.{zero-div}
use Rattle.std.proofs.lemmas.Int.{ints}
use Rattle.std.proofs.lemmas.Bool.{eqb-true}
use Rattle.std.proofs.lemmas.List.Elements.{All-cons, All-nil}
use Rattle.pl_forms.specs.declared.form.Part.{Part}
use Rattle.pl_forms.specs.declared.form.Form.{Form}
use Rattle.pl_forms.specs.Forms.{Ascends, Small, is_zero}
use Rattle.pl_forms.specs.Equations.{coeff_of}
use Rattle.pl_forms.specs.Rows.{gcd, ceil_div}
use Rattle.pl_forms.specs.Tightening.{common, divided, tight_form}
use Rattle.pl_linear.specs.declared.ends.Ends.{Ends}
use Rattle.pl_linear.specs.Ends.{minus, general, split}
use Rattle.pl_linear.specs.Duty.{opposite_form}
use Rattle.pl_linear.proofs.BackRows.{coeff_minus}
use Rattle.pl_linear.proofs.ItemRows.{minus_small}

size_minus : (c : ℤ) → unsigned_abs (neg_ℤ c) ≡ unsigned_abs c
size_minus c = grind (arith, ints)

common_minus : (g : ℕ) (ps : List Part) → common g (map minus ps) ≡ common g ps
common_minus g [] = refl
common_minus g (p ∷ ps) = ap (λ (k : ℕ). common (gcd k g) (map minus ps)) (size_minus p.coeff) ∙ common_minus (gcd (unsigned_abs p.coeff) g) ps

quotient_minus : (g : ℕ) (c : ℤ) → int_div (neg_ℤ c) (pos g) ≡ neg_ℤ (int_div c (pos g))
quotient_minus g (pos zero) = ap (λ (k : ℕ). pos k) (zero-div g) ∙ ap (λ (k : ℕ). neg_ℤ (pos k)) (sym (zero-div g))
quotient_minus g (pos (suc n)) = refl
quotient_minus g (negsuc n) = twice (suc n / g)
  where
    twice : (k : ℕ) → pos k ≡ neg_ℤ (neg_ℤ (pos k))
    twice k = omega (arith, ints)

divided_minus : (g : ℕ) (ps : List Part) → map (divided g) (map minus ps) ≡ map minus (map (divided g) ps)
divided_minus g [] = refl
divided_minus g (p ∷ ps) =
    ap (λ (z : ℤ). record { coeff = z; atom = p.atom } ∷ map (divided g) (map minus ps)) (quotient_minus g p.coeff)
    ∙ ap (λ (l : List Part). minus (divided g p) ∷ l) (divided_minus g ps)

abbrev parts_by : ℕ → List Part → List Part
parts_by g ps = cond (nat_lt 1 g) (map (divided g) ps) ps

tight_parts : (f : Form) → (tight_form f).parts ≡ parts_by (common 0 f.parts) f.parts
tight_parts f = elim (nat_lt 1 (common 0 f.parts)) as (λ b. (cond b (record { parts = map (divided (common 0 f.parts)) f.parts; constant = ceil_div f.constant (common 0 f.parts) }) f).parts ≡ cond b (map (divided (common 0 f.parts)) f.parts) f.parts) [ true ↦ refl | false ↦ refl ]

parts_minus : (g : ℕ) (ps : List Part) → parts_by g (map minus ps) ≡ map minus (parts_by g ps)
parts_minus g ps = elim (nat_lt 1 g) as (λ b. cond b (map (divided g) (map minus ps)) (map minus ps) ≡ map minus (cond b (map (divided g) ps) ps)) [ true ↦ divided_minus g ps | false ↦ refl ]

pub opposite_tight : (f : Form) → (tight_form (opposite_form f)).parts ≡ map minus (tight_form f).parts
opposite_tight f =
    tight_parts (opposite_form f)
    ∙ ap (λ (g : ℕ). parts_by g (map minus f.parts)) (common_minus 0 f.parts)
    ∙ parts_minus (common 0 f.parts) f.parts
    ∙ ap (map minus) (sym (tight_parts f))

minus_twice : (ps : List Part) → map minus (map minus ps) ≡ ps
minus_twice [] = refl
minus_twice (p ∷ ps) = ap (λ (z : ℤ). record { coeff = z; atom = p.atom } ∷ map minus (map minus ps)) (twice p.coeff) ∙ ap (λ (l : List Part). p ∷ l) (minus_twice ps)
  where
    twice : (c : ℤ) → neg_ℤ (neg_ℤ c) ≡ c
    twice c = omega (arith, ints)

abbrev pub turned : Ends → Ends
turned e = record { to = e.from; from = e.to }

sign_turned : (c : ℤ) → is_zero c ≡ false → (int_lt (pos 0) c ≡ true × int_lt (pos 0) (neg_ℤ c) ≡ false) ⊎ (int_lt (pos 0) c ≡ false × int_lt (pos 0) (neg_ℤ c) ≡ true)
sign_turned (pos zero) h = absurd cc
sign_turned (pos (suc n)) h = inl (grind (arith, ints), grind (arith, ints))
sign_turned (negsuc n) h = inr (grind (arith, ints), grind (arith, ints))

general_minus : (low : ℕ) (ps : List Part) → Ascends low ps → general (map minus ps) ≡ turned (general ps)
general_minus low [] s = refl
general_minus low (p ∷ ps) s =
    elim (sign_turned p.coeff s.1) [
      | inl (u, w) ↦ rw (u, w) (ap (λ (l : List Part). record { to = []; from = l }) (minus_twice (p ∷ ps)))
      | inr (u, w) ↦ rw (u, w) refl
    ]

one_turned : (c : ℤ) → int_eq (neg_ℤ c) (pos 1) ≡ int_eq c (negsuc 0)
one_turned c = grind (arith, ints)

minus_turned : (c : ℤ) → int_eq (neg_ℤ c) (negsuc 0) ≡ int_eq c (pos 1)
minus_turned c = grind (arith, ints)

swap_cases : (p q : Part) (a b : Bool) (x y : Ends) → (a ≡ true → b ≡ false) → x ≡ turned y → cond b (record { to = minus p ∷ []; from = minus (minus q) ∷ [] }) (cond a (record { to = minus q ∷ []; from = minus (minus p) ∷ [] }) x) ≡ turned (cond a (record { to = p ∷ []; from = minus q ∷ [] }) (cond b (record { to = q ∷ []; from = minus p ∷ [] }) y))
swap_cases p q true true x y h e = absurd (let n = h refl in cc)
swap_cases p q true false x y h e = ap (λ (l : List Part). record { to = minus q ∷ []; from = l }) (minus_twice (p ∷ []))
swap_cases p q false true x y h e = ap (λ (l : List Part). record { to = minus p ∷ []; from = l }) (minus_twice (q ∷ []))
swap_cases p q false false x y h e = e

both_not : (c d : ℤ) → int_eq c (pos 1) && int_eq d (negsuc 0) ≡ true → int_eq c (negsuc 0) && int_eq d (pos 1) ≡ false
both_not c d h = grind (arith, ints)

pub split_minus : (low : ℕ) (ps : List Part) → Ascends low ps → split (map minus ps) ≡ turned (split ps)
split_minus low [] s = refl
split_minus low (p ∷ []) s = general_minus low (p ∷ []) s
split_minus low (p ∷ q ∷ []) s =
    let x = general (minus p ∷ minus q ∷ []) in
    rw (one_turned p.coeff, minus_turned q.coeff, minus_turned p.coeff, one_turned q.coeff)
    (swap_cases p q (int_eq p.coeff (pos 1) && int_eq q.coeff (negsuc 0)) (int_eq p.coeff (negsuc 0) && int_eq q.coeff (pos 1)) (general (minus p ∷ minus q ∷ [])) (general (p ∷ q ∷ [])) (both_not p.coeff q.coeff) (general_minus low (p ∷ q ∷ []) s))
split_minus low (p ∷ q ∷ r ∷ rest) s = general_minus low (p ∷ q ∷ r ∷ rest) s

-- each multiple is that in the one node less that in the other
pub record Apart (a : ℕ) (ps : List Part) (e : Ends) : Type 0 where
  pub is : coeff_of a ps ≡ coeff_of a e.to -ℤ coeff_of a e.from

general_apart : (a : ℕ) (ps : List Part) → Apart a ps (general ps)
general_apart a [] = record { is = refl }
general_apart a (p ∷ ps) = elim (int_lt (pos 0) p.coeff) as (λ b. Apart a (p ∷ ps) (cond b (record { to = p ∷ ps; from = [] }) (record { to = []; from = map minus (p ∷ ps) }))) [
  | true ↦ record { is = nought (coeff_of a (p ∷ ps)) }
  | false ↦ record { is = turn (coeff_of a (p ∷ ps)) (coeff_of a (map minus (p ∷ ps))) (coeff_minus a (p ∷ ps)) }
]
  where
    nought : (z : ℤ) → z ≡ z -ℤ pos 0
    nought z = omega (arith, ints)

    turn : (z y : ℤ) → y ≡ neg_ℤ z → z ≡ pos 0 -ℤ y
    turn z y e = omega (arith, ints)

distinct : (m n a : ℕ) → m < n → nat_eq m a ≡ true → nat_eq n a ≡ false
distinct m n a h e =
    let same : m ≡ a = eqb-true m a e in
    (elim (nat_eq n a) as (λ b. nat_eq n a ≡ b → b ≡ false) [ true ↦ λ q. let other : n ≡ a = eqb-true n a q in absurd (omega arith) | false ↦ λ q. refl ]) refl

first_less : (x y : ℤ) (b c : Bool) → (b ≡ true → c ≡ false) → cond b x (cond c y (pos 0)) ≡ cond b x (pos 0) -ℤ cond c (neg_ℤ y) (pos 0)
first_less x y true true h = absurd (let n = h refl in cc)
first_less x y true false h = omega (arith, ints)
first_less x y false true h = omega (arith, ints)
first_less x y false false h = refl

second_less : (x y : ℤ) (b c : Bool) → (b ≡ true → c ≡ false) → cond b x (cond c y (pos 0)) ≡ cond c y (pos 0) -ℤ cond b (neg_ℤ x) (pos 0)
second_less x y true true h = absurd (let n = h refl in cc)
second_less x y true false h = omega (arith, ints)
second_less x y false true h = omega (arith, ints)
second_less x y false false h = refl

pub split_apart : (a low : ℕ) (ps : List Part) → Ascends low ps → Apart a ps (split ps)
split_apart a low [] s = general_apart a []
split_apart a low (p ∷ []) s = general_apart a (p ∷ [])
split_apart a low (p ∷ q ∷ []) s =
    let later : p.atom + 1 ≤ q.atom = s.2.0 in
    let apart : nat_eq p.atom a ≡ true → nat_eq q.atom a ≡ false = distinct p.atom q.atom a (omega arith) in
    elim (int_eq p.coeff (pos 1) && int_eq q.coeff (negsuc 0)) as (λ b. Apart a (p ∷ q ∷ []) (cond b (record { to = p ∷ []; from = minus q ∷ [] }) (cond (int_eq p.coeff (negsuc 0) && int_eq q.coeff (pos 1)) (record { to = q ∷ []; from = minus p ∷ [] }) (general (p ∷ q ∷ []))))) [
      | true ↦ record { is = first_less p.coeff q.coeff (nat_eq p.atom a) (nat_eq q.atom a) apart }
      | false ↦ elim (int_eq p.coeff (negsuc 0) && int_eq q.coeff (pos 1)) as (λ b. Apart a (p ∷ q ∷ []) (cond b (record { to = q ∷ []; from = minus p ∷ [] }) (general (p ∷ q ∷ [])))) [ true ↦ record { is = second_less p.coeff q.coeff (nat_eq p.atom a) (nat_eq q.atom a) apart } | false ↦ general_apart a (p ∷ q ∷ []) ]
    ]
split_apart a low (p ∷ q ∷ r ∷ rest) s = general_apart a (p ∷ q ∷ r ∷ rest)

-- the nodes' multiples keep their limit
pub record SmallEnds (e : Ends) : Type 0 where
  pub to : Small e.to
  pub from : Small e.from

small_one : (p : Part) → unsigned_abs p.coeff ≤ 2 ^ 40 → Small (p ∷ [])
small_one p h = All-cons (λ p. unsigned_abs p.coeff ≤ 2 ^ 40) p [] h (All-nil (λ p. unsigned_abs p.coeff ≤ 2 ^ 40))

general_small : (ps : List Part) → Small ps → SmallEnds (general ps)
general_small [] s = record { to = s; from = s }
general_small (p ∷ ps) s = elim (int_lt (pos 0) p.coeff) as (λ b. SmallEnds (cond b (record { to = p ∷ ps; from = [] }) (record { to = []; from = map minus (p ∷ ps) }))) [
  | true ↦ record { to = s; from = All-nil (λ p. unsigned_abs p.coeff ≤ 2 ^ 40) }
  | false ↦ record { to = All-nil (λ p. unsigned_abs p.coeff ≤ 2 ^ 40); from = minus_small (p ∷ ps) s }
]

two_small : (p q : Part) → unsigned_abs p.coeff ≤ 2 ^ 40 → unsigned_abs q.coeff ≤ 2 ^ 40 → SmallEnds (record { to = p ∷ []; from = minus q ∷ [] })
two_small p q h k = record { to = small_one p h; from = minus_small (q ∷ []) (small_one q k) }

pub split_small : (ps : List Part) → Small ps → SmallEnds (split ps)
split_small [] s = general_small [] s
split_small (p ∷ []) s = general_small (p ∷ []) s
split_small (p ∷ q ∷ []) s =
    let h = s 0 p (omega arith) in
    let k = s 1 p (omega arith) in
    elim (int_eq p.coeff (pos 1) && int_eq q.coeff (negsuc 0)) as (λ b. SmallEnds (cond b (record { to = p ∷ []; from = minus q ∷ [] }) (cond (int_eq p.coeff (negsuc 0) && int_eq q.coeff (pos 1)) (record { to = q ∷ []; from = minus p ∷ [] }) (general (p ∷ q ∷ []))))) [
      | true ↦ two_small p q h k
      | false ↦ elim (int_eq p.coeff (negsuc 0) && int_eq q.coeff (pos 1)) as (λ b. SmallEnds (cond b (record { to = q ∷ []; from = minus p ∷ [] }) (general (p ∷ q ∷ [])))) [ true ↦ two_small q p k h | false ↦ general_small (p ∷ q ∷ []) s ]
    ]
split_small (p ∷ q ∷ r ∷ rest) s = general_small (p ∷ q ∷ r ∷ rest) s
