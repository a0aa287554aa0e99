-- The parts are the one node less the other.
use Rattle.std.proofs.Common.{◌≡◌, ℕ, ℤ, pos, negsuc, neg_ℤ, ◌-ℤ◌, ◌+ℤ◌, ◌*ℤ◌, int_lt, int_eq, true, false, ◌&&◌, cond, List, [], ◌∷◌, map, Result, Ok, Err, IfOk, refl, ap, arith}
use Rattle.std.proofs.lemmas.Int.{ints}
use lib.IntN.{zero-*ℤ}
use Rattle.pl_forms.specs.declared.form.Part.{Part}
use Rattle.pl_forms.specs.Forms.{parts_value}
use Rattle.pl_forms.proofs.Products.{add-mul}
use Rattle.pl_base.specs.declared.pos.Memory.{Memory}
use Rattle.pl_linear.specs.declared.ends.Ends.{Ends}
use Rattle.pl_linear.specs.Ends.{minus, general, split}

pub neg_mul : (a b : ℤ) → (neg_ℤ a *ℤ b) +ℤ (a *ℤ b) ≡ pos 0
neg_mul a b = let e : neg_ℤ a +ℤ a ≡ pos 0 = omega (arith, ints) in omega (arith, ints, add-mul (neg_ℤ a) a b, ap (λ z. z *ℤ b) e, zero-*ℤ b)

pub minus_value : (v : ℕ → ℤ) (ps : List Part) → parts_value v (map minus ps) +ℤ parts_value v ps ≡ pos 0
minus_value v [] = refl
minus_value v (p ∷ ps) = omega (arith, ints, minus_value v ps, neg_mul p.coeff (v p.atom))

pub record Differ (v : ℕ → ℤ) (ps : List Part) (e : Ends) : Type 0 where
  pub is : parts_value v ps ≡ parts_value v e.to -ℤ parts_value v e.from

general_law : (v : ℕ → ℤ) (ps : List Part) → Differ v ps (general ps)
general_law v [] = record { is = refl }
general_law v (p ∷ ps) = elim (int_lt (pos 0) p.coeff) as (λ b. Differ v (p ∷ ps) (cond b (record { to = p ∷ ps; from = [] }) (record { to = []; from = map minus (p ∷ ps) }))) [ true ↦ record { is = omega (arith, ints) } | false ↦ record { is = omega (arith, ints, minus_value v (p ∷ ps)) } ]

two_law : (v : ℕ → ℤ) (p q : Part) → Differ v (p ∷ q ∷ []) (record { to = p ∷ []; from = minus q ∷ [] })
two_law v p q = record { is = omega (arith, ints, neg_mul q.coeff (v q.atom)) }

other_law : (v : ℕ → ℤ) (p q : Part) → Differ v (p ∷ q ∷ []) (record { to = q ∷ []; from = minus p ∷ [] })
other_law v p q = record { is = omega (arith, ints, neg_mul p.coeff (v p.atom)) }

pub split_law : (v : ℕ → ℤ) (ps : List Part) → Differ v ps (split ps)
split_law v [] = general_law v []
split_law v (p ∷ []) = general_law v (p ∷ [])
split_law v (p ∷ q ∷ []) =
    elim (int_eq p.coeff (pos 1) && int_eq q.coeff (negsuc 0)) as (λ b. Differ v (p ∷ q ∷ []) (cond b (record { to = p ∷ []; from = minus q ∷ [] }) (cond (int_eq p.coeff (negsuc 0) && int_eq q.coeff (pos 1)) (record { to = q ∷ []; from = minus p ∷ [] }) (general (p ∷ q ∷ []))))) [
      | true ↦ two_law v p q
      | false ↦ elim (int_eq p.coeff (negsuc 0) && int_eq q.coeff (pos 1)) as (λ b. Differ v (p ∷ q ∷ []) (cond b (record { to = q ∷ []; from = minus p ∷ [] }) (general (p ∷ q ∷ [])))) [ true ↦ other_law v p q | false ↦ general_law v (p ∷ q ∷ []) ]
    ]
split_law v (p ∷ q ∷ r ∷ rest) = general_law v (p ∷ q ∷ r ∷ rest)

pub ends_value : (ps : List Part) (r : Result Ends Memory) → IfOk r (λ e. e ≡ split ps) → IfOk r (λ e. (v : ℕ → ℤ) → parts_value v ps ≡ parts_value v e.to -ℤ parts_value v e.from)
ends_value ps (Err a) h = tt
ends_value ps (Ok e) h = λ v. rw h ((split_law v ps).is)
