-- The search for the least code that goes on.
use Rattle.std.proofs.Common.{◌≡◌, ℕ, ◌+◌, ◌≤◌, ◌<◌, ◌==◌, inl, inr, Bool, true, false, refl, subst, arith}
use Rattle.std.proofs.lemmas.Bool.{eqb-true, eqb-false, cases_lt}
use Rattle.pl_grammar.specs.Refusals.{IsCode}
use Rattle.pl_parser.specs.Steps.{following}

module _ (code : ℕ) (h : code < 255) where
  within_by : (b : Bool) → code == 100 ≡ b → following code ≤ 255
  within_by true e = rw e (omega arith)
  within_by false e = rw e (omega arith)

  pub following-within : following code ≤ 255
  following-within = within_by (code == 100) refl

  more_by : (b : Bool) → code == 100 ≡ b → code < following code
  more_by true e = let is : code ≡ 100 = eqb-true code 100 e in rw e (omega (arith, is))
  more_by false e = rw e (omega arith)

  pub following-more : code < following code
  following-more = more_by (code == 100) refl

  code_by : (b : Bool) → code == 100 ≡ b → IsCode code → IsCode (following code)
  code_by true e c = rw e (inr (omega arith))
  code_by false e (inl le) = let apart = eqb-false code 100 e in rw e (inl (omega (arith, apart)))
  code_by false e (inr le) = rw e (inr (omega arith))

  pub following-code : IsCode code → IsCode (following code)
  following-code = code_by (code == 100) refl

  module _ (P : ℕ → Type 0) (none : (m : ℕ) → m < code → IsCode m → P m → ⊥) (not : P code → ⊥) where
    here : (m : ℕ) → code ≤ m → m ≤ code → P m → ⊥
    here m a b p = not (subst P (omega arith) p)

    between : (m : ℕ) → code ≡ 100 → code < m → m < 253 → IsCode m → ⊥
    between m e a b (inl c) = absurd (omega arith)
    between m e a b (inr c) = absurd (omega arith)

    none_by : (b : Bool) → code == 100 ≡ b → (m : ℕ) → m < following code → IsCode m → P m → ⊥
    none_by true e m less is p =
        let below : m < 253 = rw e at less in
        elim (cases_lt m code) [
          | inl lt ↦ none m lt is p
          | inr le ↦
              elim (cases_lt code m) [
                | inl gt ↦ between m (eqb-true code 100 e) gt below is
                | inr ge ↦ here m le ge p
              ]
        ]
    none_by false e m less is p =
        let below : m < code + 1 = rw e at less in
        elim (cases_lt m code) [
          | inl lt ↦ none m lt is p
          | inr le ↦ here m le (omega (arith, below)) p
        ]

    pub following-none : (m : ℕ) → m < following code → IsCode m → P m → ⊥
    following-none = none_by (code == 100) refl
