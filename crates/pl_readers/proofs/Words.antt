-- A text between two words is read right.
use Rattle.std.proofs.Common.{◌≡◌, ℕ, ◌≤◌, Bool, true, false, List, [], ◌∷◌, ◌++◌, refl, ap, ◌∙◌, arith}
use Rattle.std.proofs.lemmas.Bool.{eqb-true, eq-eqb}
use Rattle.pl_readers.specs.Language.{Language, Then, Mapped, HasText, Starts}
use Rattle.pl_readers.specs.Reader.{Reader, next, mapped}
use Rattle.pl_readers.specs.Reads.{never, Reads}
use Rattle.pl_readers.specs.Bytes.{Word, Number, Between, is, word, between}
use Rattle.pl_readers.proofs.Correct.{Reads-then, Reads-mapped}
use Rattle.pl_readers.proofs.Firsts.{ends_never, Starts-then, Starts-mapped, others_fail, some_then, some_mapped}
use Rattle.pl_readers.proofs.Exact.{Reads-word}

pub Starts-word : (c : ℕ) (s : List ℕ) → Starts (is c) (Word (c ∷ s))
Starts-word c s u text t = (c, s, t, eq-eqb c c refl)

pub some_word : (s : List ℕ) → HasText (Word s)
some_word s = (tt, s, refl)

pub some_number : (limit : ℕ) → 10 ≤ limit → HasText (Number limit)
some_number limit ten = (1, 49 ∷ [], (49, [], refl, refl, refl, λ z. refl, refl, omega arith))

-- an equal byte decides any test
pub is_fails : (k : ℕ) (g : ℕ → Bool) → g k ≡ false → (x : ℕ) → is k x ≡ true → g x ≡ false
is_fails k g h x e = ap g (eqb-true x k e) ∙ h

module _ {A : Type 0} (T V : Language ℕ A) (g : ℕ → Bool) (P : Reader ℕ A) (p : Reads T V g P) (some : HasText V) (before : List ℕ) (c : ℕ) (behind : List ℕ) (apart : g c ≡ false) where
  abbrev Behind : A → Language ℕ A
  Behind x = Mapped (λ _. x) (Word (c ∷ behind))

  pub Reads-between : Reads (Between before T (c ∷ behind)) (Between before V (c ∷ behind)) never (between before P (c ∷ behind))
  Reads-between = Reads-then (Word before) (Word before) (λ _. Then T Behind) (λ _. Then V Behind) never never (word before) (λ _. next P (λ x. mapped (λ _. x) (word (c ∷ behind))))
      (Reads-word before never)
      (λ _. Reads-then T V Behind Behind g never P (λ x. mapped (λ _. x) (word (c ∷ behind))) p
      (λ x. Reads-mapped (λ _. x) (Word (c ∷ behind)) (Word (c ∷ behind)) never (word (c ∷ behind)) (Reads-word (c ∷ behind) never))
      (λ x. some_mapped (λ _. x) (Word (c ∷ behind)) (some_word (c ∷ behind)))
      (λ x y back rest u e1. others_fail (is c) g (Behind x) (Starts-mapped (is c) (λ _. x) (Word (c ∷ behind)) (Starts-word c behind)) (is_fails c g apart) y back rest u))
      (λ _. some_then V Behind some (λ x. some_mapped (λ _. x) (Word (c ∷ behind)) (some_word (c ∷ behind))))
      (λ a b back rest u e1. ends_never (back ++ rest))

  pub some_between : HasText (Between before V (c ∷ behind))
  some_between = some_then (Word before) (λ _. Then V Behind) (some_word before) (λ _. some_then V Behind some (λ x. some_mapped (λ _. x) (Word (c ∷ behind)) (some_word (c ∷ behind))))

pub Starts-between : {A : Type 0} (k : ℕ) (before : List ℕ) (T : Language ℕ A) (behind : List ℕ) → Starts (is k) (Between (k ∷ before) T behind)
Starts-between k before T behind = Starts-then (is k) (Word (k ∷ before)) (λ _. Then T (λ x. Mapped (λ _. x) (Word behind))) (Starts-word k before)
