-- Numbers that workers draw from one word, each once.
use Rattle.std.specs.Prelude.{◌≡◌, ◌⊎◌, ℕ, ◌+◌, ◌-◌, ◌^◌, ◌<◌, List, [], ◌∷◌, ◌++◌, length, slice_index, ◌==◌, if◌then◌else◌, nat_lt}
use mathlib.Core.Option.{some}
use lib.ListN.{get_elem?}
use Rattle.atomic_table.specs.Table.{State, Me, Step}
use Rattle.pl_jobs.specs.declared.hand.Hand.{Hand}

-- how often x stands in the list
abbrev pub times : ℕ → List ℕ → ℕ
times x [] = 0
times x (y ∷ ys) = (if y == x then 1 else 0) + times x ys

-- f of each, added up
abbrev pub total : (Hand → ℕ) → List Hand → ℕ
total f [] = 0
total f (v ∷ vs) = f v + total f vs

-- how often x is to stand in all lists together, where n numbers were drawn
abbrev pub once_below : ℕ → ℕ → ℕ
once_below x n = if nat_lt x n then 1 else 0

-- the numbers that were drawn, the claims that are left, those of one worker at first, and those of all
abbrev pub hand : List ℕ → ℕ → ℕ → ℕ → Hand
hand drawn left each all = record { drawn = drawn; left = left; each = each; all = all }

-- what a seat knows that gave all away
abbrev pub spent : Hand
spent = hand [] 0 0 0

-- a hand after it drew the number n
abbrev pub drew : Hand → ℕ → Hand
drew v n = hand (v.drawn ++ n ∷ []) (v.left - 1) v.each v.all

-- a hand after it gave a new hand one worker's claims
abbrev pub gave : Hand → Hand
gave v = hand v.drawn (v.left - v.each) v.each v.all

-- the new hand
abbrev pub fresh : Hand → Hand
fresh v = hand [] v.each v.each v.all

-- a hand after it took another's numbers and claims in
abbrev pub took : Hand → Hand → Hand
took v w = hand (v.drawn ++ w.drawn) (v.left + w.left) v.each v.all

-- each number below the word stands in one hand's list, once, and no list has another; the word and the claims that are left add up to the key
pub record Numbered {S : Type 0} (key : ℕ) (s : State S Hand) : Type 0 where
  pub one_word : length s.words ≡ 1
  pub once : (x : ℕ) → total (λ v. times x v.drawn) s.views ≡ once_below x (slice_index s.words 0)
  pub lengths : total (λ v. length v.drawn) s.views ≡ slice_index s.words 0
  pub counts : slice_index s.words 0 + total (λ v. v.left) s.views ≡ key
  pub fits : key < 2 ^ 64
  pub alls : (id : ℕ) (v : Hand) → get_elem? s.views id ≡ some v → (v.all ≡ 0) ⊎ (v.all ≡ key)

-- the numbers below n are those in the list, each once
abbrev pub IsAll : ℕ → List ℕ → Type 0
IsAll n xs = (x : ℕ) → times x xs ≡ once_below x n

-- a step drew the number that it found
abbrev pub Draws : {S : Type 0} → Step S → Me S Hand → ℕ → Me S Hand → Type 0
Draws s v n w = w ≡ (drew v.0 n, v.1)

-- who has all claims learns that its numbers are those below the word
abbrev pub Learns : {S : Type 0} → Step S → Me S Hand → ℕ → Me S Hand → Type 0
Learns s v n w = (w ≡ v) × (0 < v.0.all → length v.0.drawn + v.0.left ≡ v.0.all → (n ≡ length v.0.drawn) × IsAll n v.0.drawn)
