-- Whether a text goes on with a symbol is seen by reading the symbols before it and it, at a number of levels at which a text
-- goes on with those before it.
use Rattle.std.proofs.Common.{◌≡◌, ℕ, suc, ◌+◌, ◌-◌, ◌≤◌, ◌<◌, inl, inr, Bool, true, false, List, [], ◌∷◌, ◌++◌, length, take, drop, Err, sym, subst, append_assoc, arith}
use Rattle.std.proofs.lemmas.Bool.{cases_lt}
use Rattle.std.proofs.lemmas.List.{length-append, take_all, take-append-le, take-append-drop}
use Rattle.pl_readers.specs.declared.error.Stop.{Stop}
use Rattle.pl_readers.specs.Language.{Language, IsViable}
use Rattle.pl_readers.specs.Reader.{Reader, whole}
use Rattle.pl_readers.specs.Reads.{Reads, Agrees, RefusedAt}
use Rattle.pl_readers.proofs.Correct.{whole-refused}
use Rattle.pl_readers.proofs.Levels.{refused_at, whole-none}

-- what stands in front of a text's beginning
front_viable : {S A : Type 0} (T : Language S A) (front back : List S) → IsViable T (front ++ back) → IsViable T front
front_viable T front back v = (back ++ v.0, v.1, subst (T v.1) (append_assoc front back v.0) v.2)

fewer_viable : {S A : Type 0} (T : Language S A) (n : ℕ) (xs : List S) → IsViable T xs → IsViable T (take n xs)
fewer_viable T n xs v = front_viable T (take n xs) (drop n xs) (subst (IsViable T) (sym (take-append-drop n xs)) v)

one_behind : {S : Type 0} (before : List S) (t : S) → length (before ++ t ∷ []) ≡ length before + 1
one_behind before t = length-append before (t ∷ [])

module _ {S A : Type 0} (T : ℕ → Language S A) (g : S → Bool) (P : ℕ → Reader S A) (reads : (n : ℕ) → Reads (T n) (T (suc n)) g (P n)) (n : ℕ) (before : List S) (t : S) (v : IsViable (T n) before) where
  abbrev xs : List S
  xs = before ++ t ∷ []

  module _ (s : Stop) (e : whole (P n) xs ≡ Err s) where
    refused : RefusedAt (T n) (T (suc n)) xs (length xs - s.left) s.is_deep
    refused = refused_at (T n) (T (suc n)) xs s (whole-refused (T n) (T (suc n)) g (P n) (reads n) xs s e)

    -- the symbols before are read
    behind : length before ≤ length xs - s.left
    behind =
        elim (cases_lt (length xs - s.left) (length before)) [
          | inr le ↦ le
          | inl lt ↦
              let near : take (length xs - s.left + 1) xs ≡ take (length xs - s.left + 1) before = take-append-le (length xs - s.left + 1) before (t ∷ []) (omega (arith, lt)) in
              let inside : length xs - s.left < length xs = omega (arith, lt, one_behind before t) in
              absurd (refused.none inside (subst (IsViable (T n)) (sym near) (fewer_viable (T n) (length xs - s.left + 1) before v)))
        ]

    -- the symbol opens a level too many
    pub probe-deep : s.is_deep ≡ true → IsViable (T (suc n)) xs
    probe-deep d =
        let r = refused.deeper d in
        let all : length xs ≤ length xs - s.left + 1 = omega (arith, behind, one_behind before t) in
        subst (IsViable (T (suc n))) (take_all (length xs - s.left + 1) xs all) r.1

    -- it is refused, at any number of levels
    pub probe-none : ((k : ℕ) → Agrees (P k) (P (suc k))) → s.is_deep ≡ false → 0 < s.left → (m : ℕ) → IsViable (T m) xs → ⊥
    probe-none agrees d z m w =
        let r = whole-none T g P reads agrees n m xs s e d in
        let all : length xs ≤ length xs - s.left + 1 = omega (arith, behind, one_behind before t) in
        let inside : length xs - s.left < length xs = omega (arith, z, one_behind before t) in
        r.none inside (subst (IsViable (T m)) (sym (take_all (length xs - s.left + 1) xs all)) w)
