-- Whether a text goes on with a symbol is seen by reading it with that symbol at its end.
use Rattle.std.proofs.Common.{◌≡◌, ℕ, suc, ◌+◌, ◌-◌, ◌<◌, Bool, true, false, List, [], length, take, Ok, Err, sym, subst, arith}
use Rattle.std.proofs.lemmas.List.{append-nil, take_all}
use Rattle.pl_readers.specs.declared.error.Stop.{Stop}
use Rattle.pl_readers.specs.Language.{Language, IsViable}
use Rattle.pl_readers.specs.Reader.{Reader, whole}
use Rattle.pl_readers.specs.Reads.{Reads, Agrees}
use Rattle.pl_readers.proofs.Correct.{whole-found, whole-refused}
use Rattle.pl_readers.proofs.Levels.{refused_at, whole-none}

module _ {S A : Type 0} (T : ℕ → Language S A) (g : S → Bool) (P : ℕ → Reader S A) (reads : (n : ℕ) → Reads (T n) (T (suc n)) g (P n)) where
  whole_text : (xs : List S) (k : ℕ) → k ≡ length xs → take k xs ≡ xs
  whole_text xs k e = take_all k xs (omega arith)

  -- all of it is read, or more is wanted
  pub goes-on : (n : ℕ) (xs : List S) (s : Stop) → whole (P n) xs ≡ Err s → s.left ≡ 0 → IsViable (T (suc n)) xs
  goes-on n xs s e z =
      let r = refused_at (T n) (T (suc n)) xs s (whole-refused (T n) (T (suc n)) g (P n) (reads n) xs s e) in
      subst (IsViable (T (suc n))) (whole_text xs (length xs - s.left) (omega arith)) r.viable

  pub is-whole : (n : ℕ) (xs : List S) (a : A) → whole (P n) xs ≡ Ok a → IsViable (T n) xs
  is-whole n xs a e = ([], a, subst (T n a) (sym (append-nil xs)) (whole-found (T n) (T (suc n)) g (P n) (reads n) xs a e))

  -- the last symbol opens one level too many
  pub goes-deeper : (n : ℕ) (xs : List S) (s : Stop) → whole (P n) xs ≡ Err s → s.is_deep ≡ true → s.left ≡ 1 → IsViable (T (suc n)) xs
  goes-deeper n xs s e d z =
      let r = refused_at (T n) (T (suc n)) xs s (whole-refused (T n) (T (suc n)) g (P n) (reads n) xs s e) in
      let w = r.deeper d in
      subst (IsViable (T (suc n))) (whole_text xs (length xs - s.left + 1) (omega (arith, w.0))) w.1

  -- the last symbol is refused, at any number of levels
  pub goes-nowhere : ((n : ℕ) → Agrees (P n) (P (suc n))) → (n m : ℕ) (xs : List S) (s : Stop) → whole (P n) xs ≡ Err s → s.is_deep ≡ false → s.left ≡ 1 → 0 < length xs → IsViable (T m) xs → ⊥
  goes-nowhere agrees n m xs s e d z some v =
      let r = whole-none T g P reads agrees n m xs s e d in
      r.none (omega arith) (subst (IsViable (T m)) (sym (whole_text xs (length xs - s.left + 1) (omega arith))) v)
