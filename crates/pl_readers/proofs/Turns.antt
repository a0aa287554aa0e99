-- One turn of a loop that reads items one behind the other. front is what was read before.
use Rattle.std.proofs.Common.{◌≡◌, Bool, true, false, List, [], ◌∷◌, ◌++◌, Result, Ok, Err, refl, sym, ap, append_assoc}
use Rattle.std.proofs.lemmas.List.{append-nil}
use Rattle.pl_readers.specs.declared.error.Stop.{Stop}
use Rattle.pl_readers.specs.Language.{Language, Starts}
use Rattle.pl_readers.specs.Reader.{Reader, ◌>>=◌, begins, repeat, onto}
use Rattle.pl_readers.specs.Reads.{Reads}
use Rattle.pl_readers.proofs.Correct.{repeat-goes, repeat-ends}

module _ {S A : Type 0} where
  abbrev with_first : A → List A × List S → Result (List A × List S) Stop
  with_first a o = Ok (a ∷ o.0, o.1)

  abbrev with_front : List A → List A × List S → Result (List A × List S) Stop
  with_front front o = Ok (front ++ o.0, o.1)

  regroup : (front : List A) (a : A) (r : Result (List A × List S) Stop) → ((r >>= with_first a) >>= with_front front) ≡ (r >>= with_front (front ++ a ∷ []))
  regroup front a (Ok x) = ap (λ (vs : List A). Ok (vs, x.1)) (sym (append_assoc front (a ∷ []) x.0))
  regroup front a (Err s) = refl

  begin_all : (r : Result (List A × List S) Stop) → (r >>= with_front []) ≡ r
  begin_all (Ok x) = refl
  begin_all (Err s) = refl

  pub turn-begins : (R : Reader S (List A)) (xs : List S) → onto [] R xs ≡ R xs
  turn-begins R xs = begin_all (R xs)

  module _ (test : S → Bool) (T V : Language S A) (g : S → Bool) (P : Reader S A) (p : Reads T V g P) (starts : Starts test T) where
    pub turn-goes : (front : List A) (a : A) (rest after : List S) → begins test rest ≡ true → P rest ≡ Ok (a, after) → onto front (repeat test P) rest ≡ onto (front ++ a ∷ []) (repeat test P) after
    turn-goes front a rest after b e = rw (repeat-goes test T V g P p starts rest b, e) (regroup front a (repeat test P after))

    pub turn-stops : (front : List A) (rest : List S) (s : Stop) → begins test rest ≡ true → P rest ≡ Err s → onto front (repeat test P) rest ≡ Err s
    turn-stops front rest s b e = rw (repeat-goes test T V g P p starts rest b, e) refl

    pub turn-ends : (front : List A) (rest : List S) → begins test rest ≡ false → onto front (repeat test P) rest ≡ Ok (front, rest)
    turn-ends front rest b = rw (repeat-ends test T V g P p starts rest b) (ap (λ (vs : List A). Ok (vs, rest)) (append-nil front))
