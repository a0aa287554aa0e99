-- What a function returned against what a reader gives.
use Rattle.std.specs.Prelude.{◌≡◌, ◌<◌, Bool, true, false, List, length, Option, Some, None, Result, Ok, Err}
use Rattle.pl_readers.specs.declared.error.Stop.{Stop}
use Rattle.pl_readers.specs.declared.error.ReadError.{ReadError}
use Rattle.pl_readers.specs.declared.error.ReadError.TheVariants as errors
use Rattle.pl_readers.specs.Reader.{begins, one}

-- the reader stops so, where the error isn't want of memory
abbrev pub Fails : {A : Type 0} → ReadError → Result A Stop → Type 0
Fails errors.Memory read = Unit {0}
Fails (errors.Stop s) read = read ≡ Err s

-- what a function returned, seen by view, is what the reader gives, but for want of memory
abbrev pub Gives : {X A : Type 0} → (X → A) → Result X ReadError → Result A Stop → Type 0
Gives view (Ok x) read = read ≡ Ok (view x)
Gives view (Err e) read = Fails e read

-- the next symbol passes the test, and this is its value with the symbols behind it; or it does not pass
abbrev pub Sees : {S A X : Type 0} → (S → Bool) → (S → Option A) → (X → A × List S) → Option X → List S → Type 0
Sees test f view (Some x) xs = (begins test xs ≡ true) × (one f xs ≡ Ok (view x)) × (length (view x).1 < length xs)
Sees test f view None xs = begins test xs ≡ false
