-- A fault stays one through what is read behind it.
use Rattle.std.proofs.Common.{◌≡◌, Result, Err, refl}
use Rattle.pl_readers.specs.declared.error.Stop.{Stop}
use Rattle.pl_readers.specs.declared.error.ReadError.{ReadError}
use Rattle.pl_readers.specs.declared.error.ReadError.TheVariants as errors
use Rattle.pl_readers.specs.Reader.{◌>>=◌}
use Rattle.pl_readers.specs.Given.{Fails}

pub Fails-then : {A B : Type 0} (e : ReadError) (r : Result A Stop) (f : A → Result B Stop) → Fails e r → Fails e (r >>= f)
Fails-then errors.Memory r f h = tt
Fails-then (errors.Stop s) r f h = rw h refl

pub Fails-if : {A B : Type 0} (e : ReadError) (r : Result A Stop) (t : Result B Stop) → Fails e r → ((s : Stop) → r ≡ Err s → t ≡ Err s) → Fails e t
Fails-if errors.Memory r t h k = tt
Fails-if (errors.Stop s) r t h k = k s h
