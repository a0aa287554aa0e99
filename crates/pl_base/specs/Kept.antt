-- What the files and the input of a host in memory are.
use Rattle.std.specs.Prelude.{◌≡◌, ◌<◌, ◌≤◌, ℕ, List, map, length, drop, Some, None}
use Rattle.pl_base.specs.declared.store.HostFile.{HostFile}
use Rattle.pl_base.specs.declared.store.Store.{Store}
use Rattle.pl_base.specs.declared.store.Fetched.{Fetched}
use Rattle.pl_base.specs.declared.store.Fetched.TheVariants.{Bytes, Missing, TooLong}
use Rattle.pl_base.specs.Outside.{Files, file_in}

-- files as names with bytes
abbrev pub told : List HostFile → Files
told fs = map (λ f. (f.name, f.bytes)) fs

-- the input that was not read yet
abbrev pub left_of : Store → List ℕ
left_of s = drop s.read s.input.items

-- what a look for a file found
abbrev pub IsFetched : Files → List ℕ → ℕ → Fetched → Type 0
IsFetched fs name most (Bytes v) = (file_in name fs ≡ Some v.items) × (length v.items ≤ most)
IsFetched fs name most Missing = file_in name fs ≡ None
IsFetched fs name most TooLong = (bytes : List ℕ) × (file_in name fs ≡ Some bytes) × (most < length bytes)
