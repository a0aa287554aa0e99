-- What the calls of a host do to the files, the input and the output that it tells, and to its counts of faults.
use Rattle.std.specs.Prelude.{◌≡◌, ◌≢◌, ℕ, ◌+◌, ◌-◌, ◌^◌, ◌≤◌, ◌<◌, min, List, [], ◌∷◌, length, ⊤, Bool, true, false, None, Some, Ok, Err, if◌then◌else◌}
use Rattle.std.specs.Str.{bytes_eq}
use Rattle.std.specs.declared.option.Option.{Option}
use Rattle.std.specs.declared.result.Result.{Result}
use Rattle.pl_base.specs.declared.outside.TakeError.{TakeError}
use Rattle.pl_base.specs.declared.outside.TakeError.TheVariants.{Failed, TooLong, Memory}
use Rattle.pl_base.specs.declared.outside.HostError.{HostError}
use Rattle.pl_base.specs.declared.outside.HostError.TheVariants as host

-- files, each a name and its bytes; of two with one name the first counts
abbrev pub Files : Type 0
Files = List (List ℕ × List ℕ)

-- the bytes of the file of that name
abbrev pub file_in : List ℕ → Files → Option (List ℕ)
file_in name [] = None
file_in name (f ∷ fs) = if bytes_eq f.0 name then Some f.1 else file_in name fs

-- where the files are told, the file has these bytes
abbrev pub HasFile : Option Files → List ℕ → List ℕ → Type 0
HasFile None name bytes = ⊤
HasFile (Some fs) name bytes = file_in name fs ≡ Some bytes

-- where the files are told, the file has more bytes than that
abbrev pub HasLonger : Option Files → List ℕ → ℕ → Type 0
HasLonger None name most = ⊤
HasLonger (Some fs) name most = (bytes : List ℕ) × (file_in name fs ≡ Some bytes) × (most < length bytes)

-- where the files are told, that file has these bytes afterwards, and the others are as they were
abbrev pub Puts : Option Files → Option Files → List ℕ → List ℕ → Type 0
Puts None new name bytes = ⊤
Puts (Some old) None name bytes = ⊥
Puts (Some old) (Some new) name bytes =
    (file_in name new ≡ Some bytes) × ((n : List ℕ) → n ≢ name → file_in n new ≡ file_in n old)

-- where the files are told, all but that file are as they were
abbrev pub KeepsOthers : Option Files → Option Files → List ℕ → Type 0
KeepsOthers None new name = ⊤
KeepsOthers (Some old) None name = ⊥
KeepsOthers (Some old) (Some new) name = (n : List ℕ) → n ≢ name → file_in n new ≡ file_in n old

-- a count grew, or stands at its end
abbrev pub Rose : ℕ → ℕ → Type 0
Rose before now = min (before + 1) (2 ^ 64 - 1) ≤ now

-- a count rose where the call failed, and else it is as it was
pub record Counts (failed : Bool) (before now : ℕ) : Type 0 where
  pub never_falls : before ≤ now
  pub rose : failed ≡ true → Rose before now
  pub kept : failed ≡ false → now ≡ before

-- whether a take failed: too long a file and want of memory are no failure
abbrev pub take_failed : {T : Type 0} → Result T TakeError → Bool
take_failed (Ok v) = false
take_failed (Err Failed) = true
take_failed (Err TooLong) = false
take_failed (Err Memory) = false

-- whether a put or a write failed: want of memory is no failure
abbrev pub host_failed : {T : Type 0} → Result T HostError → Bool
host_failed (Ok v) = false
host_failed (Err host.Failed) = true
host_failed (Err host.Memory) = false
