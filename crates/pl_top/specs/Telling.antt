-- What a call of the program took, put and wrote, and the causes of its statuses.
use Rattle.std.specs.Prelude.{◌≡◌, ℕ, ◌<◌, ◌≤◌, List, [], ◌∷◌, length, take, Bool, true, false, Ok, Err, Option, Result}
use Rattle.std.specs.Io.KnownBytes.{Appends, Consumes, IsAtEnd}
use Rattle.pl_base.specs.declared.pos.Memory.{Memory}
use Rattle.pl_base.specs.Outside.{Files, HasFile, HasLonger, Puts, Rose}
use Rattle.pl_top.specs.declared.fetch.Fetched.{Fetched}
use Rattle.pl_top.specs.declared.fetch.Fetched.TheVariants.{Bytes, TooLong}
use Rattle.pl_top.specs.declared.fetch.Fault.{Fault}
use Rattle.pl_top.specs.declared.fetch.Fault.TheVariants as fault

-- the bytes of a file or of the input, or that there are more than may be
pub data Given : Type 0 where
  whole : (bytes : List ℕ) → Given
  long : Given

abbrev pub given_by : Fetched → Given
given_by (Bytes v) = whole v.items
given_by TooLong = long

-- the file of that name gives this; where the files aren't told, its bytes are some bytes
abbrev pub Takes : Option Files → List ℕ → ℕ → Given → Type 0
Takes files name most (whole bytes) = HasFile files name bytes × (length bytes ≤ most)
Takes files name most long = HasLonger files name most

-- the input gives this: all that was left of it, or more bytes than that; of an input that isn't told, some bytes
abbrev pub Reads : Option (List ℕ) → Option (List ℕ) → ℕ → Given → Type 0
Reads told left most (whole bytes) = Consumes told left bytes × IsAtEnd left × (length bytes ≤ most)
Reads told left most long = (bytes : List ℕ) × Consumes told left bytes × (most < length bytes)

-- a file to be put
pub record Put : Type 0 where
  pub name : List ℕ
  pub bytes : List ℕ

-- files that are put one after another: each then has its bytes, unless it is put again, and no other file changes
abbrev pub AllPut : List Put → Option Files → Option Files → Type 0
AllPut [] files files' = files' ≡ files
AllPut (p ∷ ps) files files' = (between : Option Files) × Puts files between p.name p.bytes × AllPut ps between files'

-- a beginning of the text was written
abbrev pub AppendsPart : Option (List ℕ) → Option (List ℕ) → List ℕ → Type 0
AppendsPart old new text = (n : ℕ) × Appends old new (take n text)

-- whether a take or read failed, or a put or write
abbrev pub is_in : {T : Type 0} → Result T Fault → Bool
is_in (Ok x) = false
is_in (Err fault.In) = true
is_in (Err fault.Out) = false
is_in (Err fault.Memory) = false

abbrev pub is_out : {T : Type 0} → Result T Fault → Bool
is_out (Ok x) = false
is_out (Err fault.In) = false
is_out (Err fault.Out) = true
is_out (Err fault.Memory) = false

-- no file was put, and nothing was written
pub record Untouched (files files' : Option Files) (out out' : Option (List ℕ)) : Type 0 where
  pub unput : files' ≡ files
  pub unwritten : out' ≡ out

-- the status of what stopped a command; want of memory has none yet
abbrev pub told_of : Result ℕ Fault → Result ℕ Memory
told_of (Ok status) = Ok status
told_of (Err fault.In) = Ok 4
told_of (Err fault.Out) = Ok 5
told_of (Err fault.Memory) = Err (record {})

-- status 4 comes only where the host's faults of input rose, and wherever that count grew; 5 likewise for output
pub record HasCauses (status in_before in_now out_before out_now : ℕ) : Type 0 where
  pub four : status ≡ 4 → Rose in_before in_now
  pub four_always : in_before < in_now → status ≡ 4
  pub five : status ≡ 5 → Rose out_before out_now
  pub five_always : out_before < out_now → status ≡ 5
