-- The locks by number, and what each use of a lock answers.
use Rattle.std.specs.Prelude.{ℕ, Bool, true, false, if◌then◌else◌, List, Option, Some, None, Result, Ok, Err, slice_get, slice_set}
use Rattle.pl_resource.specs.Faults.{chain}
use Rattle.pl_resource.specs.declared.value.Fault.{Fault}
use Rattle.pl_resource.specs.declared.value.Fault.TheVariants.{LockFreed, LockFree}
use Rattle.pl_resource.specs.declared.lock_table.Lock.{Lock}
use Rattle.pl_resource.specs.declared.lock_table.Mark.{Mark}
use Rattle.pl_resource.specs.declared.lock_table.Mark.TheVariants.{Free, Held, Ended}

-- a table: its locks by number, and whether there is room for the next one
pub record Locks : Type 0 where
  pub locks : List Lock
  pub room : Bool

-- a lock that isn't ended: else `LockFreed`
abbrev pub unless_ended : Lock → Mark → Result Lock Fault
unless_ended lock Ended = Err LockFreed
unless_ended lock _ = Ok lock

-- the same of a lock that was made; one that was not is no better than an ended one
abbrev pub if_usable : Option Lock → Result Lock Fault
if_usable None = Err LockFreed
if_usable (Some lock) = unless_ended lock lock.mark

-- the lock of that number, where it isn't ended
abbrev pub usable : List Lock → ℕ → Result Lock Fault
usable locks number = if_usable (slice_get locks number)

-- whether a mark is that of a free lock
abbrev pub is_free : Mark → Bool
is_free Free = true
is_free _ = false

-- a look at a lock: whether it is free
abbrev pub is_free_of : List Lock → ℕ → Result Bool Fault
is_free_of locks number = chain (usable locks number) (λ lock. Ok (is_free lock.mark))

-- the mark after a lock is acquired, or else released: `LockFree` where nobody holds what is to be released
abbrev pub mark_after : Bool → Mark → Result Mark Fault
mark_after true mark = Ok Held
mark_after false Held = Ok Free
mark_after false _ = Err LockFree

-- the lock of that number with another mark
abbrev pub marked : List Lock → ℕ → Lock → Mark → List Lock
marked locks number lock mark = slice_set locks number (record lock { mark = mark })

-- an acquire (true) or a release (false): the locks after it
abbrev pub set_of : List Lock → ℕ → Bool → Result (List Lock) Fault
set_of locks number held =
    chain (usable locks number) (λ lock.
    chain (mark_after held lock.mark) (λ mark.
    Ok (marked locks number lock mark)))

-- the end of a lock, which somebody must hold: the locks after it
abbrev pub end_of : List Lock → ℕ → Result (List Lock) Fault
end_of locks number =
    chain (usable locks number) (λ lock.
    if is_free lock.mark then Err LockFree else Ok (marked locks number lock Ended))
