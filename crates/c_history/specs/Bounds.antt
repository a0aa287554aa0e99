-- The numbers that a history may have.
use Rattle.std.specs.Prelude.{ℕ, ◌<◌, ◌^◌, length, FitsSigned}
use Rattle.std.specs.List.{AllByRecursion}
use Rattle.std.specs.Int.{w64}
use Rattle.pl_resource.specs.declared.value.Cell.{Cell}
use Rattle.pl_resource.specs.declared.value.Value.{Value}
use Rattle.pl_resource.specs.declared.value.Value.TheVariants as value
use Rattle.c_meaning.specs.declared.action.Action.{Action}
use Rattle.c_meaning.specs.declared.action.Action.TheVariants as act
use Rattle.c_meaning.specs.declared.action.Event.{Event}
use Rattle.c_meaning.specs.declared.action.History.{History}

abbrev pub IsU32 : ℕ → Type 0
IsU32 n = n < 2 ^ 32

abbrev pub IsCellWithin : Cell → Type 0
IsCellWithin c = IsU32 c.block × IsU32 c.index × IsU32 c.field

abbrev pub IsValueWithin : Value → Type 0
IsValueWithin (value.Int n) = FitsSigned w64 n
IsValueWithin (value.Truth b) = Unit {0}
IsValueWithin value.Null = Unit {0}
IsValueWithin (value.Block b) = IsU32 b
IsValueWithin (value.Lock l) = IsU32 l

abbrev pub IsActionWithin : Action → Type 0
IsActionWithin (act.Load cell v) = IsCellWithin cell × IsValueWithin v
IsActionWithin (act.Store cell v) = IsCellWithin cell × IsValueWithin v
IsActionWithin (act.Cas cell seen stored) = IsCellWithin cell × FitsSigned w64 seen
IsActionWithin (act.Alloc block count) = IsU32 block × IsU32 count
IsActionWithin (act.Free block) = IsU32 block
IsActionWithin (act.NewLock lock) = IsU32 lock
IsActionWithin (act.Acquire lock) = IsU32 lock
IsActionWithin (act.Release lock) = IsU32 lock
IsActionWithin (act.FreeLock lock) = IsU32 lock
IsActionWithin (act.Fork child) = IsU32 child
IsActionWithin (act.Join child) = IsU32 child
IsActionWithin (act.Print n) = FitsSigned w64 n
IsActionWithin (act.Read n) = FitsSigned w64 n
IsActionWithin act.Turn = Unit {0}
IsActionWithin (act.Call f) = IsU32 f
IsActionWithin act.Return = Unit {0}

abbrev pub IsEventWithin : Event → Type 0
IsEventWithin e = IsU32 e.tid × IsActionWithin e.action

-- threads, blocks, locks, indexes, fields, counts of elements, functions and the count of events are numbers of 32 bits,
-- and the program's numbers are of 64
pub record IsWithin (h : History) : Type 0 where
  pub count : IsU32 (length h.events)
  pub events : AllByRecursion IsEventWithin h.events
