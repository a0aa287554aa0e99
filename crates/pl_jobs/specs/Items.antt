-- Items that were claimed, with what came of them.
use Rattle.std.specs.Prelude.{◌≡◌, ◌⊎◌, ℕ, ◌+◌, ◌<◌, ◌≤◌, List, [], map, length, All, Vec}
use Rattle.std.specs.declared.alloc.Global.{Global}
use Rattle.atomic_table.specs.Seated.{TableId}
use Rattle.atomic_table.specs.declared.shared.Seat.{Seat}
use Rattle.pl_jobs.specs.declared.hand.Hand.{Hand}
use Rattle.pl_jobs.specs.declared.work.Done.{Done}
use Rattle.pl_jobs.specs.Numbers.{hand, times}

-- the items that were done
abbrev pub numbers : {T : Type 0} → List (Done T) → List ℕ
numbers ds = map (λ d. d.item) ds

-- a number past the items was drawn, or more numbers than there are items
abbrev pub EndsPast : ℕ → List ℕ → Type 0
EndsPast items drawn = (items < length drawn) ⊎ ((x : ℕ) × (items ≤ x) × (0 < times x drawn))

-- what workers with so many claims did: the items that they drew are those that are done
pub record Claimed {T : Type 0} (items count all : ℕ) (v : Hand) (done : List (Done T)) : Type 0 where
  pub claims : length v.drawn + v.left ≡ count
  pub same_all : v.all ≡ all
  pub same : (x : ℕ) → x < items → times x v.drawn ≡ times x (numbers done)
  pub past : EndsPast items v.drawn

-- a seat of this table, whose one word is the counter: nothing was drawn at it yet, and it has so many claims left
abbrev pub HasClaims : TableId → Seat (Unit {0}) Hand → ℕ → ℕ → ℕ → Type 0
HasClaims table seat count each all =
    (table.words ≡ 1) × (seat.table_id ≡ table) × (seat.me ≡ (hand [] count each all, []))

-- the seat of the workers and the items that they did
pub record DoneBy {W T : Type 0} (table : TableId) (gives : W → ℕ → T → Type 0) (work : W) (items count all : ℕ) (r : Seat (Unit {0}) Hand × Vec (Done T) Global) : Type 0 where
  pub of_table : r.0.table_id ≡ table
  pub free : r.0.me.1 ≡ []
  pub claimed : Claimed items count all r.0.me.0 r.1.items
  pub each : All (λ d. gives work d.item d.out) r.1.items
