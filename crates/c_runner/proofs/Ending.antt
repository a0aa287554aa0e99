-- The first end that holds, by what the threads that haven't ended stand before.
use Rattle.std.proofs.Common.{◌≡◌, ℕ, suc, ◌≤◌, ◌==◌, ◌&&◌, Bool, true, false, List, [], ◌∷◌, Option, Some, None, map, length, refl, sym, ap, ◌∙◌, subst, arith}
use Rattle.std.specs.Prelude.{filter, nat_le, if◌then◌else◌}
use Rattle.std.proofs.lemmas.Bool.{leb-true, leb-false}
use Rattle.pl_resource.specs.declared.value.Cell.{Cell}
use Rattle.pl_resource.specs.declared.value.Fault.{Fault}
use Rattle.c_syntax.specs.Tree.{Program}
use Rattle.c_meaning.specs.declared.action.Next.{Next}
use Rattle.c_meaning.specs.declared.action.Next.TheVariants as next
use Rattle.c_meaning.specs.Tree.{Function}
use Rattle.c_meaning.specs.Resolve.{functions_of}
use Rattle.c_meaning.specs.Events.{State, Thread, thread_of, next_of, next_from, is_enabled, ready}
use Rattle.c_runner.specs.declared.run_end.RunEnd.{RunEnd}
use Rattle.c_runner.specs.declared.run_end.RunEnd.TheVariants as end
use Rattle.c_runner.specs.Numbers.{Are}
use Rattle.c_runner.specs.Ends.{AllEnded, NoRace, NoFault, NoneEnabled, is_unended, unfinished, IsFull, NoEnd}
use Rattle.c_runner.specs.Standings.{stands, race_among, fault_among, forks_among, end_by_race, end_by_fault, end_among}
use Rattle.c_runner.specs.Kept.{is_live, Sees, IsOpen, FirstEnd}
use Rattle.c_runner.proofs.Lists.{are_filter, count_is, unlike}
use Rattle.c_runner.proofs.Races.{Among, among, Faulty, faults, Forking, forks}

pub no_frames : (fs : Thread) → is_unended fs ≡ false → fs ≡ []
no_frames [] h = refl
no_frames (f ∷ fs) h = cc

over_from : (F : List Function) (s : State) (fs : Thread) → is_unended fs ≡ false → next_from F s fs ≡ next.Ended
over_from F s [] h = refl
over_from F s (f ∷ fs) h = cc

-- a thread that has ended stands before its end
pub over : (F : List Function) (s : State) (t : ℕ) → is_live s t ≡ false → next_of F s t ≡ next.Ended
over F s t h = over_from F s (thread_of s t) h

-- an enabled thread hasn't ended
enabled_from : (F : List Function) (s : State) (fs : Thread) → ready s (next_from F s fs) ≡ (is_unended fs && ready s (next_from F s fs))
enabled_from F s [] = refl
enabled_from F s (f ∷ fs) = refl

pub enabled_live : (F : List Function) (s : State) (t : ℕ) → is_enabled F s t ≡ (is_live s t && is_enabled F s t)
enabled_live F s t = enabled_from F s (thread_of s t)

pub enabled_are : (F : List Function) (s : State) (live enabled : List ℕ) → Are (is_live s) 0 live → enabled ≡ filter (is_enabled F s) live → Are (is_enabled F s) 0 enabled
enabled_are F s live enabled h e = subst (Are (is_enabled F s) 0) (sym e) (are_filter (is_live s) (is_enabled F s) (is_enabled F s) 0 live (enabled_live F s) h)

-- ---- each end

none_live : (s : State) → Are (is_live s) 0 [] → AllEnded s
none_live s h = λ t. no_frames (thread_of s t) (h t (omega arith))

some_live : (s : State) (x : ℕ) (xs : List ℕ) → Are (is_live s) 0 (x ∷ xs) → AllEnded s → ⊥
some_live s x xs h all = let e : false ≡ true = sym (ap is_unended (all x)) ∙ h.2 in cc

none_enabled : (p : Program) (s : State) → Are (is_enabled (functions_of p) s) 0 [] → NoneEnabled p s
none_enabled p s h = λ t. h t (omega arith)

some_enabled : (p : Program) (s : State) (x : ℕ) (xs : List ℕ) → Are (is_enabled (functions_of p) s) 0 (x ∷ xs) → NoneEnabled p s → ⊥
some_enabled p s x xs h none = let e : false ≡ true = sym (none x) ∙ h.2 in cc

not_empty : {A : Type 0} (x : A) (xs : List A) → (length (x ∷ xs) == 0) ≡ false
not_empty x xs = unlike (length (x ∷ xs)) 0 (λ e. omega (arith, e))

length_stands : (f : ℕ → Next) (xs : List ℕ) → length (map (stands f) xs) ≡ length xs
length_stands f [] = refl
length_stands f (x ∷ xs) = ap suc (length_stands f xs)

module _ (p : Program) (bound : ℕ) (s : State) (count : ℕ) (within : count ≤ bound) where
  by_empty : (b : Bool) (e : RunEnd) (rest : Option RunEnd) → b ≡ false → FirstEnd p bound s count rest → FirstEnd p bound s count (if b then Some e else rest)
  by_empty true e rest no_more h = cc
  by_empty false e rest no_more h = h

  by_bound : (AllEnded s → ⊥) → NoRace p s → NoFault p s → (NoneEnabled p s → ⊥) → (IsFull p s → ⊥) → (b : Bool) → nat_le bound count ≡ b → FirstEnd p bound s count (if b then Some end.StepBound else None)
  by_bound un race fault some full true e = (un, race, fault, some, full, omega (arith, within, leb-true bound count e))
  by_bound un race fault some full false e = record { unended = un; no_race = race; no_fault = fault; enabled = some; not_full = full; within = omega (arith, leb-false bound count e) }

  full_end : (many forking : Bool) → (many ≡ true → 1024 ≤ unfinished s) → (many ≡ false → 1024 ≤ unfinished s → ⊥) → Forking (next_of (functions_of p) s) (is_live s) (over (functions_of p) s) 0 forking → (AllEnded s → ⊥) → NoRace p s → NoFault p s → (NoneEnabled p s → ⊥) → FirstEnd p bound s count (if many && forking then Some end.ThreadLimit else if nat_le bound count then Some end.StepBound else None)
  full_end true true most few fork un race fault some = (un, race, fault, some, (most refl, fork))
  full_end true false most few fork un race fault some = by_bound un race fault some (λ full. fork full.1.0 full.1.1.0 (omega arith) full.1.1.1 full.1.1.2) (nat_le bound count) refl
  full_end false forking most few fork un race fault some = by_bound un race fault some (λ full. few refl full.0) (nat_le bound count) refl

  module _ (live : List ℕ) (live_are : Are (is_live s) 0 live) where
    len : length (map (stands (next_of (functions_of p) s)) live) ≡ unfinished s
    len = length_stands (next_of (functions_of p) s) live ∙ count_is is_unended [] s.threads live refl live_are

    limit : (AllEnded s → ⊥) → NoRace p s → NoFault p s → (NoneEnabled p s → ⊥) → FirstEnd p bound s count (if nat_le 1024 (length (map (stands (next_of (functions_of p) s)) live)) && forks_among (map (stands (next_of (functions_of p) s)) live) then Some end.ThreadLimit else if nat_le bound count then Some end.StepBound else None)
    limit = full_end (nat_le 1024 (length (map (stands (next_of (functions_of p) s)) live))) (forks_among (map (stands (next_of (functions_of p) s)) live)) (λ e. omega (arith, leb-true 1024 _ e, len)) (λ e many. absurd (omega (arith, leb-false 1024 _ e, len, many))) (forks (next_of (functions_of p) s) (is_live s) (over (functions_of p) s) 0 live live_are)

    by_enabled : (enabled : List ℕ) → Are (is_enabled (functions_of p) s) 0 enabled → (AllEnded s → ⊥) → NoRace p s → NoFault p s → FirstEnd p bound s count (if length enabled == 0 then Some end.Deadlock else if nat_le 1024 (length (map (stands (next_of (functions_of p) s)) live)) && forks_among (map (stands (next_of (functions_of p) s)) live) then Some end.ThreadLimit else if nat_le bound count then Some end.StepBound else None)
    by_enabled [] h un race fault = (un, race, fault, none_enabled p s h)
    by_enabled (x ∷ xs) h un race fault = by_empty (length (x ∷ xs) == 0) end.Deadlock _ (not_empty x xs) (limit un race fault (some_enabled p s x xs h))

    by_fault : (r : Option (ℕ × Fault)) (rest : Option RunEnd) → Faulty (next_of (functions_of p) s) (is_live s) (over (functions_of p) s) 0 r → (AllEnded s → ⊥) → NoRace p s → (NoFault p s → FirstEnd p bound s count rest) → FirstEnd p bound s count (end_by_fault r rest)
    by_fault (Some r) rest h un race more = (un, race, record { faults = h.1; least = λ u g less. h.2 u g (omega arith) less })
    by_fault None rest h un race more = more (λ u g. h u g (omega arith))

    by_race : (r : Option (ℕ × ℕ × Cell)) (rest : Option RunEnd) → Among (next_of (functions_of p) s) (is_live s) (over (functions_of p) s) 0 r → (AllEnded s → ⊥) → (NoRace p s → FirstEnd p bound s count rest) → FirstEnd p bound s count (end_by_race r rest)
    by_race (Some r) rest h un more = (un, record { ordered = h.1; there = h.2; first = λ a b less below. h.3 a b (omega arith) less below; second = h.4 })
    by_race None rest h un more = more (λ a b less. h a b (omega arith) less)

  pub first_end : (live enabled : List ℕ) → Are (is_live s) 0 live → Are (is_enabled (functions_of p) s) 0 enabled → FirstEnd p bound s count (end_among (map (stands (next_of (functions_of p) s)) live) enabled bound count)
  first_end [] enabled h g = none_live s h
  first_end (x ∷ xs) enabled h g =
      let F = next_of (functions_of p) s in
      by_empty (length (map (stands F) (x ∷ xs)) == 0) end.Ended _ (not_empty (stands F x) (map (stands F) xs)) (by_race (x ∷ xs) h (race_among (map (stands F) (x ∷ xs))) _ (among F (is_live s) (over (functions_of p) s) 0 (x ∷ xs) h) (some_live s x xs h) (λ race.
      by_fault (x ∷ xs) h (fault_among (map (stands F) (x ∷ xs))) _ (faults F (is_live s) (over (functions_of p) s) 0 (x ∷ xs) h) (some_live s x xs h) race (λ fault.
      by_enabled (x ∷ xs) h enabled g (some_live s x xs h) race fault)))

pub first_seen : (p : Program) (bound : ℕ) (s : State) (count : ℕ) (live enabled : List ℕ) (e : Option RunEnd) → count ≤ bound → Sees (functions_of p) bound s count live enabled e → FirstEnd p bound s count e
first_seen p bound s count live enabled e within sees =
    subst (FirstEnd p bound s count) (sym sees.end_is) (first_end p bound s count within live enabled sees.live_are (enabled_are (functions_of p) s live enabled sees.live_are sees.enabled_are))

-- where the run is open no end holds
pub no_end : (p : Program) (bound : ℕ) (s : State) (count : ℕ) → IsOpen p bound s count → NoEnd p bound s count
no_end p bound s count o end.Ended h = o.unended h
no_end p bound s count o (end.Race a b cell) h = let e : None ≡ Some cell = sym (o.no_race a b h.1.ordered) ∙ h.1.there in cc
no_end p bound s count o (end.CFault t f) h = o.no_fault t f h.2.faults
no_end p bound s count o end.Deadlock h = o.enabled h.3
no_end p bound s count o end.ThreadLimit h = o.not_full h.4
no_end p bound s count o end.StepBound h = absurd (omega (arith, o.within, h.5))
