-- What an event changes of the threads.
use Rattle.std.proofs.Common.{◌≡◌, ℕ, zero, suc, ◌+◌, ◌<◌, ◌≤◌, ◌==◌, ◌&&◌, ◌||◌, Bool, true, false, List, [], ◌∷◌, ◌++◌, Option, Some, None, Result, Ok, Err, map, not, length, refl, sym, ap, ◌∙◌, subst, arith, length-append}
use Rattle.std.specs.Prelude.{filter, nat_lt, slice_index_or, slice_set, All}
use Rattle.std.proofs.lemmas.Bool.{ltb-true, ltb-false, eq-eqb}
use Rattle.std.proofs.lemmas.List.Elements.{All-nil, All-cons}
use Rattle.pl_resource.specs.Faults.{chain}
use Rattle.pl_resource.specs.declared.value.Fault.{Fault}
use Rattle.c_syntax.specs.Tree.{Program}
use Rattle.c_meaning.specs.declared.action.Action.{Action}
use Rattle.c_meaning.specs.declared.action.Event.{Event}
use Rattle.c_meaning.specs.Tree.{Function}
use Rattle.c_meaning.specs.Resolve.{functions_of}
use Rattle.c_meaning.specs.Effects.{Turn, Past, Calls, Forks, Returns}
use Rattle.c_meaning.specs.Events.{State, Thread, Frame, Done, thread_of, next_of, next_from, next_by, is_ended, is_enabled, ready, event_from, event_of_frame, state_after, frames_after, frame_behind, forked, called}
use Rattle.c_meaning.specs.Steps.{Step, race_of}
use Rattle.c_runner.specs.Numbers.{Are, followed}
use Rattle.c_runner.specs.Ends.{is_unended, NoRace, NoFault}
use Rattle.c_runner.specs.Kept.{is_live, Sees}
use Rattle.c_runner.specs.declared.run_end.RunEnd.{RunEnd}
use Rattle.c_runner.specs.Standings.{stands, end_among, AreQuiet}
use Rattle.c_runner.proofs.Still.{race_still}
use Rattle.c_runner.proofs.Lists.{Place, before, here, behind, place, unlike, with_one, followed_are}

past_end : {A : Type 0} (xs : List A) (i : ℕ) (d : A) → length xs ≤ i → slice_index_or xs i d ≡ d
past_end [] i d h = refl
past_end (x ∷ xs) zero d h = absurd (omega (arith, h))
past_end (x ∷ xs) (suc i) d h = past_end xs i d (omega (arith, h))

get_front : {A : Type 0} (xs ys : List A) (i : ℕ) (d : A) → i < length xs → slice_index_or (xs ++ ys) i d ≡ slice_index_or xs i d
get_front [] ys i d h = absurd (omega (arith, h))
get_front (x ∷ xs) ys zero d h = refl
get_front (x ∷ xs) ys (suc i) d h = get_front xs ys i d (omega (arith, h))

get_back : {A : Type 0} (xs ys : List A) (i : ℕ) (d : A) → slice_index_or (xs ++ ys) (length xs + i) d ≡ slice_index_or ys i d
get_back [] ys i d = let e : 0 + i ≡ i = omega arith in ap (λ z. slice_index_or ys z d) e
get_back (x ∷ xs) ys i d = let e : suc (length xs) + i ≡ suc (length xs + i) = omega arith in ap (λ z. slice_index_or (x ∷ (xs ++ ys)) z d) e ∙ get_back xs ys i d

get_other : {A : Type 0} (xs : List A) (t u : ℕ) (x d : A) → (u ≡ t → ⊥) → slice_index_or (slice_set xs t x) u d ≡ slice_index_or xs u d
get_other [] t u x d h = refl
get_other (y ∷ xs) zero zero x d h = absurd (h refl)
get_other (y ∷ xs) zero (suc u) x d h = refl
get_other (y ∷ xs) (suc t) zero x d h = refl
get_other (y ∷ xs) (suc t) (suc u) x d h = get_other xs t u x d (λ e. h (ap suc e))

set_length : {A : Type 0} (xs : List A) (t : ℕ) (x : A) → length (slice_set xs t x) ≡ length xs
set_length [] t x = refl
set_length (y ∷ xs) zero x = refl
set_length (y ∷ xs) (suc t) x = ap suc (set_length xs t x)

-- the threads after an event: one is another, and there may be one more, which hasn't ended
pub record Changed (before after : List Thread) (t : ℕ) : Type 0 where
  pub now : Thread
  pub more : List Thread
  pub is : after ≡ slice_set before t now ++ more
  pub few : length more ≤ 1
  pub begins : (i : ℕ) → i < length more → is_unended (slice_index_or more i []) ≡ true

fork_begins : (f : Function) (turn : Turn) (i : ℕ) → i < length (forked f turn) → is_unended (slice_index_or (forked f turn) i []) ≡ true
fork_begins f Past i h = absurd (omega (arith, h))
fork_begins f (Calls l into) i h = absurd (omega (arith, h))
fork_begins f (Forks l) zero h = refl
fork_begins f (Forks l) (suc i) h = absurd (omega (arith, h))
fork_begins f (Returns r) i h = absurd (omega (arith, h))

fork_few : (f : Function) (turn : Turn) → length (forked f turn) ≤ 1
fork_few f Past = omega arith
fork_few f (Calls l into) = omega arith
fork_few f (Forks l) = omega arith
fork_few f (Returns r) = omega arith

abbrev ChangedBy : State → ℕ → Option (Result (Action × State) Fault) → Type 0
ChangedBy s t None = Unit {0}
ChangedBy s t (Some (Err f)) = Unit {0}
ChangedBy s t (Some (Ok r)) = Changed s.threads r.1.threads t

changed_frame : (F : List Function) (s : State) (t : ℕ) (frame : Frame) (callers : Thread) (r : Result Done Fault) → ChangedBy s t (Some (chain {B = Action × State} r (λ done. Ok (done.effect.action, state_after F s t frame callers done))))
changed_frame F s t frame callers (Err f) = tt
changed_frame F s t frame callers (Ok done) =
    let f = called F frame.left in
    record { now = frames_after f done.effect.turn (frame_behind frame done) callers; more = forked f done.effect.turn; is = refl; few = fork_few f done.effect.turn; begins = fork_begins f done.effect.turn }

changed_from : (F : List Function) (s : State) (t : ℕ) (fs : Thread) → ChangedBy s t (event_from F s t fs)
changed_from F s t [] = tt
changed_from F s t (frame ∷ callers) = changed_frame F s t frame callers (event_of_frame F (length s.threads) frame s.world)

pub changed : (p : Program) (s : State) (t : ℕ) (e : Event) (s' : State) → Step p s t e s' → Changed s.threads s'.threads t
changed p s t e s' one = subst (ChangedBy s t) one.does (changed_from (functions_of p) s t (thread_of s t))

-- ---- a thread that is enabled was made, and hasn't ended

unended_from : (F : List Function) (s : State) (fs : Thread) → ready s (next_from F s fs) ≡ true → is_unended fs ≡ true
unended_from F s [] h = cc
unended_from F s (f ∷ fs) h = refl

pub enabled_unended : (F : List Function) (s : State) (t : ℕ) → is_enabled F s t ≡ true → is_live s t ≡ true
enabled_unended F s t h = unended_from F s (thread_of s t) h

not_live : (s : State) (t : ℕ) → length s.threads ≤ t → is_live s t ≡ false
not_live s t h = ap is_unended (past_end s.threads t [] h)

pub live_made : (s : State) (t : ℕ) → is_live s t ≡ true → t < length s.threads
live_made s t h = by (place t (length s.threads))
  where
    gone : length s.threads ≤ t → ⊥
    gone low = let e : false ≡ true = sym (not_live s t low) ∙ h in cc

    by : Place t (length s.threads) → t < length s.threads
    by (before g) = g
    by (here g) = absurd (gone (omega (arith, g)))
    by (behind g) = absurd (gone (omega (arith, g)))

pub enabled_made : (F : List Function) (s : State) (t : ℕ) → is_enabled F s t ≡ true → t < length s.threads
enabled_made F s t h = live_made s t (enabled_unended F s t h)

-- ---- the threads that haven't ended

ended_by : (F : List Function) (s : State) (atomic : Bool) (r : Result Done Fault) → is_ended (next_by atomic r) ≡ false
ended_by F s atomic (Err f) = refl
ended_by F s atomic (Ok d) = refl

ended_from : (F : List Function) (s : State) (fs : Thread) → is_unended fs ≡ not (is_ended (next_from F s fs))
ended_from F s [] = refl
ended_from F s (f ∷ fs) = sym (ap not (ended_by F s _ (event_of_frame F (length s.threads) f s.world)))

pub ended_is : (F : List Function) (s : State) (t : ℕ) → is_live s t ≡ not (is_ended (next_of F s t))
ended_is F s t = ended_from F s (thread_of s t)

module _ (s s' : State) (t : ℕ) (c : Changed s.threads s'.threads t) (made : t < length s.threads) where
  count : length s'.threads ≡ length s.threads + length c.more
  count = ap (length {A = Thread}) c.is ∙ (length-append (slice_set s.threads t c.now) c.more ∙ ap (λ z. z + length c.more) (set_length s.threads t c.now))

  -- another thread that was there is as it was
  same_at : (u : ℕ) → (u ≡ t → ⊥) → u < length s.threads → is_live s' u ≡ is_live s u
  same_at u other less =
      let w : u < length (slice_set s.threads t c.now) = omega (arith, less, set_length s.threads t c.now) in
      ap is_unended (ap (λ z. slice_index_or z u []) c.is ∙ (get_front (slice_set s.threads t c.now) c.more u [] w ∙ get_other s.threads t u c.now [] other))

  thread_same : (u : ℕ) → (u ≡ t → ⊥) → u < length s.threads → thread_of s' u ≡ thread_of s u
  thread_same u other less =
      let w : u < length (slice_set s.threads t c.now) = omega (arith, less, set_length s.threads t c.now) in
      ap (λ z. slice_index_or z u []) c.is ∙ (get_front (slice_set s.threads t c.now) c.more u [] w ∙ get_other s.threads t u c.now [] other)

  at_end : nat_lt (length s.threads) (length s'.threads) ≡ true → is_live s' (length s.threads) ≡ true
  at_end h = by c.more c.is c.begins count h
    where
      by : (more : List Thread) → s'.threads ≡ slice_set s.threads t c.now ++ more → ((i : ℕ) → i < length more → is_unended (slice_index_or more i []) ≡ true) → length s'.threads ≡ length s.threads + length more → nat_lt (length s.threads) (length s'.threads) ≡ true → is_live s' (length s.threads) ≡ true
      by [] is begins len up = absurd (omega (arith, len, ltb-true _ _ up))
      by (x ∷ xs) is begins len up =
          let w : length s.threads ≡ length (slice_set s.threads t c.now) + 0 = omega (arith, set_length s.threads t c.now) in
          ap is_unended (ap (λ z. slice_index_or z (length s.threads) []) is ∙ (ap (λ z. slice_index_or (slice_set s.threads t c.now ++ x ∷ xs) z []) w ∙ get_back (slice_set s.threads t c.now) (x ∷ xs) 0 [])) ∙ begins 0 (omega arith)

  new_end : nat_lt (length s.threads) (length s'.threads) ≡ false → is_live s' (length s.threads) ≡ false
  new_end h = not_live s' (length s.threads) (ltb-false (length s.threads) (length s'.threads) h)

  module _ (F : List Function) (unended : is_live s t ≡ true) where
    -- made and ended, as the machine tells them
    abbrev told : ℕ → Bool
    told u = with_one (nat_lt (length s.threads) (length s'.threads)) (length s.threads) (is_live s) u && not (is_ended (next_of F s' t) && (u == t))

    plain : (m a q e b : Bool) → a ≡ false → b ≡ false → (((m && a) || q) && not (e && b)) ≡ q
    plain m true q e b h g = cc
    plain m false q e true h g = cc
    plain true false true true false h g = refl
    plain true false true false false h g = refl
    plain true false false true false h g = refl
    plain true false false false false h g = refl
    plain false false true true false h g = refl
    plain false false true false false h g = refl
    plain false false false true false h g = refl
    plain false false false false false h g = refl

    at_t : (m a q e b : Bool) → a ≡ false → b ≡ true → q ≡ true → (((m && a) || q) && not (e && b)) ≡ not e
    at_t m true q e b h g k = cc
    at_t m false q e false h g k = cc
    at_t m false false e true h g k = cc
    at_t true false true true true h g k = refl
    at_t true false true false true h g k = refl
    at_t false false true true true h g k = refl
    at_t false false true false true h g k = refl

    at_n : (m a q e b : Bool) → a ≡ true → b ≡ false → q ≡ false → (((m && a) || q) && not (e && b)) ≡ m
    at_n m false q e b h g k = cc
    at_n m true q e true h g k = cc
    at_n m true true e false h g k = cc
    at_n true true false true false h g k = refl
    at_n true true false false false h g k = refl
    at_n false true false true false h g k = refl
    at_n false true false false false h g k = refl

    other_than : (u : ℕ) → (u ≡ t → ⊥) → (u ≡ length s.threads → ⊥) → is_live s' u ≡ is_live s u → is_live s' u ≡ told u
    other_than u away new same = same ∙ sym (plain (nat_lt (length s.threads) (length s'.threads)) (u == length s.threads) (is_live s u) (is_ended (next_of F s' t)) (u == t) (unlike u (length s.threads) new) (unlike u t away))

    at_made : (m : Bool) → nat_lt (length s.threads) (length s'.threads) ≡ m → is_live s' (length s.threads) ≡ m
    at_made true h = at_end h
    at_made false h = new_end h

    is_told : (u : ℕ) → is_live s' u ≡ told u
    is_told u = by (place u (length s.threads)) (place u t)
      where
        by : Place u (length s.threads) → Place u t → is_live s' u ≡ told u
        by (before h) (here g) =
            let w : told u ≡ not (is_ended (next_of F s' t)) = at_t (nat_lt (length s.threads) (length s'.threads)) (u == length s.threads) (is_live s u) (is_ended (next_of F s' t)) (u == t) (unlike u (length s.threads) (λ e. omega (arith, e, h))) (eq-eqb u t g) (ap (is_live s) g ∙ unended) in
            (ap (is_live s') g ∙ ended_is F s' t) ∙ sym w
        by (before h) (before g) = other_than u (λ e. omega (arith, e, g)) (λ e. omega (arith, e, h)) (same_at u (λ e. omega (arith, e, g)) h)
        by (before h) (behind g) = other_than u (λ e. omega (arith, e, g)) (λ e. omega (arith, e, h)) (same_at u (λ e. omega (arith, e, g)) h)
        by (here h) k =
            let away : u ≡ t → ⊥ = λ e. omega (arith, e, h, made) in
            let w : told u ≡ nat_lt (length s.threads) (length s'.threads) = at_n (nat_lt (length s.threads) (length s'.threads)) (u == length s.threads) (is_live s u) (is_ended (next_of F s' t)) (u == t) (eq-eqb u (length s.threads) h) (unlike u t away) (ap (is_live s) h ∙ not_live s (length s.threads) (omega arith)) in
            (ap (is_live s') h ∙ at_made (nat_lt (length s.threads) (length s'.threads)) refl) ∙ sym w
        by (behind h) k =
            let away : u ≡ t → ⊥ = λ e. omega (arith, e, h, made) in
            let over : length s'.threads ≤ u = omega (arith, h, count, c.few) in
            other_than u away (λ e. omega (arith, e, h)) (not_live s' u over ∙ sym (not_live s u (omega (arith, h))))

-- the list of the unfinished threads after an event
pub live_after : (p : Program) (F : List Function) (s s' : State) (t : ℕ) (e : Event) (live : List ℕ) → Step p s t e s' → Are (is_live s) 0 live → Are (is_live s') 0 (followed (is_ended (next_of F s' t)) t (nat_lt (length s.threads) (length s'.threads)) (length s.threads) live)
live_after p F s s' t e live one are =
    let unended : is_live s t ≡ true = enabled_unended (functions_of p) s t one.enabled in
    followed_are (is_ended (next_of F s' t)) (nat_lt (length s.threads) (length s'.threads)) t (length s.threads) (is_live s) (is_live s') live (λ u from. not_live s u from) (is_told s s' t (changed p s t e s' one) (live_made s t unended) F unended) are

are_all : (P : ℕ → Type 0) (test : ℕ → Bool) (k : ℕ) (xs : List ℕ) → ((t : ℕ) → test t ≡ true → P t) → Are test k xs → All P xs
are_all P test k [] gives h = All-nil P
are_all P test k (x ∷ xs) gives h = All-cons P x xs (gives x h.2) (are_all P test (suc x) xs gives h.3)

-- they were all made
pub live_below : (s : State) (live : List ℕ) → Are (is_live s) 0 live → All (λ t. t < length s.threads) live
live_below s live h = are_all (λ t. t < length s.threads) (is_live s) 0 live (live_made s) h

-- threads that have not moved don't race, where none did and none stood before a fault
pub quiet_after : (p : Program) (F : List Function) (s s' : State) (t : ℕ) (e : Event) → F ≡ functions_of p → Step p s t e s' → NoRace p s → NoFault p s → AreQuiet (next_of F s') t (length s.threads)
quiet_after p F s s' t e code one race fault =
    let G = functions_of p in
    let c = changed p s t e s' one in
    let made : t < length s.threads = enabled_made G s t one.enabled in
    let quiet : AreQuiet (next_of G s') t (length s.threads) = λ i j less it jt below.
    let first : thread_of s' i ≡ thread_of s i = thread_same s s' t c made i it (omega (arith, less, below)) in
    let second : thread_of s' j ≡ thread_of s j = thread_same s s' t c made j jt below in
    (ap (λ z. race_of (next_from G s' z) (next_from G s' (thread_of s' j))) first ∙ ap (λ z. race_of (next_from G s' (thread_of s i)) (next_from G s' z)) second) ∙ race_still G s s' (thread_of s i) (thread_of s j) (fault i) (fault j) (race i j less) in
    subst (λ z. AreQuiet (next_of z s') t (length s.threads)) (sym code) quiet

pub quiet_now : (p q : Program) (F : List Function) (s s' : State) (t n : ℕ) (e : Event) → F ≡ functions_of q → q ≡ p → n ≡ length s.threads → Step p s t e s' → NoRace p s → NoFault p s → AreQuiet (next_of F s') t n
quiet_now p q F s s' t n e code same count one race fault = subst (AreQuiet (next_of F s') t) (sym count) (quiet_after p F s s' t e (code ∙ ap functions_of same) one race fault)

-- ---- the same by the machine's own numbers

-- a thread that did an event is still there
pub still_made : (p : Program) (s : State) (t : ℕ) (e : Event) (s' : State) → Step p s t e s' → t < length s'.threads
still_made p s t e s' one =
    let c = changed p s t e s' one in
    let made : t < length s.threads = enabled_made (functions_of p) s t one.enabled in
    omega (arith, made, count s s' t c made)

pub same_step : (p q : Program) (s z : State) (t : ℕ) (e : Event) (s' : State) → q ≡ p → z ≡ s → Step q z t e s' → Step p s t e s'
same_step p q s z t e s' program state one = subst (λ (x : State). Step p x t e s') state (subst (λ (x : Program). Step x z t e s') program one)

pub live_now : (p : Program) (F : List Function) (s s' : State) (t : ℕ) (e : Event) (ended : Bool) (n m : ℕ) (xs ys zs : List ℕ) → Step p s t e s' → ended ≡ is_ended (next_of F s' t) → n ≡ length s.threads → m ≡ length s'.threads → ys ≡ xs → zs ≡ followed ended t (nat_lt n m) n ys → Are (is_live s) 0 xs → Are (is_live s') 0 zs
live_now p F s s' t e ended n m xs ys zs one over before_is after_is same is are =
    let made : followed ended t (nat_lt n m) n ys ≡ followed (is_ended (next_of F s' t)) t (nat_lt (length s.threads) (length s'.threads)) (length s.threads) xs = ap (λ z. followed z t (nat_lt n m) n ys) over ∙ (ap (λ z. followed (is_ended (next_of F s' t)) t (nat_lt z m) z ys) before_is ∙ (ap (λ z. followed (is_ended (next_of F s' t)) t (nat_lt (length s.threads) z) (length s.threads) ys) after_is ∙ ap (followed (is_ended (next_of F s' t)) t (nat_lt (length s.threads) (length s'.threads)) (length s.threads)) same)) in
    subst (Are (is_live s') 0) (sym (is ∙ made)) (live_after p F s s' t e xs one are)

pub sees_new : (F G : List Function) (bound limit : ℕ) (s : State) (count number : ℕ) (live enabled : List ℕ) (e : Option RunEnd) → G ≡ F → limit ≡ bound → number ≡ count → Are (is_live s) 0 live → enabled ≡ filter (is_enabled G s) live → e ≡ end_among (map (stands (next_of G s)) live) enabled limit number → Sees F bound s count live enabled e
sees_new F G bound limit s before_count number live enabled e same_code same_bound same_count are some_enabled ends = record {
  live_are = are;
  enabled_are = some_enabled ∙ ap (λ z. filter (is_enabled z s) live) same_code;
  end_is = ends ∙ (ap (λ z. end_among (map (stands (next_of z s)) live) enabled limit number) same_code ∙ (ap (λ z. end_among (map (stands (next_of F s)) live) enabled z number) same_bound ∙ ap (end_among (map (stands (next_of F s)) live) enabled bound) same_count));
}
