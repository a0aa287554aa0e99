-- Replays, one event more at a time.
use Rattle.std.proofs.Common.{◌≡◌, ◌∙◌, sym, ap, subst, refl, ℕ, zero, suc, ℤ, ◌+◌, ◌≤◌, ◌<◌, arith, add-one, Bool, true, false, List, [], ◌∷◌, ◌++◌, Option, Some, None, Result, Ok, length, take, slice_get, slice_index_or, IsTrue, IfSome, IfNone, OnSome, ◌↔◌, nat_lt}
use Rattle.std.proofs.lemmas.Bool.{ltb-true, ltb-false}
use Rattle.pl_resource.specs.declared.value.Fault.{Fault}
use Rattle.c_syntax.specs.Tree.{Program}
use Rattle.c_meaning.specs.declared.action.Event.{Event}
use Rattle.c_meaning.specs.declared.action.Action.{Action}
use Rattle.c_meaning.specs.Resolve.{functions_of}
use Rattle.c_meaning.specs.Events.{State, event_of, is_enabled}
use Rattle.c_meaning.specs.Steps.{Step, Runs, Replay, start_of}
use Rattle.c_history.specs.declared.replaying.Replayed.{Replayed}
use Rattle.c_history.specs.declared.replaying.Replayed.TheVariants as replayed
use Rattle.c_history.specs.Replays.{Expects, DiffersAt, Tells}

-- one event more
pub runs_more : (p : Program) (before : State) (es : List Event) (mid : State) (e : Event) (after : State) → Runs p before es mid → Step p mid e.tid e after → Runs p before (es ++ e ∷ []) after
runs_more p before [] mid e after r s = (after, subst (λ z. Step p z e.tid e after) (sym r) s, refl)
runs_more p before (x ∷ es) mid e after r s = (r.0, r.1, runs_more p r.0 es mid e after r.2 s)

abbrev fine : {A : Type 0} → A → Result A Fault
fine a = Ok a

some_is : {A : Type 0} (x y : A) → Some x ≡ Some y → x ≡ y
some_is x y e = cc

ok_is : {A : Type 0} (x y : A) → fine x ≡ fine y → x ≡ y
ok_is x y e = cc

event_is : (d e : Event) → d.tid ≡ e.tid → d.action ≡ e.action → d ≡ e
event_is d e h k = ap (λ (t : ℕ). record { tid = t; action = d.action }) h ∙ ap (λ (a : Action). record { tid = e.tid; action = a }) k

told_once : {A B : Type 0} (o : Option (Result (A × B) Fault)) (a c : A) (b d : B) → o ≡ Some (Ok (a, b)) → o ≡ Some (Ok (c, d)) → (a ≡ c) × (b ≡ d)
told_once {A} {B} o a c b d h k =
    let same : (a, b) ≡ (c, d) = ok_is (a, b) (c, d) (some_is (Ok (a, b)) (Ok (c, d)) (sym h ∙ k)) in
    (ap (λ (p : A × B). p.0) same, ap (λ (p : A × B). p.1) same)

-- a step of a thread is one event, and leads to one state
pub step_once : (p : Program) (before : State) (t : ℕ) (d e : Event) (one two : State) → Step p before t d one → Step p before t e two → (d ≡ e) × (one ≡ two)
step_once p before t d e one two r s =
    let same = told_once (event_of (functions_of p) before t) d.action e.action one two r.does s.does in
    (event_is d e (r.thread ∙ sym s.thread) same.0, same.1)

-- the same events lead from a state to one state
pub runs_once : (p : Program) (before : State) (es : List Event) (one two : State) → Runs p before es one → Runs p before es two → one ≡ two
runs_once p before [] one two r s = sym r ∙ s
runs_once p before (e ∷ es) one two r s =
    let same = step_once p before e.tid e e r.0 s.0 r.1 s.1 in
    runs_once p s.0 es one two (subst (λ z. Runs p z es one) same.1 r.2) s.2

-- the events up to one place, and then the next
pub runs_front : (p : Program) (before : State) (es : List Event) (k : ℕ) (e : Event) (after : State) → slice_get es k ≡ Some e → Runs p before es after → (mid : State) × (next : State) × Runs p before (take k es) mid × Step p mid e.tid e next
runs_front p before [] k e after at r = absurd cc
runs_front p before (x ∷ es) zero e after at r = (before, r.0, refl, subst (λ z. Step p before z.tid z r.0) (some_is x e at) r.1)
runs_front p before (x ∷ es) (suc k) e after at r =
    let h = runs_front p r.0 es k e after at r.2 in
    (h.0, h.1, (r.0, r.1, h.2), h.3)

take_all : (k : ℕ) (es : List Event) → length es ≤ k → take k es ≡ es
take_all zero [] h = refl
take_all (suc k) [] h = refl
take_all zero (x ∷ es) h = absurd (omega arith)
take_all (suc k) (x ∷ es) h = ap (λ (zs : List Event). x ∷ zs) (take_all k es (omega arith))

pub at_read : (es : List Event) (k : ℕ) (d : Event) → k < length es → slice_get es k ≡ Some (slice_index_or es k d)
at_read [] k d h = absurd (omega arith)
at_read (x ∷ es) zero d h = refl
at_read (x ∷ es) (suc k) d h = at_read es k d (omega arith)

take_at : (es : List Event) (k : ℕ) (e : Event) → slice_get es k ≡ Some e → take (suc k) es ≡ take k es ++ e ∷ []
take_at [] k e at = absurd cc
take_at (x ∷ es) zero e at = ap (λ (z : Event). z ∷ []) (some_is x e at)
take_at (x ∷ es) (suc k) e at = ap (λ (zs : List Event). x ∷ zs) (take_at es k e at)

-- the state after the first k events; each has made at most one block, lock and thread
pub record Reached (p : Program) (input : List ℤ) (events : List Event) (k : ℕ) (state : State) : Type 0 where
  pub follows : Replay p input (take k events) state
  pub blocks : length state.world.blocks ≤ k
  pub locks : length state.world.locks ≤ k
  pub threads : length state.threads ≤ k + 1

pub reached_first : (p : Program) (input : List ℤ) (events : List Event) (state : State) → state ≡ start_of p input → Reached p input events 0 state
reached_first p input events state is = record {
  follows = sym is;
  blocks = rw is (omega arith);
  locks = rw is (omega arith);
  threads = rw is (omega arith);
}

pub record OneMore (before after : State) : Type 0 where
  pub blocks : length after.world.blocks ≤ suc (length before.world.blocks)
  pub locks : length after.world.locks ≤ suc (length before.world.locks)
  pub threads : length after.threads ≤ suc (length before.threads)

pub reached_more : (p : Program) (input : List ℤ) (events : List Event) (k : ℕ) (before after : State) (e : Event) → Reached p input events k before → slice_get events k ≡ Some e → Step p before e.tid e after → OneMore before after → Reached p input events (k + 1) after
reached_more p input events k before after e r at s m = record {
  follows = subst (λ es. Replay p input es after) (sym (ap (λ n. take n events) (add-one k) ∙ take_at events k e at)) (runs_more p (start_of p input) (take k events) before e after r.follows s);
  blocks = omega (arith, r.blocks, m.blocks);
  locks = omega (arith, r.locks, m.locks);
  threads = omega (arith, r.threads, m.threads);
}

-- the thread's next event and the state after it; none where the thread isn't enabled
abbrev pub IsNext : Program → State → ℕ → Option Event → State → Type 0
IsNext p before t (Some event) after = Step p before t event after
IsNext p before t None after = is_enabled (functions_of p) before t ≡ false

pub is_next : (p : Program) (before after : State) (t : ℕ) (expected : Option Event) → IfSome expected (λ event. Step p before t event after) → IfNone expected (is_enabled (functions_of p) before t ≡ false) → IsNext p before t expected after
is_next p before after t None some none = none
is_next p before after t (Some event) some none = some

-- each of an event's three bounds, where there is an event
pub one_more : (before after : State) (expected : Option Event) (event : Event) → expected ≡ Some event → OnSome expected (length after.world.blocks ≤ suc (length before.world.blocks)) → OnSome expected (length after.world.locks ≤ suc (length before.world.locks)) → OnSome expected (length after.threads ≤ suc (length before.threads)) → OneMore before after
one_more before after None event is blocks locks threads = absurd cc
one_more before after (Some e) event is blocks locks threads = record { blocks = blocks; locks = locks; threads = threads }

-- what a thread does next, if anything
pub expects : (p : Program) (before after : State) (t : ℕ) (expected : Option Event) → IsNext p before t expected after → Expects p before t expected
expects p before after t None n = n
expects p before after t (Some d) n = (after, n)

not_false : {A : Type 0} → false ≡ true → A
not_false e = absurd cc

-- where a thread does another event, or none, this one is no step of it
pub no_step : (p : Program) (before after : State) (e : Event) (expected : Option Event) → IsNext p before e.tid expected after → (expected ≡ Some e → ⊥) → (other : State) → Step p before e.tid e other → ⊥
no_step p before after e None n apart other s = not_false (sym n ∙ s.enabled)
no_step p before after e (Some d) n apart other s = apart (ap (λ (z : Event). Some z) (step_once p before e.tid d e after other n s).0)

pub differs : (p : Program) (input : List ℤ) (events : List Event) (k : ℕ) (before after : State) (e : Event) (expected : Option Event) → Reached p input events k before → slice_get events k ≡ Some e → IsNext p before e.tid expected after → (expected ≡ Some e → ⊥) → DiffersAt p input events k expected e
differs p input events k before after e expected r at n apart = record {
  before = before;
  follows = r.follows;
  there = at;
  no_step = no_step p before after e expected n apart;
  expects = expects p before after e.tid expected n;
}

-- what differs somewhere is no replay
pub not_both : (p : Program) (input : List ℤ) (events : List Event) (k : ℕ) (expected : Option Event) (found : Event) (state : State) → DiffersAt p input events k expected found → Replay p input events state → ⊥
not_both p input events k expected found state d r =
    let h = runs_front p (start_of p input) events k found state d.there r in
    d.no_step h.1 (subst (λ z. Step p z found.tid found h.1) (runs_once p (start_of p input) (take k events) h.0 d.before h.2 d.follows) h.3)

get_front : (es : List Event) (j k : ℕ) (e : Event) → j < k → slice_get es j ≡ Some e → slice_get (take k es) j ≡ Some e
get_front [] j k e lt at = absurd cc
get_front (x ∷ es) j zero e lt at = absurd (omega arith)
get_front (x ∷ es) zero (suc k) e lt at = at
get_front (x ∷ es) (suc j) (suc k) e lt at = get_front es j k e (omega arith) at

take_front : (es : List Event) (j k : ℕ) → j < k → take j (take k es) ≡ take j es
take_front [] zero zero lt = refl
take_front [] zero (suc k) lt = refl
take_front [] (suc j) zero lt = refl
take_front [] (suc j) (suc k) lt = refl
take_front (x ∷ es) j zero lt = absurd (omega arith)
take_front (x ∷ es) zero (suc k) lt = refl
take_front (x ∷ es) (suc j) (suc k) lt = ap (λ (zs : List Event). x ∷ zs) (take_front es j k (omega arith))

module _ (p : Program) (input : List ℤ) (events : List Event) where
  not_before : (j k : ℕ) (d e : Option Event) (f g : Event) → DiffersAt p input events j d f → DiffersAt p input events k e g → j < k → ⊥
  not_before j k d e f g one two lt =
      let h = runs_front p (start_of p input) (take k events) j f two.before (get_front events j k f lt one.there) two.follows in
      let same = runs_once p (start_of p input) (take j events) h.0 one.before (subst (λ es. Runs p (start_of p input) es h.0) (take_front events j k lt) h.2) one.follows in
      one.no_step h.1 (subst (λ z. Step p z f.tid f h.1) same h.3)

  places_by : (j k : ℕ) (d e : Option Event) (f g : Event) → DiffersAt p input events j d f → DiffersAt p input events k e g → (t u : Bool) → nat_lt j k ≡ t → nat_lt k j ≡ u → j ≡ k
  places_by j k d e f g one two true u is at = absurd (not_before j k d e f g one two (ltb-true j k is))
  places_by j k d e f g one two false true is at = absurd (not_before k j e d g f two one (ltb-true k j at))
  places_by j k d e f g one two false false is at = let a = ltb-false j k is in let b = ltb-false k j at in omega arith

  expects_once : (before : State) (t : ℕ) (d e : Option Event) → Expects p before t d → Expects p before t e → d ≡ e
  expects_once before t None None one two = refl
  expects_once before t None (Some e) one two = not_false (sym one ∙ two.1.enabled)
  expects_once before t (Some d) None one two = not_false (sym two ∙ one.1.enabled)
  expects_once before t (Some d) (Some e) one two = ap (λ (z : Event). Some z) (step_once p before t d e one.0 two.0 one.1 two.1).0

  differs_once : (j k : ℕ) (d e : Option Event) (f g : Event) → DiffersAt p input events j d f → DiffersAt p input events k e g → replayed.Differs j d f ≡ replayed.Differs k e g
  differs_once j k d e f g one two =
      let place : j ≡ k = places_by j k d e f g one two (nat_lt j k) (nat_lt k j) refl refl in
      let there : slice_get events k ≡ Some f = ap (λ n. slice_get events n) (sym place) ∙ one.there in
      let found : f ≡ g = some_is f g (sym there ∙ two.there) in
      let at_k : Replay p input (take k events) one.before = subst (λ n. Replay p input (take n events) one.before) place one.follows in
      let state = runs_once p (start_of p input) (take k events) one.before two.before at_k two.follows in
      let moved : Expects p two.before g.tid d = subst (λ (z : Event). Expects p two.before z.tid d) found (subst (λ (z : State). Expects p z f.tid d) state one.expects) in
      ap (λ n. replayed.Differs n d f) place ∙ ap (λ o. replayed.Differs k o f) (expects_once two.before g.tid d e moved two.expects) ∙ ap (λ (z : Event). replayed.Differs k e z) found

  -- one answer is right
  pub one_answer : (a b : Replayed) → Tells p input events a → Tells p input events b → a ≡ b
  one_answer replayed.Follows replayed.Follows one two = refl
  one_answer replayed.Follows (replayed.Differs k e g) one two = absurd (not_both p input events k e g one.0 two one.1)
  one_answer (replayed.Differs j d f) replayed.Follows one two = absurd (not_both p input events j d f two.0 one two.1)
  one_answer (replayed.Differs j d f) (replayed.Differs k e g) one two = differs_once j k d e f g one two

-- all of the events
pub whole : (p : Program) (input : List ℤ) (xs events : List Event) (k : ℕ) (state : State) → xs ≡ events → length xs ≤ k → Reached p input xs k state → Replay p input events state
whole p input xs events k state is end r = subst (λ es. Replay p input es state) (take_all k xs end ∙ is) r.follows

not_so : {P : Type 0} (r : Bool) → IsTrue r ↔ P → r ≡ false → P → ⊥
not_so r told no_event h = not_false (sym no_event ∙ told.1 h)

module _ (p : Program) (input : List ℤ) (xs events : List Event) (k : ℕ) (before after : State) (d : Event) (expected : Option Event) (is_event : Bool) (is : xs ≡ events) (lt : k < length xs) (r : Reached p input xs k before) (n : IsNext p before (slice_index_or xs k d).tid expected after) (told : IsTrue is_event ↔ (expected ≡ Some (slice_index_or xs k d))) where
  -- the event at one place is another one than the thread's next
  pub differs_there : is_event ≡ false → DiffersAt p input events k expected (slice_index_or xs k d)
  differs_there no_event =
      subst (λ es. DiffersAt p input es k expected (slice_index_or xs k d)) is
      (differs p input xs k before after (slice_index_or xs k d) expected r (at_read xs k d lt) n (not_so is_event told no_event))

  pub exact_there : is_event ≡ false → (answer : Replayed) → Tells p input events answer → replayed.Differs k expected (slice_index_or xs k d) ≡ answer
  exact_there no_event answer tells = one_answer p input events (replayed.Differs k expected (slice_index_or xs k d)) answer (differs_there no_event) tells

  -- the event at one place is the thread's next
  pub reached_there : is_event ≡ true → OnSome expected (length after.world.blocks ≤ suc (length before.world.blocks)) → OnSome expected (length after.world.locks ≤ suc (length before.world.locks)) → OnSome expected (length after.threads ≤ suc (length before.threads)) → Reached p input xs (k + 1) after
  reached_there does blocks locks threads =
      reached_more p input xs k before after (slice_index_or xs k d) r (at_read xs k d lt)
      (subst (λ o. IsNext p before (slice_index_or xs k d).tid o after) (told.0 does) n)
      (one_more before after expected (slice_index_or xs k d) (told.0 does) blocks locks threads)

pub one_state : (p : Program) (input : List ℤ) (events : List Event) (one two : State) → Replay p input events one → Replay p input events two → one ≡ two
one_state p input events one two r s = runs_once p (start_of p input) events one two r s
