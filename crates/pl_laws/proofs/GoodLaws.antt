-- A program with a derivation is good: each of its runs has an annotation, and each state of it is fine.
use Rattle.std.proofs.Common.{◌≡◌, ◌≢◌, ◌⊎◌, ℕ, zero, suc, ℤ, Option, Some, None, List, [], ◌∷◌, ◌++◌, length, refl, sym, ap, ◌∙◌, subst, slice_get, set, inl, inr}
use Rattle.pl_syntax.specs.Tree.{Stmt, FunDecl, list_of}
use Rattle.pl_syntax.specs.Values.{no_vars}
use Rattle.pl_syntax.specs.Straight.{Scope, AreSorted, IsMain}
use Rattle.pl_syntax.specs.Resource.{Resource, Adds, IsEmpty, nothing}
use Rattle.pl_syntax.proofs.ResourceLaws.{adds_nothing, adds_nothing', nothing_empty}
use Rattle.pl_terms.specs.Terms.{Values, AllHold}
use Rattle.pl_terms.specs.Table.{Known, start}
use Rattle.pl_deriv.specs.Derivations.{Rules, Derives}
use Rattle.pl_source.specs.Machine.{resource_of, Event, Effect, Goes, FaultsBy, HasNone, effect, Frame, Thread, State, Outcome, Moves, Stands, Faults, Stuck, on_effect, step_left, step_frames, step_thread, step, moved, start_of}
use Rattle.pl_source.specs.Good.{Touch, NoCell, thread_touch, touch, Conflict, read_freed, freed_read, freed_twice, Race, StandsBefore, IsFine, Split, Keeps, RunSplits, Good}
use Rattle.pl_source.specs.Steps.{OneCells, Fits, scope_after}
use Rattle.pl_source.proofs.HeapLaws.{resource_none, one_cells_none}
use Rattle.pl_source.proofs.StepLaws.{sorted_rest, stmt_goes}

-- a call that isn't over: what is known holds of its variables and the part, and the statements that are left derive
pub record Active (f : Frame) (x : Resource) : Type 0 where
  pub scope : Scope
  pub known : Known
  pub values : Values
  pub fits : Fits known scope values f.vars x
  pub sorted : AreSorted scope f.left
  pub end : Known
  pub rules : Rules known f.left end
  pub none_left : end.atoms ≡ []

-- a thread has ended and owns nothing, or its one call is active
abbrev pub Phase : Thread → Resource → Type 0
Phase [] x = IsEmpty x
Phase (f ∷ []) x = Active f x
Phase (f ∷ g ∷ below) x = ⊥

-- a state has one thread, whose part is all that there is
pub record Annotated (s : State) : Type 0 where
  pub frames : Thread
  pub only : s.threads ≡ frames ∷ []
  pub part : Resource
  pub adds : Adds part nothing (resource_of s.heap)
  pub phase : Phase frames part
  pub cells : OneCells s.heap

-- the split of an annotated state
abbrev pub split_of : (s : State) → Annotated s → Split s
split_of s a = record {
  parts = a.part ∷ [];
  held = resource_of s.heap;
  dropped = nothing;
  one_each = sym (ap length a.only);
  parts_sum = (nothing, a.adds, nothing_empty);
  adds = adds_nothing' (resource_of s.heap);
}

-- what an event comes to: an annotated state, in which no other part changed; never a fault
abbrev pub OutcomeOk : (s : State) → Annotated s → ℕ → Outcome → Type 0
OutcomeOk s a t (Moves e s') = (b : Annotated s') × Keeps t (split_of s a) (split_of s' b)
OutcomeOk s a t Stands = Unit {0}
OutcomeOk s a t (Faults kind) = ⊥
OutcomeOk s a t Stuck = ⊥

-- an event of the one thread changes no other part
pub keeps_others : (s s' : State) (a : Annotated s) (b : Annotated s') → Keeps 0 (split_of s a) (split_of s' b)
keeps_others s s' a b = record { others = others_of; more = nothing; grows = adds_nothing nothing }
  where
    others_of : (u : ℕ) → u ≢ 0 → slice_get (b.part ∷ []) u ≡ slice_get (a.part ∷ []) u
    others_of zero n = absurd (n refl)
    others_of (suc u) n = refl

-- no event changes no part
pub keeps_all : (t : ℕ) (s : State) (a : Annotated s) → Keeps t (split_of s a) (split_of s a)
keeps_all t s a = record { others = λ u n. refl; more = nothing; grows = adds_nothing nothing }

-- an active call goes on, or returns and owns nothing
pub left_ok : (s : State) (a : Annotated s) (f : Frame) → Active f a.part → (l : List Stmt) → f.left ≡ l → OutcomeOk s a 0 (step_left s 0 f [] l)
left_ok s a f act [] e =
    let ends : act.end ≡ act.known = subst (λ l. Rules act.known l act.end) e act.rules in
    let none : act.known.atoms ≡ [] = sym (ap (λ (k : Known). k.atoms) ends) ∙ act.none_left in
    let b : Annotated (record s { threads = set s.threads 0 [] }) = record {
      frames = [];
      only = ap (λ threads. set threads 0 []) a.only;
      part = a.part;
      adds = a.adds;
      phase = subst (λ atoms. AllHold act.values atoms a.part) none act.fits.atoms;
      cells = a.cells;
    } in
    (b, keeps_others s _ a b)
left_ok s a f act (st ∷ left) e =
    let rules : Rules act.known (st ∷ left) act.end = subst (λ l. Rules act.known l act.end) e act.rules in
    let sorted : AreSorted act.scope (st ∷ left) = subst (AreSorted act.scope) e act.sorted in
    let went = stmt_goes act.known act.scope act.values f.vars a.part nothing s.heap act.fits a.adds a.cells st left rules.0 rules.1 sorted in
    let f' : Frame = record { left = left; vars = went.after } in
    let s' : State = record { heap = went.heap; input = s.input; out = s.out ++ went.out; threads = set s.threads 0 (f' ∷ []) } in
    let act' : Active f' went.part = record {
      scope = scope_after act.scope st;
      known = rules.0;
      values = went.values;
      fits = went.fits;
      sorted = sorted_rest act.scope st left sorted;
      end = act.end;
      rules = rules.2;
      none_left = act.none_left;
    } in
    let b : Annotated s' = record {
      frames = f' ∷ [];
      only = ap (λ threads. set threads 0 (f' ∷ [])) a.only;
      part = went.part;
      adds = went.adds;
      phase = act';
      cells = went.cells;
    } in
    subst (λ o. OutcomeOk s a 0 (on_effect s 0 [] left o)) (sym went.goes) (b, keeps_others s s' a b)

-- the one thread stands, goes on or returns
pub frames_ok : (s : State) (a : Annotated s) (l : Thread) → a.frames ≡ l → OutcomeOk s a 0 (step_frames s 0 l)
frames_ok s a [] e = tt
frames_ok s a (f ∷ []) e = left_ok s a f (subst (λ l. Phase l a.part) e a.phase) f.left refl
frames_ok s a (f ∷ g ∷ below) e = absurd (subst (λ l. Phase l a.part) e a.phase)

-- the one thread of a state
pub only_thread : (s : State) (a : Annotated s) (t : ℕ) → slice_get (a.frames ∷ []) t ≡ slice_get s.threads t
only_thread s a t = sym (ap (λ l. slice_get l t) a.only)

-- no event of an annotated state is a fault, and each leads to an annotated state
pub step_ok : (s : State) (a : Annotated s) (t : ℕ) → OutcomeOk s a t (step s t)
step_ok s a t = go t (slice_get s.threads t) (only_thread s a t)
  where
    go : (u : ℕ) (o : Option Thread) → slice_get (a.frames ∷ []) u ≡ o → OutcomeOk s a u (step_thread s u o)
    go zero None e = cc
    go zero (Some l) e = frames_ok s a l (cc)
    go (suc u) None e = tt
    go (suc u) (Some l) e = cc

-- an outcome that is no fault leaves an annotated state
pub moved_ok : (s : State) (a : Annotated s) (t : ℕ) (o : Outcome) → OutcomeOk s a t o → (b : Annotated (moved s o)) × Keeps t (split_of s a) (split_of (moved s o) b)
moved_ok s a t (Moves e s') h = h
moved_ok s a t Stands h = (a, keeps_all t s a)
moved_ok s a t (Faults kind) h = absurd h
moved_ok s a t Stuck h = absurd h

-- a thread that isn't the first touches nothing
pub others_touch : (s : State) (a : Annotated s) (t : ℕ) → t ≢ 0 → touch s t ≡ NoCell
others_touch s a zero n = absurd (n refl)
others_touch s a (suc t) n = sym (ap thread_touch (only_thread s a (suc t)))

-- what touches nothing conflicts with nothing
pub no_conflict_left : {x y : Touch} → Conflict x y → x ≡ NoCell → ⊥
no_conflict_left (read_freed b i f) e = cc
no_conflict_left (freed_read b i f) e = cc
no_conflict_left (freed_twice b) e = cc

-- nothing conflicts with what touches nothing
pub no_conflict_right : {x y : Touch} → Conflict x y → y ≡ NoCell → ⊥
no_conflict_right (read_freed b i f) e = cc
no_conflict_right (freed_read b i f) e = cc
no_conflict_right (freed_twice b) e = cc

-- one thread doesn't race
pub no_race : (s : State) (a : Annotated s) (t u : ℕ) → Race s t u → ⊥
no_race s a zero zero r = absurd (r.apart refl)
no_race s a zero (suc u) r = no_conflict_right r.conflict (others_touch s a (suc u) (λ e. cc))
no_race s a (suc t) u r = no_conflict_left r.conflict (others_touch s a (suc t) (λ e. cc))

-- a call that isn't over doesn't stand
pub left_moves : (s : State) (t : ℕ) (f : Frame) (below : List Frame) (l : List Stmt) → step_left s t f below l ≢ Stands
left_moves s t f below [] = λ e. cc
left_moves s t f below (st ∷ left) = by_effect (effect st s.heap f.vars)
  where
    by_effect : (o : Effect) → on_effect s t below left o ≢ Stands
    by_effect (Goes e h vars out) = λ k. cc
    by_effect (FaultsBy kind) = λ k. cc
    by_effect HasNone = λ k. cc

-- an outcome that is no fault and doesn't stand is an event
pub is_event : (s : State) (a : Annotated s) (t : ℕ) (o : Outcome) → OutcomeOk s a t o → o ≢ Stands → (e : Event) × (s' : State) × (o ≡ Moves e s')
is_event s a t (Moves e s') h n = (e, s', refl)
is_event s a t Stands h n = absurd (n refl)
is_event s a t (Faults kind) h n = absurd h
is_event s a t Stuck h n = absurd h

-- a thread that is there has ended or stands before an event
pub is_ready : (s : State) (a : Annotated s) (t : ℕ) (frames : Thread) → slice_get s.threads t ≡ Some frames → (frames ≡ []) ⊎ StandsBefore s t
is_ready s a t [] e = inl refl
is_ready s a t (f ∷ below) e =
    let goes : step s t ≡ step_left s t f below f.left = ap (step_thread s t) e in
    let r = is_event s a t (step_left s t f below f.left) (subst (OutcomeOk s a t) goes (step_ok s a t)) (left_moves s t f below f.left) in
    inr (record { event = r.0; after = r.1; is = goes ∙ r.2 })

-- an annotated state is fine
pub fine : (s : State) → Annotated s → IsFine s
fine s a = record {
  no_fault = λ t kind e. subst (OutcomeOk s a t) e (step_ok s a t);
  no_race = no_race s a;
  ready = is_ready s a;
}

-- each run from an annotated state has splits, and its states are fine
pub runs_ok : (ts : List ℕ) (s : State) (a : Annotated s) → RunSplits ts s (split_of s a)
runs_ok [] s a = fine s a
runs_ok (t ∷ ts) s a =
    let m = moved_ok s a t (step s t) (step_ok s a t) in
    (fine s a, (split_of (moved s (step s t)) m.0, m.1, runs_ok ts (moved s (step s t)) m.0))

-- the first state of a program with a derivation is annotated
pub start_ok : (f : FunDecl) (input : List ℤ) → IsMain f → Derives f → Annotated (start_of f input)
start_ok f input m d =
    let first : Frame = record { left = list_of f.body; vars = no_vars } in
    let act : Active first (resource_of []) = record {
      scope = [];
      known = start;
      values = λ i. None;
      fits = record { names = record { at = λ y. tt }; sorts = record { at = λ y. tt }; fresh = record { none = λ i l. refl }; atoms = resource_none };
      sorted = m.statements;
      end = d.end;
      rules = d.rules;
      none_left = d.none_left;
    } in
    record { frames = first ∷ []; only = refl; part = resource_of []; adds = adds_nothing' (resource_of []); phase = act; cells = one_cells_none }

-- a program with a derivation is good
pub good : (f : FunDecl) → IsMain f → Derives f → Good f
good f m d = record {
  first = λ input. split_of (start_of f input) (start_ok f input m d);
  runs = λ input ts. runs_ok ts (start_of f input) (start_ok f input m d);
}
