-- The runs of a program with a derivation and of its C program are the same.
use Rattle.std.proofs.Common.{◌≡◌, ℕ, zero, suc, ◌<◌, ℤ, max, arith, Bool, true, false, Option, Some, None, List, [], ◌∷◌, ◌++◌, length, map, Result, Ok, Err, refl, sym, ap, ◌∙◌, subst, slice_get, slice_set, slice_index_or, set, codes}
use Rattle.std.specs.Prelude.{⊤}
use Rattle.std.proofs.Math.Nat.{le-max_left, le-max_right}
use Rattle.std.proofs.lemmas.List.{length-replicate}
use Rattle.pl_resource.specs.Faults.{chain}
use Rattle.pl_resource.specs.declared.value.Value.TheVariants as value
use Rattle.pl_resource.specs.declared.value.Fault as reason
use Rattle.c_syntax.specs.Tree as tree
use Rattle.c_meaning.specs.declared.action.Action.{Action}
use Rattle.c_meaning.specs.declared.action.Event as happened
use Rattle.c_meaning.specs.declared.action.Next.{Next}
use Rattle.c_meaning.specs.declared.action.Next.TheVariants as next
use Rattle.c_meaning.specs.Tree.{Stmts, Function, end, greatest}
use Rattle.c_meaning.specs.Resolve.{Names, names_in, function_of, functions_of, place_of, main_place}
use Rattle.c_meaning.specs.Effects as effects
use Rattle.c_meaning.specs.Effects.{effect_of}
use Rattle.c_meaning.specs.Touches.{touch_of}
use Rattle.c_meaning.specs.Events as c
use Rattle.c_meaning.specs.Events.{event_of, event_from, event_in, event_of_frame, next_of, next_from, next_by, is_enabled, is_over, ready, thread_of, state_after, own_of, atomic_at, blank, called, settled, begun, function_numbered}
use Rattle.c_meaning.specs.Tree as stmt
use Rattle.c_meaning.specs.Steps as steps
use Rattle.c_meaning.specs.Steps.{Step, Runs, Replay, race_of, race_at}
use Rattle.pl_syntax.specs.Tree.{Stmt, Whole, Load, Alloc, Free, Print, FunDecl, list_of}
use Rattle.pl_syntax.specs.Straight.{IsMain}
use Rattle.pl_syntax.specs.Values.{no_vars}
use Rattle.pl_deriv.specs.Derivations.{Derives}
use Rattle.pl_source.specs.Machine.{Event, AllocEvent, LoadEvent, FreeEvent, PrintEvent, ReturnEvent, Effect, Goes, FaultsBy, HasNone, effect, Frame, Thread, State, Outcome, Moves, Stands, Faults, Stuck, on_effect, step_left, step_frames, step_thread, step, start_of}
use Rattle.pl_erase.specs.Emitted.{Numbers, no_numbers, number, emitted_fun, emitted, program_of}
use Rattle.pl_laws.specs.SameRuns.{Told, Leads, c_action, c_event, c_fault, SameShared, SameNext, has_ended, SameThreads, SameRuns}
use Rattle.pl_laws.proofs.GoodLaws.{Annotated, OutcomeOk, step_ok, start_ok}
use Rattle.pl_laws.proofs.Locals.{Locals, locals_none}
use Rattle.pl_laws.proofs.Rows.{left_of, settled_is, none_atomic, SameEffect, print_same, alloc_same, load_same, free_same}

-- ---- states

-- the same statements are left, and the names that are bound have their values in their locals
pub record SameFrame (names : Names) (f : Frame) (g : c.Frame) : Type 0 where
  pub next : ℕ
  pub numbers : Numbers
  pub left : g.left ≡ left_of names next numbers f.left
  pub locals : Locals next numbers f.vars g.env
  pub room : greatest (left_of names next numbers f.left) < length g.env

-- a thread has ended in both, or has one call that is the same
abbrev pub SameThread : Names → Thread → c.Thread → Type 0
SameThread names [] [] = ⊤
SameThread names (f ∷ []) (g ∷ []) = SameFrame names f g
SameThread names _ _ = ⊥

-- a state of one thread, and the same state of C
pub record Same (names : Names) (s : State) (d : c.State) : Type 0 where
  pub thread : Thread
  pub c_thread : c.Thread
  pub only : s.threads ≡ thread ∷ []
  pub c_only : d.threads ≡ c_thread ∷ []
  pub threads : SameThread names thread c_thread
  pub shared : SameShared s d

-- an event of the source is one of C, to the same state again; its end and its faults are those of C
abbrev pub SameOutcome : Names → Outcome → Option (Result (Action × c.State) reason.Fault) → Type 0
SameOutcome names (Moves e s) r = (after : c.State) × (r ≡ Some (Ok (c_action e, after))) × Same names s after
SameOutcome names Stands r = r ≡ None
SameOutcome names (Faults kind) r = r ≡ Some (Err (c_fault kind))
SameOutcome names Stuck r = ⊤

-- ---- one event

module _ (names : Names) (fs : List Function) (s : State) (d : c.State) (same : Same names s d) where
  -- a frame after a row
  by_effect : (g : c.Frame) (n : ℕ) (numbers : Numbers) (rest : List Stmt) (o : Effect) (r : Result effects.Effect reason.Fault) → greatest (left_of names n numbers rest) < length g.env → SameEffect (own_of g) d.world n numbers o r
      → SameOutcome names (on_effect s 0 [] rest o) (Some (chain (chain r (λ e. Ok (record { effect = e; left = left_of names n numbers rest }))) (λ done. Ok (done.effect.action, state_after fs d 0 g [] done))))
  by_effect g n numbers rest HasNone r room h = tt
  by_effect g n numbers rest (FaultsBy kind) r room h = ap (λ q. Some (chain (chain q (λ e. Ok (record { effect = e; left = left_of names n numbers rest }))) (λ done. Ok (done.effect.action, state_after fs d 0 g [] done)))) h
  by_effect g n numbers rest (Goes e heap vars out) r room h =
      let f' : Frame = record { left = rest; vars = vars } in
      let g' : c.Frame = record { left = left_of names n numbers rest; env = h.env; into = g.into; child = g.child } in
      let k : c.Frame = settled (left_of names n numbers rest) h.env g.into g.child in
      let after : c.State = record { world = h.after; threads = slice_set d.threads 0 (k ∷ []) ++ [] } in
      let frame : SameFrame names f' g' = record { next = n; numbers = numbers; left = refl; locals = h.locals; room = subst (λ m. greatest (left_of names n numbers rest) < m) (sym h.room) room } in (
        after,
        ap (λ q. Some (chain (chain q (λ e. Ok (record { effect = e; left = left_of names n numbers rest }))) (λ done. Ok (done.effect.action, state_after fs d 0 g [] done)))) h.is,
        record {
          thread = f' ∷ [];
          c_thread = k ∷ [];
          only = ap (λ ts. set ts 0 (f' ∷ [])) same.only;
          c_only = ap (λ ts. slice_set ts 0 (k ∷ []) ++ []) same.c_only;
          threads = subst (SameFrame names f') (sym (settled_is names n numbers rest h.env g.into g.child)) frame;
          shared = record {
            blocks = h.blocks;
            marks = ap (λ ls. map (λ lock. lock.mark) ls) h.locks ∙ same.shared.marks;
            input = h.input ∙ same.shared.input;
            outputs = h.outputs ∙ ap (λ l. l ++ out) same.shared.outputs;
          };
        },
      )

  -- a frame with these statements left
  by_left : (f : Frame) (g : c.Frame) (n : ℕ) (numbers : Numbers) (l : List Stmt) → Locals n numbers f.vars g.env → greatest (left_of names n numbers l) < length g.env
      → SameOutcome names (step_left s 0 f [] l) (Some (chain (event_in (length d.threads) (blank (called fs (left_of names n numbers l))) (left_of names n numbers l) (own_of g) d.world) (λ done. Ok (done.effect.action, state_after fs d 0 g [] done))))
  by_left f g n numbers [] locals room = (
    record { world = d.world; threads = slice_set d.threads 0 (c.resumed g.into None []) ++ [] },
    refl,
    record {
      thread = [];
      c_thread = [];
      only = ap (λ ts. set ts 0 []) same.only;
      c_only = ap (λ ts. slice_set ts 0 [] ++ []) same.c_only;
      threads = tt;
      shared = record { blocks = same.shared.blocks; marks = same.shared.marks; input = same.shared.input; outputs = same.shared.outputs };
    },
  )
  by_left f g n numbers (Load place x (Whole y) is_ghost ∷ rest) locals room =
      let row : stmt.Basic = stmt.Load n (stmt.Whole (numbers y)) false in
      let below : n < length g.env = omega (arith, room, le-max_left n (greatest (left_of names (suc n) (number x n numbers) rest))) in
      by_effect g (suc n) (number x n numbers) rest (effect (Load place x (Whole y) is_ghost) s.heap f.vars) _
      (omega (arith, room, le-max_right n (greatest (left_of names (suc n) (number x n numbers) rest))))
      (load_same n numbers f.vars s.heap (own_of g) d.world locals same.shared.blocks (length d.threads) (blank (called fs (left_of names n numbers (Load place x (Whole y) is_ghost ∷ rest)))) x y below)
  by_left f g n numbers (Alloc place x e ∷ rest) locals room =
      let below : n < length g.env = omega (arith, room, le-max_left n (greatest (left_of names (suc n) (number x n numbers) rest))) in
      by_effect g (suc n) (number x n numbers) rest (effect (Alloc place x e) s.heap f.vars) _
      (omega (arith, room, le-max_right n (greatest (left_of names (suc n) (number x n numbers) rest))))
      (alloc_same n numbers f.vars s.heap (own_of g) d.world locals same.shared.blocks (length d.threads) (blank (called fs (left_of names n numbers (Alloc place x e ∷ rest)))) x e below)
  by_left f g n numbers (Free place x ∷ rest) locals room =
      by_effect g n numbers rest (effect (Free place x) s.heap f.vars) _
      (omega (arith, room, le-max_right 0 (greatest (left_of names n numbers rest))))
      (free_same n numbers f.vars s.heap (own_of g) d.world locals same.shared.blocks (length d.threads) (blank (called fs (left_of names n numbers (Free place x ∷ rest)))) x)
  by_left f g n numbers (Print place e ∷ rest) locals room =
      by_effect g n numbers rest (effect (Print place e) s.heap f.vars) _
      (omega (arith, room, le-max_right 0 (greatest (left_of names n numbers rest))))
      (print_same n numbers f.vars s.heap (own_of g) d.world locals same.shared.blocks (length d.threads) (blank (called fs (left_of names n numbers (Print place e ∷ rest)))) e)
  by_left f g n numbers (_ ∷ rest) locals room = tt

  by_frames : (l : Thread) (k : c.Thread) → SameThread names l k → SameOutcome names (step_frames s 0 l) (event_from fs d 0 k)
  by_frames [] [] h = refl
  by_frames (f ∷ []) (g ∷ []) h =
      subst (λ left. SameOutcome names (step_left s 0 f [] f.left) (Some (chain (event_in (length d.threads) (blank (called fs left)) left (own_of g) d.world) (λ done. Ok (done.effect.action, state_after fs d 0 g [] done)))))
      (sym h.left) (by_left f g h.next h.numbers f.left h.locals h.room)
  by_frames _ _ h = absurd h

  by_thread : (t : ℕ) → SameOutcome names (step_thread s t (slice_get (same.thread ∷ []) t)) (event_from fs d t (slice_index_or (same.c_thread ∷ []) t []))
  by_thread zero = by_frames same.thread same.c_thread same.threads
  by_thread (suc t) = refl

  -- each thread does the same
  pub same_step : (t : ℕ) → SameOutcome names (step s t) (event_of fs d t)
  same_step t =
      subst (λ k. SameOutcome names (step s t) (event_from fs d t k)) (sym (ap (λ l. slice_index_or l t []) same.c_only))
      (subst (λ o. SameOutcome names (step_thread s t o) (event_from fs d t (slice_index_or (same.c_thread ∷ []) t []))) (sym (ap (λ l. slice_get l t) same.only)) (by_thread t))

-- ---- what a thread stands before

-- what a thread stands before, by its event
abbrev next_like : Option (Result (Action × c.State) reason.Fault) → Next
next_like None = next.Ended
next_like (Some (Err f)) = next.Fault f
next_like (Some (Ok r)) = next.Act (touch_of false r.0)

abbrev atomic_in : c.Thread → Bool
atomic_in [] = false
atomic_in (g ∷ callers) = atomic_at g.left

next_is : (fs : List Function) (d : c.State) (t : ℕ) (k : c.Thread) → atomic_in k ≡ false → next_from fs d k ≡ next_like (event_from fs d t k)
next_is fs d t [] e = refl
next_is fs d t (g ∷ callers) e = ap (λ a. next_by a (event_of_frame fs (length d.threads) g d.world)) e ∙ go (event_of_frame fs (length d.threads) g d.world)
  where
    go : (r : Result c.Done reason.Fault) → next_by false r ≡ next_like (Some (chain r (λ done. Ok (done.effect.action, state_after fs d t g callers done))))
    go (Err f) = refl
    go (Ok done) = refl

thread_plain : (names : Names) (l : Thread) (k : c.Thread) → SameThread names l k → atomic_in k ≡ false
thread_plain names [] [] h = refl
thread_plain names (f ∷ []) (g ∷ []) h = ap atomic_at h.left ∙ none_atomic names h.next h.numbers f.left
thread_plain names _ _ h = absurd h

one_plain : (k : c.Thread) (t : ℕ) → atomic_in k ≡ false → atomic_in (slice_index_or (k ∷ []) t []) ≡ false
one_plain k zero h = h
one_plain k (suc t) h = refl

pub next_same : (names : Names) (fs : List Function) (s : State) (d : c.State) → Same names s d → (t : ℕ) → next_of fs d t ≡ next_like (event_of fs d t)
next_same names fs s d same t =
    next_is fs d t (thread_of d t) (ap (λ l. atomic_in (slice_index_or l t [])) same.c_only ∙ one_plain same.c_thread t (thread_plain names same.thread same.c_thread same.threads))

-- no event of the source waits
never_waits : (d : c.State) (e : Event) → ready d (next.Act (touch_of false (c_action e))) ≡ true
never_waits d (AllocEvent block count) = refl
never_waits d (LoadEvent block index field w) = refl
never_waits d (FreeEvent block) = refl
never_waits d (PrintEvent n) = refl
never_waits d ReturnEvent = refl

-- ---- runs of the source

pub first_ok : (p : tree.Program) (names : Names) (es : List Told) (s : State) (d : c.State) → Same names s d → (s' : State) → Leads s es s' → (d' : c.State) × Runs p d (map c_event es) d' × Same names s' d'
first_ok p names [] s d same s' run = (d, refl, subst (λ z. Same names z d) run same)
first_ok p names (e ∷ es) s d same s' run =
    let fs = functions_of p in
    let goes = subst (λ o. SameOutcome names o (event_of fs d e.thread)) run.1 (same_step names fs s d same e.thread) in
    let stands : next_of fs d e.thread ≡ next.Act (touch_of false (c_action e.event)) = next_same names fs s d same e.thread ∙ ap next_like goes.1 in
    let one : Step p d e.thread (c_event e) goes.0 = record { enabled = ap (ready d) stands ∙ never_waits d e.event; thread = refl; does = goes.1 } in
    let more = first_ok p names es run.0 goes.0 goes.2 s' run.2 in
    (more.0, (goes.0, one, more.1), more.2)

-- ---- runs of C

-- an event of C is one of the source
pub record Followed (names : Names) (s : State) (event : happened.Event) (d' : c.State) : Type 0 where
  pub does : Event
  pub after : State
  pub goes : step s event.tid ≡ Moves does after
  pub action : c_action does ≡ event.action
  pub same : Same names after d'
  pub annotated : Annotated after

no_event : (x : Action × c.State) (r : Option (Result (Action × c.State) reason.Fault)) → r ≡ None → r ≡ Some (Ok x) → ⊥
no_event x r h k = cc

follow : (names : Names) (s : State) (a : Annotated s) (event : happened.Event) (d' : c.State) (o : Outcome) (r : Option (Result (Action × c.State) reason.Fault)) → step s event.tid ≡ o → SameOutcome names o r → OutcomeOk s a event.tid o → r ≡ Some (Ok (event.action, d')) → Followed names s event d'
follow names s a event d' (Moves e s') r goes h ok does =
    let both : Some (Ok (c_action e, h.0)) ≡ Some (Ok (event.action, d')) = sym h.1 ∙ does in
    let pair : (c_action e, h.0) ≡ (event.action, d') = cc in
    record {
      does = e;
      after = s';
      goes = goes;
      action = ap (λ (p : Action × c.State). p.0) pair;
      same = subst (Same names s') (ap (λ (p : Action × c.State). p.1) pair) h.2;
      annotated = ok.0;
    }
follow names s a event d' Stands r goes h ok does = absurd (no_event (event.action, d') r h does)
follow names s a event d' (Faults kind) r goes h ok does = absurd ok
follow names s a event d' Stuck r goes h ok does = absurd ok

-- a run of C is one of the source
pub record Ran (p : tree.Program) (names : Names) (s : State) (events : List happened.Event) (d' : c.State) : Type 0 where
  pub told : List Told
  pub after : State
  pub leads : Leads s told after
  pub is : map c_event told ≡ events
  pub same : Same names after d'
  pub annotated : Annotated after

pub second_ok : (p : tree.Program) (names : Names) (events : List happened.Event) (s : State) (d : c.State) → Same names s d → Annotated s → (d' : c.State) → Runs p d events d' → Ran p names s events d'
second_ok p names [] s d same a d' run = record { told = []; after = s; leads = refl; is = refl; same = subst (Same names s) run same; annotated = a }
second_ok p names (event ∷ events) s d same a d' run =
    let f = follow names s a event run.0 (step s event.tid) (event_of (functions_of p) d event.tid) refl (same_step names (functions_of p) s d same event.tid) (step_ok s a event.tid) run.1.does in
    let more = second_ok p names events f.after run.0 f.same f.annotated d' run.2 in
    let one : Told = record { thread = event.tid; event = f.does } in
    let is_one : c_event one ≡ event = ap (λ (x : Action). the_event event.tid x) f.action in
    record {
      told = one ∷ more.told;
      after = more.after;
      leads = (f.after, f.goes, more.leads);
      is = ap (λ x. x ∷ map c_event more.told) is_one ∙ ap (λ l. event ∷ l) more.is;
      same = more.same;
      annotated = more.annotated;
    }
  where
    the_event : ℕ → Action → happened.Event
    the_event t x = record { tid = t; action = x }

-- ---- the same threads

stands_same : (names : Names) (s : State) (a : Annotated s) (t : ℕ) (o : Outcome) (r : Option (Result (Action × c.State) reason.Fault)) (n : Next) → SameOutcome names o r → OutcomeOk s a t o → n ≡ next_like r → SameNext o n
stands_same names s a t (Moves e s') r n h ok is = is ∙ ap next_like h.1
stands_same names s a t Stands r n h ok is = is ∙ ap next_like h
stands_same names s a t (Faults kind) r n h ok is = absurd ok
stands_same names s a t Stuck r n h ok is = absurd ok

ended_same : (names : Names) (l : Thread) (k : c.Thread) → SameThread names l k → has_ended (Some l) ≡ is_over (Some k)
ended_same names [] [] h = refl
ended_same names (f ∷ []) (g ∷ []) h = refl
ended_same names _ _ h = absurd h

one_ended : (names : Names) (l : Thread) (k : c.Thread) (t : ℕ) → SameThread names l k → has_ended (slice_get (l ∷ []) t) ≡ is_over (slice_get (k ∷ []) t)
one_ended names l k zero h = ended_same names l k h
one_ended names l k (suc t) h = refl

pub threads_same : (p : tree.Program) (names : Names) (s : State) (d : c.State) → Same names s d → Annotated s → SameThreads p s d
threads_same p names s d same a = record {
  stands = λ t. stands_same names s a t (step s t) (event_of (functions_of p) d t) (next_of (functions_of p) d t) (same_step names (functions_of p) s d same t) (step_ok s a t) (next_same names (functions_of p) s d same t);
  ended = λ t. ap (λ l. has_ended (slice_get l t)) same.only ∙ one_ended names same.thread same.c_thread t same.threads ∙ sym (ap (λ l. is_over (slice_get l t)) same.c_only);
}

-- ---- the start

abbrev c_main : FunDecl → tree.Program
c_main f = emitted (program_of f)

abbrev names_of : FunDecl → Names
names_of f = names_in (c_main f) (emitted_fun f)

abbrev started : tree.Program → List ℤ → ℕ → c.State
started p input k =
    let main = function_numbered (functions_of p) (Some k) in
    record {
      world = record { blocks = []; locks = []; input = input; outputs = [] };
      threads = (begun main (blank main) None ∷ []) ∷ [];
    }

pub start_same : (f : FunDecl) (input : List ℤ) → IsMain f → Same (names_of f) (start_of f input) (steps.start_of (c_main f) input)
start_same f input m =
    let names = names_of f in
    let list = list_of f.body in
    let main : Function = function_of (c_main f) (emitted_fun f) in
    let place : main_place (c_main f) ≡ 0 = ap (λ name. place_of (name ∷ []) (codes "main")) m.name in
    let body = left_of names 1 no_numbers list in
    let first : Frame = record { left = list; vars = no_vars } in
    let g : c.Frame = record { left = body; env = blank main; into = None; child = None } in
    let frame : SameFrame names first g = record {
      next = 1;
      numbers = no_numbers;
      left = refl;
      locals = locals_none (blank main);
      room = subst (λ n. greatest body < n) (sym (length-replicate (suc (max 0 (greatest body))) value.Null)) (omega (arith, le-max_right 0 (greatest body)));
    } in
    let k : c.Frame = begun main (blank main) None in
    let at_first : Same names (start_of f input) (started (c_main f) input 0) = record {
      thread = first ∷ [];
      c_thread = k ∷ [];
      only = refl;
      c_only = refl;
      threads = subst (SameFrame names first) (sym (settled_is names 1 no_numbers list (blank main) None None)) frame;
      shared = record { blocks = refl; marks = refl; input = refl; outputs = refl };
    } in
    subst (λ n. Same names (start_of f input) (started (c_main f) input n)) (sym place) at_first

-- ---- the laws

-- the runs of a program with a derivation are those of its C program
pub same_runs : (f : FunDecl) → IsMain f → Derives f → SameRuns f (c_main f)
same_runs f m d = record {
  first = λ input es s run.
      let r = first_ok (c_main f) (names_of f) es (start_of f input) (steps.start_of (c_main f) input) (start_same f input m) s run in
      (r.0, r.1, r.2.shared);
  second = λ input events state run.
      let r = second_ok (c_main f) (names_of f) events (start_of f input) (steps.start_of (c_main f) input) (start_same f input m) (start_ok f input m d) state run in
      (r.told, r.after, r.leads, r.is, r.same.shared, threads_same (c_main f) (names_of f) r.after state r.same r.annotated);
}

no_fault : (o : Outcome) (n : Next) (f : reason.Fault) (names : Names) (s : State) (a : Annotated s) (t : ℕ) → SameNext o n → OutcomeOk s a t o → n ≡ next.Fault f → ⊥
no_fault (Moves e s') n f names s a t h ok is = let both : next.Act (touch_of false (c_action e)) ≡ next.Fault f = sym h ∙ is in cc
no_fault Stands n f names s a t h ok is = let both : next.Ended ≡ next.Fault f = sym h ∙ is in cc
no_fault (Faults kind) n f names s a t h ok is = absurd ok
no_fault Stuck n f names s a t h ok is = absurd ok

none_races : (n : Next) → race_of n next.Ended ≡ None
none_races (next.Act touch) = refl
none_races (next.Fault f) = refl
none_races next.Ended = refl

no_race : (p : tree.Program) (names : Names) (s : State) (d : c.State) → Same names s d → (t u : ℕ) → t < u → race_at p d t u ≡ None
no_race p names s d same t zero less = absurd (omega (arith, less))
no_race p names s d same t (suc u) less =
    let over : thread_of d (suc u) ≡ [] = ap (λ l. slice_index_or l (suc u) []) same.c_only in
    let ends : next_of (functions_of p) d (suc u) ≡ next.Ended = ap (next_from (functions_of p) d) over in
    ap (race_of (next_of (functions_of p) d t)) ends ∙ none_races (next_of (functions_of p) d t)

-- no run of the C program of one has a fault or a race
pub sound : (f : FunDecl) → IsMain f → Derives f → (input : List ℤ) (events : List happened.Event) (state : c.State) → Replay (c_main f) input events state
    → ((t : ℕ) (fault : reason.Fault) → steps.Faults (c_main f) state t fault → ⊥) × ((s t : ℕ) → s < t → race_at (c_main f) state s t ≡ None)
sound f m d input events state run =
    let r = second_ok (c_main f) (names_of f) events (start_of f input) (steps.start_of (c_main f) input) (start_same f input m) (start_ok f input m d) state run in
    let threads = threads_same (c_main f) (names_of f) r.after state r.same r.annotated in (
      λ t fault is. no_fault (step r.after t) (next_of (functions_of (c_main f)) state t) fault (names_of f) r.after r.annotated t (threads.stands t) (step_ok r.after r.annotated t) is,
      no_race (c_main f) (names_of f) r.after state r.same,
    )
