-- What a run printed is what its events printed.
use Rattle.std.proofs.Common.{◌≡◌, ℕ, ℤ, Bool, true, false, List, [], ◌∷◌, ◌++◌, Option, Some, None, refl, sym, ap, ◌∙◌, subst, append_assoc, append-nil}
use Rattle.std.specs.Prelude.{Result, Ok, Err, flat_map}
use Rattle.pl_resource.specs.Faults.{chain}
use Rattle.pl_resource.specs.Heap.{free_of}
use Rattle.pl_resource.specs.LockTable.{end_of}
use Rattle.pl_resource.specs.declared.value.Fault.{Fault}
use Rattle.pl_resource.specs.declared.value.Value.{Value}
use Rattle.pl_resource.specs.declared.value.Value.TheVariants as value
use Rattle.c_syntax.specs.Tree.{Program}
use Rattle.c_meaning.specs.declared.action.Action.{Action}
use Rattle.c_meaning.specs.declared.action.Action.TheVariants as act
use Rattle.c_meaning.specs.declared.action.Event.{Event}
use Rattle.c_meaning.specs.Tree.{Basic, Load, Store, Cas, Make, Free, NewLock, Acquire, Release, Read, Print, Call, Fork, Join, Return, Stmts, end, more, Let, If, While, Check, Do, Function}
use Rattle.c_meaning.specs.Values.{Env, Outcome, eval, local_of}
use Rattle.c_meaning.specs.Effects.{World, Own, Effect, effect_of, made_block, has_fields, freed, joined, past, with_blocks, with_locks, eval_number}
use Rattle.c_meaning.specs.Resolve.{functions_of}
use Rattle.c_meaning.specs.Events.{State, Thread, Done, event_in, faulted, event_from, thread_of}
use Rattle.c_meaning.specs.Steps.{Step, Runs, Replay, start_of}
use Rattle.std.proofs.lemmas.Grind.{flat_map-append}
use Rattle.pl_top.specs.Lines.{number_line, outputs_text}
use Rattle.pl_top.specs.Runs.{printed_by, printed, printed_line}

-- what is printed behind what was printed
abbrev pub Prints : World → Result Effect Fault → Type 0
Prints world (Err f) = Unit {0}
Prints world (Ok e) = e.world.outputs ≡ world.outputs ++ printed_by e.action

chain_prints : {A : Type 0} (world : World) (r : Result A Fault) (f : A → Result Effect Fault) → ((a : A) → Prints world (f a)) → Prints world (chain r f)
chain_prints world (Err x) f h = tt
chain_prints world (Ok a) f h = h a

none_printed : (world : World) → world.outputs ≡ world.outputs ++ []
none_printed world = sym (append-nil world.outputs)

made_prints : (atomic : Bool) (x : ℕ) (own : Own) (world : World) (first : List Value) (count : ℕ) → Prints world (made_block atomic x own world first count)
made_prints atomic x own world first count = go (has_fields first) refl
  where
    go : (b : Bool) → has_fields first ≡ b → Prints world (made_block atomic x own world first count)
    go true e = rw e (none_printed world)
    go false e = rw e tt

freed_prints : (own : Own) (world : World) (v : Value) → Prints world (freed own world v)
freed_prints own world (value.Block b) = chain_prints world (free_of world.blocks b) (λ blocks. past (act.Free b) own (with_blocks world blocks)) (λ blocks. none_printed world)
freed_prints own world (value.Lock k) = chain_prints world (end_of world.locks k) (λ locks. past (act.FreeLock k) own (with_locks world locks)) (λ locks. none_printed world)
freed_prints own world value.Null = tt
freed_prints own world (value.Int n) = tt
freed_prints own world (value.Truth b) = tt

joined_prints : (own : Own) (world : World) (child : Option ℕ) → Prints world (joined own world child)
joined_prints own world None = tt
joined_prints own world (Some t) = none_printed world

effect_prints : (next : ℕ) (blank : Env) (b : Basic) (own : Own) (world : World) → Prints world (effect_of next blank b own world)
effect_prints next blank (Load x place atomic) own world = search (chain_prints, none_printed)
effect_prints next blank (Store place e atomic) own world = search (chain_prints, none_printed)
effect_prints next blank (Cas x base old new) own world = search (chain_prints, none_printed)
effect_prints next blank (Make x atomic first count) own world = search (chain_prints, made_prints)
effect_prints next blank (Free base) own world = chain_prints world (local_of own.env base) (freed own world) (freed_prints own world)
effect_prints next blank (NewLock x) own world = none_printed world
effect_prints next blank (Acquire lock) own world = search (chain_prints, none_printed)
effect_prints next blank (Release lock) own world = search (chain_prints, none_printed)
effect_prints next blank (Read x) own world = none_printed world
effect_prints next blank (Print e) own world = chain_prints world (eval_number own.env e) (λ n. past (act.Print n) own (record world { outputs = world.outputs ++ n ∷ [] })) (λ n. refl)
effect_prints next blank (Call into f args) own world = search (chain_prints, none_printed)
effect_prints next blank (Fork f args) own world = search (chain_prints, none_printed)
effect_prints next blank Join own world = joined_prints own world own.child
effect_prints next blank (Return e) own world = search (chain_prints, none_printed)

-- the same of what is done behind a statement
abbrev pub DonePrints : World → Result Done Fault → Type 0
DonePrints world (Err f) = Unit {0}
DonePrints world (Ok d) = d.effect.world.outputs ≡ world.outputs ++ printed_by d.effect.action

done_prints : (world : World) (rest : Stmts) (r : Result Effect Fault) → Prints world r → DonePrints world (chain r (λ e. Ok (record { effect = e; left = rest })))
done_prints world rest (Err f) h = tt
done_prints world rest (Ok e) h = h

faulted_prints : (world : World) (o : Outcome) → DonePrints world (faulted o)
faulted_prints world (Err f) = tt
faulted_prints world (Ok v) = tt

event_prints : (next : ℕ) (locals : Env) (left : Stmts) (own : Own) (world : World) → DonePrints world (event_in next locals left own world)
event_prints next locals end own world = none_printed world
event_prints next locals (more (Do b) rest) own world = done_prints world rest _ (effect_prints next locals b own world)
event_prints next locals (more (While l e b) rest) own world = none_printed world
event_prints next locals (more (Check l e b) rest) own world = faulted_prints world (eval own.env e)
event_prints next locals (more (Let x e) rest) own world = faulted_prints world (eval own.env e)
event_prints next locals (more (If e a b) rest) own world = faulted_prints world (eval own.env e)

-- the same of a state
abbrev pub StatePrints : State → Option (Result (Action × State) Fault) → Type 0
StatePrints before None = Unit {0}
StatePrints before (Some (Err f)) = Unit {0}
StatePrints before (Some (Ok r)) = r.1.world.outputs ≡ before.world.outputs ++ printed_by r.0

moved_prints : (before : State) (r : Result Done Fault) (after : Done → State) → ((d : Done) → (after d).world ≡ d.effect.world) → DonePrints before.world r → StatePrints before (Some (chain r (λ d. Ok (d.effect.action, after d))))
moved_prints before (Err f) after same h = tt
moved_prints before (Ok d) after same h = ap (λ (w : World). w.outputs) (same d) ∙ h

thread_prints : (functions : List Function) (before : State) (t : ℕ) (frames : Thread) → StatePrints before (event_from functions before t frames)
thread_prints functions before t [] = tt
thread_prints functions before t (frame ∷ callers) = moved_prints before _ _ (λ d. refl) (event_prints _ _ frame.left _ before.world)

step_prints : (p : Program) (before : State) (t : ℕ) (e : Event) (after : State) → Step p before t e after → after.world.outputs ≡ before.world.outputs ++ printed e
step_prints p before t e after s = subst (StatePrints before) s.does (thread_prints (functions_of p) before t (thread_of before t))

runs_print : (p : Program) (es : List Event) (before after : State) → Runs p before es after → after.world.outputs ≡ before.world.outputs ++ flat_map printed es
runs_print p [] before after e = ap (λ (s : State). s.world.outputs) (sym e) ∙ none_printed before.world
runs_print p (e ∷ es) before after r =
    runs_print p es r.0 after r.2 ∙ ap (λ (out : List ℤ). out ++ flat_map printed es) (step_prints p before e.tid e r.0 r.1) ∙ append_assoc before.world.outputs (printed e) (flat_map printed es)

-- the outputs of a replay are what its events printed
pub replay_prints : (p : Program) (input : List ℤ) (es : List Event) (last : State) → Replay p input es last → last.world.outputs ≡ flat_map printed es
replay_prints p input es last r = runs_print p es (start_of p input) last r

-- numbers, each on a line, are the lines of the events that printed them
lines_printed : (es : List Event) → flat_map printed_line es ≡ outputs_text (flat_map printed es)
lines_printed [] = refl
lines_printed (e ∷ es) = ap (λ (l : List ℕ). printed_line e ++ l) (lines_printed es) ∙ sym (flat_map-append number_line (printed e) (flat_map printed es))

pub text_printed : (p : Program) (input : List ℤ) (es : List Event) (last : State) → Replay p input es last → (text : List ℕ) → text ≡ flat_map printed_line es → text ≡ outputs_text last.world.outputs
text_printed p input es last r text e = e ∙ lines_printed es ∙ ap outputs_text (sym (replay_prints p input es last r))
