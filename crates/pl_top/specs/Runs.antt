-- What a run of a C program is found to be.
use Rattle.std.specs.Prelude.{◌≡◌, ◌<◌, ℕ, ℤ, List, [], ◌∷◌, ◌++◌, None, length}
use Rattle.pl_words.specs.declared.command.RunOpts.{RunOpts}
use Rattle.pl_resource.specs.declared.value.Fault.{Fault}
use Rattle.c_syntax.specs.Tree.{Program}
use Rattle.c_meaning.specs.declared.action.Action.{Action}
use Rattle.c_meaning.specs.declared.action.Action.TheVariants.{Print}
use Rattle.c_meaning.specs.declared.action.Event.{Event}
use Rattle.c_meaning.specs.Events.{State}
use Rattle.c_meaning.specs.Steps.{Faults, Replay, race_at}
use Rattle.c_runner.specs.declared.run_end.RunEnd.{RunEnd}
use Rattle.c_runner.specs.Runs.{IsRun, IsRuled}
use Rattle.pl_top.specs.Lines.{outputs_text, end_line}
use Rattle.pl_top.specs.Judging.{status_of}
use Rattle.pl_top.specs.declared.run.Done.{Done}

-- no run of a program comes to a fault or a race
pub record IsSafe (p : Program) : Type 0 where
  pub no_fault : (input : List ℤ) (events : List Event) (last : State) → Replay p input events last → (t : ℕ) (f : Fault) → Faults p last t f → ⊥
  pub no_race : (input : List ℤ) (events : List Event) (last : State) → Replay p input events last → (s t : ℕ) → s < t → race_at p last s t ≡ None

-- the number that an action printed
abbrev pub printed_by : Action → List ℤ
printed_by (Print n) = n ∷ []
printed_by _ = []

abbrev pub printed : Event → List ℤ
printed e = printed_by e.action

abbrev pub printed_line : Event → List ℕ
printed_line e = outputs_text (printed e)

-- a run that is over, with its status and what is printed
pub record IsDone (program : Program) (numbers : List ℤ) (opts : RunOpts) (d : Done) : Type 0 where
  pub ends : RunEnd
  pub run : IsRun program numbers opts.steps d.history.events ends
  pub ruled : opts.workers ≡ 1 → IsRuled program numbers opts.steps d.history.events
  pub status : d.status ≡ status_of ends
  pub text : d.text.items ≡ outputs_text run.last.world.outputs ++ end_line (length d.history.events) ends
