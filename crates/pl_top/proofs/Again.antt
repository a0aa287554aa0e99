-- The C that is written is read and run again.
use Rattle.std.proofs.Common.{◌≡◌, ℕ, ℤ, List, refl, sym, subst}
use Rattle.std.specs.Prelude.{Ok, None}
use Rattle.pl_words.specs.declared.command.RunOpts.{RunOpts}
use Rattle.c_syntax.specs.Tree.{Program}
use Rattle.c_syntax.specs.Text.{program_text}
use Rattle.pl_syntax.specs.Tree as source
use Rattle.pl_syntax.specs.Tree.{FunDecl}
use Rattle.pl_syntax.specs.Straight.{IsStraight, IsMain}
use Rattle.pl_syntax.specs.Typing.{IsTyped}
use Rattle.pl_syntax.specs.Unbuilt.{first_unbuilt}
use Rattle.pl_walk.proofs.WalkLaws.{all_done_derives}
use Rattle.pl_erase.specs.Emitted.{program_of}
use Rattle.pl_laws.proofs.SameLaws.{sound}
use Rattle.pl_top.specs.Input.{input_of}
use Rattle.pl_top.specs.Judging.{Outcome, IsEmitted, IsSafeEnd, is_no_c, is_no_input, Ran, ran, JudgesRun, runs, run_no_numbers, not_run}
use Rattle.pl_top.specs.Runs.{IsSafe}
use Rattle.pl_top.proofs.Exact.{never_bad, same_numbers}
use Rattle.pl_top.proofs.Promises.{safe_end}

-- the function of an accepted file is a straight one
sorted_main : (main : FunDecl) → IsStraight (program_of main) → IsMain main
sorted_main main t = let same : main ≡ t.0 = only_one main t.0 t.1 in subst IsMain (sym same) t.2
  where
    only_one : (f g : FunDecl) → (program_of f).decls ≡ (program_of g).decls → f ≡ g
    only_one f g e = cc

-- a typed program of which all forms are built is straight
abbrev IsStraightLaw : Type 0
IsStraightLaw = (p : source.Program) → IsTyped p → first_unbuilt p ≡ None → IsStraight p

-- no run of the C of an accepted file comes to a fault or a race
emitted_safe : IsStraightLaw → (bytes : List ℕ) (program : Program) → IsEmitted bytes program → IsSafe program
emitted_safe law bytes program e =
    let main = e.accepted.main in
    let sorted = sorted_main main (law (program_of main) e.accepted.file.file.typed e.accepted.file.built) in
    let derives = all_done_derives main e.accepted.done in
    subst IsSafe (sym e.is) (record {
      no_fault = λ input es last r. (sound main sorted derives input es last r).0;
      no_race = λ input es last r. (sound main sorted derives input es last r).1;
    })

-- a run of a program that is the same, on the same numbers
abbrev IsSafeRun : Program → List ℤ → RunOpts → Outcome → Type 0
IsSafeRun program numbers opts o = (r : Ran program numbers opts) × IsSafeEnd r.ends × (o ≡ ran r)

ran_safely : (p q : Program) (ns ms : List ℤ) (opts : RunOpts) → IsSafe p → p ≡ q → ms ≡ ns → (r : Ran q ms opts) → IsSafeRun p ns opts (ran r)
ran_safely p q ns ms opts safe same e r =
    let here : IsSafeRun q ms opts (ran r) = (r, safe_end q ms opts.steps r.events r.ends (subst IsSafe same safe) r.run, refl) in
    subst (λ n. IsSafeRun p n opts (ran r)) e (subst (λ x. IsSafeRun x ms opts (ran r)) (sym same) here)

pub emitted_runs : IsStraightLaw → (bytes input : List ℕ) (opts : RunOpts) (program : Program) (numbers : List ℤ) (o : Outcome) → IsEmitted bytes program → input_of input ≡ Ok numbers → JudgesRun (program_text program) opts input o → IsSafeRun program numbers opts o
emitted_runs law bytes input opts program numbers _ e are (runs q q_is ms ms_are r) = ran_safely program q numbers ms opts (emitted_safe law bytes program e) (q_is.only program e.text) (same_numbers (input_of input) numbers ms are ms_are) r
emitted_runs law bytes input opts program numbers _ e are (run_no_numbers q q_is _ (is_no_input n bad)) = absurd (never_bad (input_of input) numbers n are bad)
emitted_runs law bytes input opts program numbers _ e are (not_run _ (is_no_c none n at)) = absurd (none program e.text)
