-- What the code finds in a file.
use Rattle.std.specs.Prelude.{◌≡◌, ℕ, List, Option, Some, None}
use Rattle.pl_base.specs.declared.pos.Pos.{Pos}
use Rattle.pl_syntax.specs.Tree.{FunDecl, Program}
use Rattle.pl_syntax.specs.Straight.{IsMain}
use Rattle.pl_syntax.specs.Unbuilt.{first_unbuilt}
use Rattle.pl_files.specs.Files.{IsTypedFile}
use Rattle.pl_walk.specs.declared.walk.Duty.{Duty}
use Rattle.pl_walk.specs.Walk.{Undone, AllDone}
use Rattle.pl_source.specs.Good.{Good}
use Rattle.pl_top.specs.Lines.{duty_line}
use Rattle.pl_erase.specs.Emitted.{program_of}
use Rattle.pl_top.specs.Judging.{IsAccepted, Outcome, says}
use Rattle.pl_top.specs.declared.judge.Answer.{Answer}
use Rattle.pl_top.specs.declared.judge.PlanError.{PlanError}
use Rattle.pl_top.specs.declared.judge.PlanError.TheVariants.{Refused, Memory}

-- the outcome of an answer that puts no file
abbrev pub said : Answer → Outcome
said a = says a.status a.text.items

-- what is said of a text that is refused
abbrev pub IfRefused : PlanError → (Outcome → Type 0) → Type 0
IfRefused (Refused answer) P = P (said answer)
IfRefused Memory P = Unit {0}

-- no duty of a function is left undone, or this is said of the first
abbrev pub Finds : FunDecl → Option Answer → Type 0
Finds main None = AllDone main × Good main
Finds main (Some a) = (place : Pos) × (duty : Duty) × Undone main place duty × (said a ≡ says 1 (duty_line place duty))

-- the bytes are one typed file, of which all forms are built
pub record IsBuiltFile (bytes : List ℕ) (p : Program) : Type 0 where
  pub file : IsTypedFile bytes p
  pub only : (q : Program) → IsTypedFile bytes q → q ≡ p
  pub built : first_unbuilt p ≡ None

-- the file was accepted with this program
pub record AcceptedAs (bytes : List ℕ) (p : Program) : Type 0 where
  pub accepted : IsAccepted bytes
  pub is : p ≡ program_of accepted.main
  pub sorted : IsMain accepted.main
