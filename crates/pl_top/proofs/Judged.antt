-- From the answers of reading and of the walk to what is found in a file.
use Rattle.std.proofs.Common.{◌≡◌, ℕ, List, [], ◌∷◌, Some, None, slice_get, sym, ap, ◌∙◌, subst}
use Rattle.std.specs.Prelude.{Err}
use Rattle.pl_base.specs.declared.pos.Pos.{Pos}
use Rattle.pl_syntax.specs.Tree.{FunDecl, Decl, Fun, Program}
use Rattle.pl_syntax.specs.Straight.{IsStraight, IsMain}
use Rattle.pl_syntax.specs.Unbuilt.{first_unbuilt}
use Rattle.pl_files.specs.declared.error.FileError.{FileError}
use Rattle.pl_files.specs.Files.{IsFile, IsTypedFile, NoFile, NoTypedFile, IsButForMemory}
use Rattle.pl_walk.specs.declared.walk.Duty.{Duty}
use Rattle.pl_walk.specs.Walk.{Undone, AllDone}
use Rattle.pl_laws.proofs.GoodLaws.{good}
use Rattle.pl_walk.proofs.WalkLaws.{all_done_derives}
use Rattle.pl_erase.specs.Emitted.{program_of}
use Rattle.pl_print.specs.ProgramText.{program_text}
use Rattle.pl_top.specs.Lines.{not_built_line, duty_line}
use Rattle.pl_top.specs.Judging.{says, IsFileOf, IsReason, says_why, Refuses, is_unread, is_not_built, is_undone, JudgesFmt, formats, not_formatted}
use Rattle.pl_top.specs.Checks.{said, IfRefused, Finds, IsBuiltFile, AcceptedAs}
use Rattle.pl_top.specs.declared.judge.Answer.{Answer}
use Rattle.pl_top.specs.declared.judge.PlanError.{PlanError}
use Rattle.pl_top.specs.declared.judge.PlanError.TheVariants.{Refused, Memory}
use Rattle.pl_top.proofs.Refusals.{none_answered}

pub first_of : (decls : List Decl) (main : FunDecl) → decls ≡ Fun main ∷ [] → slice_get decls 0 ≡ Some (Fun main)
first_of decls main e = ap (λ l. slice_get l 0) e

-- where all duties are done, the program is good
pub main_done : (main : FunDecl) → IsMain main → AllDone main → Finds main None
main_done main is done = (done, good main is (all_done_derives main done))

-- the program of a straight file is its one function
program_is : (p : Program) (main : FunDecl) → p.decls ≡ Fun main ∷ [] → p ≡ program_of main
program_is p main e = let made : List Decl → Program = λ l. record { decls = l } in ap made e

file_of : (bytes : List ℕ) (p : Program) → IsBuiltFile bytes p → (t : IsStraight p) → IsFileOf bytes t.0
file_of bytes p f t =
    let is = program_is p t.0 t.1 in
    record { file = subst (IsTypedFile bytes) is f.file; only = λ q g. f.only q g ∙ is; built = subst (λ q. first_unbuilt q ≡ None) is f.built }

-- a file of which nothing is left undone
pub file_accepted : (bytes : List ℕ) (p : Program) → IsBuiltFile bytes p → IsStraight p → ((main : FunDecl) → p.decls ≡ Fun main ∷ [] → IsMain main → Finds main None) → AcceptedAs bytes p
file_accepted bytes p f t h =
    let found = h t.0 t.1 t.2 in
    record {
      accepted = record { main = t.0; file = file_of bytes p f t; done = found.0; good = found.1 };
      is = program_is p t.0 t.1;
      sorted = t.2;
    }

-- a file of which this is left undone
pub file_undone : (bytes : List ℕ) (p : Program) → IsBuiltFile bytes p → IsStraight p → (a : Answer) → ((main : FunDecl) → p.decls ≡ Fun main ∷ [] → IsMain main → Finds main (Some a)) → Refuses bytes (said a)
file_undone bytes p f t a h =
    let found = h t.0 t.1 t.2 in
    subst (Refuses bytes) (sym found.3) (is_undone found.0 found.1 (record { main = t.0; file = file_of bytes p f t; undone = found.2 }))

-- what is said of a file that isn't read
abbrev SaysWhy : FileError → PlanError → Type 0
SaysWhy error e = IfRefused e (λ o. IsReason error × (o ≡ says_why error))

-- bytes that are no typed file
pub unread_refused : (bytes : List ℕ) (error : FileError) (e : PlanError) → NoTypedFile bytes error → ((p : Program) → IsTypedFile bytes p → IsButForMemory p (Err error)) → SaysWhy error e → IfRefused e (Refuses bytes)
unread_refused bytes error (Refused answer) why only h =
    subst (Refuses bytes) (sym h.1) (is_unread error (record { reason = h.0; why = why; none = λ p f. none_answered p error h.0 (only p f) }))
unread_refused bytes error Memory why only h = tt

-- bytes that are no file
pub unparsed_refused : (bytes : List ℕ) (error : FileError) (e : PlanError) → NoFile bytes error → ((p : Program) → IsFile bytes p → IsButForMemory p (Err error)) → SaysWhy error e → IfRefused e (JudgesFmt bytes)
unparsed_refused bytes error (Refused answer) why only h =
    subst (JudgesFmt bytes) (sym h.1) (not_formatted error (record { reason = h.0; why = why; none = λ p f. none_answered p error h.0 (only p f) }))
unparsed_refused bytes error Memory why only h = tt

-- a typed file with a form that isn't built
pub not_built_refused : (bytes : List ℕ) (p : Program) (place : Pos) (e : PlanError) → IsTypedFile bytes p → first_unbuilt p ≡ Some place → IfRefused e (λ o. o ≡ says 3 (not_built_line place)) → IfRefused e (Refuses bytes)
not_built_refused bytes p place (Refused answer) file first h = subst (Refuses bytes) (sym h) (is_not_built place (record { program = p; file = file; first = first }))
not_built_refused bytes p place Memory file first h = tt

-- a file's canonical text
pub file_formatted : (bytes : List ℕ) (p : Program) (text : List ℕ) → IsFile bytes p → text ≡ program_text p → JudgesFmt bytes (says 0 text)
file_formatted bytes p text file e = subst (λ (l : List ℕ). JudgesFmt bytes (says 0 l)) (sym e) (formats p file)

-- what is said of a duty that is left undone
pub said_undone : (main : FunDecl) (place : Pos) (duty : Duty) → Undone main place duty → (text : List ℕ) → text ≡ duty_line place duty → (p : Pos) × (d : Duty) × Undone main p d × (says 1 text ≡ says 1 (duty_line p d))
said_undone main place duty undone text h = (place, duty, undone, ap (says 1) h)
