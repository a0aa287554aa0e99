-- Files that are put, and what was done where something failed.
use Rattle.std.proofs.Common.{◌≡◌, ℕ, List, [], ◌∷◌, length, Some, None, refl, sym, subst, append-nil}
use Rattle.std.specs.Prelude.{Option, Result, Ok, Err}
use Rattle.std.specs.Io.KnownBytes.{Appends}
use Rattle.std.proofs.lemmas.List.{take_all}
use Rattle.std.proofs.Math.Nat.{le_refl}
use Rattle.pl_base.specs.Outside.{Files, Puts, KeepsOthers}
use Rattle.pl_words.specs.declared.command.WordError.{WordError}
use Rattle.pl_words.specs.declared.command.WordError.TheVariants as e
use Rattle.pl_words.specs.declared.command.Command.{Command}
use Rattle.pl_words.specs.declared.command.UsageKind.{UsageKind}
use Rattle.pl_top.specs.Lines.{usage_line}
use Rattle.pl_top.specs.Telling.{Put, AllPut, AppendsPart}
use Rattle.pl_top.specs.Judging.{Outcome, says}
use Rattle.pl_top.specs.Calls.{CameTo, none, DidPart, put_whole, put_failed, wrote, PartDone}

-- nothing was put and written
pub nothing_done : (told : Result Command WordError) (files files' : Option Files) (input left out out' : Option (List ℕ)) → files' ≡ files → out' ≡ out → PartDone told files files' input left out out'
nothing_done (Ok command) files files' input left out out' same quiet = put_whole [] none same quiet
nothing_done (Err (e.Usage kind place)) files files' input left out out' same quiet = put_whole [] refl same quiet
nothing_done (Err e.Memory) files files' input left out out' same quiet = (same, quiet)

-- all of a text is a beginning of it, and nothing is
pub all_of : (out out' : Option (List ℕ)) (text : List ℕ) → Appends out out' text → AppendsPart out out' text
all_of out out' text h =
    let P : List ℕ → Type 0 = λ t. Appends out out' t in
    (length text, subst P (sym (take_all (length text) text (le_refl (length text)))) h)

appends_none : (out : Option (List ℕ)) → Appends out out []
appends_none None = tt
appends_none (Some x) = sym (append-nil x)

pub none_of : (out : Option (List ℕ)) (text : List ℕ) → AppendsPart out out text
none_of out [] = (0, appends_none out)
none_of out (b ∷ bs) = (0, appends_none out)

-- what came about was done in part
pub came_part : (P : List Put → Type 0) (I : Outcome → Type 0) (files files' : Option Files) (out out' : Option (List ℕ)) (status : ℕ) → CameTo I files files' out out' status → DidPart P I files files' out out'
came_part P I files files' out out' status a = wrote a.outcome a.judged a.delivered (all_of out out' a.outcome.text a.written)

-- what is a part of one plan is a part of a wider one
pub part_of : (P Q : List Put → Type 0) (I J : Outcome → Type 0) (files files' : Option Files) (out out' : Option (List ℕ)) → ((puts : List Put) → P puts → Q puts) → ((o : Outcome) → I o → J o) → DidPart P I files files' out out' → DidPart Q J files files' out out'
part_of P Q I J files files' out out' f g (put_whole puts can all quiet) = put_whole puts (f puts can) all quiet
part_of P Q I J files files' out out' f g (put_failed puts last can between all others quiet) = put_failed puts last (f _ can) between all others quiet
part_of P Q I J files files' out out' f g (wrote o is all part) = wrote o (g o is) all part

-- words that are refused
pub refused_part : (kind : UsageKind) (place : ℕ) (files files' : Option Files) (out out' : Option (List ℕ)) (text : List ℕ) → text ≡ usage_line kind place → files' ≡ files → AppendsPart out out' text → DidPart (λ puts. puts ≡ []) (λ o. o ≡ says 2 (usage_line kind place)) files files' out out'
refused_part kind place files files' out out' text is same w = wrote (says 2 (usage_line kind place)) refl same (subst (AppendsPart out out') is w)

-- the same text, written behind the same
pub appends_at : (a a' b : Option (List ℕ)) (t t' : List ℕ) → a ≡ a' → t ≡ t' → Appends a b t → Appends a' b t'
appends_at a a' b t t' e f h = subst (λ x. Appends x b t') e (subst (Appends a b) f h)

pub part_at : (a a' b : Option (List ℕ)) (t t' : List ℕ) → a ≡ a' → t ≡ t' → AppendsPart a b t → AppendsPart a' b t'
part_at a a' b t t' e f h = subst (λ x. AppendsPart x b t') e (subst (AppendsPart a b) f h)

-- the same file, put behind the same
pub puts_from : (files files0 files' : Option Files) (name bytes bytes' : List ℕ) → files ≡ files0 → bytes ≡ bytes' → Puts files files' name bytes → Puts files0 files' name bytes'
puts_from files files0 files' name bytes bytes' e f h = subst (λ x. Puts x files' name bytes') e (subst (Puts files files' name) f h)

pub others_at : (files files0 files' : Option Files) (name : List ℕ) → files ≡ files0 → KeepsOthers files files' name → KeepsOthers files0 files' name
others_at files files0 files' name e h = subst (λ f. KeepsOthers f files' name) e h

pub puts_end : (ps : List Put) (files between files' : Option Files) → files' ≡ between → AllPut ps files between → AllPut ps files files'
puts_end ps files between files' e h = subst (AllPut ps files) (sym e) h
