-- The reasons why a file isn't read: too many declarations come with no other.
use Rattle.std.proofs.Common.{◌≡◌, ◌≢◌, ℕ, List, refl, sym, subst, ◌∙◌, arith}
use Rattle.std.specs.Prelude.{Err}
use Rattle.pl_base.specs.declared.pos.Pos.{Pos}
use Rattle.pl_lexer.specs.declared.tokens.Token.{Token}
use Rattle.pl_lexer.specs.declared.error.LexError.{LexError}
use Rattle.pl_lexer.specs.declared.error.LexError.TheVariants as lex
use Rattle.pl_lexer.specs.Tokens.{IsLexed}
use Rattle.pl_lexer.specs.Tokens as lexer
use Rattle.pl_lexer.proofs.Once.{lexed_once, lexed_not_refused}
use Rattle.pl_syntax.specs.Tree.{Program}
use Rattle.pl_grammar.specs.Refusals.{HasFew}
use Rattle.pl_grammar.proofs.Within.{within_only, within_ends, few}
use Rattle.pl_files.specs.declared.error.FileError.{FileError}
use Rattle.pl_files.specs.declared.error.FileError.TheVariants as file
use Rattle.pl_files.specs.Files.{IsFile, NoFile, NoTypedFile, IsButForMemory}
use Rattle.pl_top.specs.Judging.{IsReason, file_status, IsUnread, IsUnparsed}

-- a program that is no answer is none, but for want of memory
pub none_answered : (p : Program) (error : FileError) → IsReason error → IsButForMemory p (Err error) → ⊥
none_answered p file.Memory reason h = absurd reason
none_answered p _ reason h = h

-- a reason is a limit or it isn't
pub data Kind : FileError → Type 0 where
  a_limit : (place : Pos) → Kind (file.TooMany place)
  no_limit : {error : FileError} → file_status error ≡ 3 → Kind error

pub kind_of : (error : FileError) → Kind error
kind_of (file.TooMany place) = a_limit place
kind_of _ = no_limit refl

-- the tokens of a file have few declarations
file_few : (bytes : List ℕ) (p : Program) → (f : IsFile bytes p) → HasFew f.tokens
file_few bytes p f = few f.tokens (within_ends f.tokens p (within_only f.tokens p f.derived f.few))

-- the tokens of bytes are one list, so they have few declarations or too many
never_many : (bytes : List ℕ) (tokens : List Token) (place : Pos) → IsLexed bytes tokens → HasFew tokens → NoFile bytes (file.TooMany place) → ⊥
never_many bytes tokens place lexed h m =
    let same : m.tokens ≡ tokens = lexed_once bytes m.tokens tokens m.lexed lexed in
    subst HasFew (sym same) h m.refusal.0 m.refusal.2

never_in_file : (bytes : List ℕ) (p : Program) (place : Pos) → IsFile bytes p → NoFile bytes (file.TooMany place) → ⊥
never_in_file bytes p place f m = never_many bytes f.tokens place f.lexed (file_few bytes p f) m

never_lexed : (bytes : List ℕ) (error : LexError) (place : Pos) → error ≢ lex.Memory → lexer.IsRefusal bytes error → NoFile bytes (file.TooMany place) → ⊥
never_lexed bytes error place reason h m = lexed_not_refused bytes m.tokens error reason m.lexed h

-- where there are too many declarations, there is no other reason
never_other : (bytes : List ℕ) (error : FileError) (place : Pos) → IsReason error → file_status error ≡ 3 → NoTypedFile bytes error → NoFile bytes (file.TooMany place) → ⊥
never_other bytes (file.BadUtf8 n) place reason is h m = never_lexed bytes (lex.BadUtf8 n) place (λ e. cc) h m
never_other bytes (file.BadChar p) place reason is h m = never_lexed bytes (lex.BadChar p) place (λ e. cc) h m
never_other bytes (file.LongNumber p) place reason is h m = never_lexed bytes (lex.LongNumber p) place (λ e. cc) h m
never_other bytes (file.LongName p) place reason is h m = never_lexed bytes (lex.LongName p) place (λ e. cc) h m
never_other bytes (file.Syntax p) place reason is h m = never_many bytes h.1.tokens place h.1.lexed h.1.refusal.few m
never_other bytes (file.Deep p) place reason is h m = never_many bytes h.tokens place h.lexed h.refusal.few m
never_other bytes (file.TooMany p) place reason is h m = absurd (omega (arith, is))
never_other bytes (file.Unknown p) place reason is h m = never_in_file bytes h.0 place h.1 m
never_other bytes (file.Twice p) place reason is h m = never_in_file bytes h.0 place h.1 m
never_other bytes (file.IllTyped p) place reason is h m = never_in_file bytes h.0 place h.1 m
never_other bytes (file.GhostFlow p) place reason is h m = never_in_file bytes h.0 place h.1 m
never_other bytes (file.Opening p) place reason is h m = never_in_file bytes h.0 place h.1 m
never_other bytes (file.Measure p) place reason is h m = never_in_file bytes h.0 place h.1 m
never_other bytes file.NoMain place reason is h m = never_in_file bytes h.0 place h.1 m
never_other bytes file.Memory place reason is h m = absurd reason

by_kinds : (bytes : List ℕ) (error other : FileError) → IsReason error → IsReason other → NoTypedFile bytes error → NoTypedFile bytes other → Kind error → Kind other → file_status error ≡ file_status other
by_kinds bytes _ _ r s h k (a_limit p) (a_limit q) = refl
by_kinds bytes _ other r s h k (a_limit p) (no_limit e) = absurd (never_other bytes other p s e k h)
by_kinds bytes error _ r s h k (no_limit e) (a_limit q) = absurd (never_other bytes error q r e h k)
by_kinds bytes error other r s h k (no_limit e) (no_limit f) = e ∙ sym f

-- all reasons of one file have one status
pub one_status : (bytes : List ℕ) (error other : FileError) → IsUnread bytes error → IsUnread bytes other → file_status error ≡ file_status other
one_status bytes error other u v = by_kinds bytes error other u.reason v.reason u.why v.why (kind_of error) (kind_of other)

-- what is no file is no typed file
untyped_too : (bytes : List ℕ) (error : FileError) → NoFile bytes error → NoTypedFile bytes error
untyped_too bytes (file.Unknown p) h = absurd h
untyped_too bytes (file.Twice p) h = absurd h
untyped_too bytes (file.IllTyped p) h = absurd h
untyped_too bytes (file.GhostFlow p) h = absurd h
untyped_too bytes (file.Opening p) h = absurd h
untyped_too bytes (file.Measure p) h = absurd h
untyped_too bytes file.NoMain h = absurd h
untyped_too bytes _ h = h

pub one_status_before : (bytes : List ℕ) (error other : FileError) → IsUnparsed bytes error → IsUnparsed bytes other → file_status error ≡ file_status other
one_status_before bytes error other u v = by_kinds bytes error other u.reason v.reason (untyped_too bytes error u.why) (untyped_too bytes other v.why) (kind_of error) (kind_of other)
