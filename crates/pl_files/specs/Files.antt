-- Source files: the program of a file's bytes, and why bytes have none.
use Rattle.std.specs.Prelude.{◌≡◌, ℕ, ◌≤◌, List, length, Result, Ok, Err}
use Rattle.pl_base.specs.declared.pos.Pos.{Pos}
use Rattle.pl_lexer.specs.declared.tokens.Token.{Token}
use Rattle.pl_lexer.specs.declared.error.LexError.TheVariants as lex
use Rattle.pl_lexer.specs.Tokens as lexer
use Rattle.pl_lexer.specs.Tokens.{IsLexed}
use Rattle.pl_syntax.specs.declared.program.Program as code
use Rattle.pl_syntax.specs.Plain.{plain_program}
use Rattle.pl_syntax.specs.Tree.{Program}
use Rattle.pl_syntax.specs.Typing.{IsTyped}
use Rattle.pl_grammar.specs.FileGrammar.{File}
use Rattle.pl_parser.specs.declared.error.ParseError.{ParseError}
use Rattle.pl_parser.specs.declared.error.ParseError.TheVariants as parse
use Rattle.pl_parser.specs.Answer as parser
use Rattle.pl_types.specs.declared.error.TypeError.{TypeError}
use Rattle.pl_types.specs.declared.error.TypeError.TheVariants as type
use Rattle.pl_types.specs.Refusals.{Refused}
use Rattle.pl_files.specs.declared.error.FileError.{FileError}
use Rattle.pl_files.specs.declared.error.FileError.TheVariants as e

-- the bytes are a file: they have tokens that the grammar derives from this program, within its limits on levels and declarations
pub record IsFile (bytes : List ℕ) (p : Program) : Type 0 where
  pub tokens : List Token
  pub lexed : IsLexed bytes tokens
  pub derived : File 64 p tokens
  pub few : length p.decls ≤ 4096

-- and the program keeps all rules
pub record IsTypedFile (bytes : List ℕ) (p : Program) : Type 0 where
  pub file : IsFile bytes p
  pub typed : IsTyped p

-- the bytes have tokens, which the parser refuses so
pub record IsUnparsed (bytes : List ℕ) (error : ParseError) : Type 0 where
  pub tokens : List Token
  pub lexed : IsLexed bytes tokens
  pub refusal : parser.IsRefusal tokens error

-- the same, whatever was expected
abbrev pub IsSyntax : List ℕ → Pos → Type 0
IsSyntax bytes place = (expected : ℕ) × IsUnparsed bytes (parse.Syntax place expected)

-- the bytes are a file, whose program isn't typed for that reason
abbrev pub IsUntyped : List ℕ → TypeError → Type 0
IsUntyped bytes error = (p : Program) × IsFile bytes p × Refused p error

-- why the bytes are no file
abbrev pub NoFile : List ℕ → FileError → Type 0
NoFile bytes (e.BadUtf8 n) = lexer.IsRefusal bytes (lex.BadUtf8 n)
NoFile bytes (e.BadChar place) = lexer.IsRefusal bytes (lex.BadChar place)
NoFile bytes (e.LongNumber place) = lexer.IsRefusal bytes (lex.LongNumber place)
NoFile bytes (e.LongName place) = lexer.IsRefusal bytes (lex.LongName place)
NoFile bytes (e.Syntax place) = IsSyntax bytes place
NoFile bytes (e.Deep place) = IsUnparsed bytes (parse.Deep place)
NoFile bytes (e.TooMany place) = IsUnparsed bytes (parse.TooMany place)
NoFile bytes e.Memory = Unit {0}
NoFile bytes _ = ⊥

-- why they are no typed file: they are no file, or its program breaks a rule
abbrev pub NoTypedFile : List ℕ → FileError → Type 0
NoTypedFile bytes (e.Unknown place) = IsUntyped bytes (type.Unknown place)
NoTypedFile bytes (e.Twice place) = IsUntyped bytes (type.Twice place)
NoTypedFile bytes (e.IllTyped place) = IsUntyped bytes (type.IllTyped place)
NoTypedFile bytes (e.GhostFlow place) = IsUntyped bytes (type.GhostFlow place)
NoTypedFile bytes (e.Opening place) = IsUntyped bytes (type.Opening place)
NoTypedFile bytes (e.Measure place) = IsUntyped bytes (type.Measure place)
NoTypedFile bytes e.NoMain = IsUntyped bytes type.NoMain
NoTypedFile bytes error = NoFile bytes error

-- the answer is this program, but for want of memory
abbrev pub IsButForMemory : Program → Result code.Program FileError → Type 0
IsButForMemory p (Ok x) = plain_program x ≡ p
IsButForMemory p (Err e.Memory) = Unit {0}
IsButForMemory p (Err _) = ⊥
