-- What reading answers, from what lexing, parsing and checking types answer.
use Rattle.std.proofs.Common.{◌≡◌, ℕ, ◌≤◌, Bool, true, false, inl, inr, List, [], ◌∷◌, length, Some, Result, Ok, Err, sym, subst}
use Rattle.std.proofs.lemmas.List.{length-map}
use Rattle.pl_lexer.specs.declared.tokens.Token.{Token}
use Rattle.pl_lexer.specs.declared.error.LexError.{LexError}
use Rattle.pl_lexer.specs.declared.error.LexError.TheVariants as lex
use Rattle.pl_lexer.specs.Tokens as lexer
use Rattle.pl_lexer.specs.Tokens.{IsLexed}
use Rattle.pl_syntax.specs.declared.program.Program as code
use Rattle.pl_syntax.specs.declared.rules.Rule.TheVariants as rule
use Rattle.pl_syntax.specs.declared.rules.Breach.{Breach}
use Rattle.pl_syntax.specs.Breaches.{at, least}
use Rattle.pl_syntax.specs.DeclRules.{breaches, has_main}
use Rattle.pl_syntax.specs.Plain.{plain_decl, plain_program}
use Rattle.pl_syntax.specs.Tree.{Program}
use Rattle.pl_syntax.specs.Typing.{IsTyped}
use Rattle.pl_grammar.specs.FileGrammar.{File}
use Rattle.pl_parser.specs.declared.error.ParseError.{ParseError}
use Rattle.pl_parser.specs.declared.error.ParseError.TheVariants as parse
use Rattle.pl_parser.specs.Answer as parser
use Rattle.pl_types.specs.declared.error.TypeError.{TypeError}
use Rattle.pl_types.specs.declared.error.TypeError.TheVariants as type
use Rattle.pl_types.specs.Refusals.{Refused}
use Rattle.pl_files.specs.declared.error.FileError.{FileError}
use Rattle.pl_files.specs.declared.error.FileError.TheVariants as e
use Rattle.pl_files.specs.Files.{IsFile, NoFile, NoTypedFile, IsButForMemory}
use Rattle.pl_files.specs.Answers.{unlexed, unparsed, untyped}

-- ---- tokens

pub no_tokens : (bytes : List ℕ) (error : LexError) → lexer.IsRefusal bytes error → NoFile bytes (unlexed error)
no_tokens bytes (lex.BadUtf8 n) h = h
no_tokens bytes (lex.BadChar place) h = h
no_tokens bytes (lex.LongNumber place) h = h
no_tokens bytes (lex.LongName place) h = h
no_tokens bytes lex.Memory h = tt

-- what a refusal of tokens says of a file's program
abbrev pub Lost : Program → Result (List Token) LexError → Type 0
Lost p (Ok tokens) = Unit {0}
Lost p (Err error) = IsButForMemory p (Err (unlexed error))

pub lexed_all : (bytes : List ℕ) (error : LexError) (p : Program) → IsFile bytes p → ((tokens : List Token) → IsLexed bytes tokens → lexer.IsButForMemory (Err error) (Ok tokens)) → IsButForMemory p (Err (unlexed error))
lexed_all bytes error p f all =
    elim (all f.tokens f.lexed) [
      | inl is ↦ absurd cc
      | inr is ↦ subst (Lost p) (sym is) tt
    ]

-- ---- programs

pub no_program : (bytes : List ℕ) (tokens : List Token) (error : ParseError) → IsLexed bytes tokens → parser.IsRefusal tokens error → NoFile bytes (unparsed error)
no_program bytes tokens (parse.Syntax place expected) lexed h = (expected, record { tokens = tokens; lexed = lexed; refusal = h })
no_program bytes tokens (parse.Deep place) lexed h = record { tokens = tokens; lexed = lexed; refusal = h }
no_program bytes tokens (parse.TooMany place) lexed h = record { tokens = tokens; lexed = lexed; refusal = h }
no_program bytes tokens parse.Memory lexed h = tt

pub a_file : (bytes : List ℕ) (tokens : List Token) (p : code.Program) → IsLexed bytes tokens → parser.IsParsed tokens p → IsFile bytes (plain_program p)
a_file bytes tokens p lexed h = record {
  tokens = tokens;
  lexed = lexed;
  derived = h.0;
  few = subst (λ (n : ℕ). n ≤ 4096) (sym (length-map p.decls plain_decl)) h.1;
}

-- the list of a result
abbrev pub IsDerived : Program → Result (List Token) LexError → Type 0
IsDerived p (Ok tokens) = File 64 p tokens
IsDerived p (Err error) = Unit {0}

pub parsed_all : (bytes : List ℕ) (tokens : List Token) (p : Program) (result : Result code.Program ParseError) → IsFile bytes p → ((ts : List Token) → IsLexed bytes ts → lexer.IsButForMemory (Ok tokens) (Ok ts)) → ((q : Program) → File 64 q tokens → length q.decls ≤ 4096 → parser.IsButForMemory q result) → parser.IsButForMemory p result
parsed_all bytes tokens p result f all programs =
    elim (all f.tokens f.lexed) [
      | inl is ↦ programs p (subst (IsDerived p) (sym is) f.derived) f.few
      | inr is ↦ absurd cc
    ]

pub unparsed_all : (error : ParseError) (p : Program) → parser.IsButForMemory p (Err error) → IsButForMemory p (Err (unparsed error))
unparsed_all (parse.Syntax place expected) p h = h
unparsed_all (parse.Deep place) p h = h
unparsed_all (parse.TooMany place) p h = h
unparsed_all parse.Memory p h = tt

-- ---- typed programs

-- what isn't a file isn't a typed one
pub no_typed_file : (bytes : List ℕ) (error : FileError) → NoFile bytes error → NoTypedFile bytes error
no_typed_file bytes (e.BadUtf8 n) h = h
no_typed_file bytes (e.BadChar place) h = h
no_typed_file bytes (e.LongNumber place) h = h
no_typed_file bytes (e.LongName place) h = h
no_typed_file bytes (e.Syntax place) h = h
no_typed_file bytes (e.Deep place) h = h
no_typed_file bytes (e.TooMany place) h = h
no_typed_file bytes (e.Unknown place) h = absurd h
no_typed_file bytes (e.Twice place) h = absurd h
no_typed_file bytes (e.IllTyped place) h = absurd h
no_typed_file bytes (e.GhostFlow place) h = absurd h
no_typed_file bytes (e.Opening place) h = absurd h
no_typed_file bytes (e.Measure place) h = absurd h
no_typed_file bytes e.NoMain h = absurd h
no_typed_file bytes e.Memory h = tt

pub not_typed : (bytes : List ℕ) (p : Program) (error : TypeError) → IsFile bytes p → Refused p error → NoTypedFile bytes (untyped error)
not_typed bytes p (type.Unknown place) f h = (p, f, h)
not_typed bytes p (type.Twice place) f h = (p, f, h)
not_typed bytes p (type.IllTyped place) f h = (p, f, h)
not_typed bytes p (type.GhostFlow place) f h = (p, f, h)
not_typed bytes p (type.Opening place) f h = (p, f, h)
not_typed bytes p (type.Measure place) f h = (p, f, h)
not_typed bytes p type.NoMain f h = (p, f, h)
not_typed bytes p type.Memory f h = tt

neither : (b : Bool) → b ≡ false → b ≡ true → ⊥
neither true f t = cc
neither false f t = cc

-- a list without breaches has no first one
none_first : (bs : List Breach) (b : Breach) → bs ≡ [] → least bs ≡ Some b → ⊥
none_first [] b none first = cc
none_first (a ∷ rest) b none first = cc

kept : (p : Program) (error : TypeError) → IsTyped p → Refused p error → IsButForMemory p (Err (untyped error))
kept p (type.Unknown place) typed h = absurd (none_first (breaches p) (at rule.Unknown place) typed.rules h)
kept p (type.Twice place) typed h = absurd (none_first (breaches p) (at rule.Twice place) typed.rules h)
kept p (type.IllTyped place) typed h = absurd (none_first (breaches p) (at rule.IllTyped place) typed.rules h)
kept p (type.GhostFlow place) typed h = absurd (none_first (breaches p) (at rule.GhostFlow place) typed.rules h)
kept p (type.Opening place) typed h = absurd (none_first (breaches p) (at rule.Opening place) typed.rules h)
kept p (type.Measure place) typed h = absurd (none_first (breaches p) (at rule.Measure place) typed.rules h)
kept p type.NoMain typed h = absurd (neither (has_main p) h.1 typed.main)
kept p type.Memory typed h = tt

-- a typed program isn't refused
pub typed_all : (p q : Program) (error : TypeError) → q ≡ p → IsTyped p → Refused q error → IsButForMemory p (Err (untyped error))
typed_all p q error same typed h = kept p error typed (subst (λ (r : Program). Refused r error) same h)
