-- What the parts of reading a file answer.
use Rattle.pl_lexer.specs.declared.error.LexError.{LexError}
use Rattle.pl_lexer.specs.declared.error.LexError.TheVariants as lex
use Rattle.pl_parser.specs.declared.error.ParseError.{ParseError}
use Rattle.pl_parser.specs.declared.error.ParseError.TheVariants as parse
use Rattle.pl_types.specs.declared.error.TypeError.{TypeError}
use Rattle.pl_types.specs.declared.error.TypeError.TheVariants as type
use Rattle.pl_files.specs.declared.error.FileError.{FileError}
use Rattle.pl_files.specs.declared.error.FileError.TheVariants as e

-- a refusal of tokens, as one of files
abbrev pub unlexed : LexError → FileError
unlexed (lex.BadUtf8 n) = e.BadUtf8 n
unlexed (lex.BadChar place) = e.BadChar place
unlexed (lex.LongNumber place) = e.LongNumber place
unlexed (lex.LongName place) = e.LongName place
unlexed lex.Memory = e.Memory

-- a refusal of the parser
abbrev pub unparsed : ParseError → FileError
unparsed (parse.Syntax place expected) = e.Syntax place
unparsed (parse.Deep place) = e.Deep place
unparsed (parse.TooMany place) = e.TooMany place
unparsed parse.Memory = e.Memory

-- a breach of a rule
abbrev pub untyped : TypeError → FileError
untyped (type.Unknown place) = e.Unknown place
untyped (type.Twice place) = e.Twice place
untyped (type.IllTyped place) = e.IllTyped place
untyped (type.GhostFlow place) = e.GhostFlow place
untyped (type.Opening place) = e.Opening place
untyped (type.Measure place) = e.Measure place
untyped type.NoMain = e.NoMain
untyped type.Memory = e.Memory
