use Rattle.std.proofs.Common.{◌≡◌, ℕ, ◌+◌, ◌≤◌, List, ◌++◌, length, true}
use Rattle.std.specs.Prelude.{encode_utf8_all}
use Rattle.std.specs.Str.{all_scalars}
use Rattle.pl_lexer.specs.Tokens as spec
use Rattle.pl_lexer.proofs.lexing.lex_text.Given as goal

-- What stands before is cut into lexemes, and spelled by the front of the text.
abbrev pub invariant-lexemes : goal.invariant-lexemes
invariant-lexemes l = record {
  lexemes : List (List ℕ);
  front : List ℕ;
  lexed : spec.Lexed l.characters lexemes l.rest l.at;
  tokens : l.tokens.items ≡ spec.tokens_of spec.start lexemes;
  spelled : l.text ≡ front ++ encode_utf8_all l.rest;
  scalars : all_scalars l.rest ≡ true;
  line : l.at.line + length l.rest ≤ 1 + length l.characters;
  col : l.at.col + length l.rest ≤ 1 + length l.characters;
  byte : l.at.byte ≡ length front;
  count : length l.tokens.items + length l.rest ≤ length l.characters;
}

abbrev pub decreases-lexemes : goal.decreases-lexemes
decreases-lexemes l = length l.rest
