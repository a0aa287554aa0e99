use Rattle.std.proofs.Common.{◌≡◌, ◌+◌, ◌≤◌, length, drop}
use Rattle.std.specs.Prelude.{encode_utf8_all}
use Rattle.pl_lexer.specs.Tokens as spec
use Rattle.pl_lexer.proofs.places.moved.Given as goal

abbrev pub invariant-loop-c : goal.invariant-loop-c
invariant-loop-c l = record {
  same : spec.moved l.at (drop l.c-index l.text) ≡ spec.moved l.fn.p l.text;
  line : l.at.line ≤ l.fn.p.line + l.c-index;
  col : l.at.col ≤ l.fn.p.col + l.c-index;
  byte : l.at.byte + length (encode_utf8_all (drop l.c-index l.text)) ≡ l.fn.p.byte + length (encode_utf8_all l.text);
}
