use Rattle.std.proofs.Common.{rules, ◌<◌, ◌≤◌, ◌+◌, ◌∷◌, ◌++◌, [], length, refl, sym, ap, subst, ◌∙◌, arith}
use Rattle.std.specs.Prelude.{encode_utf8_all}
use Rattle.std.proofs.lemmas.List.{length-append, append-nil}
use Rattle.std.proofs.lemmas.Result.{err_from_is_err_and}
use Rattle.pl_lexer.specs.Scan.{lexeme_len}
use Rattle.pl_lexer.specs.Tokens as spec
use Rattle.pl_lexer.proofs.Cuts.{no_lexeme, lexed_push, tokens_push}
use Rattle.pl_lexer.proofs.Longest.{lexeme_is}
use Rattle.pl_lexer.proofs.Turns.{turn, refused, answered, characters_short}
use Rattle.pl_lexer.proofs.lexing.lex_text.Goals as goal

pub lexemes-init : goal.lexemes-init
lexemes-init c = record {
  lexemes = [];
  front = [];
  lexed = record { cut = refl; short = tt; place = refl };
  tokens = c.new-tokens.ensures.items;
  spelled = c.requires.spelled;
  scalars = c.requires.scalars;
  line = omega arith;
  col = omega arith;
  byte = refl;
  count = omega (arith, ap length c.new-tokens.ensures.items);
}

pub returns-then-len-eq0-clause-refusal : goal.returns-then-len-eq0-clause-refusal
returns-then-len-eq0-clause-refusal c =
    let i = c.lexemes.invariant in
    (i.lexemes, c.lexemes.rest.now, i.lexed, search rules, no_lexeme c.lexemes.rest.now (sym c.lexeme_len-len.ensures ∙ c.if-len-eq0.true))

pub split_at-requires : goal.split_at-requires
split_at-requires c =
    let some : 0 < lexeme_len c.lexemes.rest.now = omega (arith, c.lexeme_len-len.ensures) in
    rw c.lexeme_len-len.ensures (lexeme_is c.lexemes.rest.now some).1

pub moved-after-requires-clause-line : goal.moved-after-requires-clause-line
moved-after-requires-clause-line c =
    let i = c.lexemes.invariant in
    let rest = c.lexemes.rest.now in
    let l = c.split_at.result.0.now in
    let behind = c.split_at.result.1.now in
    let some : 0 < c.lexeme_len-len.result = omega arith in
    let within : c.lexeme_len-len.result ≤ length rest = rw c.lexeme_len-len.ensures (lexeme_is rest (rw (← c.lexeme_len-len.ensures) some)).1 in
    let t = turn c.args.text.now i.front rest l behind c.lexeme_len-len.result c.lexeme_len-len.ensures some within c.split_at.ensures.front c.split_at.ensures.back i.spelled i.scalars in
    omega (arith, i.line, t.length_is, c.requires.short, characters_short c.args.text.now c.args.characters.now c.requires.spelled)

pub moved-after-requires-clause-col : goal.moved-after-requires-clause-col
moved-after-requires-clause-col c =
    let i = c.lexemes.invariant in
    let rest = c.lexemes.rest.now in
    let l = c.split_at.result.0.now in
    let behind = c.split_at.result.1.now in
    let some : 0 < c.lexeme_len-len.result = omega arith in
    let within : c.lexeme_len-len.result ≤ length rest = rw c.lexeme_len-len.ensures (lexeme_is rest (rw (← c.lexeme_len-len.ensures) some)).1 in
    let t = turn c.args.text.now i.front rest l behind c.lexeme_len-len.result c.lexeme_len-len.ensures some within c.split_at.ensures.front c.split_at.ensures.back i.spelled i.scalars in
    omega (arith, i.col, t.length_is, c.requires.short, characters_short c.args.text.now c.args.characters.now c.requires.spelled)

pub moved-after-requires-clause-byte : goal.moved-after-requires-clause-byte
moved-after-requires-clause-byte c =
    let i = c.lexemes.invariant in
    let rest = c.lexemes.rest.now in
    let l = c.split_at.result.0.now in
    let behind = c.split_at.result.1.now in
    let some : 0 < c.lexeme_len-len.result = omega arith in
    let within : c.lexeme_len-len.result ≤ length rest = rw c.lexeme_len-len.ensures (lexeme_is rest (rw (← c.lexeme_len-len.ensures) some)).1 in
    let t = turn c.args.text.now i.front rest l behind c.lexeme_len-len.result c.lexeme_len-len.ensures some within c.split_at.ensures.front c.split_at.ensures.back i.spelled i.scalars in
    omega (arith, i.byte, t.inside, c.requires.short)

pub range-spelling-requires-clause-start_boundary : goal.range-spelling-requires-clause-start_boundary
range-spelling-requires-clause-start_boundary c =
    let i = c.lexemes.invariant in
    let rest = c.lexemes.rest.now in
    let l = c.split_at.result.0.now in
    let behind = c.split_at.result.1.now in
    let some : 0 < c.lexeme_len-len.result = omega arith in
    let within : c.lexeme_len-len.result ≤ length rest = rw c.lexeme_len-len.ensures (lexeme_is rest (rw (← c.lexeme_len-len.ensures) some)).1 in
    let t = turn c.args.text.now i.front rest l behind c.lexeme_len-len.result c.lexeme_len-len.ensures some within c.split_at.ensures.front c.split_at.ensures.back i.spelled i.scalars in
    λ _. rw i.byte t.from

pub range-spelling-requires-clause-end_boundary : goal.range-spelling-requires-clause-end_boundary
range-spelling-requires-clause-end_boundary c =
    let i = c.lexemes.invariant in
    let rest = c.lexemes.rest.now in
    let l = c.split_at.result.0.now in
    let behind = c.split_at.result.1.now in
    let some : 0 < c.lexeme_len-len.result = omega arith in
    let within : c.lexeme_len-len.result ≤ length rest = rw c.lexeme_len-len.ensures (lexeme_is rest (rw (← c.lexeme_len-len.ensures) some)).1 in
    let t = turn c.args.text.now i.front rest l behind c.lexeme_len-len.result c.lexeme_len-len.ensures some within c.split_at.ensures.front c.split_at.ensures.back i.spelled i.scalars in
    rw (c.moved-after.ensures.byte, i.byte) t.to

pub kind_of-requires : goal.kind_of-requires
kind_of-requires c =
    let i = c.lexemes.invariant in
    let rest = c.lexemes.rest.now in
    let l = c.split_at.result.0.now in
    let behind = c.split_at.result.1.now in
    let some : 0 < c.lexeme_len-len.result = omega arith in
    let within : c.lexeme_len-len.result ≤ length rest = rw c.lexeme_len-len.ensures (lexeme_is rest (rw (← c.lexeme_len-len.ensures) some)).1 in
    let t = turn c.args.text.now i.front rest l behind c.lexeme_len-len.result c.lexeme_len-len.ensures some within c.split_at.ensures.front c.split_at.ensures.back i.spelled i.scalars in
    c.range-spelling.ensures.value ∙ rw (c.moved-after.ensures.byte, i.byte) t.slice

pub returns-in_err-kind-clause-refusal : goal.returns-in_err-kind-clause-refusal
returns-in_err-kind-clause-refusal c =
    let i = c.lexemes.invariant in
    let rest = c.lexemes.rest.now in
    let l = c.split_at.result.0.now in
    let behind = c.split_at.result.1.now in
    let some : 0 < c.lexeme_len-len.result = omega arith in
    let within : c.lexeme_len-len.result ≤ length rest = rw c.lexeme_len-len.ensures (lexeme_is rest (rw (← c.lexeme_len-len.ensures) some)).1 in
    let t = turn c.args.text.now i.front rest l behind c.lexeme_len-len.result c.lexeme_len-len.ensures some within c.split_at.ensures.front c.split_at.ensures.back i.spelled i.scalars in
    let p = err_from_is_err_and c.from_residual.result c.from_residual.ensures.1 in
    rw (p.1, p.2) (refused c.args.characters.now i.lexemes l behind c.lexemes.at c.in_err-kind.field-0.0 (subst (λ r. spec.Lexed c.args.characters.now i.lexemes r c.lexemes.at) t.parts i.lexed) t.longest c.in_err-kind.ensures)

pub lexemes-preserved-in_ok-push : goal.lexemes-preserved-in_ok-push
lexemes-preserved-in_ok-push c =
    let i = c.lexemes.invariant in
    let rest = c.lexemes.rest.now in
    let l = c.split_at.result.0.now in
    let behind = c.split_at.result.1.now in
    let some : 0 < c.lexeme_len-len.result = omega arith in
    let within : c.lexeme_len-len.result ≤ length rest = rw c.lexeme_len-len.ensures (lexeme_is rest (rw (← c.lexeme_len-len.ensures) some)).1 in
    let t = turn c.args.text.now i.front rest l behind c.lexeme_len-len.result c.lexeme_len-len.ensures some within c.split_at.ensures.front c.split_at.ensures.back i.spelled i.scalars in
    let answer = answered c.lexemes.at l c.in_ok-kind.field-0 c.in_ok-kind.ensures in
    record {
      lexemes = i.lexemes ++ l ∷ [];
      front = i.front ++ encode_utf8_all l;
      lexed = subst (spec.Lexed c.args.characters.now (i.lexemes ++ l ∷ []) behind) (sym c.moved-after.ensures.value)
          (lexed_push c.args.characters.now i.lexemes l behind c.lexemes.at (subst (λ r. spec.Lexed c.args.characters.now i.lexemes r c.lexemes.at) t.parts i.lexed) t.longest answer.1 answer.2);
      tokens = c.in_ok-push.ensures.items ∙ rw (i.tokens, i.lexed.place) (sym (tokens_push spec.start i.lexemes l ∙ rw (answer.0, c.in-Some.is) refl));
      spelled = t.spelled;
      scalars = t.scalars;
      line = omega (arith, c.moved-after.ensures.line_max, i.line, t.length_is);
      col = omega (arith, c.moved-after.ensures.col_max, i.col, t.length_is);
      byte = c.moved-after.ensures.byte ∙ ap (λ n. n + length (encode_utf8_all l)) i.byte ∙ sym (length-append i.front (encode_utf8_all l));
      count = omega (arith, ap length c.in_ok-push.ensures.items, length-append c.lexemes.tokens.items, i.count, t.length_is, t.some);
    }

pub lexemes-preserved : goal.lexemes-preserved
lexemes-preserved c =
    let i = c.lexemes.invariant in
    let rest = c.lexemes.rest.now in
    let l = c.split_at.result.0.now in
    let behind = c.split_at.result.1.now in
    let some : 0 < c.lexeme_len-len.result = omega arith in
    let within : c.lexeme_len-len.result ≤ length rest = rw c.lexeme_len-len.ensures (lexeme_is rest (rw (← c.lexeme_len-len.ensures) some)).1 in
    let t = turn c.args.text.now i.front rest l behind c.lexeme_len-len.result c.lexeme_len-len.ensures some within c.split_at.ensures.front c.split_at.ensures.back i.spelled i.scalars in
    let answer = answered c.lexemes.at l c.in_ok-kind.field-0 c.in_ok-kind.ensures in
    record {
      lexemes = i.lexemes ++ l ∷ [];
      front = i.front ++ encode_utf8_all l;
      lexed = subst (spec.Lexed c.args.characters.now (i.lexemes ++ l ∷ []) behind) (sym c.moved-after.ensures.value)
          (lexed_push c.args.characters.now i.lexemes l behind c.lexemes.at (subst (λ r. spec.Lexed c.args.characters.now i.lexemes r c.lexemes.at) t.parts i.lexed) t.longest answer.1 answer.2);
      tokens = i.tokens ∙ sym (tokens_push spec.start i.lexemes l ∙ rw (answer.0, c.in_default.is) (append-nil (spec.tokens_of spec.start i.lexemes)));
      spelled = t.spelled;
      scalars = t.scalars;
      line = omega (arith, c.moved-after.ensures.line_max, i.line, t.length_is);
      col = omega (arith, c.moved-after.ensures.col_max, i.col, t.length_is);
      byte = c.moved-after.ensures.byte ∙ ap (λ n. n + length (encode_utf8_all l)) i.byte ∙ sym (length-append i.front (encode_utf8_all l));
      count = omega (arith, i.count, t.length_is);
    }

pub of-requires : goal.of-requires
of-requires c =
    omega (arith, ap length c.in_ok-push-2.ensures.items, length-append c.lexemes.tokens.items, c.lexemes.invariant.count, c.requires.short, characters_short c.args.text.now c.args.characters.now c.requires.spelled)
