-- One turn of the lexer: the longest lexeme at the front of the rest, and its spelling in the text.
use Rattle.std.proofs.Common.{◌≡◌, ℕ, ◌+◌, ◌-◌, ◌≤◌, ◌<◌, true, List, [], ◌∷◌, ◌++◌, length, take, drop, Option, Ok, Err, refl, sym, ap, subst, ◌∙◌, append_assoc, arith}
use Rattle.std.specs.Prelude.{encode_utf8_all, slice_range}
use Rattle.std.specs.Str.{all_scalars, IsCharBoundary}
use Rattle.std.proofs.lemmas.Bool.{and_parts}
use Rattle.std.proofs.lemmas.List.{length-append, length-take-le, take-append-drop}
use Rattle.std.proofs.Math.Seq.{take-append_seam, drop-append_seam}
use Rattle.std.proofs.lemmas.Str.{encodes-append, length-le-encodes, IsCharBoundary-at_seam}
use Rattle.pl_lexer.specs.Scan.{lexeme_len}
use Rattle.pl_base.specs.declared.pos.Pos.{Pos}
use Rattle.pl_lexer.specs.declared.error.LexError.{LexError}
use Rattle.pl_lexer.specs.declared.error.LexError.TheVariants as e
use Rattle.pl_lexer.specs.declared.tokens.Kind.{Kind}
use Rattle.pl_lexer.specs.Answers.{KindAnswers}
use Rattle.pl_lexer.specs.Tokens.{IsLongest, kind_of, IsLongNumber, IsLongName, Lexed, IsRefusedAt}
use Rattle.pl_lexer.proofs.Cuts.{scanned}

scalars_behind : (xs ys : List ℕ) → all_scalars (xs ++ ys) ≡ true → all_scalars ys ≡ true
scalars_behind [] ys e = e
scalars_behind (x ∷ xs) ys e = scalars_behind xs ys (and_parts _ (all_scalars (xs ++ ys)) e).1

pub record Turn (text front rest l behind : List ℕ) : Type 0 where
  pub parts : rest ≡ l ++ behind
  pub longest : IsLongest l behind
  pub some : 0 < length l
  pub spelled : text ≡ (front ++ encode_utf8_all l) ++ encode_utf8_all behind
  pub scalars : all_scalars behind ≡ true
  pub from : IsCharBoundary text (length front)
  pub to : IsCharBoundary text (length front + length (encode_utf8_all l))
  pub slice : slice_range text (length front) (length front + length (encode_utf8_all l)) ≡ encode_utf8_all l
  pub inside : length front + length (encode_utf8_all l) ≤ length text
  pub length_is : length rest ≡ length l + length behind

pub turn : (text front rest l behind : List ℕ) (n : ℕ) → n ≡ lexeme_len rest → 0 < n → n ≤ length rest → l ≡ take n rest → behind ≡ drop n rest → text ≡ front ++ encode_utf8_all rest → all_scalars rest ≡ true → Turn text front rest l behind
turn text front rest l behind n len some within l_is behind_is spelled scalars =
    let parts : rest ≡ l ++ behind = rw (l_is, behind_is) (sym (take-append-drop n rest)) in
    let all : all_scalars (l ++ behind) ≡ true = ap all_scalars (sym parts) ∙ scalars in
    let later = scalars_behind l behind all in
    let whole : text ≡ front ++ (encode_utf8_all l ++ encode_utf8_all behind) =
    spelled ∙ ap (λ (r : List ℕ). front ++ r) (ap encode_utf8_all parts ∙ encodes-append l behind) in
    let cut : text ≡ (front ++ encode_utf8_all l) ++ encode_utf8_all behind = whole ∙ sym (append_assoc front (encode_utf8_all l) (encode_utf8_all behind)) in
    let front_len = length-append front (encode_utf8_all l) in
    let l_len : length l ≡ n = ap length l_is ∙ length-take-le n rest within in
    let back : drop (length front) text ≡ encode_utf8_all l ++ encode_utf8_all behind = ap (drop (length front)) whole ∙ drop-append_seam front (encode_utf8_all l ++ encode_utf8_all behind) in
    let span : length front + length (encode_utf8_all l) - length front ≡ length (encode_utf8_all l) = omega arith in
    record {
      parts = parts;
      longest = rw (l_is, behind_is) (scanned rest n len some);
      some = omega (arith, l_len);
      spelled = cut;
      scalars = later;
      from = IsCharBoundary-at_seam text front (encode_utf8_all rest) spelled (rest, (scalars, refl));
      to = subst (IsCharBoundary text) front_len (IsCharBoundary-at_seam text (front ++ encode_utf8_all l) (encode_utf8_all behind) cut (behind, (later, refl)));
      slice = rw (span, back) (take-append_seam (encode_utf8_all l) (encode_utf8_all behind));
      inside = omega (arith, ap length cut, length-append (front ++ encode_utf8_all l) (encode_utf8_all behind), front_len);
      length_is = ap length parts ∙ length-append l behind;
    }

-- the lexeme passes a limit
pub refused : (text : List ℕ) (ls : List (List ℕ)) (l behind : List ℕ) (p : Pos) (error : LexError) → Lexed text ls (l ++ behind) p → IsLongest l behind → KindAnswers (Err error) p l → IsRefusedAt text error
refused text ls l behind p (e.LongNumber q) lexed here long = (ls, l, behind, subst (Lexed text ls (l ++ behind)) (sym long.0) lexed, here, long.1)
refused text ls l behind p (e.LongName q) lexed here long = (ls, l, behind, subst (Lexed text ls (l ++ behind)) (sym long.0) lexed, here, long.1)
refused text ls l behind p e.Memory lexed here long = tt
refused text ls l behind p (e.BadChar q) lexed here long = absurd long
refused text ls l behind p (e.BadUtf8 n) lexed here long = absurd long

-- a text has no more characters than bytes
pub characters_short : (text characters : List ℕ) → text ≡ encode_utf8_all characters → length characters ≤ length text
characters_short text characters spelled = rw spelled (length-le-encodes characters)

-- the lexeme passes none
pub answered : (p : Pos) (l : List ℕ) (kind : Option Kind) → KindAnswers (Ok kind) p l → (kind_of l ≡ kind) × (IsLongNumber (kind_of l) → ⊥) × (IsLongName l (kind_of l) → ⊥)
answered p l kind a = (a.0, rw a.0 a.1, rw a.0 a.2)
