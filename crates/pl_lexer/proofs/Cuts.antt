-- One lexeme more.
use Rattle.std.proofs.Common.{◌≡◌, ℕ, ◌≤◌, ◌<◌, List, [], ◌∷◌, ◌++◌, length, take, drop, refl, sym, ap, ◌∙◌, append_assoc, arith}
use Rattle.std.proofs.lemmas.List.{length-take-le, take-append-drop, append-nil}
use Rattle.pl_base.specs.declared.pos.Pos.{Pos}
use Rattle.pl_lexer.specs.declared.tokens.Token.{Token}
use Rattle.pl_lexer.specs.Scan.{lexeme_len}
use Rattle.pl_lexer.specs.Tokens.{IsLongest, Cut, NoLexeme, start, moved, place_behind, kind_of, token_at, tokens_of, IsLongNumber, IsLongName, AllShort, Lexed}
use Rattle.pl_lexer.proofs.Longest.{longest, lexeme_is, lexeme_some}

pub no_lexeme : (rest : List ℕ) → lexeme_len rest ≡ 0 → NoLexeme rest
no_lexeme rest e front back is h =
    let a = longest front back h in
    let b = lexeme_some front h in
    omega (arith, a, b, ap lexeme_len is, e)

-- what is scanned is the longest
pub scanned : (rest : List ℕ) (n : ℕ) → n ≡ lexeme_len rest → 0 < n → IsLongest (take n rest) (drop n rest)
scanned rest n e some =
    let a = lexeme_is rest (rw (← e) some) in
    let inside : n ≤ length rest = rw e a.1 in (
      rw e a.0,
      λ front back is h.
          let b = longest front back h in
          let whole : rest ≡ front ++ back = sym (take-append-drop n rest) ∙ is in
          omega (arith, b, ap lexeme_len whole, e, length-take-le n rest inside),
    )

pub cut_push : (text : List ℕ) (ls : List (List ℕ)) (l rest : List ℕ) → Cut text ls (l ++ rest) → IsLongest l rest → Cut text (ls ++ l ∷ []) rest
cut_push text [] l rest cut here = (rest, cut, here, refl)
cut_push text (x ∷ ls) l rest cut here = (cut.0, cut.1, cut.2, cut_push cut.0 ls l rest cut.3 here)

pub short_push : (ls : List (List ℕ)) (l : List ℕ) → AllShort ls → (IsLongNumber (kind_of l) → ⊥) → (IsLongName l (kind_of l) → ⊥) → AllShort (ls ++ l ∷ [])
short_push [] l a number name = (number, name, tt)
short_push (x ∷ ls) l a number name = (a.0, a.1, short_push ls l a.2 number name)

pub place_push : (p : Pos) (ls : List (List ℕ)) (l : List ℕ) → place_behind p (ls ++ l ∷ []) ≡ moved (place_behind p ls) l
place_push p [] l = refl
place_push p (x ∷ ls) l = place_push (moved p x) ls l

pub tokens_push : (p : Pos) (ls : List (List ℕ)) (l : List ℕ) → tokens_of p (ls ++ l ∷ []) ≡ tokens_of p ls ++ token_at (place_behind p ls) (kind_of l)
tokens_push p [] l = append-nil (token_at p (kind_of l))
tokens_push p (x ∷ ls) l =
    ap (λ (ts : List Token). token_at p (kind_of x) ++ ts) (tokens_push (moved p x) ls l)
    ∙ sym (append_assoc (token_at p (kind_of x)) (tokens_of (moved p x) ls) (token_at (place_behind (moved p x) ls) (kind_of l)))

-- one lexeme more is read
pub lexed_push : (text : List ℕ) (ls : List (List ℕ)) (l rest : List ℕ) (p : Pos) → Lexed text ls (l ++ rest) p → IsLongest l rest → (IsLongNumber (kind_of l) → ⊥) → (IsLongName l (kind_of l) → ⊥)
    → Lexed text (ls ++ l ∷ []) rest (moved p l)
lexed_push text ls l rest p h here number name = record {
  cut = cut_push text ls l rest h.cut here;
  short = short_push ls l h.short number name;
  place = ap (λ q. moved q l) h.place ∙ sym (place_push start ls l);
}
