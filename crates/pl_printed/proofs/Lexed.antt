-- Pieces that are apart are lexed as their tokens.
use Rattle.std.proofs.Common.{◌≡◌, ◌∙◌, ℕ, true, List, [], ◌∷◌, ◌++◌, map, ap, subst}
use Rattle.pl_lexer.specs.declared.tokens.Kind.{Kind}
use Rattle.pl_lexer.specs.declared.tokens.Kind.TheVariants as k
use Rattle.pl_lexer.specs.declared.tokens.Token.{Token}
use Rattle.pl_lexer.specs.Tokens.{all_tokens, IsLexed}
use Rattle.pl_lexer.proofs.Pieces.{apart_lexed}
use Rattle.pl_lexer.proofs.Meanings.{all_kinds_are}
use Rattle.pl_printed.proofs.Laid.{Piece, kinds}
use Rattle.pl_printed.proofs.Spelled.{bytes, spelled}
use Rattle.pl_printed.proofs.Touching.{touching, AreProper}
use Rattle.pl_printed.proofs.Apart.{are_apart, bytes_are, kinds_are}

-- tokens of these kinds, and the end
pub record IsLexedAs (text : List ℕ) (ks : List Kind) : Type 0 where
  pub tokens : List Token
  pub lexed : IsLexed text tokens
  pub same : map (λ t. t.kind) tokens ≡ ks ++ k.End ∷ []

pub lexed_as : (ps : List Piece) (text : List ℕ) → AreProper ps → touching ps ≡ true → bytes ps ≡ text → IsLexedAs text (kinds ps)
lexed_as ps text h e is = record {
  tokens = all_tokens (spelled ps);
  lexed = subst (λ (t : List ℕ). IsLexed t (all_tokens (spelled ps))) (bytes_are ps h ∙ is) (apart_lexed (spelled ps) (are_apart ps h e));
  same = all_kinds_are (spelled ps) ∙ ap (λ (ks : List Kind). ks ++ k.End ∷ []) (kinds_are ps h);
}
