-- Tokens by their kinds.
use Rattle.std.proofs.Common.{◌≡◌, ℕ, List, [], ◌∷◌, ◌++◌, refl, sym, ap, subst, Some}
use Rattle.std.specs.Prelude.{pos}
use Rattle.pl_base.specs.declared.pos.Pos.{Pos}
use Rattle.pl_lexer.specs.declared.tokens.Kind.{Kind}
use Rattle.pl_lexer.specs.declared.tokens.Kind.TheVariants as k
use Rattle.pl_lexer.specs.declared.tokens.Token.{Token}
use Rattle.pl_grammar.specs.Signs.{place_of}
use Rattle.pl_grammar.specs.Grammar.{Sign}
use Rattle.pl_printed.proofs.Laid.{Piece, Gap, Line, Mark, Named, Count, kinds, kinds_of}

pub kinds-append : (xs ys : List Piece) → kinds (xs ++ ys) ≡ kinds xs ++ kinds ys
kinds-append [] ys = refl
kinds-append (Gap ∷ xs) ys = kinds-append xs ys
kinds-append (Line ∷ xs) ys = kinds-append xs ys
kinds-append (Mark n ∷ xs) ys = ap (λ (z : List Kind). k.Sign n ∷ z) (kinds-append xs ys)
kinds-append (Named x ∷ xs) ys = ap (λ (z : List Kind). k.Word x ∷ z) (kinds-append xs ys)
kinds-append (Count n ∷ xs) ys = ap (λ (z : List Kind). k.Number (pos n) ∷ z) (kinds-append xs ys)

-- tokens around one of them
pub parts : (ts : List Token) (ks1 : List Kind) (kk : Kind) (ks2 : List Kind) → kinds_of ts ≡ ks1 ++ (kk ∷ ks2)
    → (l : List Token) × (o : Token) × (r : List Token) × (ts ≡ l ++ (o ∷ r)) × (kinds_of l ≡ ks1) × (o.kind ≡ kk) × (kinds_of r ≡ ks2)
parts [] [] kk ks2 h = absurd cc
parts [] (x ∷ ks1) kk ks2 h = absurd cc
parts (t ∷ ts) [] kk ks2 h = ([], t, ts, refl, refl, cc, cc)
parts (t ∷ ts) (x ∷ ks1) kk ks2 h =
    let tail : kinds_of ts ≡ ks1 ++ (kk ∷ ks2) = cc in
    let w = parts ts ks1 kk ks2 tail in
    (t ∷ w.0, w.1, w.2, ap (λ (z : List Token). t ∷ z) w.3, cc (w.4), w.5, w.6)

-- the first token
pub first_of_kinds : (ts : List Token) (kk : Kind) (ks : List Kind) → kinds_of ts ≡ kk ∷ ks → (t : Token) × (r : List Token) × (ts ≡ t ∷ r) × (t.kind ≡ kk) × (kinds_of r ≡ ks)
first_of_kinds [] kk ks h = absurd cc
first_of_kinds (t ∷ ts) kk ks h = (t, ts, refl, cc, cc)

-- one token
pub single : (ts : List Token) (kk : Kind) → kinds_of ts ≡ kk ∷ [] → (t : Token) × (ts ≡ t ∷ []) × (t.kind ≡ kk)
single [] kk h = absurd cc
single (t ∷ []) kk h = (t, refl, cc)
single (t ∷ u ∷ ts) kk h = absurd cc

pub no_kinds : (ts : List Token) → kinds_of ts ≡ [] → ts ≡ []
no_kinds [] h = refl
no_kinds (t ∷ ts) h = absurd cc

-- a sign by its number; the test on the number computes
pub sign_here : (n : ℕ) (t : Token) → t.kind ≡ k.Sign n → ((p : Pos) → place_of n (record { pos = p; kind = k.Sign n }) ≡ Some p) → Sign n t.pos (t ∷ [])
sign_here n t e h = (t, refl, subst (λ (kk : Kind). place_of n (record { pos = t.pos; kind = kk }) ≡ Some t.pos) (sym e) (h t.pos))
