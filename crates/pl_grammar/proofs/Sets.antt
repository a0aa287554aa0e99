-- Sets of tokens.
use Rattle.std.proofs.Common.{◌≡◌, ℕ, ◌==◌, ◌||◌, ◌&&◌, inl, inr, Bool, true, false, not, cond, List, [], ◌∷◌, map, Option, Some, None, refl, sym, subst}
use Rattle.std.proofs.lemmas.Bool.{or_cases, and_parts, eqb-true}
use Rattle.pl_base.specs.declared.pos.Pos.{Pos}
use Rattle.pl_lexer.specs.declared.tokens.Kind.{Kind}
use Rattle.pl_lexer.specs.declared.tokens.Kind.TheVariants as k
use Rattle.pl_lexer.specs.declared.tokens.Token.{Token}
use Rattle.pl_grammar.specs.Signs.{Set, is_in, kind_in, token_in, sign, place_of, look_up, signs_of, entry_kind, entry_of}

-- no sign of the one list is in the other
abbrev pub none_in : List ℕ → List ℕ → Bool
none_in [] ms = true
none_in (n ∷ ns) ms = not (is_in ms n) && none_in ns ms

-- no token is in both sets
abbrev pub apart : Set → Set → Bool
apart s t = none_in s.signs t.signs && (not (s.names && t.names) && not (s.numbers && t.numbers))

-- each sign of the one list is in the other
abbrev pub all_in : List ℕ → List ℕ → Bool
all_in [] ms = true
all_in (n ∷ ns) ms = is_in ms n && all_in ns ms

-- each token of the one set is in the other
abbrev pub inside : Set → Set → Bool
inside s t = all_in s.signs t.signs && ((not s.names || t.names) && (not s.numbers || t.numbers))

not_true : (b : Bool) → not b ≡ true → b ≡ false
not_true true e = absurd cc
not_true false e = refl

not_both : (a b : Bool) → not (a && b) ≡ true → a ≡ true → b ≡ false
not_both true b e h = not_true b e
not_both false b e h = absurd cc

follows_from : (a b : Bool) → (not a || b) ≡ true → a ≡ true → b ≡ true
follows_from true b e h = e
follows_from false b e h = absurd cc

sign_apart : (ns ms : List ℕ) (j : ℕ) → none_in ns ms ≡ true → is_in ns j ≡ true → is_in ms j ≡ false
sign_apart [] ms j e h = absurd cc
sign_apart (n ∷ ns) ms j e h =
    let parts = and_parts (not (is_in ms n)) (none_in ns ms) e in
    elim (or_cases (j == n) (is_in ns j) h) [
      | inl same ↦ subst (λ (i : ℕ). is_in ms i ≡ false) (sym (eqb-true j n same)) (not_true (is_in ms n) parts.0)
      | inr later ↦ sign_apart ns ms j parts.1 later
    ]

sign_inside : (ns ms : List ℕ) (j : ℕ) → all_in ns ms ≡ true → is_in ns j ≡ true → is_in ms j ≡ true
sign_inside [] ms j e h = absurd cc
sign_inside (n ∷ ns) ms j e h =
    let parts = and_parts (is_in ms n) (all_in ns ms) e in
    elim (or_cases (j == n) (is_in ns j) h) [
      | inl same ↦ subst (λ (i : ℕ). is_in ms i ≡ true) (sym (eqb-true j n same)) parts.0
      | inr later ↦ sign_inside ns ms j parts.1 later
    ]

kind_apart : (s t : Set) (kk : Kind) → apart s t ≡ true → kind_in s kk ≡ true → kind_in t kk ≡ false
kind_apart s t (k.Word x) e h = not_both s.names t.names (and_parts _ _ (and_parts (none_in s.signs t.signs) _ e).1).0 h
kind_apart s t (k.Number n) e h = not_both s.numbers t.numbers (and_parts (not (s.names && t.names)) _ (and_parts (none_in s.signs t.signs) _ e).1).1 h
kind_apart s t (k.Sign j) e h = sign_apart s.signs t.signs j (and_parts (none_in s.signs t.signs) _ e).0 h
kind_apart s t k.End e h = refl

kind_inside : (s t : Set) (kk : Kind) → inside s t ≡ true → kind_in s kk ≡ true → kind_in t kk ≡ true
kind_inside s t (k.Word x) e h = follows_from s.names t.names (and_parts _ _ (and_parts (all_in s.signs t.signs) _ e).1).0 h
kind_inside s t (k.Number n) e h = follows_from s.numbers t.numbers (and_parts (not s.names || t.names) _ (and_parts (all_in s.signs t.signs) _ e).1).1 h
kind_inside s t (k.Sign j) e h = sign_inside s.signs t.signs j (and_parts (all_in s.signs t.signs) _ e).0 h
kind_inside s t k.End e h = absurd cc

pub set_apart : (s t : Set) → apart s t ≡ true → (x : Token) → token_in s x ≡ true → token_in t x ≡ false
set_apart s t e x h = kind_apart s t x.kind e h

pub set_inside : (s t : Set) → inside s t ≡ true → (x : Token) → token_in s x ≡ true → token_in t x ≡ true
set_inside s t e x h = kind_inside s t x.kind e h

-- what is not in the larger set is not in the smaller one
pub set_outside : (s t : Set) → inside s t ≡ true → (x : Token) → token_in t x ≡ false → token_in s x ≡ false
set_outside s t e x h = outside (token_in s x) refl
  where
    outside : (b : Bool) → token_in s x ≡ b → b ≡ false
    outside true h1 = let h2 = set_inside s t e x h1 in absurd cc
    outside false h1 = refl

-- ---- tables

entry_cons : {A : Type 0} (b a : A) (c inner : Bool) (rest : Option A) → cond c (Some b) rest ≡ Some a → (rest ≡ Some a → inner ≡ true) → (c || inner) ≡ true
entry_cons b a true inner rest e ih = refl
entry_cons b a false inner rest e ih = ih e

pub entry_some : {A : Type 0} (table : List (ℕ × A)) (j : ℕ) (a : A) → look_up table j ≡ Some a → is_in (map (λ e. e.0) table) j ≡ true
entry_some [] j a e = absurd cc
entry_some ((n, b) ∷ rest) j a e = entry_cons b a (j == n) (is_in (map (λ z. z.0) rest) j) (look_up rest j) e (λ h. entry_some rest j a h)

kind_entry : {A : Type 0} (table : List (ℕ × A)) (kk : Kind) (a : A) → entry_kind table kk ≡ Some a → kind_in (signs_of table) kk ≡ true
kind_entry table (k.Word y) a h = absurd cc
kind_entry table (k.Number n) a h = absurd cc
kind_entry table (k.Sign j) a h = entry_some table j a h
kind_entry table k.End a h = absurd cc

pub entry_in : {A : Type 0} (table : List (ℕ × A)) (x : Token) (a : A) → entry_of table x ≡ Some a → token_in (signs_of table) x ≡ true
entry_in table x a e = kind_entry table x.kind a e

found_cons : {A : Type 0} (b : A) (c inner : Bool) (rest : Option A) → (c || inner) ≡ true → (inner ≡ true → (a : A) × (rest ≡ Some a)) → (a : A) × (cond c (Some b) rest ≡ Some a)
found_cons b true inner rest e ih = (b, refl)
found_cons b false inner rest e ih = ih e

pub found_some : {A : Type 0} (table : List (ℕ × A)) (j : ℕ) → is_in (map (λ e. e.0) table) j ≡ true → (a : A) × (look_up table j ≡ Some a)
found_some [] j e = absurd cc
found_some ((n, b) ∷ rest) j e = found_cons b (j == n) (is_in (map (λ z. z.0) rest) j) (look_up rest j) e (λ h. found_some rest j h)

kind_found : {A : Type 0} (table : List (ℕ × A)) (kk : Kind) → kind_in (signs_of table) kk ≡ true → (a : A) × (entry_kind table kk ≡ Some a)
kind_found table (k.Word y) h = absurd cc
kind_found table (k.Number n) h = absurd cc
kind_found table (k.Sign j) h = found_some table j h
kind_found table k.End h = absurd cc

-- each sign of a table has its value
pub entry_found : {A : Type 0} (table : List (ℕ × A)) (x : Token) → token_in (signs_of table) x ≡ true → (a : A) × (entry_of table x ≡ Some a)
entry_found table x e = kind_found table x.kind e

-- ---- single signs

abbrev pub some_place : Pos
some_place = record { line = 1; col = 1; byte = 0 }

abbrev pub token : Kind → Token
token kind = record { pos = some_place; kind = kind }

abbrev pub tokens : Kind → List Token
tokens kind = token kind ∷ []

cond_true : {A : Type 0} (b : Bool) (x : A) (y : A) → cond b (Some x) None ≡ Some y → b ≡ true
cond_true true x y e = refl
cond_true false x y e = absurd cc

pub place_in : (n : ℕ) (x : Token) (p : Pos) → place_of n x ≡ Some p → token_in (sign n) x ≡ true
place_in n x p e = cond_true (token_in (sign n) x) x.pos p e

pub place_is : (n : ℕ) (x : Token) → token_in (sign n) x ≡ true → place_of n x ≡ Some x.pos
place_is n x e = rw e refl
