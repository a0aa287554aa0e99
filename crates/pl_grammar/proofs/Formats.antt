-- Formats: a language, the same with two levels more, and its reader, with the tokens that a text may go on with and those
-- that it begins with. Each word of the grammar has its law.
use Rattle.std.proofs.Common.{◌≡◌, ℕ, ◌||◌, ◌==◌, ◌⊎◌, inl, inr, Bool, true, false, List, [], ◌∷◌, ◌++◌, Option, Some, refl, sym, ap, ◌∙◌}
use Rattle.std.proofs.lemmas.Bool.{or_parts, or_right}
use Rattle.pl_base.specs.declared.pos.Pos.{Pos}
use Rattle.pl_lexer.specs.declared.tokens.Kind.{Kind}
use Rattle.pl_lexer.specs.declared.tokens.Kind.TheVariants as k
use Rattle.pl_lexer.specs.declared.tokens.Token.{Token}
use Rattle.pl_readers.specs.Language.{Language, One, Then, Either, Nothing, Mapped, Many, HasText, Starts}
use Rattle.pl_readers.specs.Reader.{Reader, begins, one, next, either, nothing, mapped, repeat}
use Rattle.pl_readers.specs.Reads.{Ends, Reads}
use Rattle.pl_readers.proofs.Correct.{Reads-one, Reads-then, Reads-mapped, Reads-either, Reads-nothing, Reads-before, Reads-repeat}
use Rattle.pl_readers.proofs.Firsts.{Starts-one, Starts-then, Starts-mapped, Starts-either, Starts-more, others_fail, some_then, some_mapped}
use Rattle.pl_grammar.specs.Signs.{Set, is_in, kind_in, token_in, signs, sign, name, both, place_of, name_kind, name_of}
use Rattle.pl_grammar.specs.Grammar.{Sign}
use Rattle.pl_grammar.specs.Readers.{sign_at}
use Rattle.pl_grammar.proofs.Sets.{apart, inside, set_apart, set_inside, set_outside, token, tokens, some_place}
use Rattle.pl_grammar.proofs.Levels.{ends_both}
use Rattle.pl_grammar.proofs.Operands.{sign_some, sign_starts}

-- a text is not empty
pub record Format {A : Type 0} (T V : Language Token A) (g f : Set) (P : Reader Token A) : Type 0 where
  pub reads : Reads T V (token_in g) P
  pub some : HasText V
  pub starts : Starts (token_in f) T

-- the text is empty, or begins with one of a set
abbrev pub Heads : {A : Type 0} → Set → Language Token A → Type 0
Heads {A} f T = (a : A) (text : List Token) → T a text → (text ≡ []) ⊎ ((x : Token) × (xs : List Token) × (text ≡ x ∷ xs) × (token_in f x ≡ true))

-- a text may be empty
pub record Maybe {A : Type 0} (T V : Language Token A) (g f : Set) (P : Reader Token A) : Type 0 where
  pub reads : Reads T V (token_in g) P
  pub some : HasText V
  pub heads : Heads f T

-- ---- both sets

in_append : (ns ms : List ℕ) (j : ℕ) → is_in (ns ++ ms) j ≡ (is_in ns j || is_in ms j)
in_append [] ms j = refl
in_append (n ∷ ns) ms j = elim (j == n) as (λ b. (b || is_in (ns ++ ms) j) ≡ ((b || is_in ns j) || is_in ms j)) [ true ↦ refl | false ↦ in_append ns ms j ]

kind_both : (s t : Set) (kk : Kind) → kind_in (both s t) kk ≡ (kind_in s kk || kind_in t kk)
kind_both s t (k.Word x) = refl
kind_both s t (k.Number n) = refl
kind_both s t (k.Sign j) = in_append s.signs t.signs j
kind_both s t k.End = refl

pub both_left : (s t : Set) (x : Token) → token_in (both s t) x ≡ false → token_in s x ≡ false
both_left s t x e = (or_parts (token_in s x) (token_in t x) (sym (kind_both s t x.kind) ∙ e)).0

pub both_right : (s t : Set) (x : Token) → token_in (both s t) x ≡ false → token_in t x ≡ false
both_right s t x e = (or_parts (token_in s x) (token_in t x) (sym (kind_both s t x.kind) ∙ e)).1

or_left : (a b : Bool) → a ≡ true → (a || b) ≡ true
or_left true b e = refl
or_left false b e = absurd cc

pub in_left : (s t : Set) (x : Token) → token_in s x ≡ true → token_in (both s t) x ≡ true
in_left s t x e = kind_both s t x.kind ∙ or_left (token_in s x) (token_in t x) e

pub in_right : (s t : Set) (x : Token) → token_in t x ≡ true → token_in (both s t) x ≡ true
in_right s t x e = kind_both s t x.kind ∙ or_right (token_in s x) (token_in t x) e

ends_right : (s t : Set) (xs : List Token) → Ends (token_in (both s t)) xs → Ends (token_in t) xs
ends_right s t [] e = refl
ends_right s t (x ∷ xs) e = both_right s t x e

-- ---- single tokens

abbrev pub no_more : Set
no_more = signs []

pub format_sign : (n : ℕ) → place_of n (token (k.Sign n)) ≡ Some some_place → Format (Sign n) (Sign n) no_more (sign n) (sign_at n)
format_sign n e = record { reads = Reads-one (place_of n) (token_in no_more) (sign_some n e); some = sign_some n e; starts = sign_starts n }

name_first : (p : Pos) (kk : Kind) (a : Pos × List ℕ) → name_kind p kk ≡ Some a → kind_in name kk ≡ true
name_first p (k.Word x) a e = refl
name_first p (k.Number n) a e = absurd cc
name_first p (k.Sign j) a e = absurd cc
name_first p k.End a e = absurd cc

pub format_name : Format (One name_of) (One name_of) no_more name (one name_of)
format_name = record {
  reads = Reads-one name_of (token_in no_more) ((some_place, []), tokens (k.Word []), (token (k.Word []), refl, refl));
  some = ((some_place, []), tokens (k.Word []), (token (k.Word []), refl, refl));
  starts = Starts-one (token_in name) name_of (λ x a e. name_first x.pos x.kind a e);
}

pub name_in : (x : Token) (a : Pos × List ℕ) → name_of x ≡ Some a → token_in name x ≡ true
name_in x a e = name_first x.pos x.kind a e

pub format_one : {A : Type 0} (h : Token → Option A) (f : Set) (w : HasText (One h)) → ((x : Token) (a : A) → h x ≡ Some a → token_in f x ≡ true) → Format (One h) (One h) no_more f (one h)
format_one h f w passes = record { reads = Reads-one h (token_in no_more) w; some = w; starts = Starts-one (token_in f) h passes }

-- ---- what stands at the front

heads_end : {B : Type 0} (f2 s t : Set) → apart f2 s ≡ true → inside s t ≡ true → (L : Language Token B) → Heads f2 L → (b : B) (back rest : List Token) → L b back → Ends (token_in t) rest → Ends (token_in s) (back ++ rest)
heads_end f2 s t e i L heads b back rest u e1 =
    elim (heads b back u) [
      | inl empty ↦ rw empty (ends_both s t rest i e1)
      | inr w ↦ rw w.2 (set_apart f2 s e w.0 w.3)
    ]

maybe_starts : {A B : Type 0} (f f2 : Set) (T : Language Token A) (U : A → Language Token B) → Heads f T → ((a : A) → Starts (token_in f2) (U a)) → Starts (token_in (both f f2)) (Then T U)
maybe_starts f f2 T U heads starts b text t =
    elim (heads t.0 t.1 t.3) [
      | inl empty ↦
          let w = starts t.0 b t.2 t.4 in
          (w.0, w.1, t.5 ∙ rw empty w.2, in_right f f2 w.0 w.3)
      | inr w ↦ (w.0, w.1 ++ t.2, t.5 ∙ ap (λ (r : List Token). r ++ t.2) w.2, in_left f f2 w.0 w.3)
    ]

many_heads : {A : Type 0} (f : Set) (T : Language Token A) → Starts (token_in f) T → Heads f (Many T)
many_heads f T starts [] text t = inl t
many_heads f T starts (a ∷ as') text t =
    let w = starts a t.0 t.2 in
    inr (w.0, w.1 ++ t.1, t.4 ∙ ap (λ (r : List Token). r ++ t.1) w.2, w.3)

optional_heads : {A : Type 0} (f : Set) (T : Language Token A) (d : A) → Starts (token_in f) T → Heads f (Either T (Nothing d))
optional_heads f T d starts a text (inl t) = inr (starts a text t)
optional_heads f T d starts a text (inr t) = inl t.0

optional_fails : {A : Type 0} (f g : Set) (d a : A) (text rest : List Token) → Nothing d a text → Ends (token_in (both f g)) rest → begins (token_in f) (text ++ rest) ≡ false
optional_fails f g d a text [] t e = rw t.0 refl
optional_fails f g d a text (x ∷ xs) t e = rw t.0 (both_left f g x e)

-- ---- words

module _ {A B : Type 0} {T V : Language Token A} {U W : A → Language Token B} {g h f f2 : Set} {P : Reader Token A} {Q : A → Reader Token B} where
  -- one behind the other
  pub format_then : Format T V g f P → ((a : A) → Format (U a) (W a) h f2 (Q a)) → apart f2 g ≡ true → Format (Then T U) (Then V W) h f (next P Q)
  format_then p q e = record {
    reads = Reads-then T V U W (token_in g) (token_in h) P Q p.reads (λ a. (q a).reads) (λ a. (q a).some)
        (λ a b back rest u e1. others_fail (token_in f2) (token_in g) (U a) (q a).starts (set_apart f2 g e) b back rest u);
    some = some_then V W p.some (λ a. (q a).some);
    starts = Starts-then (token_in f) T U p.starts;
  }

  -- one behind the other, of which the second may be empty
  pub format_maybe : Format T V g f P → ((a : A) → Maybe (U a) (W a) h f2 (Q a)) → apart f2 g ≡ true → inside g h ≡ true → Format (Then T U) (Then V W) h f (next P Q)
  format_maybe p q e i = record {
    reads = Reads-then T V U W (token_in g) (token_in h) P Q p.reads (λ a. (q a).reads) (λ a. (q a).some)
        (λ a b back rest u e1. heads_end f2 g h e i (U a) (q a).heads b back rest u e1);
    some = some_then V W p.some (λ a. (q a).some);
    starts = Starts-then (token_in f) T U p.starts;
  }

  -- one behind the other, of which the first may be empty
  pub maybe_then : Maybe T V g f P → ((a : A) → Format (U a) (W a) h f2 (Q a)) → apart f2 g ≡ true → Format (Then T U) (Then V W) h (both f f2) (next P Q)
  maybe_then p q e = record {
    reads = Reads-then T V U W (token_in g) (token_in h) P Q p.reads (λ a. (q a).reads) (λ a. (q a).some)
        (λ a b back rest u e1. others_fail (token_in f2) (token_in g) (U a) (q a).starts (set_apart f2 g e) b back rest u);
    some = some_then V W p.some (λ a. (q a).some);
    starts = maybe_starts f f2 T U p.heads (λ a. (q a).starts);
  }

module _ {A B : Type 0} {T V : Language Token A} {g f : Set} {P : Reader Token A} where
  pub format_mapped : (h : A → B) → Format T V g f P → Format (Mapped h T) (Mapped h V) g f (mapped h P)
  format_mapped h p = record {
    reads = Reads-mapped h T V (token_in g) P p.reads;
    some = some_mapped h V p.some;
    starts = Starts-mapped (token_in f) h T p.starts;
  }

  pub maybe_mapped : (h : A → B) → Maybe T V g f P → Maybe (Mapped h T) (Mapped h V) g f (mapped h P)
  maybe_mapped h p = record {
    reads = Reads-mapped h T V (token_in g) P p.reads;
    some = some_mapped h V p.some;
    heads = λ b text t. p.heads t.0 text t.1;
  }

module _ {A : Type 0} {T V : Language Token A} {g f : Set} {P : Reader Token A} where
  -- any number
  pub many : Format T V g f P → apart f g ≡ true → Maybe (Many T) (Many V) (both f g) f (repeat (token_in f) P)
  many p e = record {
    reads = Reads-repeat (token_in f) T V (token_in g) P p.reads p.starts (token_in (both f g)) (both_left f g) (both_right f g) (set_apart f g e);
    some = ([], [], refl);
    heads = many_heads f T p.starts;
  }

  -- one or nothing
  pub optional : (d : A) → Format T V g f P → Maybe (Either T (Nothing d)) (Either V (Nothing d)) (both f g) f (either (token_in f) P (nothing d))
  optional d p = record {
    reads = Reads-either (token_in f) T V (Nothing d) (Nothing d) (token_in (both f g)) P (nothing d) (Reads-before T V (token_in g) (token_in (both f g)) P (both_right f g) p.reads)
        (Reads-nothing d (token_in (both f g))) p.starts (optional_fails f g d);
    some = (d, [], inr (refl, refl));
    heads = optional_heads f T d p.starts;
  }

  -- it may begin with more
  pub format_first : (h : Set) → inside f h ≡ true → Format T V g f P → Format T V g h P
  format_first h e p = record { reads = p.reads; some = p.some; starts = Starts-more (token_in f) (token_in h) T (set_inside f h e) p.starts }

  -- more may follow
  pub format_before : (h : Set) → inside g h ≡ true → Format T V g f P → Format T V h f P
  format_before h e p = record { reads = Reads-before T V (token_in g) (token_in h) P (set_outside g h e) p.reads; some = p.some; starts = p.starts }

module _ {A : Type 0} {T V U W : Language Token A} {g h f f2 : Set} {P Q : Reader Token A} where
  -- one of two
  pub format_either : Format T V g f P → Format U W h f2 Q → apart f2 f ≡ true → Format (Either T U) (Either V W) (both g h) (both f f2) (either (token_in f) P Q)
  format_either p q e = record {
    reads = Reads-either (token_in f) T V U W (token_in (both g h)) P Q (Reads-before T V (token_in g) (token_in (both g h)) P (both_left g h) p.reads)
        (Reads-before U W (token_in h) (token_in (both g h)) Q (both_right g h) q.reads) p.starts (λ a text rest t e1. others_fail (token_in f2) (token_in f) U q.starts (set_apart f2 f e) a text rest t);
    some = let w = p.some in (w.0, w.1, inl w.2);
    starts = Starts-either (token_in (both f f2)) T U (Starts-more (token_in f) (token_in (both f f2)) T (in_left f f2) p.starts) (Starts-more (token_in f2) (token_in (both f f2)) U (in_right f f2) q.starts);
  }

either_heads : {A : Type 0} (f f2 : Set) (T U : Language Token A) → Starts (token_in f) T → Heads f2 U → Heads (both f f2) (Either T U)
either_heads f f2 T U starts heads a text (inl t) =
    let w = starts a text t in
    inr (w.0, w.1, w.2, in_left f f2 w.0 w.3)
either_heads f f2 T U starts heads a text (inr t) =
    elim (heads a text t) [
      | inl empty ↦ inl empty
      | inr w ↦ inr (w.0, w.1, w.2, in_right f f2 w.0 w.3)
    ]

ends_set : (f g : Set) (xs : List Token) → inside f g ≡ true → Ends (token_in g) xs → begins (token_in f) xs ≡ false
ends_set f g [] i e = refl
ends_set f g (x ∷ xs) i e = set_outside f g i x e

maybe_fails : {A : Type 0} (f f2 g : Set) (U : Language Token A) → Heads f2 U → apart f2 f ≡ true → inside f g ≡ true → (a : A) (text rest : List Token) → U a text → Ends (token_in g) rest → begins (token_in f) (text ++ rest) ≡ false
maybe_fails f f2 g U heads e i a text rest u e1 =
    elim (heads a text u) [
      | inl empty ↦ rw empty (ends_set f g rest i e1)
      | inr w ↦ rw w.2 (set_apart f2 f e w.0 w.3)
    ]

module _ {A : Type 0} {T V U W : Language Token A} {g h f f2 : Set} {P Q : Reader Token A} where
  -- one of two, of which the second may be empty
  pub maybe_either : Format T V g f P → Maybe U W h f2 Q → apart f2 f ≡ true → inside f (both f (both g h)) ≡ true → Maybe (Either T U) (Either V W) (both f (both g h)) (both f f2) (either (token_in f) P Q)
  maybe_either p q e i = record {
    reads = Reads-either (token_in f) T V U W (token_in (both f (both g h))) P Q
        (Reads-before T V (token_in g) (token_in (both f (both g h))) P (λ x e1. both_left g h x (both_right f (both g h) x e1)) p.reads)
        (Reads-before U W (token_in h) (token_in (both f (both g h))) Q (λ x e1. both_right g h x (both_right f (both g h) x e1)) q.reads) p.starts
        (maybe_fails f f2 (both f (both g h)) U q.heads e i);
    some = let w = p.some in (w.0, w.1, inl w.2);
    heads = either_heads f f2 T U p.starts q.heads;
  }

module _ {A : Type 0} {T V : Language Token A} {g h f f2 : Set} {P : Reader Token A} where
  -- what is not empty may be
  pub maybe_from : inside g h ≡ true → inside f f2 ≡ true → Format T V g f P → Maybe T V h f2 P
  maybe_from e i p = record {
    reads = Reads-before T V (token_in g) (token_in h) P (set_outside g h e) p.reads;
    some = p.some;
    heads = λ a text t. let w = p.starts a text t in inr (w.0, w.1, w.2, set_inside f f2 i w.0 w.3);
  }

  pub maybe_widened : inside g h ≡ true → inside f f2 ≡ true → Maybe T V g f P → Maybe T V h f2 P
  maybe_widened e i p = record {
    reads = Reads-before T V (token_in g) (token_in h) P (set_outside g h e) p.reads;
    some = p.some;
    heads = λ a text t. elim (p.heads a text t) [ inl empty ↦ inl empty | inr w ↦ inr (w.0, w.1, w.2, set_inside f f2 i w.0 w.3) ];
  }

both_heads : {A B : Type 0} (f f2 : Set) (T : Language Token A) (U : A → Language Token B) → Heads f T → ((a : A) → Heads f2 (U a)) → Heads (both f f2) (Then T U)
both_heads f f2 T U heads more b text t =
    elim (heads t.0 t.1 t.3) [
      | inl empty ↦
          elim (more t.0 b t.2 t.4) [
            | inl none ↦ inl (t.5 ∙ rw (empty, none) refl)
            | inr w ↦ inr (w.0, w.1, t.5 ∙ rw empty w.2, in_right f f2 w.0 w.3)
          ]
      | inr w ↦ inr (w.0, w.1 ++ t.2, t.5 ∙ ap (λ (r : List Token). r ++ t.2) w.2, in_left f f2 w.0 w.3)
    ]

ends_left : (s t : Set) (xs : List Token) → Ends (token_in (both s t)) xs → Ends (token_in s) xs
ends_left s t [] e = refl
ends_left s t (x ∷ xs) e = both_left s t x e

maybe_ends : {A : Type 0} (f2 g h : Set) (U : Language Token A) → Heads f2 U → apart f2 g ≡ true → (a : A) (text rest : List Token) → U a text → Ends (token_in (both g h)) rest → Ends (token_in g) (text ++ rest)
maybe_ends f2 g h U heads e a text rest u e1 =
    elim (heads a text u) [
      | inl empty ↦ rw empty (ends_left g h rest e1)
      | inr w ↦ rw w.2 (set_apart f2 g e w.0 w.3)
    ]

module _ {A B : Type 0} {T V : Language Token A} {U W : A → Language Token B} {g h f f2 : Set} {P : Reader Token A} {Q : A → Reader Token B} where
  -- one behind the other, of which both may be empty
  pub maybe_maybe : Maybe T V g f P → ((a : A) → Maybe (U a) (W a) h f2 (Q a)) → apart f2 g ≡ true → Maybe (Then T U) (Then V W) (both g h) (both f f2) (next P Q)
  maybe_maybe p q e = record {
    reads = Reads-then T V U W (token_in g) (token_in (both g h)) P Q p.reads (λ a. Reads-before (U a) (W a) (token_in h) (token_in (both g h)) (Q a) (both_right g h) (q a).reads) (λ a. (q a).some)
        (λ a b back rest u e1. maybe_ends f2 g h (U a) (q a).heads e b back rest u e1);
    some = some_then V W p.some (λ a. (q a).some);
    heads = both_heads f f2 T U p.heads (λ a. (q a).heads);
  }
