-- What a language takes: all tokens of some kinds, at any places, are a text of a value with some property.
use Rattle.std.proofs.Common.{◌≡◌, ℕ, inl, inr, Bool, true, List, [], ◌∷◌, ◌++◌, append-nil, Option, Some, refl, sym, ap, subst}
use Rattle.std.proofs.lemmas.Bool.{eq-eqb}
use Rattle.pl_readers.specs.Language.{Language, One, Then, Either, Nothing, Mapped, Many}
use Rattle.pl_base.specs.declared.pos.Pos.{Pos}
use Rattle.pl_lexer.specs.declared.tokens.Kind.{Kind}
use Rattle.pl_lexer.specs.declared.tokens.Kind.TheVariants as k
use Rattle.pl_lexer.specs.declared.tokens.Token.{Token}
use Rattle.pl_grammar.specs.Signs.{place_of, name_of}
use Rattle.pl_grammar.specs.Grammar.{Sign, Where}
use Rattle.pl_printed.proofs.Laid.{kinds_of}
use Rattle.pl_printed.proofs.Parts.{first_of_kinds, single, no_kinds}

pub record Takes {A : Type 0} (T : Language Token A) (ks : List Kind) (P : A → Type 0) : Type 0 where
  pub take : (ts : List Token) → kinds_of ts ≡ ks → (a : A) × T a ts × P a

-- tokens of two lists of kinds
pub split : (ts : List Token) (ka kb : List Kind) → kinds_of ts ≡ ka ++ kb → (l r : List Token) × (ts ≡ l ++ r) × (kinds_of l ≡ ka) × (kinds_of r ≡ kb)
split ts [] kb h = ([], ts, refl, refl, h)
split [] (x ∷ ka) kb h = absurd cc
split (t ∷ ts) (x ∷ ka) kb h =
    let tail : kinds_of ts ≡ ka ++ kb = cc in
    let w = split ts ka kb tail in
    (t ∷ w.0, w.1, ap (λ (z : List Token). t ∷ z) w.2, cc (w.3), w.4)

place_here : (n : ℕ) (p : Pos) → place_of n (record { pos = p; kind = k.Sign n }) ≡ Some p
place_here n p = rw (eq-eqb n n refl) refl

pub sign_at : (n : ℕ) (t : Token) → t.kind ≡ k.Sign n → Sign n t.pos (t ∷ [])
sign_at n t e = (t, refl, subst (λ (kk : Kind). place_of n (record { pos = t.pos; kind = kk }) ≡ Some t.pos) (sym e) (place_here n t.pos))

name_here : (x : List ℕ) (t : Token) → t.kind ≡ k.Word x → name_of t ≡ Some (t.pos, x)
name_here x t e = ap (λ (c : Kind). name_of (record { pos = t.pos; kind = c })) e

-- one text behind the other
pub next : {A B : Type 0} {T : Language Token A} {U : A → Language Token B} {ka kb : List Kind} {P : A → Type 0} {Q : B → Type 0}
    → Takes T ka P → ((a : A) → P a → Takes (U a) kb Q) → Takes (Then T U) (ka ++ kb) Q
next {ka = ka} {kb = kb} t u = record {
  take = λ ts h.
      let w = split ts ka kb h in
      let a = t.take w.0 w.3 in
      let b = (u a.0 a.2).take w.1 w.4 in
      (b.0, (a.0, w.0, w.1, a.1, b.1, w.2), b.2);
}

-- behind a sign
pub sign : {B : Type 0} {U : Pos → Language Token B} {ks : List Kind} {Q : B → Type 0} (n : ℕ) → ((p : Pos) → Takes (U p) ks Q) → Takes (Then (Sign n) U) (k.Sign n ∷ ks) Q
sign {ks = ks} n u = record {
  take = λ ts h.
      let a = first_of_kinds ts (k.Sign n) ks h in
      let b = (u a.0.pos).take a.1 a.4 in
      (b.0, (a.0.pos, a.0 ∷ [], a.1, sign_at n a.0 a.3, b.1, a.2), b.2);
}

-- behind a name
pub name : {B : Type 0} {U : Pos × List ℕ → Language Token B} {ks : List Kind} {Q : B → Type 0} (x : List ℕ) → ((p : Pos) → Takes (U (p, x)) ks Q) → Takes (Then (One name_of) U) (k.Word x ∷ ks) Q
name {ks = ks} x u = record {
  take = λ ts h.
      let a = first_of_kinds ts (k.Word x) ks h in
      let b = (u a.0.pos).take a.1 a.4 in
      (b.0, ((a.0.pos, x), a.0 ∷ [], a.1, (a.0, refl, name_here x a.0 a.3), b.1, a.2), b.2);
}

-- one token of any kind
pub one : {A : Type 0} {f : Token → Option A} {Q : A → Type 0} (kk : Kind) (v : Pos → A) → ((p : Pos) → f (record { pos = p; kind = kk }) ≡ Some (v p)) → ((p : Pos) → Q (v p)) → Takes (One f) (kk ∷ []) Q
one {f = f} kk v is q = record {
  take = λ ts h.
      let s = single ts kk h in
      let t = s.0 in
      (v t.pos, (t, s.1, subst (λ (c : Kind). f (record { pos = t.pos; kind = c }) ≡ Some (v t.pos)) (sym s.2) (is t.pos)), q t.pos);
}

-- a sign at the end
pub last_sign : {B : Type 0} {f : Pos → B} {Q : B → Type 0} (n : ℕ) → ((p : Pos) → Q (f p)) → Takes (Mapped f (Sign n)) (k.Sign n ∷ []) Q
last_sign {f = f} n q = record {
  take = λ ts h.
      let s = single ts (k.Sign n) h in
      (f s.0.pos, (s.0.pos, subst (λ (z : List Token). Sign n s.0.pos z) (sym s.1) (sign_at n s.0 s.2), refl), q s.0.pos);
}

-- a name at the end
pub last_name : {B : Type 0} {f : Pos × List ℕ → B} {Q : B → Type 0} (x : List ℕ) → ((p : Pos) → Q (f (p, x))) → Takes (Mapped f (One name_of)) (k.Word x ∷ []) Q
last_name {f = f} x q = record {
  take = λ ts h.
      let s = single ts (k.Word x) h in
      (f (s.0.pos, x), ((s.0.pos, x), (s.0, s.1, name_here x s.0 s.2), refl), q s.0.pos);
}

pub mapped : {A B : Type 0} {f : A → B} {T : Language Token A} {ks : List Kind} {P : A → Type 0} {Q : B → Type 0} → Takes T ks P → ((a : A) → P a → Q (f a)) → Takes (Mapped f T) ks Q
mapped {f = f} t q = record { take = λ ts h. let a = t.take ts h in (f a.0, (a.0, a.1, refl), q a.0 a.2) }

pub left : {A : Type 0} {T U : Language Token A} {ks : List Kind} {Q : A → Type 0} → Takes T ks Q → Takes (Either T U) ks Q
left t = record { take = λ ts h. let a = t.take ts h in (a.0, inl a.1, a.2) }

pub right : {A : Type 0} {T U : Language Token A} {ks : List Kind} {Q : A → Type 0} → Takes U ks Q → Takes (Either T U) ks Q
right t = record { take = λ ts h. let a = t.take ts h in (a.0, inr a.1, a.2) }

pub nothing : {A : Type 0} {v : A} {Q : A → Type 0} → Q v → Takes (Nothing v) [] Q
nothing {v = v} q = record { take = λ ts h. (v, (no_kinds ts h, refl), q) }

-- a weaker property
pub known : {A : Type 0} {T : Language Token A} {ks : List Kind} {P Q : A → Type 0} → Takes T ks P → ((a : A) → P a → Q a) → Takes T ks Q
known t q = record { take = λ ts h. let a = t.take ts h in (a.0, a.1, q a.0 a.2) }

-- no text of a list, or one more
pub no_texts : {A : Type 0} {T : Language Token A} {Q : List A → Type 0} → Q [] → Takes (Many T) [] Q
no_texts q = record { take = λ ts h. ([], no_kinds ts h, q) }

pub texts : {A : Type 0} {T : Language Token A} {ka kb : List Kind} {P : A → Type 0} {Q R : List A → Type 0}
    → Takes T ka P → Takes (Many T) kb Q → ((a : A) (more : List A) → P a → Q more → R (a ∷ more)) → Takes (Many T) (ka ++ kb) R
texts {ka = ka} {kb = kb} t u r = record {
  take = λ ts h.
      let w = split ts ka kb h in
      let a = t.take w.0 w.3 in
      let b = u.take w.1 w.4 in
      (a.0 ∷ b.0, (w.0, w.1, a.1, b.1, w.2), r a.0 b.0 a.2 b.2);
}

-- behind one token of any kind
pub token : {A B : Type 0} {f : Token → Option A} {U : A → Language Token B} {ks : List Kind} {Q : B → Type 0} (kk : Kind) (v : Pos → A)
    → ((p : Pos) → f (record { pos = p; kind = kk }) ≡ Some (v p)) → ((p : Pos) → Takes (U (v p)) ks Q) → Takes (Then (One f) U) (kk ∷ ks) Q
token {f = f} {ks = ks} kk v is u = record {
  take = λ ts h.
      let a = first_of_kinds ts kk ks h in
      let t = a.0 in
      let b = (u t.pos).take a.1 a.4 in
      (b.0, (v t.pos, t ∷ [], a.1, (t, refl, subst (λ (c : Kind). f (record { pos = t.pos; kind = c }) ≡ Some (v t.pos)) (sym a.3) (is t.pos)), b.1, a.2), b.2);
}

-- a text behind which nothing stands
pub alone : {A B : Type 0} {T : Language Token A} {U : A → Language Token B} {ks : List Kind} {P : A → Type 0} {Q : B → Type 0}
    → Takes T ks P → ((a : A) → P a → Takes (U a) [] Q) → Takes (Then T U) ks Q
alone t u = record {
  take = λ ts h.
      let a = t.take ts h in
      let b = (u a.0 a.2).take [] refl in
      (b.0, (a.0, ts, [], a.1, b.1, sym (append-nil ts)), b.2);
}

-- where a level is left
pub where_left : {A : Type 0} (b : Bool) (T : Language Token A) {ks : List Kind} {Q : A → Type 0} → b ≡ true → Takes T ks Q → Takes (Where b T) ks Q
where_left b T {ks} {Q} e t = subst (λ (c : Bool). Takes (Where c T) ks Q) (sym e) t
