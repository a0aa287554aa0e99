-- What each value of a language is like, where the tokens of its text are proper.
use Rattle.std.proofs.Common.{◌≡◌, ℕ, inl, inr, Bool, true, false, List, [], ◌∷◌, ◌++◌, Option, Some, sym, subst}
use Rattle.std.specs.Prelude.{⊤}
use Rattle.pl_base.specs.declared.pos.Pos.{Pos}
use Rattle.pl_lexer.specs.declared.tokens.Kind.{Kind}
use Rattle.pl_lexer.specs.declared.tokens.Kind.TheVariants as k
use Rattle.pl_lexer.specs.declared.tokens.Token.{Token}
use Rattle.pl_lexer.specs.Proper.{IsName, IsProper, AreProper}
use Rattle.pl_readers.specs.Language.{Language, One, Then, Either, Nothing, Void, Mapped, Many}
use Rattle.pl_grammar.specs.Signs.{name_kind, name_of}
use Rattle.pl_grammar.specs.Grammar.{Sign, Where}
use Rattle.pl_printed.specs.Printable.{Each}

pub record Gives {A : Type 0} (T : Language Token A) (P : A → Type 0) : Type 0 where
  pub gives : (a : A) (ts : List Token) → AreProper ts → T a ts → P a

proper_parts : (xs ys : List Token) → AreProper (xs ++ ys) → AreProper xs × AreProper ys
proper_parts [] ys h = (tt, h)
proper_parts (x ∷ xs) ys h = let w = proper_parts xs ys h.1 in ((h.0, w.0), w.1)

-- one token
pub one : {A : Type 0} {f : Token → Option A} {P : A → Type 0} → ((x : Token) (a : A) → IsProper x.kind → f x ≡ Some a → P a) → Gives (One f) P
one p = record { gives = λ a ts h t. let all : AreProper (t.0 ∷ []) = subst AreProper t.1 h in p t.0 a all.0 t.2 }

pub any : {A : Type 0} {f : Token → Option A} → Gives (One f) (λ a. ⊤)
any = one (λ x a h e. tt)

name_proper : (p : Pos) (kk : Kind) (a : Pos × List ℕ) → IsProper kk → name_kind p kk ≡ Some a → IsName a.1
name_proper p (k.Word x) a h e = let is : (p, x) ≡ a = cc in subst (λ (z : Pos × List ℕ). IsName z.1) is h
name_proper p (k.Number n) a h e = absurd cc
name_proper p (k.Sign j) a h e = absurd cc
name_proper p k.End a h e = absurd cc

pub a_name : Gives (One name_of) (λ x. IsName x.1)
a_name = one (λ x a h e. name_proper x.pos x.kind a h e)

-- one text behind the other
pub next : {A B : Type 0} {T : Language Token A} {U : A → Language Token B} {P : A → Type 0} {Q : B → Type 0} → Gives T P → ((a : A) → P a → Gives (U a) Q) → Gives (Then T U) Q
next p u = record {
  gives = λ b ts h t.
      let w = proper_parts t.1 t.2 (subst AreProper t.5 h) in
      (u t.0 (p.gives t.0 t.1 w.0 t.3)).gives b t.2 w.1 t.4;
}

pub sign : {B : Type 0} {U : Pos → Language Token B} {Q : B → Type 0} (n : ℕ) → ((p : Pos) → Gives (U p) Q) → Gives (Then (Sign n) U) Q
sign n u = next any (λ p h. u p)

pub name : {B : Type 0} {U : Pos × List ℕ → Language Token B} {Q : B → Type 0} → ((x : Pos × List ℕ) → IsName x.1 → Gives (U x) Q) → Gives (Then (One name_of) U) Q
name u = next a_name u

pub mapped : {A B : Type 0} {f : A → B} {T : Language Token A} {P : A → Type 0} {Q : B → Type 0} → Gives T P → ((a : A) → P a → Q (f a)) → Gives (Mapped f T) Q
mapped {Q = Q} p q = record { gives = λ b ts h t. subst Q (sym t.2) (q t.0 (p.gives t.0 ts h t.1)) }

pub last_sign : {B : Type 0} {f : Pos → B} {Q : B → Type 0} (n : ℕ) → ((p : Pos) → Q (f p)) → Gives (Mapped f (Sign n)) Q
last_sign n q = mapped any (λ p h. q p)

pub last_name : {B : Type 0} {f : Pos × List ℕ → B} {Q : B → Type 0} → ((x : Pos × List ℕ) → IsName x.1 → Q (f x)) → Gives (Mapped f (One name_of)) Q
last_name q = mapped a_name q

pub either : {A : Type 0} {T U : Language Token A} {Q : A → Type 0} → Gives T Q → Gives U Q → Gives (Either T U) Q
either {Q = Q} p q = record { gives = λ a ts h t. elim t as (λ z. Q a) [ inl x ↦ p.gives a ts h x | inr y ↦ q.gives a ts h y ] }

pub nothing : {A : Type 0} {v : A} {Q : A → Type 0} → Q v → Gives (Nothing v) Q
nothing {Q = Q} q = record { gives = λ a ts h t. subst Q (sym t.1) q }

pub void : {A : Type 0} {Q : A → Type 0} → Gives (Void {A = A}) Q
void = record { gives = λ a ts h t. absurd t }

pub where_gives : {A : Type 0} {T : Language Token A} {Q : A → Type 0} (b : Bool) → Gives T Q → Gives (Where b T) Q
where_gives true p = p
where_gives false p = record { gives = λ a ts h t. absurd t }

many_by : {A : Type 0} {T : Language Token A} {P : A → Type 0} → Gives T P → (as' : List A) (ts : List Token) → AreProper ts → Many T as' ts → Each P as'
many_by p [] ts h t = tt
many_by p (a ∷ as') ts h t =
    let w = proper_parts t.0 t.1 (subst AreProper t.4 h) in
    (p.gives a t.0 w.0 t.2, many_by p as' t.1 w.1 t.3)

pub many : {A : Type 0} {T : Language Token A} {P : A → Type 0} → Gives T P → Gives (Many T) (Each P)
many p = record { gives = λ as' ts h t. many_by p as' ts h t }

-- a weaker property
pub known : {A : Type 0} {T : Language Token A} {P Q : A → Type 0} → Gives T P → ((a : A) → P a → Q a) → Gives T Q
known p q = record { gives = λ a ts h t. q a (p.gives a ts h t) }
