-- What the values of texts are like whose tokens are proper, for each word of the grammar.
use Rattle.std.proofs.Common.{ℕ, Bool, true, false, inl, inr, List, [], ◌∷◌, ◌++◌, Option, Some, None, sym, subst}
use Rattle.std.specs.List.{AllByRecursion}
use Rattle.pl_base.specs.declared.pos.Pos.{Pos}
use Rattle.pl_lexer.specs.declared.tokens.Kind.{Kind}
use Rattle.pl_lexer.specs.declared.tokens.Kind.TheVariants as k
use Rattle.pl_lexer.specs.declared.tokens.Token.{Token}
use Rattle.pl_lexer.specs.Proper.{IsName, IsProper, AreProper}
use Rattle.pl_readers.specs.Language.{Language, One, Then, Either, Nothing, Void, Mapped, Many}
use Rattle.pl_grammar.specs.Signs.{name_kind, name_of}
use Rattle.pl_grammar.specs.Grammar.{Where}

-- the values of T's texts of proper tokens are P
pub record Gives {A : Type 0} (T : Language Token A) (P : A → Type 0) : Type 0 where
  pub is : (a : A) (text : List Token) → T a text → AreProper text → P a

pub both_proper : (xs ys : List Token) → AreProper (xs ++ ys) → AreProper xs × AreProper ys
both_proper [] ys w = (tt, w)
both_proper (x ∷ xs) ys w =
    let parts = both_proper xs ys w.1 in
    ((w.0, parts.0), parts.1)

-- what an option has, if anything
abbrev pub IfAny : {A : Type 0} → (A → Type 0) → Option A → Type 0
IfAny P None = Unit {0}
IfAny P (Some a) = P a

module _ {A : Type 0} {P : A → Type 0} where
  pub one_is : (f : Token → Option A) → ((x : Token) → IsProper x.kind → IfAny P (f x)) → Gives (One f) P
  one_is f w = record {
    is = λ a text t good.
        let at : AreProper (t.0 ∷ []) = subst AreProper t.1 good in
        subst (IfAny P) t.2 (w t.0 at.0);
  }

  pub nothing_is : (d : A) → P d → Gives (Nothing d) P
  nothing_is d h = record { is = λ a text t good. subst P (sym t.1) h }

  pub void_is : Gives Void P
  void_is = record { is = λ a text t good. absurd t }

module _ {A : Type 0} {T U : Language Token A} {P : A → Type 0} where
  pub either_is : Gives T P → Gives U P → Gives (Either T U) P
  either_is p q = record { is = λ a text t good. elim t [ inl s ↦ p.is a text s good | inr s ↦ q.is a text s good ] }

module _ {A : Type 0} {T : Language Token A} {P : A → Type 0} where
  pub where_is : (b : Bool) → Gives T P → Gives (Where b T) P
  where_is true p = p
  where_is false p = void_is

  all_is : Gives T P → (as' : List A) (text : List Token) → Many T as' text → AreProper text → AllByRecursion P as'
  all_is p [] text t good = tt
  all_is p (a ∷ as') text t good =
      let parts = both_proper t.0 t.1 (subst AreProper t.4 good) in
      (p.is a t.0 t.2 parts.0, all_is p as' t.1 t.3 parts.1)

  pub many_is : Gives T P → Gives (Many T) (AllByRecursion P)
  many_is p = record { is = all_is p }

module _ {A B : Type 0} {T : Language Token A} {U : A → Language Token B} {P : A → Type 0} {Q : B → Type 0} where
  pub then_is : Gives T P → ((a : A) → P a → Gives (U a) Q) → Gives (Then T U) Q
  then_is p q = record {
    is = λ b text t good.
        let parts = both_proper t.1 t.2 (subst AreProper t.5 good) in
        (q t.0 (p.is t.0 t.1 t.3 parts.0)).is b t.2 t.4 parts.1;
  }

module _ {A B : Type 0} {T : Language Token A} {U : A → Language Token B} {Q : B → Type 0} where
  -- whatever stands first
  pub behind : ((a : A) → Gives (U a) Q) → Gives (Then T U) Q
  behind q = record { is = λ b text t good. (q t.0).is b t.2 t.4 (both_proper t.1 t.2 (subst AreProper t.5 good)).1 }

module _ {A B : Type 0} {T : Language Token A} {f : A → B} {P : A → Type 0} {Q : B → Type 0} where
  pub mapped_is : Gives T P → ((a : A) → P a → Q (f a)) → Gives (Mapped f T) Q
  mapped_is p q = record { is = λ b text t good. subst Q (sym t.2) (q t.0 (p.is t.0 text t.1 good)) }

module _ {A B : Type 0} {T : Language Token A} {f : A → B} {Q : B → Type 0} where
  -- whatever it is made of
  pub made : ((a : A) → Q (f a)) → Gives (Mapped f T) Q
  made q = record { is = λ b text t good. subst Q (sym t.2) (q t.0) }

-- a name with its place
abbrev pub IsNamed : Pos × List ℕ → Type 0
IsNamed x = IsName x.1

named : (p : Pos) (kind : Kind) → IsProper kind → IfAny IsNamed (name_kind p kind)
named p (k.Word x) h = h
named p (k.Number n) h = tt
named p (k.Sign j) h = tt
named p k.End h = tt

pub name_is : Gives (One name_of) IsNamed
name_is = one_is name_of (λ x h. named x.pos x.kind h)
