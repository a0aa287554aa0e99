-- Laws of readers beyond those of the lowest crate: what follows a text may need that it is one, and a choice of which the
-- first may be a level too many.
use Rattle.std.proofs.Common.{◌≡◌, inl, inr, Bool, true, false, List, [], ◌∷◌, ◌++◌, Ok, Err, refl, sym, ap, subst, ◌∙◌, append_assoc}
use Rattle.pl_readers.specs.declared.error.Stop.{Stop}
use Rattle.pl_readers.specs.Language.{Language, Then, Either, Void, IsViable, HasText, Starts}
use Rattle.pl_readers.specs.Reader.{Reader, begins, next, either, deep, refuse}
use Rattle.pl_readers.specs.Reads.{Ends, Took, Stopped, Reads}
use Rattle.pl_readers.proofs.Correct.{bind_ok, bind_err, same_through, Reads-either, Reads-deep}
use Rattle.pl_readers.proofs.Firsts.{Reads-refuse, Reads-wider}
use Rattle.pl_lexer.specs.declared.tokens.Token.{Token}
use Rattle.pl_grammar.specs.Grammar.{Where}
use Rattle.pl_grammar.specs.Readers.{where_left}

module _ {S A B : Type 0} (T V : Language S A) (U W : A → Language S B) (g h : S → Bool) (P : Reader S A) (Q : A → Reader S B) (p : Reads T V g P) (q : (a : A) (text : List S) → T a text → Reads (U a) (W a) h (Q a)) where
  in_took : (xs : List S) (b : B) (rest : List S) → next P Q xs ≡ Ok (b, rest) → Took (Then T U) (next P Q) xs b rest
  in_took xs b rest e =
      let x = bind_ok (P xs) (λ z. Q z.0 z.1) (b, rest) e in
      let t = p.took xs x.0.0 x.0.1 x.1 in
      let u = (q x.0.0 t.text t.is_text).took x.0.1 b rest x.2 in
      record {
        text = t.text ++ u.text;
        is_text = (x.0.0, t.text, u.text, t.is_text, u.is_text, refl);
        parts = t.parts ∙ ap (λ (r : List S). t.text ++ r) u.parts ∙ sym (append_assoc t.text u.text rest);
        again = λ other same.
            let e1 : P (t.text ++ (u.text ++ other)) ≡ Ok (x.0.0, u.text ++ other) =
            t.again (u.text ++ other) (same_through x.0.1 u.text rest other u.parts same) in
            rw (append_assoc t.text u.text other, e1) (u.again other same);
      }

  in_first : ((a : A) → HasText (W a)) → (before : List S) → IsViable V before → IsViable (Then V W) before
  in_first some before v =
      let w = some v.1 in
      (v.0 ++ w.1, w.0, (v.1, before ++ v.0, w.1, v.2, w.2, sym (append_assoc before v.0 w.1)))

  in_second : (a : A) (front before : List S) → T a front → IsViable (W a) before → IsViable (Then V W) (front ++ before)
  in_second a front before t v = (v.0, v.1, (a, front, before ++ v.0, p.within a front t, v.2, append_assoc front before v.0))

  in_stopped : ((a : A) → HasText (W a)) → (xs : List S) (s : Stop) → next P Q xs ≡ Err s → Stopped (Then V W) (next P Q) xs s
  in_stopped some xs s e =
      elim (bind_err (P xs) (λ z. Q z.0 z.1) s e) [
        | inl e1 ↦
            let t = p.stopped xs s e1 in
            record {
              before = t.before;
              bad = t.bad;
              parts = t.parts;
              left = t.left;
              viable = in_first some t.before t.viable;
              deeper = λ d y ys b. in_first some (t.before ++ y ∷ []) (t.deeper d y ys b);
              some_bad = t.some_bad;
              again = λ other same. rw (t.again other same) refl;
            }
        | inr x ↦
            let t = p.took xs x.0.0 x.0.1 x.1 in
            let u = (q x.0.0 t.text t.is_text).stopped x.0.1 s x.2 in
            record {
              before = t.text ++ u.before;
              bad = u.bad;
              parts = t.parts ∙ ap (λ (r : List S). t.text ++ r) u.parts ∙ sym (append_assoc t.text u.before u.bad);
              left = u.left;
              viable = in_second x.0.0 t.text u.before t.is_text u.viable;
              deeper = λ d y ys b. subst (IsViable (Then V W)) (sym (append_assoc t.text u.before (y ∷ []))) (in_second x.0.0 t.text (u.before ++ y ∷ []) t.is_text (u.deeper d y ys b));
              some_bad = u.some_bad;
              again = λ other same.
                  let e1 : P (t.text ++ (u.before ++ other)) ≡ Ok (x.0.0, u.before ++ other) =
                  t.again (u.before ++ other) (same_through x.0.1 u.before u.bad other u.parts same) in
                  rw (append_assoc t.text u.before other, e1) (u.again other same);
            }
      ]

  -- one behind the other, where the second is read right behind each text of the first
  pub Reads-behind : ((a : A) → HasText (W a)) → ((a : A) (b : B) (back rest : List S) → U a b back → Ends h rest → Ends g (back ++ rest)) → Reads (Then T U) (Then V W) h (next P Q)
  Reads-behind some follows = record {
    within = λ b text t. (t.0, t.1, t.2, p.within t.0 t.1 t.3, (q t.0 t.1 t.3).within b t.2 t.4, t.5);
    took = in_took;
    stopped = in_stopped some;
    takes = λ b text rest t e.
        let a = t.0 in
        let e1 : P (t.1 ++ (t.2 ++ rest)) ≡ Ok (a, t.2 ++ rest) = p.takes a t.1 (t.2 ++ rest) t.3 (follows a b t.2 rest t.4 e) in
        rw (t.5, append_assoc t.1 t.2 rest, e1) ((q a t.1 t.3).takes b t.2 rest t.4 e);
  }

-- the same texts
pub Reads-alike : {S A : Type 0} (T T' V : Language S A) (g : S → Bool) (P : Reader S A) → ((a : A) (text : List S) → T a text → T' a text) → ((a : A) (text : List S) → T' a text → T a text) → Reads T V g P → Reads T' V g P
Reads-alike T T' V g P to from p = record {
  within = λ a text t. p.within a text (from a text t);
  took = λ xs a rest e.
      let t = p.took xs a rest e in
      record { text = t.text; is_text = to a t.text t.is_text; parts = t.parts; again = t.again };
  stopped = p.stopped;
  takes = λ a text rest t e. p.takes a text rest (from a text t) e;
}

without_first : {S A : Type 0} (U : Language S A) (a : A) (text : List S) → Either Void U a text → U a text
without_first U a text (inl v) = absurd v
without_first U a text (inr u) = u

-- a choice of which the first opens a level
pub Reads-where : {A : Type 0} (test : Token → Bool) (T V U W : Language Token A) (g : Token → Bool) (P Q : Reader Token A) (b c : Bool) → c ≡ true → (b ≡ true → Reads T V g P) → Reads U W g Q → HasText W → Starts test T
    → ((y : Token) → test y ≡ true → IsViable V (y ∷ [])) → ((a : A) (text rest : List Token) → U a text → Ends g rest → begins test (text ++ rest) ≡ false)
    → Reads (Either (Where b T) U) (Either (Where c V) W) g (either test (where_left b P) Q)
Reads-where test T V U W g P Q b false e p q some starts opens others = absurd cc
Reads-where test T V U W g P Q true true e p q some starts opens others = Reads-either test T V U W g P Q (p refl) q starts others
Reads-where test T V U W g P Q false true e p q some starts opens others =
    Reads-alike U (Either Void U) (Either V W) g (either test deep Q) (λ a text u. inr u) (without_first U)
    (Reads-deep test T V U W g P Q q some opens others)

twice : {S A : Type 0} (V : Language S A) (a : A) (text : List S) → Either V V a text → V a text
twice V a text (inl v) = v
twice V a text (inr v) = v

-- nothing is read, but what one more level would have texts for is told apart
pub Reads-none : {A : Type 0} (test : Token → Bool) (V : Language Token A) (g : Token → Bool) → HasText V → ((y : Token) → test y ≡ true → IsViable V (y ∷ [])) → Reads Void V g (either test deep refuse)
Reads-none test V g some opens =
    Reads-wider Void (Either V V) V g (either test deep refuse) (twice V)
    (Reads-deep test Void V Void V g refuse refuse (Reads-refuse V g some) some opens (λ a text rest t e. absurd t))
