-- What reading a file of at most 4,096 declarations answers.
use Rattle.std.proofs.Common.{◌≡◌, ℕ, ◌-◌, ◌≤◌, Bool, true, false, List, [], ◌∷◌, ◌++◌, length, take, drop, Option, Some, None, Result, Ok, refl, sym, ap, subst, ◌∙◌, arith}
use Rattle.std.proofs.lemmas.List.{length-append, take_at, drop_at, take-append-drop}
use Rattle.pl_lexer.specs.declared.tokens.Kind.{Kind}
use Rattle.pl_lexer.specs.declared.tokens.Kind.TheVariants as k
use Rattle.pl_lexer.specs.declared.tokens.Token.{Token}
use Rattle.pl_readers.specs.declared.error.Stop.{Stop}
use Rattle.pl_readers.specs.Language.{Many}
use Rattle.pl_readers.specs.Reader.{◌>>=◌, begins, ended, many, repeat, one, mapped, whole}
use Rattle.pl_readers.proofs.Correct.{bind_ok, fine_is}
use Rattle.pl_syntax.specs.Tree as t
use Rattle.pl_grammar.specs.Signs.{kind_in, token_in}
use Rattle.pl_grammar.specs.FileGrammar.{File, DeclarationOf, end_of, end_kind}
use Rattle.pl_grammar.specs.FileReaders.{declaration, declaration_firsts, file, file_within}
use Rattle.pl_grammar.specs.Refusals.{IsTooMany, HasFew, NotFull}
use Rattle.pl_grammar.proofs.Formats.{Format, no_more}
use Rattle.pl_grammar.proofs.FileFormats.{format_declaration}
use Rattle.pl_grammar.proofs.Counting.{count-back, count-takes, counted, bound-whole, bound-ends}
use Rattle.pl_grammar.proofs.Answered.{found, only}

abbrev test : Token → Bool
test = token_in declaration_firsts

abbrev pub Read : Type 0
Read = List t.Decl × List Token

-- the declarations of a file, at most 4,096 of them
abbrev pub front : List Token → Result Read Stop
front xs = many 4096 test (declaration 64) xs

none_kind : (kk : Kind) → kind_in no_more kk ≡ false
none_kind (k.Word x) = refl
none_kind (k.Number n) = refl
none_kind (k.Sign j) = refl
none_kind k.End = refl

none_more : (x : Token) → token_in no_more x ≡ false
none_more x = none_kind x.kind

-- what stands behind the declarations of a file
abbrev ending : Read → Result (t.Program × List Token) Stop
ending x = mapped (λ _. record { decls = x.0 }) (one end_of) x.1

abbrev close : t.Program × List Token → Result t.Program Stop
close z = ended z.0 z.1

end_stops : (kk : Kind) (z : Unit {0}) → end_kind kk ≡ Some z → kind_in declaration_firsts kk ≡ false
end_stops (k.Word x) z e = refl
end_stops (k.Number n) z e = refl
end_stops (k.Sign j) z e = absurd cc
end_stops k.End z e = refl

ends : (ds : List t.Decl) (xs : List Token) (z : t.Program × List Token) → ending (ds, xs) ≡ Ok z → begins test xs ≡ false
ends ds [] z e = refl
ends ds (x ∷ xs) z e = by (end_kind x.kind) refl
  where
    by : (o : Option (Unit {0})) → end_kind x.kind ≡ o → token_in declaration_firsts x ≡ false
    by (Some u) h = end_stops x.kind u h
    by None h = let e1 = rw h at e in absurd cc

ended_is : (a p : t.Program) (ys : List Token) → ended a ys ≡ Ok p → a ≡ p
ended_is a p [] e = fine_is _ _ e
ended_is a p (y ∷ ys) e = absurd cc

-- the program has the declarations that were read
decls_are : (x : Read) (z : t.Program × List Token) (p : t.Program) → ending x ≡ Ok z → close z ≡ Ok p → x.0 ≡ p.decls
decls_are x z p e h =
    let y = bind_ok (one end_of x.1) (λ w. Ok (record { decls = x.0 }, w.1)) z e in
    ap (λ (w : t.Program × List Token). w.0.decls) (fine_is _ _ y.2) ∙ ap (λ (q : t.Program). q.decls) (ended_is z.0 p z.1 h)

shorter_of : (ds es : List t.Decl) → ds ≡ es → length ds ≤ 4096 → length es ≤ 4096
shorter_of ds es e h = subst (λ (l : List t.Decl). length l ≤ 4096) e h

decl_format : Format (DeclarationOf 64) (DeclarationOf 66) no_more declaration_firsts (declaration 64)
decl_format = format_declaration 64

-- where no further declaration begins, the bound makes no difference
pub whole_same : (xs : List Token) → NotFull xs → whole (file 64) xs ≡ whole (file_within 4096 64) xs
unfolding file file_within
whole_same xs h = bound-whole test _ _ _ (declaration 64) decl_format.reads decl_format.starts (λ ds. mapped (λ _. record { decls = ds }) (one end_of)) ends 4096 xs h

-- a file that was read has no further declaration
pub within_ends : (xs : List Token) (p : t.Program) → whole (file_within 4096 64) xs ≡ Ok p → NotFull xs
unfolding file_within
within_ends xs p e = bound-ends test _ _ _ (declaration 64) decl_format.reads decl_format.starts (λ ds. mapped (λ _. record { decls = ds }) (one end_of)) ends 4096 xs p e

-- a file of at most 4,096 declarations was read
pub within_found : (xs : List Token) (p : t.Program) → whole (file_within 4096 64) xs ≡ Ok p → File 64 p xs × (length p.decls ≤ 4096)
unfolding file_within
within_found xs p e =
    let w = bind_ok (front xs >>= ending) close p e in
    let x = bind_ok (front xs) ending w.0 w.1 in
    let c = counted test _ _ _ (declaration 64) decl_format.reads decl_format.starts 4096 xs x.0 x.1 in
    (found xs p (whole_same xs (within_ends xs p e) ∙ e), shorter_of x.0.0 p.decls (decls_are x.0 w.0 p x.2 w.2) c.within)

pub within_only : (xs : List Token) (p : t.Program) → File 64 p xs → length p.decls ≤ 4096 → whole (file_within 4096 64) xs ≡ Ok p
unfolding file file_within
within_only xs p f le =
    let w = bind_ok (repeat test (declaration 64) xs >>= ending) close p (only xs p f) in
    let x = bind_ok (repeat test (declaration 64) xs) ending w.0 w.1 in
    let few = shorter_of p.decls x.0.0 (sym (decls_are x.0 w.0 p x.2 w.2)) le in
    let e1 = count-back test _ _ _ (declaration 64) decl_format.reads decl_format.starts 4096 xs x.0 x.1 few in
    rw (e1, x.2) w.2

pub few : (xs : List Token) → NotFull xs → HasFew xs
few xs h k t =
    let e = count-takes test _ _ _ (declaration 64) decl_format.reads decl_format.starts none_more t.declarations (take k xs) (drop k xs) t.are in
    let e1 : front xs ≡ Ok (t.declarations, drop k xs) = subst (λ (l : List Token). front l ≡ Ok (t.declarations, drop k xs)) (take-append-drop k xs) (subst (λ (n : ℕ). many n test (declaration 64) (take k xs ++ drop k xs) ≡ Ok (t.declarations, drop k xs)) t.count e) in
    let e2 = h (t.declarations, drop k xs) e1 in
    absurd (true_false (sym t.another ∙ e2))
  where
    true_false : true ≡ false → ⊥
    true_false e = absurd cc

pub too_many : (xs : List Token) (x : Read) → front xs ≡ Ok x → begins test x.1 ≡ true → IsTooMany xs (length xs - length x.1)
too_many xs x e b =
    let c = counted test _ _ _ (declaration 64) decl_format.reads decl_format.starts 4096 xs x e in
    let k : length c.text ≡ length xs - length x.1 = omega (arith, ap length c.parts, length-append c.text x.1) in
    record {
      declarations = x.0;
      are = subst (Many (DeclarationOf 64) x.0) (sym (ap (take (length xs - length x.1)) c.parts ∙ take_at c.text x.1 (length xs - length x.1) k)) c.are;
      count = c.full b;
      another = ap (begins test) (ap (drop (length xs - length x.1)) c.parts ∙ drop_at c.text x.1 (length xs - length x.1) k) ∙ b;
    }

pub rest_within : (xs : List Token) (x : Read) → front xs ≡ Ok x → length x.1 ≤ length xs
rest_within xs x e =
    let c = counted test _ _ _ (declaration 64) decl_format.reads decl_format.starts 4096 xs x e in
    omega (arith, ap length c.parts, length-append c.text x.1)
