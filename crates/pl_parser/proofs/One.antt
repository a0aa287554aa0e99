-- Tokens have one refusal at the most, want of memory aside, and those of a program have none.
use Rattle.std.proofs.Common.{◌≡◌, ◌≢◌, ℕ, ◌+◌, ◌-◌, ◌≤◌, inl, inr, Bool, true, false, List, ◌++◌, length, take, drop, Ok, refl, sym, ap, subst, ◌∙◌, arith}
use Rattle.std.proofs.lemmas.Bool.{cases_lt}
use Rattle.std.proofs.lemmas.List.{length-map, take-append-drop}
use Rattle.pl_base.specs.declared.pos.Pos.{Pos}
use Rattle.pl_lexer.specs.declared.tokens.Kind.{Kind}
use Rattle.pl_lexer.specs.declared.tokens.Kind.TheVariants as kind
use Rattle.pl_lexer.specs.declared.tokens.Token.{Token}
use Rattle.pl_readers.specs.declared.error.Stop.{Stop}
use Rattle.pl_readers.specs.Reader.{many, whole}
use Rattle.pl_readers.proofs.Correct.{fine_is, err_left}
use Rattle.pl_syntax.specs.declared.program.Program as code
use Rattle.pl_syntax.specs.Plain.{plain_decl, plain_program}
use Rattle.pl_syntax.specs.Tree.{Program}
use Rattle.pl_grammar.specs.Signs.{kind_in, token_in}
use Rattle.pl_grammar.specs.FileGrammar.{DeclarationOf}
use Rattle.pl_grammar.specs.FileReaders.{declaration, declaration_firsts, file}
use Rattle.pl_grammar.specs.Refusals.{IsCode, IsLeastCode, IsTooMany, place_of_first, place_at}
use Rattle.pl_grammar.proofs.Formats.{Format, no_more}
use Rattle.pl_grammar.proofs.FileFormats.{format_declaration}
use Rattle.pl_grammar.proofs.Counting.{count-takes}
use Rattle.pl_grammar.proofs.Answered.{only}
use Rattle.pl_grammar.proofs.Within.{Read, front, within_only, within_ends, few}
use Rattle.pl_parser.specs.Answer.{StopsBehind, IsDeepMinus, EndsInDeepMinus, OpensTooMany, IsRefusal, IsSyntax, IsDeep, IsParsed}
use Rattle.pl_parser.specs.declared.error.ParseError.{ParseError}
use Rattle.pl_parser.specs.declared.error.ParseError.TheVariants as errors

-- ---- where reading stops

apart_bools : true ≡ false → ⊥
apart_bools e = absurd cc

-- reading stops at one place
record SamePlace (k j : ℕ) (a b : Bool) : Type 0 where
  place : k ≡ j
  deep : a ≡ b

one_stop : (xs : List Token) (k j : ℕ) (a b : Bool) → StopsBehind xs k a → StopsBehind xs j b → SamePlace k j a b
one_stop xs k j a b v w =
    let e = err_left Program (record { is_deep = a; left = length xs - k }) (record { is_deep = b; left = length xs - j }) (sym v.read ∙ w.read) in
    record { place = omega (arith, ap (λ (s : Stop). s.left) e, v.inside, w.inside); deep = ap (λ (s : Stop). s.is_deep) e }

pub same_stop : (xs : List Token) (k j : ℕ) (a b : Bool) → StopsBehind xs k a → StopsBehind xs j b → k ≡ j
same_stop xs k j a b v w = (one_stop xs k j a b v w).place

-- where reading stops behind a minus that opens the 65th level, the last token is one
minus_there : (xs : List Token) (k j : ℕ) (a b : Bool) → StopsBehind xs k a → StopsBehind xs (j + 1) b → IsDeepMinus xs j → EndsInDeepMinus xs k
minus_there xs k j a b v w m =
    let e = (one_stop xs k (j + 1) a b v w).place in
    (omega (arith, e), subst (IsDeepMinus xs) (omega (arith, e)) m)

one_opens : (xs : List Token) (k j : ℕ) → OpensTooMany xs k → OpensTooMany xs j → k ≡ j
one_opens xs k j (inl v) (inl w) = (one_stop xs k j true true v.0 w.0).place
one_opens xs k j (inl v) (inr w) = absurd (v.1 (minus_there xs k j true w.0 v.0 w.1 w.2))
one_opens xs k j (inr v) (inl w) = absurd (w.1 (minus_there xs j k true v.0 w.0 v.1 v.2))
one_opens xs k j (inr v) (inr w) = omega (arith, (one_stop xs (k + 1) (j + 1) v.0 w.0 v.1 w.1).place)

never_both : (xs : List Token) (k j : ℕ) → StopsBehind xs k false → (EndsInDeepMinus xs k → ⊥) → OpensTooMany xs j → ⊥
never_both xs k j v apart (inl w) = apart_bools (sym (one_stop xs k j false true v w.0).deep)
never_both xs k j v apart (inr w) = apart (minus_there xs k j false w.0 v w.1 w.2)

-- tokens that are read stop nowhere
read_through : (xs : List Token) (p : Program) (k : ℕ) (d : Bool) → whole (file 64) xs ≡ Ok p → StopsBehind xs k d → ⊥
read_through xs p k d e w = let h = sym e ∙ w.read in absurd cc

opens_none : (xs : List Token) (p : Program) (k : ℕ) → whole (file 64) xs ≡ Ok p → OpensTooMany xs k → ⊥
opens_none xs p k e (inl w) = read_through xs p k true e w.0
opens_none xs p k e (inr w) = read_through xs p (k + 1) w.0 e w.1

-- ---- the number

one_least : (before : List Token) (n m : ℕ) → IsCode n × (n ≤ 255) → IsCode m × (m ≤ 255) → IsLeastCode before n → IsLeastCode before m → n ≡ m
one_least before n m c d a b =
    elim (cases_lt n m) [
      | inl lt ↦ absurd (b.least n lt c.0 (a.goes_on (omega (arith, lt, d.1))))
      | inr le ↦
          elim (cases_lt m n) [
            | inl gt ↦ absurd (a.least m gt d.0 (b.goes_on (omega (arith, gt, c.1))))
            | inr ge ↦ omega (arith, le, ge)
          ]
    ]

-- ---- the 4,097th declaration

none_kind : (kk : Kind) → kind_in no_more kk ≡ false
none_kind (kind.Word x) = refl
none_kind (kind.Number n) = refl
none_kind (kind.Sign j) = refl
none_kind kind.End = refl

none_more : (x : Token) → token_in no_more x ≡ false
none_more x = none_kind x.kind

format : Format (DeclarationOf 64) (DeclarationOf 66) no_more declaration_firsts (declaration 64)
format = format_declaration 64

-- 4,096 declarations are read, and another one begins behind them
many_read : (xs : List Token) (k : ℕ) (t : IsTooMany xs k) → front xs ≡ Ok (t.declarations, drop k xs)
many_read xs k t =
    let e = count-takes (token_in declaration_firsts) _ _ _ (declaration 64) format.reads format.starts none_more t.declarations (take k xs) (drop k xs) t.are in
    subst (λ (l : List Token). front l ≡ Ok (t.declarations, drop k xs)) (take-append-drop k xs) (subst (λ (n : ℕ). many n (token_in declaration_firsts) (declaration 64) (take k xs ++ drop k xs) ≡ Ok (t.declarations, drop k xs)) t.count e)

one_many : (xs : List Token) (k j : ℕ) → IsTooMany xs k → IsTooMany xs j → place_at xs k ≡ place_at xs j
one_many xs k j v w =
    let e = fine_is (v.declarations, drop k xs) (w.declarations, drop j xs) (sym (many_read xs k v) ∙ many_read xs j w) in
    ap (λ (x : Read). place_of_first x.1) e

-- ---- refusals

one_syntax : (xs : List Token) (p q : Pos) (n m : ℕ) → IsSyntax xs p n → IsSyntax xs q m → errors.Syntax p n ≡ errors.Syntax q m
one_syntax xs p q n m v w =
    let k : v.k ≡ w.k = (one_stop xs v.k w.k false false v.stops.0 w.stops.0).place in
    let places : p ≡ q = v.place ∙ ap (place_at xs) k ∙ sym w.place in
    let here : IsLeastCode (take w.k xs) n = subst (λ (j : ℕ). IsLeastCode (take j xs) n) k v.least in
    let numbers : n ≡ m = one_least (take w.k xs) n m v.code w.code here w.least in
    ap (λ (r : Pos). errors.Syntax r n) places ∙ ap (errors.Syntax q) numbers

one_deep : (xs : List Token) (p q : Pos) → IsDeep xs p → IsDeep xs q → errors.Deep p ≡ errors.Deep q
one_deep xs p q v w = ap errors.Deep (v.place ∙ ap (place_at xs) (one_opens xs v.k w.k v.opens w.opens) ∙ sym w.place)

pub one_refusal : (xs : List Token) (e f : ParseError) → IsRefusal xs e → IsRefusal xs f → e ≢ errors.Memory → f ≢ errors.Memory → e ≡ f
one_refusal xs (errors.Syntax p n) (errors.Syntax q m) v w a b = one_syntax xs p q n m v w
one_refusal xs (errors.Syntax p n) (errors.Deep q) v w a b = absurd (never_both xs v.k w.k v.stops.0 v.stops.1 w.opens)
one_refusal xs (errors.Syntax p n) (errors.TooMany q) v w a b = absurd (v.few w.0 w.2)
one_refusal xs (errors.Deep p) (errors.Syntax q m) v w a b = absurd (never_both xs w.k v.k w.stops.0 w.stops.1 v.opens)
one_refusal xs (errors.Deep p) (errors.Deep q) v w a b = one_deep xs p q v w
one_refusal xs (errors.Deep p) (errors.TooMany q) v w a b = absurd (v.few w.0 w.2)
one_refusal xs (errors.TooMany p) (errors.Syntax q m) v w a b = absurd (w.few v.0 v.2)
one_refusal xs (errors.TooMany p) (errors.Deep q) v w a b = absurd (w.few v.0 v.2)
one_refusal xs (errors.TooMany p) (errors.TooMany q) v w a b = ap errors.TooMany (v.1 ∙ one_many xs v.0 w.0 v.2 w.2 ∙ sym w.1)
one_refusal xs errors.Memory f v w a b = absurd (a refl)
one_refusal xs e errors.Memory v w a b = absurd (b refl)

pub parsed_none : (xs : List Token) (p : code.Program) (e : ParseError) → IsParsed xs p → IsRefusal xs e → e ≡ errors.Memory
parsed_none xs p (errors.Syntax q n) f w = absurd (read_through xs (plain_program p) w.k false (only xs (plain_program p) f.0) w.stops.0)
parsed_none xs p (errors.Deep q) f w = absurd (opens_none xs (plain_program p) w.k (only xs (plain_program p) f.0) w.opens)
parsed_none xs p (errors.TooMany q) f w =
    let fits : length (plain_program p).decls ≤ 4096 = subst (λ (n : ℕ). n ≤ 4096) (sym (length-map p.decls plain_decl)) f.1 in
    absurd (few xs (within_ends xs (plain_program p) (within_only xs (plain_program p) f.0 fits)) w.0 w.2)
parsed_none xs p errors.Memory f w = refl
