-- Bytes have one answer: their tokens, or one refusal.
use Rattle.std.proofs.Common.{◌≡◌, ◌≢◌, ℕ, ◌<◌, ◌⊎◌, inl, inr, List, [], ◌∷◌, ◌++◌, length, take, drop, Option, Some, None, Result, Ok, Err, refl, sym, ap, subst, ◌∙◌, arith}
use Rattle.std.specs.Prelude.{IfOk, IfErr}
use Rattle.std.specs.Str.{chars, IsUtf8, IsValidUpTo}
use Rattle.std.proofs.Math.Seq.{take-append_seam, drop-append_seam}
use Rattle.std.proofs.lemmas.List.{take_all}
use Rattle.pl_base.specs.declared.pos.Pos.{Pos}
use Rattle.pl_lexer.specs.declared.tokens.Kind.{Kind}
use Rattle.pl_lexer.specs.declared.tokens.Kind.TheVariants as k
use Rattle.pl_lexer.specs.declared.tokens.Token.{Token}
use Rattle.pl_lexer.specs.declared.error.LexError.{LexError}
use Rattle.pl_lexer.specs.declared.error.LexError.TheVariants as e
use Rattle.pl_lexer.specs.Tokens.{IsLongest, Cut, NoLexeme, start, place_behind, kind_of, all_tokens, AreTokens, IsLongNumber, IsLongName, AllShort, IsLexed, IsRefusal, IsRefusedAt, IsCutInto, IsButForMemory}
use Rattle.pl_lexer.proofs.Longest.{lexeme_some}

same_front : (l b l' b' : List ℕ) → l ++ b ≡ l' ++ b' → length l ≡ length l' → (l ≡ l') × (b ≡ b')
same_front l b l' b' whole len = (
  sym (take-append_seam l b) ∙ ap (λ n. take n (l ++ b)) len ∙ ap (take (length l')) whole ∙ take-append_seam l' b',
  sym (drop-append_seam l b) ∙ ap (λ n. drop n (l ++ b)) len ∙ ap (drop (length l')) whole ∙ drop-append_seam l' b',
)

-- a text has one longest lexeme at its front
longest_once : (l b l' b' : List ℕ) → l ++ b ≡ l' ++ b' → IsLongest l b → IsLongest l' b' → (l ≡ l') × (b ≡ b')
longest_once l b l' b' whole here here' =
    let low = here.1 l' b' whole here'.0 in
    let high = here'.1 l b (sym whole) here.0 in
    same_front l b l' b' whole (omega (arith, low, high))

abbrev IsLong : List ℕ → Type 0
IsLong l = IsLongNumber (kind_of l) ⊎ IsLongName l (kind_of l)

-- lexing goes no further: the longest lexeme here, if there is one, passes a limit
abbrev Halts : List ℕ → Type 0
Halts rest = (l behind : List ℕ) → rest ≡ l ++ behind → IsLongest l behind → IsLong l

not_long : (l : List ℕ) → (IsLongNumber (kind_of l) → ⊥) → (IsLongName l (kind_of l) → ⊥) → IsLong l → ⊥
not_long l number name (inl h) = number h
not_long l number name (inr h) = name h

-- lexing goes one way
once : (text : List ℕ) (ls ks : List (List ℕ)) (rest more : List ℕ) → Cut text ls rest → AllShort ls → Halts rest → Cut text ks more → AllShort ks → Halts more → (ls ≡ ks) × (rest ≡ more)
once text [] [] rest more cut short halts cut' short' halts' = (refl, sym cut ∙ cut')
once text [] (k ∷ ks) rest more cut short halts cut' short' halts' =
    absurd (not_long k short'.0 short'.1 (halts k cut'.0 (sym cut ∙ cut'.1) cut'.2))
once text (l ∷ ls) [] rest more cut short halts cut' short' halts' =
    absurd (not_long l short.0 short.1 (halts' l cut.0 (sym cut' ∙ cut.1) cut.2))
once text (l ∷ ls) (k ∷ ks) rest more cut short halts cut' short' halts' =
    let same = longest_once l cut.0 k cut'.0 (sym cut.1 ∙ cut'.1) cut.2 cut'.2 in
    let later = once cut.0 ls ks rest more cut.3 short.2 halts (subst (λ (t : List ℕ). Cut t ks more) (sym same.1) cut'.3) short'.2 halts' in
    (cc (same.0, later.0), later.1)

halts_end : Halts []
halts_end l behind is here = let some = lexeme_some l here.0 in absurd (nothing_left l behind some is)
  where
    nothing_left : (l behind : List ℕ) → 0 < length l → [] ≡ l ++ behind → ⊥
    nothing_left [] behind some is = omega arith
    nothing_left (c ∷ l) behind some is = cc

halts_bad : (rest : List ℕ) → NoLexeme rest → Halts rest
halts_bad rest none l behind is here = absurd (none l behind is here.0)

halts_long : (l behind : List ℕ) → IsLongest l behind → IsLong l → Halts (l ++ behind)
halts_long l behind here long k more is here' = subst IsLong (longest_once l behind k more is here here').0 long

-- ---- the tokens

pub tokens_once : (text : List ℕ) (ts us : List Token) → IsCutInto text ts → IsCutInto text us → ts ≡ us
tokens_once text ts us a b =
    let same = once text a.0 b.0 [] [] a.2.cut a.2.short halts_end b.2.cut b.2.short halts_end in
    a.3 ∙ ap all_tokens same.0 ∙ sym b.3

-- ---- the refusals

-- why lexing halts at the rest, whose place is p
abbrev Reason : List ℕ → Pos → LexError → Type 0
Reason rest p (e.BadUtf8 n) = ⊥
Reason rest p (e.BadChar q) = (q ≡ p) × (0 < length rest) × NoLexeme rest
Reason rest p (e.LongNumber q) = (q ≡ p) × ((l behind : List ℕ) × (rest ≡ l ++ behind) × IsLongest l behind × IsLongNumber (kind_of l))
Reason rest p (e.LongName q) = (q ≡ p) × ((l behind : List ℕ) × (rest ≡ l ++ behind) × IsLongest l behind × IsLongName l (kind_of l))
Reason rest p e.Memory = ⊥

record Halted (text : List ℕ) (error : LexError) : Type 0 where
  ls : List (List ℕ)
  rest : List ℕ
  cut : Cut text ls rest
  short : AllShort ls
  halts : Halts rest
  some : 0 < length rest
  reason : Reason rest (place_behind start ls) error

some_more : (l behind : List ℕ) → 0 < length l → 0 < length (l ++ behind)
some_more [] behind some = absurd (omega arith)
some_more (c ∷ l) behind some = omega arith

halted : (text : List ℕ) (error : LexError) → error ≢ e.Memory → IsRefusedAt text error → Halted text error
halted text (e.BadChar p) sure r = record {
  ls = r.0;
  rest = r.1;
  cut = r.2.cut;
  short = r.2.short;
  halts = halts_bad r.1 r.4;
  some = r.3;
  reason = (r.2.place, r.3, r.4);
}
halted text (e.LongNumber p) sure r = record {
  ls = r.0;
  rest = r.1 ++ r.2;
  cut = r.3.cut;
  short = r.3.short;
  halts = halts_long r.1 r.2 r.4 (inl r.5);
  some = some_more r.1 r.2 (lexeme_some r.1 r.4.0);
  reason = (r.3.place, (r.1, r.2, refl, r.4, r.5));
}
halted text (e.LongName p) sure r = record {
  ls = r.0;
  rest = r.1 ++ r.2;
  cut = r.3.cut;
  short = r.3.short;
  halts = halts_long r.1 r.2 r.4 (inr r.5);
  some = some_more r.1 r.2 (lexeme_some r.1 r.4.0);
  reason = (r.3.place, (r.1, r.2, refl, r.4, r.5));
}
halted text (e.BadUtf8 n) sure r = absurd r
halted text e.Memory sure r = absurd (sure refl)

apart : (l : List ℕ) (kind : Option Kind) → IsLongNumber kind → IsLongName l kind → ⊥
apart l None number name = number
apart l (Some (k.Word w)) number name = number
apart l (Some (k.Number z)) number name = name
apart l (Some (k.Sign n)) number name = number
apart l (Some k.End) number name = number

-- a long number and a long name at one place
apart_here : (rest l behind m more : List ℕ) → rest ≡ l ++ behind → IsLongest l behind → IsLongNumber (kind_of l) → rest ≡ m ++ more → IsLongest m more → IsLongName m (kind_of m) → ⊥
apart_here rest l behind m more is here number is' here' name =
    let same = longest_once l behind m more (sym is ∙ is') here here' in
    apart m (kind_of m) (subst (λ (x : List ℕ). IsLongNumber (kind_of x)) same.0 number) name

one_reason : (rest : List ℕ) (p : Pos) (error other : LexError) → Reason rest p error → Reason rest p other → error ≡ other
one_reason rest p (e.BadUtf8 n) other r s = absurd r
one_reason rest p e.Memory other r s = absurd r
one_reason rest p error (e.BadUtf8 n) r s = absurd s
one_reason rest p error e.Memory r s = absurd s
one_reason rest p (e.BadChar q) (e.BadChar t) r s = ap e.BadChar (r.0 ∙ sym s.0)
one_reason rest p (e.BadChar q) (e.LongNumber t) r s = absurd (r.2 s.1.0 s.1.1 s.1.2 s.1.3.0)
one_reason rest p (e.BadChar q) (e.LongName t) r s = absurd (r.2 s.1.0 s.1.1 s.1.2 s.1.3.0)
one_reason rest p (e.LongNumber q) (e.BadChar t) r s = absurd (s.2 r.1.0 r.1.1 r.1.2 r.1.3.0)
one_reason rest p (e.LongNumber q) (e.LongNumber t) r s = ap e.LongNumber (r.0 ∙ sym s.0)
one_reason rest p (e.LongNumber q) (e.LongName t) r s = absurd (apart_here rest r.1.0 r.1.1 s.1.0 s.1.1 r.1.2 r.1.3 r.1.4 s.1.2 s.1.3 s.1.4)
one_reason rest p (e.LongName q) (e.BadChar t) r s = absurd (s.2 r.1.0 r.1.1 r.1.2 r.1.3.0)
one_reason rest p (e.LongName q) (e.LongNumber t) r s = absurd (apart_here rest s.1.0 s.1.1 r.1.0 r.1.1 s.1.2 s.1.3 s.1.4 r.1.2 r.1.3 r.1.4)
one_reason rest p (e.LongName q) (e.LongName t) r s = ap e.LongName (r.0 ∙ sym s.0)

halted_once : (text : List ℕ) (error other : LexError) → Halted text error → Halted text other → error ≡ other
halted_once text error other a b =
    let same = once text a.ls b.ls a.rest b.rest a.cut a.short a.halts b.cut b.short b.halts in
    one_reason b.rest (place_behind start b.ls) error other
    (subst (λ (ls : List (List ℕ)). Reason b.rest (place_behind start ls) error) same.0 (subst (λ (rest : List ℕ). Reason rest (place_behind start a.ls) error) same.1 a.reason))
    b.reason

not_halted : (text : List ℕ) (ts : List Token) (error : LexError) → IsCutInto text ts → Halted text error → ⊥
not_halted text ts error a b =
    let same = once text a.0 b.ls [] b.rest a.2.cut a.2.short halts_end b.cut b.short b.halts in
    let none : length b.rest ≡ 0 = ap length (sym same.1) in
    omega (arith, none, b.some)

-- ---- the bytes

not_utf8 : (bytes : List ℕ) (n : ℕ) → IsValidUpTo bytes n → IsUtf8 bytes → ⊥
not_utf8 bytes n valid utf8 = valid.longest (length bytes) valid.short (subst IsUtf8 (sym (take_all (length bytes) bytes (omega arith))) utf8)

valid_once : (bytes : List ℕ) (n m : ℕ) → IsValidUpTo bytes n → IsValidUpTo bytes m → n ≡ m
valid_once bytes n m a b =
    let low : n < m → ⊥ = λ h. a.longest m h b.front in
    let high : m < n → ⊥ = λ h. b.longest n h a.front in
    omega (arith, low, high)

pub lexed_once : (bytes : List ℕ) (ts us : List Token) → IsLexed bytes ts → IsLexed bytes us → ts ≡ us
lexed_once bytes ts us a b = tokens_once (chars bytes) ts us a.1 b.1

pub lexed_not_refused : (bytes : List ℕ) (ts : List Token) (error : LexError) → error ≢ e.Memory → IsLexed bytes ts → IsRefusal bytes error → ⊥
lexed_not_refused bytes ts (e.BadUtf8 n) sure a r = not_utf8 bytes n r a.0
lexed_not_refused bytes ts (e.BadChar p) sure a r = not_halted (chars bytes) ts (e.BadChar p) a.1 (halted (chars bytes) (e.BadChar p) sure r.1)
lexed_not_refused bytes ts (e.LongNumber p) sure a r = not_halted (chars bytes) ts (e.LongNumber p) a.1 (halted (chars bytes) (e.LongNumber p) sure r.1)
lexed_not_refused bytes ts (e.LongName p) sure a r = not_halted (chars bytes) ts (e.LongName p) a.1 (halted (chars bytes) (e.LongName p) sure r.1)
lexed_not_refused bytes ts e.Memory sure a r = sure refl

-- beyond bytes that are UTF-8
abbrev Later : List ℕ → LexError → Type 0
Later bytes error = IsUtf8 bytes × Halted (chars bytes) error

abbrev InBytes : List ℕ → LexError → Type 0
InBytes bytes error = ((n : ℕ) × (error ≡ e.BadUtf8 n) × IsValidUpTo bytes n) ⊎ Later bytes error

in_bytes : (bytes : List ℕ) (error : LexError) → error ≢ e.Memory → IsRefusal bytes error → InBytes bytes error
in_bytes bytes (e.BadUtf8 n) sure r = inl (n, refl, r)
in_bytes bytes (e.BadChar p) sure r = inr (r.0, halted (chars bytes) (e.BadChar p) sure r.1)
in_bytes bytes (e.LongNumber p) sure r = inr (r.0, halted (chars bytes) (e.LongNumber p) sure r.1)
in_bytes bytes (e.LongName p) sure r = inr (r.0, halted (chars bytes) (e.LongName p) sure r.1)
in_bytes bytes e.Memory sure r = absurd (sure refl)

one_in_bytes : (bytes : List ℕ) (error other : LexError) → InBytes bytes error → InBytes bytes other → error ≡ other
one_in_bytes bytes error other (inl a) (inl b) = a.1 ∙ ap e.BadUtf8 (valid_once bytes a.0 b.0 a.2 b.2) ∙ sym b.1
one_in_bytes bytes error other (inl a) (inr b) = absurd (not_utf8 bytes a.0 a.2 b.0)
one_in_bytes bytes error other (inr a) (inl b) = absurd (not_utf8 bytes b.0 b.2 a.0)
one_in_bytes bytes error other (inr a) (inr b) = halted_once (chars bytes) error other a.1 b.1

pub refused_once : (bytes : List ℕ) (error other : LexError) → error ≢ e.Memory → other ≢ e.Memory → IsRefusal bytes error → IsRefusal bytes other → error ≡ other
refused_once bytes error other sure certain r s = one_in_bytes bytes error other (in_bytes bytes error sure r) (in_bytes bytes other certain s)

-- ---- a result that is right is the only one

refusal_of : (bytes : List ℕ) (error : LexError) → error ≢ e.Memory → IsUtf8 bytes → IsRefusedAt (chars bytes) error → IsRefusal bytes error
refusal_of bytes (e.BadUtf8 n) sure utf8 r = absurd r
refusal_of bytes (e.BadChar p) sure utf8 r = (utf8, r)
refusal_of bytes (e.LongNumber p) sure utf8 r = (utf8, r)
refusal_of bytes (e.LongName p) sure utf8 r = (utf8, r)
refusal_of bytes e.Memory sure utf8 r = absurd (sure refl)

-- whether an error is want of memory
by_memory : (P : LexError → Type 0) (error : LexError) → P e.Memory → (error ≢ e.Memory → P error) → P error
by_memory P (e.BadUtf8 n) memory other = other (λ h. cc)
by_memory P (e.BadChar p) memory other = other (λ h. cc)
by_memory P (e.LongNumber p) memory other = other (λ h. cc)
by_memory P (e.LongName p) memory other = other (λ h. cc)
by_memory P e.Memory memory other = memory

pub only_tokens : (bytes cs : List ℕ) (r : Result (List Token) LexError) → IsUtf8 bytes → cs ≡ chars bytes → IfOk r (IsCutInto cs) → IfErr r (IsRefusedAt cs) → (ts : List Token) → IsLexed bytes ts → IsButForMemory r (Ok ts)
only_tokens bytes cs (Ok us) utf8 is found refused ts lexed =
    inl (ap Ok (lexed_once bytes us ts (utf8, subst (λ (x : List ℕ). IsCutInto x us) is found) lexed))
only_tokens bytes cs (Err error) utf8 is found refused ts lexed =
    by_memory (λ x. IsRefusedAt cs x → IsButForMemory (Err x) (Ok ts)) error (λ _. inr refl)
    (λ sure r. absurd (lexed_not_refused bytes ts error sure lexed (refusal_of bytes error sure utf8 (subst (λ (x : List ℕ). IsRefusedAt x error) is r))))
    refused

pub only_refusals : (bytes cs : List ℕ) (r : Result (List Token) LexError) → IsUtf8 bytes → cs ≡ chars bytes → IfOk r (IsCutInto cs) → IfErr r (IsRefusedAt cs)
    → (other : LexError) → other ≢ e.Memory → IsRefusal bytes other → IsButForMemory r (Err other)
only_refusals bytes cs (Ok us) utf8 is found refused other certain refusal =
    absurd (lexed_not_refused bytes us other certain (utf8, subst (λ (x : List ℕ). IsCutInto x us) is found) refusal)
only_refusals bytes cs (Err error) utf8 is found refused other certain refusal =
    by_memory (λ x. IsRefusedAt cs x → IsButForMemory (Err x) (Err other)) error (λ _. inr refl)
    (λ sure r. inl (ap Err (refused_once bytes error other sure certain (refusal_of bytes error sure utf8 (subst (λ (x : List ℕ). IsRefusedAt x error) is r)) refusal)))
    refused

-- ---- tokens without limits

cut_once : (text : List ℕ) (ls ks : List (List ℕ)) → Cut text ls [] → Cut text ks [] → ls ≡ ks
cut_once text [] [] a b = refl
cut_once text [] (k ∷ ks) a b = absurd (no_more k b.0 (sym a ∙ b.1) b.2)
  where
    no_more : (l behind : List ℕ) → [] ≡ l ++ behind → IsLongest l behind → ⊥
    no_more [] behind is here = let some = lexeme_some [] here.0 in omega arith
    no_more (c ∷ l) behind is here = cc
cut_once text (l ∷ ls) [] a b = absurd (no_more l a.0 (sym b ∙ a.1) a.2)
  where
    no_more : (l behind : List ℕ) → [] ≡ l ++ behind → IsLongest l behind → ⊥
    no_more [] behind is here = let some = lexeme_some [] here.0 in omega arith
    no_more (c ∷ l) behind is here = cc
cut_once text (l ∷ ls) (k ∷ ks) a b =
    let same = longest_once l a.0 k b.0 (sym a.1 ∙ b.1) a.2 b.2 in
    let later = cut_once a.0 ls ks a.3 (subst (λ (t : List ℕ). Cut t ks []) (sym same.1) b.3) in
    cc (same.0, later)

pub are_tokens_once : (bytes : List ℕ) (ts us : List Token) → AreTokens bytes ts → AreTokens bytes us → ts ≡ us
are_tokens_once bytes ts us a b = a.1.2 ∙ ap all_tokens (cut_once (chars bytes) a.1.0 b.1.0 a.1.1 b.1.1) ∙ sym b.1.2

pub lexed_are_tokens : (bytes : List ℕ) (ts : List Token) → IsLexed bytes ts → AreTokens bytes ts
lexed_are_tokens bytes ts a = (a.0, (a.1.0, a.1.2.cut, a.1.3))
