-- Operands, at each number of levels.
use Rattle.std.proofs.Common.{◌≡◌, ℕ, zero, suc, ◌+◌, ◌≤◌, ◌||◌, ◌==◌, ◌⊎◌, inl, inr, nat_lt, pos, negsuc, Bool, true, false, List, [], ◌∷◌, ◌++◌, Option, Some, None, refl, sym, ap, arith}
use Rattle.std.proofs.lemmas.Bool.Decides.{nat_tests}
use Rattle.std.proofs.lemmas.Bool.{or_cases}
use Rattle.pl_base.specs.declared.pos.Pos.{Pos}
use Rattle.pl_lexer.specs.declared.tokens.Kind.{Kind}
use Rattle.pl_lexer.specs.declared.tokens.Kind.TheVariants as k
use Rattle.pl_lexer.specs.declared.tokens.Token.{Token}
use Rattle.pl_readers.specs.Language.{Language, One, Then, Either, Void, Mapped, IsViable, HasText, Starts}
use Rattle.pl_readers.specs.Reader.{Reader, begins, one, next, either, mapped, deep}
use Rattle.pl_readers.specs.Reads.{never, Ends, Reads}
use Rattle.pl_readers.proofs.Correct.{Reads-one, Reads-mapped, Reads-then, Reads-either, Reads-deep}
use Rattle.pl_readers.proofs.Firsts.{ends_never, Starts-one, Starts-then, Starts-mapped, Starts-either, Starts-more, others_fail, some_then, some_mapped}
use Rattle.pl_syntax.specs.declared.expr.BinOp.{BinOp}
use Rattle.pl_syntax.specs.Tree as t
use Rattle.pl_syntax.specs.Tree.{Expr}
use Rattle.pl_grammar.specs.Signs.{Set, is_in, kind_in, token_in, signs, sign, number, place_of, look_up}
use Rattle.pl_grammar.specs.Grammar.{Part, Chain, Chained, Optional, Single, times, plus, relation, conjunction, disjunction, implication, Sign, Where, negated, denied, grouped, constants, constant, word_kind, word_of, literal_kind, literal_of, negative_kind, negative_of, TermOf, SumOf, CompareOf, AndOf, OrOf, ExprOf, UnaryOf, BehindMinus, NotOf, GroupOf, Other, Unary, Sum, Expression}
use Rattle.pl_grammar.specs.Readers.{others, operands, sign_at, where_left, no_operand, behind_minus, operand_left, minus_then, not_of, group_of, unary_of, expr_of, other, unary, sum, expression}
use Rattle.pl_grammar.proofs.More.{Reads-alike, Reads-where, Reads-none}
use Rattle.pl_grammar.proofs.Sets.{apart, set_apart, set_inside, token, tokens, place_in, place_is, some_place, found_some, entry_some}
use Rattle.pl_grammar.proofs.Levels.{room_above}
use Rattle.pl_grammar.proofs.Tiers.{IsRead, goes_unary, goes_sum, goes_expr, sum_read, expr_read}

-- ---- single tokens

abbrev none : Token → Bool
none = token_in goes_unary

pub ends_none : (xs : List Token) → Ends none xs
ends_none [] = refl
ends_none (x ∷ xs) = none_kind x.kind
  where
    none_kind : (kk : Kind) → kind_in goes_unary kk ≡ false
    none_kind (k.Word y) = refl
    none_kind (k.Number n) = refl
    none_kind (k.Sign j) = refl
    none_kind k.End = refl

pub sign_some : (n : ℕ) → place_of n (token (k.Sign n)) ≡ Some some_place → HasText (Sign n)
sign_some n e = (some_place, tokens (k.Sign n), (token (k.Sign n), refl, e))

pub sign_starts : (n : ℕ) → Starts (token_in (sign n)) (Sign n)
sign_starts n = Starts-one (token_in (sign n)) (place_of n) (λ x p e. place_in n x p e)

literal_fact : (used : ℕ) (p : Pos) (kk : Kind) (a : Part) → literal_kind used p kk ≡ Some a → (kind_in number kk ≡ true) × (a.used ≡ used)
literal_fact used p (k.Word x) a e = absurd cc
literal_fact used p (k.Number n) a e = (refl, sym (ap (λ (o : Option Part). elim o [ None ↦ used | Some z ↦ z.used ]) e))
literal_fact used p (k.Sign j) a e = absurd cc
literal_fact used p k.End a e = absurd cc

negative_fact : (used : ℕ) (p : Pos) (kk : Kind) (a : Part) → negative_kind used p kk ≡ Some a → (kind_in number kk ≡ true) × (a.used ≡ used)
negative_fact used p (k.Word x) a e = absurd cc
negative_fact used p (k.Number (pos n)) a e = (refl, sym (ap (λ (o : Option Part). elim o [ None ↦ used | Some z ↦ z.used ]) e))
negative_fact used p (k.Number (negsuc n)) a e = absurd cc
negative_fact used p (k.Sign j) a e = absurd cc
negative_fact used p k.End a e = absurd cc

-- with which a word begins
abbrev pub words : Set
words = record { signs = 52 ∷ 53 ∷ 54 ∷ []; names = true; numbers = false }

constant_fact : (used : ℕ) (p : Pos) (j : ℕ) (a : Part) (o : Option (Pos → Expr)) → look_up constants j ≡ o → constant p used o ≡ Some a → (is_in words.signs j ≡ true) × (a.used ≡ used)
constant_fact used p j a None h e = absurd cc
constant_fact used p j a (Some make) h e = (entry_some constants j make h, sym (ap (λ (o : Option Part). elim o [ None ↦ used | Some z ↦ z.used ]) e))

word_fact : (used : ℕ) (p : Pos) (kk : Kind) (a : Part) → word_kind used p kk ≡ Some a → (kind_in words kk ≡ true) × (a.used ≡ used)
word_fact used p (k.Word x) a e = (refl, sym (ap (λ (o : Option Part). elim o [ None ↦ used | Some z ↦ z.used ]) e))
word_fact used p (k.Number n) a e = absurd cc
word_fact used p (k.Sign j) a e = constant_fact used p j a (look_up constants j) refl e
word_fact used p k.End a e = absurd cc

-- each of them is a word
pub word_found : (used : ℕ) (p : Pos) (kk : Kind) → kind_in words kk ≡ true → (a : Part) × (word_kind used p kk ≡ Some a)
word_found used p (k.Word x) e = (record { first = p; tree = t.Var p x; used = used }, refl)
word_found used p (k.Number n) e = absurd cc
word_found used p (k.Sign j) e =
    let found = found_some constants j e in
    (record { first = p; tree = found.0 p; used = used }, ap (constant p used) found.1)
word_found used p k.End e = absurd cc

literal_starts : (used : ℕ) → Starts (token_in number) (One (literal_of used))
literal_starts used = Starts-one (token_in number) (literal_of used) (λ x a e. (literal_fact used x.pos x.kind a e).0)

negative_starts : (used : ℕ) (p : Pos) → Starts (token_in number) (One (negative_of used p))
negative_starts used p = Starts-one (token_in number) (negative_of used p) (λ x a e. (negative_fact used p x.kind a e).0)

word_starts : (used : ℕ) → Starts (token_in words) (One (word_of used))
word_starts used = Starts-one (token_in words) (word_of used) (λ x a e. (word_fact used x.pos x.kind a e).0)

literal_some : (used : ℕ) → HasText (One (literal_of used))
literal_some used = (record { first = some_place; tree = t.Int some_place (pos 0); used = used }, tokens (k.Number (pos 0)), (token (k.Number (pos 0)), refl, refl))

negative_some : (used : ℕ) (p : Pos) → HasText (One (negative_of used p))
negative_some used p = (record { first = p; tree = t.Int p _; used = used }, tokens (k.Number (pos 0)), (token (k.Number (pos 0)), refl, refl))

word_some : (used : ℕ) → HasText (One (word_of used))
word_some used = (record { first = some_place; tree = t.Var some_place []; used = used }, tokens (k.Word []), (token (k.Word []), refl, refl))

-- ---- what is there to read

other_some : (depth used : ℕ) → HasText (Other depth used)
unfolding Other
other_some zero used = let w = word_some used in (w.0, w.1, inr w.2)
other_some (suc depth) used = let w = word_some used in (w.0, w.1, inr (inr w.2))

unary_some : (depth used : ℕ) → HasText (Unary depth used)
unary_some depth used = let w = other_some depth used in (w.0, w.1, inr w.2)

-- a text of one operand is one of each tier
no_more : (ops : List (ℕ × BinOp)) (depth count : ℕ) (T : ℕ → Language Token Part) (left : Part) → HasText (Chain ops T depth count left)
unfolding Chain
no_more ops depth zero T left = (left, [], (refl, refl))
no_more ops depth (suc count) T left = (left, [], inr (refl, refl))

up_chained : (ops : List (ℕ × BinOp)) (depth used : ℕ) (T : ℕ → Language Token Part) → HasText (T used) → HasText (Chained ops depth T used)
up_chained ops depth used T w = some_then (T used) (Chain ops T depth depth) w (λ left. no_more ops depth depth T left)

up_single : (ops : List (ℕ × BinOp)) (depth used : ℕ) (T : ℕ → Language Token Part) → HasText (T used) → HasText (Single ops depth T used)
unfolding Optional
up_single ops depth used T w = some_then (T used) (Optional ops T depth) w (λ left. (left, [], inr (refl, refl)))

expr_some : (depth used : ℕ) → HasText (ExprOf depth (Unary depth) used)
expr_some depth used =
    let U = Unary depth in
    up_single implication depth used (OrOf depth U)
    (up_chained disjunction depth used (AndOf depth U)
    (up_chained conjunction depth used (CompareOf depth U)
    (up_single relation depth used (SumOf depth U)
    (up_chained plus depth used (TermOf depth U)
    (up_chained times depth used U (unary_some depth used))))))

in_where : {A : Type 0} (b : Bool) (T : Language Token A) (a : A) (text : List Token) → b ≡ true → T a text → Where b T a text
in_where true T a text e u = u
in_where false T a text e u = absurd cc

-- ---- with what an operand goes on that begins so

closed : (p : Pos) (used depth : ℕ) → HasText (Then (ExprOf depth (Unary depth) used) (λ x. Mapped (λ _. grouped p used x) (Sign 1)))
closed p used depth = some_then (ExprOf depth (Unary depth) used) (λ x. Mapped (λ _. grouped p used x) (Sign 1)) (expr_some depth used) (λ x. some_mapped (λ _. grouped p used x) (Sign 1) (sign_some 1 refl))

-- "not" and a bracket, over the operands of one level less
abbrev Opened : ℕ → ℕ → Language Token Part
Opened depth used = Either (NotOf (Other depth) used) (GroupOf depth (Other depth) used)

open_cases : (kk : Kind) → kind_in (signs (51 ∷ 0 ∷ [])) kk ≡ true → (kind_in (sign 51) kk ≡ true) ⊎ (kind_in (sign 0) kk ≡ true)
open_cases (k.Word x) h = absurd cc
open_cases (k.Number n) h = absurd cc
open_cases (k.Sign j) h = elim (or_cases (j == 51) _ h) [ inl c ↦ inl (rw c refl) | inr d ↦ inr d ]
open_cases k.End h = absurd cc

second_of : (a b : Bool) → b ≡ true → (a || (b || false)) ≡ true
second_of true b e = refl
second_of false true e = refl
second_of false false e = absurd cc

sign_cases : (j : ℕ) → is_in others.signs j ≡ true → (is_in (16 ∷ []) j ≡ true) ⊎ (is_in (51 ∷ 0 ∷ []) j ≡ true) ⊎ (is_in (52 ∷ 53 ∷ 54 ∷ []) j ≡ true)
sign_cases j h =
    elim (or_cases (j == 16) _ h) [
      | inl a ↦ inl (rw a refl)
      | inr b ↦
          elim (or_cases (j == 51) _ b) [
            | inl c ↦ inr (inl (rw c refl))
            | inr d ↦ elim (or_cases (j == 0) _ d) [ inl e ↦ inr (inl (second_of (j == 51) (j == 0) e)) | inr f ↦ inr (inr f) ]
          ]
    ]

kind_cases : (kk : Kind) → kind_in others kk ≡ true → (kind_in (sign 16) kk ≡ true) ⊎ (kind_in (signs (51 ∷ 0 ∷ [])) kk ≡ true) ⊎ (kind_in words kk ≡ true)
kind_cases (k.Word x) h = inr (inr refl)
kind_cases (k.Number n) h = absurd cc
kind_cases (k.Sign j) h = sign_cases j h
kind_cases k.End h = absurd cc

opened_viable : (depth used : ℕ) (y : Token) → token_in (signs (51 ∷ 0 ∷ [])) y ≡ true → IsViable (Opened depth used) (y ∷ [])
opened_viable depth used y h =
    elim (open_cases y.kind h) [
      | inl a ↦
          let w = unary_some depth used in
          (w.1, denied y.pos w.0, inl (y.pos, y ∷ [], w.1, (y, refl, place_is 51 y a), (w.0, w.2, refl), refl))
      | inr b ↦
          let w = closed y.pos used depth in
          (w.1, w.0, inr (y.pos, y ∷ [], w.1, (y, refl, place_is 0 y b), w.2, refl))
    ]

viable_where : (b : Bool) (T : Language Token Part) (text : List Token) → b ≡ true → IsViable T text → IsViable (Where b T) text
viable_where true T text e v = v
viable_where false T text e v = absurd cc

some_where : (b : Bool) (T : Language Token Part) → b ≡ true → HasText T → HasText (Where b T)
some_where true T e w = w
some_where false T e w = absurd cc

pub where_first : {A : Type 0} (b : Bool) (test : Token → Bool) (T : Language Token A) → Starts test T → Starts test (Where b T)
where_first true test T starts = starts
where_first false test T starts = λ a text t. absurd t

module _ (depth used : ℕ) (room : nat_lt used (suc depth) ≡ true) (y : Token) where
  goes_minus : token_in (sign 16) y ≡ true → IsViable (Other (suc depth) used) (y ∷ [])
  unfolding Other
  goes_minus h =
      let w = negative_some used y.pos in
      (w.1, w.0, inl (y.pos, y ∷ [], w.1, (y, refl, place_is 16 y h), inl w.2, refl))

  goes_opened : token_in (signs (51 ∷ 0 ∷ [])) y ≡ true → IsViable (Other (suc depth) used) (y ∷ [])
  unfolding Other
  goes_opened h =
      let v = viable_where (nat_lt used (suc depth)) (Opened depth used) (y ∷ []) room (opened_viable depth used y h) in
      (v.0, v.1, inr (inl v.2))

  goes_word : token_in words y ≡ true → IsViable (Other (suc depth) used) (y ∷ [])
  unfolding Other
  goes_word h =
      let w = word_found used y.pos y.kind h in
      ([], w.0, inr (inr (y, refl, w.1)))

  pub other_viable : token_in others y ≡ true → IsViable (Other (suc depth) used) (y ∷ [])
  other_viable h =
      elim (kind_cases y.kind h) [
        | inl a ↦ goes_minus a
        | inr b ↦ elim b [ inl c ↦ goes_opened c | inr d ↦ goes_word d ]
      ]

-- ---- what stands behind a minus

module _ (used : ℕ) (p : Pos) (b c : Bool) (e : c ≡ true) (T V : Language Token Part) (P : Reader Token Part) (some : HasText V) (starts : Starts (token_in others) T)
    (viable : (y : Token) → token_in others y ≡ true → IsViable V (y ∷ [])) where
  operand_reads : (b ≡ true → Reads T V none P) → Reads (Where b T) (Where c V) none (operand_left b P)
  operand_reads = by b c e
    where
      by : (b c : Bool) → c ≡ true → (b ≡ true → Reads T V none P) → Reads (Where b T) (Where c V) none (operand_left b P)
      by b false h q = absurd cc
      by true true h q = q refl
      by false true h q = Reads-none (token_in others) V none some viable

  number_fails : (a : Part) (text rest : List Token) → Where b T a text → Ends none rest → begins (token_in number) (text ++ rest) ≡ false
  number_fails a text rest t h = others_fail (token_in others) (token_in number) (Where b T) (where_first b (token_in others) T starts) (set_apart others number refl) a text rest t

  behind_reads : (b ≡ true → Reads T V none P) → Reads (Either (One (negative_of used p)) (Where b T)) (Either (One (negative_of used p)) (Where c V)) none (behind_minus (operand_left b P) used p)
  unfolding behind_minus
  behind_reads q =
      Reads-either (token_in number) (One (negative_of used p)) (One (negative_of used p)) (Where b T) (Where c V) none (one (negative_of used p)) (operand_left b P)
      (Reads-one (negative_of used p) none (negative_some used p)) (operand_reads q) (negative_starts used p) number_fails

minus_then_reads : (used : ℕ) (K K' : Pos → Language Token Part) (r : Pos → Reader Token Part)
    → ((p : Pos) → Reads (K p) (K' p) none (behind_minus (r p) used p)) → ((p : Pos) → HasText (K' p)) → Reads (Then (Sign 16) K) (Then (Sign 16) K') none (minus_then r used)
minus_then_reads used K K' r reads some =
    Reads-then (Sign 16) (Sign 16) K K' never none (sign_at 16) (λ p. behind_minus (r p) used p)
    (Reads-one (place_of 16) never (sign_some 16 refl)) reads some (λ p a back rest u e. ends_never (back ++ rest))

-- ---- operands over those of one level less

module _ (depth : ℕ) (O O' : ℕ → Language Token Part) (o : ℕ → Reader Token Part) (p : IsRead depth O O' goes_unary o) (starts : (used : ℕ) → Starts (token_in others) (O used)) where
  unary_fails : (used : ℕ) (a : Part) (text rest : List Token) → O used a text → Ends none rest → begins (token_in number) (text ++ rest) ≡ false
  unary_fails used a text rest t h = others_fail (token_in others) (token_in number) (O used) (starts used) (set_apart others number refl) a text rest t

  unary_reads : (used : ℕ) → used ≤ depth → Reads (UnaryOf O used) (UnaryOf O' used) none (unary_of o used)
  unfolding unary_of
  unary_reads used h =
      Reads-either (token_in number) (One (literal_of used)) (One (literal_of used)) (O used) (O' used) none (one (literal_of used)) (o used)
      (Reads-one (literal_of used) none (literal_some used)) (p.reads used h) (literal_starts used) (unary_fails used)

  unary_keeps : (used : ℕ) → used ≤ depth → (a : Part) (text : List Token) → UnaryOf O used a text → a.used ≤ depth
  unary_keeps used h a text (inl t) = rw (literal_fact used t.0.pos t.0.kind a t.2).1 h
  unary_keeps used h a text (inr t) = p.keeps used h a text t

  pub unary_read : IsRead depth (UnaryOf O) (UnaryOf O') goes_unary (unary_of o)
  unary_read = record {
    reads = unary_reads;
    keeps = unary_keeps;
    some = λ used. let w = p.some used in (w.0, w.1, inr w.2);
    starts = λ used. Starts-either (token_in operands) (One (literal_of used)) (O used)
        (Starts-more (token_in number) (token_in operands) (One (literal_of used)) (set_inside number operands refl) (literal_starts used))
        (Starts-more (token_in others) (token_in operands) (O used) (set_inside others operands refl) (starts used));
  }

  expr : IsRead depth (ExprOf depth (UnaryOf O)) (ExprOf (suc (suc depth)) (UnaryOf O')) goes_expr (expr_of depth (unary_of o))
  expr = expr_read depth (UnaryOf O) (UnaryOf O') (unary_of o) unary_read

  not_reads : (used : ℕ) → used ≤ depth → Reads (NotOf O used) (NotOf O' used) none (not_of o used)
  unfolding not_of
  not_reads used h =
      Reads-then (Sign 51) (Sign 51) (λ q. Mapped (denied q) (UnaryOf O used)) (λ q. Mapped (denied q) (UnaryOf O' used)) never none (sign_at 51) (λ q. mapped (denied q) (unary_of o used))
      (Reads-one (place_of 51) never (sign_some 51 refl)) (λ q. Reads-mapped (denied q) (UnaryOf O used) (UnaryOf O' used) none (unary_of o used) (unary_reads used h))
      (λ q. some_mapped (denied q) (UnaryOf O' used) (unary_read.some used)) (λ q a back rest u e. ends_never (back ++ rest))

  abbrev Close : Pos → ℕ → Part → Language Token Part
  Close q used x = Mapped (λ _. grouped q used x) (Sign 1)

  close_some : (q : Pos) (used : ℕ) (x : Part) → HasText (Close q used x)
  close_some q used x = some_mapped (λ _. grouped q used x) (Sign 1) (sign_some 1 refl)

  inside_reads : (used : ℕ) (q : Pos) → used ≤ depth → Reads (Then (ExprOf depth (UnaryOf O) used) (Close q used)) (Then (ExprOf (suc (suc depth)) (UnaryOf O') used) (Close q used)) none (next (expr_of depth (unary_of o) used) (λ x. mapped (λ _. grouped q used x) (sign_at 1)))
  inside_reads used q h =
      Reads-then (ExprOf depth (UnaryOf O) used) (ExprOf (suc (suc depth)) (UnaryOf O') used) (Close q used) (Close q used) (token_in goes_expr) none
      (expr_of depth (unary_of o) used) (λ x. mapped (λ _. grouped q used x) (sign_at 1)) (expr.reads used h)
      (λ x. Reads-mapped (λ _. grouped q used x) (Sign 1) (Sign 1) none (sign_at 1) (Reads-one (place_of 1) none (sign_some 1 refl)))
      (close_some q used)
      (λ x a back rest u e. others_fail (token_in (sign 1)) (token_in goes_expr) (Close q used x) (Starts-mapped (token_in (sign 1)) (λ _. grouped q used x) (Sign 1) (sign_starts 1)) (set_apart (sign 1) goes_expr refl) a back rest u)

  group_reads : (used : ℕ) → used ≤ depth → Reads (GroupOf depth O used) (GroupOf (suc (suc depth)) O' used) none (group_of depth o used)
  unfolding group_of
  group_reads used h =
      Reads-then (Sign 0) (Sign 0) (λ q. Then (ExprOf depth (UnaryOf O) used) (Close q used)) (λ q. Then (ExprOf (suc (suc depth)) (UnaryOf O') used) (Close q used)) never none
      (sign_at 0) (λ q. next (expr_of depth (unary_of o) used) (λ x. mapped (λ _. grouped q used x) (sign_at 1)))
      (Reads-one (place_of 0) never (sign_some 0 refl)) (λ q. inside_reads used q h)
      (λ q. some_then (ExprOf (suc (suc depth)) (UnaryOf O') used) (Close q used) (expr.some used) (close_some q used)) (λ q a back rest u e. ends_never (back ++ rest))

  not_starts : (used : ℕ) → Starts (token_in (sign 51)) (NotOf O used)
  not_starts used = Starts-then (token_in (sign 51)) (Sign 51) (λ q. Mapped (denied q) (UnaryOf O used)) (sign_starts 51)

  group_starts : (used : ℕ) → Starts (token_in (sign 0)) (GroupOf depth O used)
  group_starts used = Starts-then (token_in (sign 0)) (Sign 0) (λ q. Then (ExprOf depth (UnaryOf O) used) (Close q used)) (sign_starts 0)

  pub opened_starts : (used : ℕ) → Starts (token_in (signs (51 ∷ 0 ∷ []))) (Either (NotOf O used) (GroupOf depth O used))
  opened_starts used = Starts-either (token_in (signs (51 ∷ 0 ∷ []))) (NotOf O used) (GroupOf depth O used)
      (Starts-more (token_in (sign 51)) (token_in (signs (51 ∷ 0 ∷ []))) (NotOf O used) (set_inside (sign 51) (signs (51 ∷ 0 ∷ [])) refl) (not_starts used))
      (Starts-more (token_in (sign 0)) (token_in (signs (51 ∷ 0 ∷ []))) (GroupOf depth O used) (set_inside (sign 0) (signs (51 ∷ 0 ∷ [])) refl) (group_starts used))

  pub opened_reads : (used : ℕ) → used ≤ depth → Reads (Either (NotOf O used) (GroupOf depth O used)) (Either (NotOf O' used) (GroupOf (suc (suc depth)) O' used)) none (either (token_in (sign 51)) (not_of o used) (group_of depth o used))
  opened_reads used h =
      Reads-either (token_in (sign 51)) (NotOf O used) (NotOf O' used) (GroupOf depth O used) (GroupOf (suc (suc depth)) O' used) none (not_of o used) (group_of depth o used)
      (not_reads used h) (group_reads used h) (not_starts used)
      (λ a text rest t e. others_fail (token_in (sign 0)) (token_in (sign 51)) (GroupOf depth O used) (group_starts used) (set_apart (sign 0) (sign 51) refl) a text rest t)

-- ---- all operands

minus_starts : (K : Pos → Language Token Part) → Starts (token_in (sign 16)) (Then (Sign 16) K)
minus_starts K = Starts-then (token_in (sign 16)) (Sign 16) K (sign_starts 16)

pub other_starts : (depth used : ℕ) → Starts (token_in others) (Other depth used)
unfolding Other
other_starts zero used =
    Starts-either (token_in others) (Then (Sign 16) (λ p. One (negative_of used p))) (One (word_of used))
    (Starts-more (token_in (sign 16)) (token_in others) (Then (Sign 16) (λ p. One (negative_of used p))) (set_inside (sign 16) others refl) (minus_starts (λ p. One (negative_of used p))))
    (Starts-more (token_in words) (token_in others) (One (word_of used)) (set_inside words others refl) (word_starts used))
other_starts (suc depth) used =
    let K = BehindMinus (nat_lt used (suc depth)) (Other depth) used in
    Starts-either (token_in others) (Then (Sign 16) K) (Either (Where (nat_lt used (suc depth)) (Opened depth used)) (One (word_of used)))
    (Starts-more (token_in (sign 16)) (token_in others) (Then (Sign 16) K) (set_inside (sign 16) others refl) (minus_starts K))
    (Starts-either (token_in others) (Where (nat_lt used (suc depth)) (Opened depth used)) (One (word_of used))
    (where_first (nat_lt used (suc depth)) (token_in others) (Opened depth used) (opened_first depth used (other_starts depth)))
    (Starts-more (token_in words) (token_in others) (One (word_of used)) (set_inside words others refl) (word_starts used)))
  where
    opened_first : (depth used : ℕ) → ((used : ℕ) → Starts (token_in others) (Other depth used)) → Starts (token_in others) (Opened depth used)
    opened_first depth used ih = Starts-either (token_in others) (NotOf (Other depth) used) (GroupOf depth (Other depth) used)
        (Starts-more (token_in (sign 51)) (token_in others) (NotOf (Other depth) used) (set_inside (sign 51) others refl)
        (Starts-then (token_in (sign 51)) (Sign 51) (λ q. Mapped (denied q) (UnaryOf (Other depth) used)) (sign_starts 51)))
        (Starts-more (token_in (sign 0)) (token_in others) (GroupOf depth (Other depth) used) (set_inside (sign 0) others refl)
        (Starts-then (token_in (sign 0)) (Sign 0) (λ q. Then (ExprOf depth (UnaryOf (Other depth)) used) (λ x. Mapped (λ _. grouped q used x) (Sign 1))) (sign_starts 0)))

word_fails : (test : Set) → apart words test ≡ true → (used : ℕ) (a : Part) (text rest : List Token) → One (word_of used) a text → Ends none rest → begins (token_in test) (text ++ rest) ≡ false
word_fails test e used a text rest t h = others_fail (token_in words) (token_in test) (One (word_of used)) (word_starts used) (set_apart words test e) a text rest t

-- what follows a minus is tried first
not_minus : (depth used : ℕ) (b : Bool) → Starts (token_in (signs (51 ∷ 0 ∷ []))) (Opened depth used) → (a : Part) (text rest : List Token) → Either (Where b (Opened depth used)) (One (word_of used)) a text → Ends none rest
    → begins (token_in (sign 16)) (text ++ rest) ≡ false
not_minus depth used b starts a text rest (inl t) h =
    others_fail (token_in (signs (51 ∷ 0 ∷ []))) (token_in (sign 16)) (Where b (Opened depth used)) (where_first b (token_in (signs (51 ∷ 0 ∷ []))) (Opened depth used) starts) (set_apart (signs (51 ∷ 0 ∷ [])) (sign 16) refl) a text rest t
not_minus depth used b starts a text rest (inr t) h = word_fails (sign 16) refl used a text rest t h

behind_some : (used : ℕ) (p : Pos) (T : Language Token Part) → HasText (Either (One (negative_of used p)) T)
behind_some used p T = let w = negative_some used p in (w.0, w.1, inl w.2)

negated_viable : (depth used : ℕ) (p : Pos) → nat_lt used (suc depth) ≡ true → (y : Token) → token_in others y ≡ true → IsViable (Mapped (negated p) (Other (suc depth) used)) (y ∷ [])
negated_viable depth used p room y h =
    let v = other_viable depth used room y h in
    (v.0, negated p v.1, (v.1, v.2, refl))

negated_some : (depth used : ℕ) (p : Pos) → HasText (Mapped (negated p) (Other depth used))
negated_some depth used p = some_mapped (negated p) (Other depth used) (other_some depth used)

opened_some : (depth used : ℕ) → HasText (Opened depth used)
opened_some depth used =
    let w = unary_some depth used in
    let v = some_then (Sign 51) (λ q. Mapped (denied q) (Unary depth used)) (sign_some 51 refl) (λ q. some_mapped (denied q) (Unary depth used) w) in
    (v.0, v.1, inl v.2)

word_here : (b : Bool) (depth used : ℕ) → HasText (Either (Where b (Opened depth used)) (One (word_of used)))
word_here b depth used = let w = word_some used in (w.0, w.1, inr w.2)

other_is_operand : (depth used : ℕ) → Starts (token_in operands) (Other depth used)
other_is_operand depth used = Starts-more (token_in others) (token_in operands) (Other depth used) (set_inside others operands refl) (other_starts depth used)

room_over : (used depth : ℕ) → used ≤ suc depth → nat_lt used (suc (suc depth)) ≡ true
room_over used depth h = grind (arith, nat_tests)

below : (used depth : ℕ) → nat_lt used (suc depth) ≡ true → used ≤ depth
below used depth h = grind (arith, nat_tests)

only_number : (used : ℕ) (p : Pos) (a : Part) (text : List Token) → Either (One (negative_of used p)) Void a text → One (negative_of used p) a text
only_number used p a text (inl t) = t
only_number used p a text (inr t) = absurd t

-- where no level is left
zero_minus : (used : ℕ) → used ≤ 0 → Reads (Then (Sign 16) (λ p. One (negative_of used p))) (Then (Sign 16) (BehindMinus (nat_lt used 2) (Other 1) used)) none (minus_then (λ p. no_operand) used)
zero_minus used h =
    minus_then_reads used (λ p. One (negative_of used p)) (BehindMinus (nat_lt used 2) (Other 1) used) (λ p. no_operand)
    (λ p. Reads-alike (Either (One (negative_of used p)) Void) (One (negative_of used p)) (BehindMinus (nat_lt used 2) (Other 1) used p) none (behind_minus no_operand used p)
    (only_number used p) (λ a text t. inl t)
    (behind_reads used p false (nat_lt used 2) (room_above used 0 h) (Mapped (negated p) (Other 0 used)) (Mapped (negated p) (Other 1 used)) no_operand (negated_some 1 used p)
    (Starts-mapped (token_in others) (negated p) (Other 0 used) (other_starts 0 used)) (negated_viable 0 used p (grind (arith, nat_tests))) (λ e. absurd cc)))
    (λ p. behind_some used p (Where (nat_lt used 2) (Mapped (negated p) (Other 1 used))))

zero_reads : (used : ℕ) → used ≤ 0 → Reads (Other 0 used) (Other 2 used) none (other 0 used)
unfolding Other other
zero_reads used h =
    Reads-either (token_in (sign 16)) (Then (Sign 16) (λ p. One (negative_of used p))) (Then (Sign 16) (BehindMinus (nat_lt used 2) (Other 1) used))
    (One (word_of used)) (Either (Where (nat_lt used 2) (Opened 1 used)) (One (word_of used))) none (minus_then (λ p. no_operand) used) (either (token_in (signs (51 ∷ 0 ∷ []))) deep (one (word_of used)))
    (zero_minus used h)
    (Reads-deep (token_in (signs (51 ∷ 0 ∷ []))) Void (Where (nat_lt used 2) (Opened 1 used)) (One (word_of used)) (One (word_of used)) none (one (word_of used)) (one (word_of used))
    (Reads-one (word_of used) none (word_some used)) (word_some used) (λ y e. viable_where (nat_lt used 2) (Opened 1 used) (y ∷ []) (room_above used 0 h) (opened_viable 1 used y e))
    (word_fails (signs (51 ∷ 0 ∷ [])) refl used))
    (minus_starts (λ p. One (negative_of used p))) (word_fails (sign 16) refl used)

module _ (depth : ℕ) (p : IsRead depth (Other depth) (Other (suc (suc depth))) goes_unary (other depth)) where
  suc_minus : (used : ℕ) → used ≤ suc depth
      → Reads (Then (Sign 16) (BehindMinus (nat_lt used (suc depth)) (Other depth) used)) (Then (Sign 16) (BehindMinus (nat_lt used (suc (suc (suc depth)))) (Other (suc (suc depth))) used)) none
      (minus_then (λ q. operand_left (nat_lt used (suc depth)) (mapped (negated q) (other depth used))) used)
  suc_minus used h =
      minus_then_reads used (BehindMinus (nat_lt used (suc depth)) (Other depth) used) (BehindMinus (nat_lt used (suc (suc (suc depth)))) (Other (suc (suc depth))) used)
      (λ q. operand_left (nat_lt used (suc depth)) (mapped (negated q) (other depth used)))
      (λ q. behind_reads used q (nat_lt used (suc depth)) (nat_lt used (suc (suc (suc depth)))) (room_above used (suc depth) h) (Mapped (negated q) (Other depth used)) (Mapped (negated q) (Other (suc (suc depth)) used))
      (mapped (negated q) (other depth used)) (negated_some (suc (suc depth)) used q) (Starts-mapped (token_in others) (negated q) (Other depth used) (other_starts depth used))
      (negated_viable (suc depth) used q (room_over used depth h)) (λ e. Reads-mapped (negated q) (Other depth used) (Other (suc (suc depth)) used) none (other depth used) (p.reads used (below used depth e))))
      (λ q. behind_some used q (Where (nat_lt used (suc (suc (suc depth)))) (Mapped (negated q) (Other (suc (suc depth)) used))))

  suc_reads : (used : ℕ) → used ≤ suc depth → Reads (Other (suc depth) used) (Other (suc (suc (suc depth))) used) none (other (suc depth) used)
  unfolding Other other
  suc_reads used h =
      let starts = opened_starts depth (Other depth) (Other (suc (suc depth))) (other depth) p (other_starts depth) used in
      Reads-either (token_in (sign 16)) (Then (Sign 16) (BehindMinus (nat_lt used (suc depth)) (Other depth) used)) (Then (Sign 16) (BehindMinus (nat_lt used (suc (suc (suc depth)))) (Other (suc (suc depth))) used))
      (Either (Where (nat_lt used (suc depth)) (Opened depth used)) (One (word_of used))) (Either (Where (nat_lt used (suc (suc (suc depth)))) (Opened (suc (suc depth)) used)) (One (word_of used))) none
      (minus_then (λ q. operand_left (nat_lt used (suc depth)) (mapped (negated q) (other depth used))) used)
      (either (token_in (signs (51 ∷ 0 ∷ []))) (where_left (nat_lt used (suc depth)) (either (token_in (sign 51)) (not_of (other depth) used) (group_of depth (other depth) used))) (one (word_of used)))
      (suc_minus used h)
      (Reads-where (token_in (signs (51 ∷ 0 ∷ []))) (Opened depth used) (Opened (suc (suc depth)) used) (One (word_of used)) (One (word_of used)) none
      (either (token_in (sign 51)) (not_of (other depth) used) (group_of depth (other depth) used)) (one (word_of used))
      (nat_lt used (suc depth)) (nat_lt used (suc (suc (suc depth)))) (room_above used (suc depth) h)
      (λ e. opened_reads depth (Other depth) (Other (suc (suc depth))) (other depth) p (other_starts depth) used (below used depth e))
      (Reads-one (word_of used) none (word_some used)) (word_some used) starts (opened_viable (suc (suc depth)) used) (word_fails (signs (51 ∷ 0 ∷ [])) refl used))
      (minus_starts (BehindMinus (nat_lt used (suc depth)) (Other depth) used)) (not_minus depth used (nat_lt used (suc depth)) starts)

number_keeps : (used limit : ℕ) (p : Pos) (a : Part) (text : List Token) → used ≤ limit → One (negative_of used p) a text → a.used ≤ limit
number_keeps used limit p a text h t = rw (negative_fact used p t.0.kind a t.2).1 h

word_keeps : (used limit : ℕ) (a : Part) (text : List Token) → used ≤ limit → One (word_of used) a text → a.used ≤ limit
word_keeps used limit a text h t = rw (word_fact used t.0.pos t.0.kind a t.2).1 h

raise : (a b n : ℕ) → a ≡ b + 1 → b ≤ n → a ≤ suc n
raise a b n e h = omega arith

module _ (depth : ℕ) (p : IsRead depth (Other depth) (Other (suc (suc depth))) goes_unary (other depth)) where
  minus_keeps : (b : Bool) (used : ℕ) (q : Pos) (a : Part) (text : List Token) → nat_lt used (suc depth) ≡ b → used ≤ suc depth → BehindMinus b (Other depth) used q a text → a.used ≤ suc depth
  minus_keeps b used q a text e h (inl t) = number_keeps used (suc depth) q a text h t
  minus_keeps true used q a text e h (inr t) = raise a.used t.0.used depth (ap (λ (z : Part). z.used) t.2) (p.keeps used (below used depth e) t.0 text t.1)
  minus_keeps false used q a text e h (inr t) = absurd t

  opened_keeps : (b : Bool) (used : ℕ) (a : Part) (text : List Token) → nat_lt used (suc depth) ≡ b → used ≤ suc depth → Where b (Opened depth used) a text → a.used ≤ suc depth
  opened_keeps true used a text e h (inl t) =
      let inner = t.4 in
      raise a.used inner.0.used depth (ap (λ (z : Part). z.used) inner.2) ((unary_read depth (Other depth) (Other (suc (suc depth))) (other depth) p (other_starts depth)).keeps used (below used depth e) inner.0 t.2 inner.1)
  opened_keeps true used a text e h (inr t) = rw t.4.4.2 h
  opened_keeps false used a text e h t = absurd t

  suc_keeps : (used : ℕ) → used ≤ suc depth → (a : Part) (text : List Token) → Other (suc depth) used a text → a.used ≤ suc depth
  unfolding Other
  suc_keeps used h a text (inl t) = minus_keeps (nat_lt used (suc depth)) used t.0 a t.2 refl h t.4
  suc_keeps used h a text (inr (inl t)) = opened_keeps (nat_lt used (suc depth)) used a text refl h t
  suc_keeps used h a text (inr (inr t)) = word_keeps used (suc depth) a text h t

zero_keeps : (used : ℕ) → used ≤ 0 → (a : Part) (text : List Token) → Other 0 used a text → a.used ≤ 0
unfolding Other
zero_keeps used h a text (inl t) = number_keeps used 0 t.0 a t.2 h t.4
zero_keeps used h a text (inr t) = word_keeps used 0 a text h t

pub other_read : (depth : ℕ) → IsRead depth (Other depth) (Other (suc (suc depth))) goes_unary (other depth)
other_read zero = record { reads = zero_reads; keeps = zero_keeps; some = other_some 2; starts = λ used. other_is_operand 0 used }
other_read (suc depth) = record { reads = suc_reads depth (other_read depth); keeps = suc_keeps depth (other_read depth); some = other_some (suc (suc (suc depth))); starts = λ used. other_is_operand (suc depth) used }

pub unary_is_read : (depth : ℕ) → IsRead depth (Unary depth) (Unary (suc (suc depth))) goes_unary (unary depth)
unary_is_read depth = unary_read depth (Other depth) (Other (suc (suc depth))) (other depth) (other_read depth) (other_starts depth)

pub expression_read : (depth : ℕ) → IsRead depth (Expression depth) (Expression (suc (suc depth))) goes_expr (expression depth)
unfolding Expression
expression_read depth = expr_read depth (Unary depth) (Unary (suc (suc depth))) (unary depth) (unary_is_read depth)

pub sum_is_read : (depth : ℕ) → IsRead depth (Sum depth) (Sum (suc (suc depth))) goes_sum (sum depth)
unfolding Sum
sum_is_read depth = sum_read depth (Unary depth) (Unary (suc (suc depth))) (unary depth) (unary_is_read depth)
