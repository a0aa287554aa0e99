-- The readers of the grammar's rules, each with the words that mirror its rule.
use Rattle.std.specs.Prelude.{ℕ, zero, suc, ◌+◌, nat_lt, Bool, true, false, cond, List, [], ◌∷◌}
use Rattle.pl_base.specs.declared.pos.Pos.{Pos}
use Rattle.pl_syntax.specs.declared.expr.BinOp.{BinOp}
use Rattle.pl_lexer.specs.declared.tokens.Token.{Token}
use Rattle.pl_readers.specs.Reader.{Reader, one, next, either, nothing, mapped, refuse, deep}
use Rattle.pl_grammar.specs.Signs.{Set, token_in, signs, sign, number, both, signs_of, place_of, entry_of}
use Rattle.pl_grammar.specs.Grammar.{Part, joined, negated, denied, grouped, times, plus, relation, conjunction, disjunction, implication, word_of, literal_of, negative_of}

-- whether a token is in a set
abbrev pub is : Set → Token → Bool
is s = token_in s

abbrev pub sign_at : ℕ → Reader Token Pos
sign_at n = one (place_of n)

-- what P reads, where a level is left for it
abbrev pub where_left : {A : Type 0} → Bool → Reader Token A → Reader Token A
where_left room P xs = cond room (P xs) (deep xs)

-- with which an operand begins that is no number
abbrev pub others : Set
others = record { signs = 16 ∷ 51 ∷ 0 ∷ 52 ∷ 53 ∷ 54 ∷ []; names = true; numbers = false }

-- with which an operand begins
abbrev pub operands : Set
operands = both number others

unfoldable pub chain : List (ℕ × BinOp) → (ℕ → Reader Token Part) → ℕ → ℕ → Part → Reader Token Part
chain ops P depth zero left = either (is (signs_of ops)) deep (nothing left)
chain ops P depth (suc count) left =
    either (is (signs_of ops))
    (where_left (nat_lt left.used depth) (next (one (entry_of ops)) (λ o. next (P (left.used + 1)) (λ right. chain ops P depth count (joined left o right)))))
    (nothing left)

abbrev pub chained : List (ℕ × BinOp) → ℕ → (ℕ → Reader Token Part) → ℕ → Reader Token Part
chained ops depth P used = next (P used) (chain ops P depth depth)

unfoldable pub optional : List (ℕ × BinOp) → (ℕ → Reader Token Part) → ℕ → Part → Reader Token Part
optional ops P depth left =
    either (is (signs_of ops)) (where_left (nat_lt left.used depth) (next (one (entry_of ops)) (λ o. mapped (joined left o) (P (left.used + 1))))) (nothing left)

abbrev pub single : List (ℕ × BinOp) → ℕ → (ℕ → Reader Token Part) → ℕ → Reader Token Part
single ops depth P used = next (P used) (optional ops P depth)

unfoldable pub term_of : ℕ → (ℕ → Reader Token Part) → ℕ → Reader Token Part
term_of depth u = chained times depth u

unfoldable pub sum_of : ℕ → (ℕ → Reader Token Part) → ℕ → Reader Token Part
sum_of depth u = chained plus depth (term_of depth u)

unfoldable pub compare_of : ℕ → (ℕ → Reader Token Part) → ℕ → Reader Token Part
compare_of depth u = single relation depth (sum_of depth u)

unfoldable pub and_of : ℕ → (ℕ → Reader Token Part) → ℕ → Reader Token Part
and_of depth u = chained conjunction depth (compare_of depth u)

unfoldable pub or_of : ℕ → (ℕ → Reader Token Part) → ℕ → Reader Token Part
or_of depth u = chained disjunction depth (and_of depth u)

unfoldable pub expr_of : ℕ → (ℕ → Reader Token Part) → ℕ → Reader Token Part
expr_of depth u = single implication depth (or_of depth u)

unfoldable pub unary_of : (ℕ → Reader Token Part) → ℕ → Reader Token Part
unary_of o used = either (is number) (one (literal_of used)) (o used)

-- the operand of a minus for which no level is left
abbrev pub no_operand : Reader Token Part
no_operand = either (is others) deep refuse

unfoldable pub behind_minus : Reader Token Part → ℕ → Pos → Reader Token Part
behind_minus P used p = either (is number) (one (negative_of used p)) P

unfoldable pub not_of : (ℕ → Reader Token Part) → ℕ → Reader Token Part
not_of o used = next (sign_at 51) (λ p. mapped (denied p) (unary_of o used))

unfoldable pub group_of : ℕ → (ℕ → Reader Token Part) → ℕ → Reader Token Part
group_of depth o used = next (sign_at 0) (λ p. next (expr_of depth (unary_of o) used) (λ x. mapped (λ _. grouped p used x) (sign_at 1)))

-- what P reads where a level is left, else the refusal of a minus's operand
abbrev pub operand_left : Bool → Reader Token Part → Reader Token Part
operand_left room P xs = cond room (P xs) (no_operand xs)

-- a minus, where the last reader is for an operand behind it
abbrev pub minus_then : (Pos → Reader Token Part) → ℕ → Reader Token Part
minus_then P used = next (sign_at 16) (λ p. behind_minus (P p) used p)

unfoldable pub other : ℕ → ℕ → Reader Token Part
other zero used = either (is (sign 16)) (minus_then (λ p. no_operand) used) (either (is (signs (51 ∷ 0 ∷ []))) deep (one (word_of used)))
other (suc depth) used =
    either (is (sign 16)) (minus_then (λ p. operand_left (nat_lt used (suc depth)) (mapped (negated p) (other depth used))) used)
    (either (is (signs (51 ∷ 0 ∷ [])))
    (where_left (nat_lt used (suc depth)) (either (is (sign 51)) (not_of (other depth) used) (group_of depth (other depth) used)))
    (one (word_of used)))

-- a minus and what stands behind it
unfoldable pub minus : ℕ → ℕ → Reader Token Part
minus zero used = minus_then (λ p. no_operand) used
minus (suc depth) used = minus_then (λ p. operand_left (nat_lt used (suc depth)) (mapped (negated p) (other depth used))) used

abbrev pub unary : ℕ → ℕ → Reader Token Part
unary depth = unary_of (other depth)

abbrev pub sum : ℕ → ℕ → Reader Token Part
sum depth = sum_of depth (unary depth)

abbrev pub expression : ℕ → ℕ → Reader Token Part
expression depth = expr_of depth (unary depth)
