-- One level more answers alike, but where the first stops at a level too many.
use Rattle.std.proofs.Common.{◌≡◌, ℕ, zero, suc, ◌+◌, ◌||◌, ◌==◌, map, nat_lt, Bool, true, false, cond, List, [], ◌∷◌, Option, Some, None, Ok, Err, refl, sym, ap, length, arith}
use Rattle.std.proofs.lemmas.Bool.Decides.{nat_tests}
use Rattle.pl_base.specs.declared.pos.Pos.{Pos}
use Rattle.pl_readers.specs.declared.error.Stop.{Stop}
use Rattle.pl_readers.specs.Reader.{Reader, begins, one, next, either, nothing, mapped, deep, refuse}
use Rattle.pl_readers.specs.Reads.{Agrees}
use Rattle.pl_readers.proofs.Correct.{err_left}
use Rattle.pl_readers.proofs.Levels.{Agrees-same, Agrees-then, Agrees-mapped, Agrees-either}
use Rattle.pl_syntax.specs.declared.expr.BinOp.{BinOp}
use Rattle.pl_lexer.specs.declared.tokens.Token.{Token}
use Rattle.pl_lexer.specs.declared.tokens.Kind.{Kind}
use Rattle.pl_lexer.specs.declared.tokens.Kind.TheVariants as k
use Rattle.pl_grammar.proofs.Sets.{set_outside}
use Rattle.pl_grammar.proofs.Operands.{words}
use Rattle.pl_grammar.specs.Signs.{is_in, kind_in, look_up, token_in, signs, sign, number, signs_of, entry_of}
use Rattle.pl_grammar.specs.Grammar.{Part, joined, negated, denied, grouped, times, plus, relation, conjunction, disjunction, implication, constants, constant, word_kind, word_of, literal_of, negative_of}
use Rattle.pl_grammar.specs.Readers.{others, sign_at, where_left, chain, chained, optional, single, term_of, sum_of, compare_of, and_of, or_of, expr_of, unary_of, no_operand, behind_minus, operand_left, minus_then, not_of, group_of, other, unary, sum, expression}

-- behind one reader, two that agree
pub behind : {A B : Type 0} (P : Reader Token A) (Q Q' : A → Reader Token B) → ((a : A) → Agrees (Q a) (Q' a)) → Agrees (next P Q) (next P Q')
behind P Q Q' q = Agrees-then P P Q Q' (Agrees-same P) q

-- two that agree, and then the same
pub before : {A B : Type 0} (P P' : Reader Token A) (Q : A → Reader Token B) → Agrees P P' → Agrees (next P Q) (next P' Q)
before P P' Q p = Agrees-then P P' Q Q p (λ a. Agrees-same (Q a))

-- a level too many agrees with all
pub Agrees-stop : {A : Type 0} (P : Reader Token A) → Agrees deep P
Agrees-stop {A} P = record {
  ok = λ xs x e. absurd cc;
  err = λ xs s e d.
      let e1 = ap (λ (z : Stop). z.is_deep) (err_left (A × List Token) (record { is_deep = true; left = length xs }) s e) in absurd cc;
}

pub Agrees-where : {A : Type 0} (b c : Bool) (P P' : Reader Token A) → (b ≡ true → c ≡ true) → Agrees P P' → Agrees (where_left b P) (where_left c P')
Agrees-where true true P P' h p = p
Agrees-where true false P P' h p = let e = h refl in absurd cc
Agrees-where false c P P' h p = Agrees-stop (where_left c P')

pub more_room : (used depth : ℕ) → nat_lt used depth ≡ true → nat_lt used (suc depth) ≡ true
more_room used depth h = grind (arith, nat_tests)

module _ (ops : List (ℕ × BinOp)) (P P' : ℕ → Reader Token Part) (p : (used : ℕ) → Agrees (P used) (P' used)) (depth : ℕ) where
  chain_agrees : (count : ℕ) (left : Part) → Agrees (chain ops P depth count left) (chain ops P' (suc depth) (suc count) left)
  unfolding chain
  chain_agrees zero left = Agrees-either (token_in (signs_of ops)) _ _ _ _
      (Agrees-stop (where_left (nat_lt left.used (suc depth)) (next (one (entry_of ops)) (λ o. next (P' (left.used + 1)) (λ right. chain ops P' (suc depth) 0 (joined left o right))))))
      (Agrees-same (nothing left))
  chain_agrees (suc count) left = Agrees-either (token_in (signs_of ops)) _ _ _ _
      (Agrees-where (nat_lt left.used depth) (nat_lt left.used (suc depth)) (next (one (entry_of ops)) (λ o. next (P (left.used + 1)) (λ right. chain ops P depth count (joined left o right))))
      (next (one (entry_of ops)) (λ o. next (P' (left.used + 1)) (λ right. chain ops P' (suc depth) (suc count) (joined left o right)))) (more_room left.used depth)
      (behind (one (entry_of ops)) (λ o. next (P (left.used + 1)) (λ right. chain ops P depth count (joined left o right))) (λ o. next (P' (left.used + 1)) (λ right. chain ops P' (suc depth) (suc count) (joined left o right)))
      (λ o. Agrees-then (P (left.used + 1)) (P' (left.used + 1)) (λ right. chain ops P depth count (joined left o right)) (λ right. chain ops P' (suc depth) (suc count) (joined left o right)) (p (left.used + 1)) (λ right. chain_agrees count (joined left o right)))))
      (Agrees-same (nothing left))

  pub chained_agrees : (used : ℕ) → Agrees (chained ops depth P used) (chained ops (suc depth) P' used)
  chained_agrees used = Agrees-then (P used) (P' used) (chain ops P depth depth) (chain ops P' (suc depth) (suc depth)) (p used) (chain_agrees depth)

  optional_agrees : (left : Part) → Agrees (optional ops P depth left) (optional ops P' (suc depth) left)
  unfolding optional
  optional_agrees left = Agrees-either (token_in (signs_of ops)) _ _ _ _
      (Agrees-where (nat_lt left.used depth) (nat_lt left.used (suc depth)) (next (one (entry_of ops)) (λ o. mapped (joined left o) (P (left.used + 1)))) (next (one (entry_of ops)) (λ o. mapped (joined left o) (P' (left.used + 1))))
      (more_room left.used depth) (behind (one (entry_of ops)) (λ o. mapped (joined left o) (P (left.used + 1))) (λ o. mapped (joined left o) (P' (left.used + 1))) (λ o. Agrees-mapped (joined left o) (P (left.used + 1)) (P' (left.used + 1)) (p (left.used + 1)))))
      (Agrees-same (nothing left))

  pub single_agrees : (used : ℕ) → Agrees (single ops depth P used) (single ops (suc depth) P' used)
  single_agrees used = Agrees-then (P used) (P' used) (optional ops P depth) (optional ops P' (suc depth)) (p used) optional_agrees

module _ (depth : ℕ) (P P' : ℕ → Reader Token Part) (p : (used : ℕ) → Agrees (P used) (P' used)) where
  pub term_agrees : (used : ℕ) → Agrees (term_of depth P used) (term_of (suc depth) P' used)
  unfolding term_of
  term_agrees = chained_agrees times P P' p depth

  pub sum_agrees : (used : ℕ) → Agrees (sum_of depth P used) (sum_of (suc depth) P' used)
  unfolding sum_of
  sum_agrees = chained_agrees plus (term_of depth P) (term_of (suc depth) P') term_agrees depth

  pub compare_agrees : (used : ℕ) → Agrees (compare_of depth P used) (compare_of (suc depth) P' used)
  unfolding compare_of
  compare_agrees = single_agrees relation (sum_of depth P) (sum_of (suc depth) P') sum_agrees depth

  pub and_agrees : (used : ℕ) → Agrees (and_of depth P used) (and_of (suc depth) P' used)
  unfolding and_of
  and_agrees = chained_agrees conjunction (compare_of depth P) (compare_of (suc depth) P') compare_agrees depth

  pub or_agrees : (used : ℕ) → Agrees (or_of depth P used) (or_of (suc depth) P' used)
  unfolding or_of
  or_agrees = chained_agrees disjunction (and_of depth P) (and_of (suc depth) P') and_agrees depth

  pub expr_agrees : (used : ℕ) → Agrees (expr_of depth P used) (expr_of (suc depth) P' used)
  unfolding expr_of
  expr_agrees = single_agrees implication (or_of depth P) (or_of (suc depth) P') or_agrees depth

module _ (o o' : ℕ → Reader Token Part) (p : (used : ℕ) → Agrees (o used) (o' used)) where
  pub unary_of_agrees : (used : ℕ) → Agrees (unary_of o used) (unary_of o' used)
  unfolding unary_of
  unary_of_agrees used = Agrees-either (token_in number) (one (literal_of used)) (one (literal_of used)) (o used) (o' used) (Agrees-same (one (literal_of used))) (p used)

  not_agrees : (used : ℕ) → Agrees (not_of o used) (not_of o' used)
  unfolding not_of
  not_agrees used = behind (sign_at 51) (λ q. mapped (denied q) (unary_of o used)) (λ q. mapped (denied q) (unary_of o' used)) (λ q. Agrees-mapped (denied q) (unary_of o used) (unary_of o' used) (unary_of_agrees used))

  group_agrees : (depth used : ℕ) → Agrees (group_of depth o used) (group_of (suc depth) o' used)
  unfolding group_of
  group_agrees depth used = behind (sign_at 0) _ _ (λ q. before (expr_of depth (unary_of o) used) (expr_of (suc depth) (unary_of o') used) (λ x. mapped (λ _. grouped q used x) (sign_at 1)) (expr_agrees depth (unary_of o) (unary_of o') unary_of_agrees used))

  pub opened_agrees : (depth used : ℕ) → Agrees (either (token_in (sign 51)) (not_of o used) (group_of depth o used)) (either (token_in (sign 51)) (not_of o' used) (group_of (suc depth) o' used))
  opened_agrees depth used = Agrees-either (token_in (sign 51)) (not_of o used) (not_of o' used) (group_of depth o used) (group_of (suc depth) o' used) (not_agrees used) (group_agrees depth used)

behind_minus_agrees : (used : ℕ) (p : Pos) (P P' : Reader Token Part) → Agrees P P' → Agrees (behind_minus P used p) (behind_minus P' used p)
unfolding behind_minus
behind_minus_agrees used p P P' h = Agrees-either (token_in number) (one (negative_of used p)) (one (negative_of used p)) P P' (Agrees-same (one (negative_of used p))) h

minus_agrees : (used : ℕ) (r r' : Pos → Reader Token Part) → ((p : Pos) → Agrees (r p) (r' p)) → Agrees (minus_then r used) (minus_then r' used)
minus_agrees used r r' h = behind (sign_at 16) (λ p. behind_minus (r p) used p) (λ p. behind_minus (r' p) used p) (λ p. behind_minus_agrees used p (r p) (r' p) (h p))

-- ---- where no operand begins

no_entry : {A : Type 0} (b : A) (c inner : Bool) (rest : Option A) → (c || inner) ≡ false → (inner ≡ false → rest ≡ None) → cond c (Some b) rest ≡ None
no_entry b true inner rest e h = absurd cc
no_entry b false inner rest e h = h e

not_listed : {A : Type 0} (table : List (ℕ × A)) (j : ℕ) → is_in (map (λ e. e.0) table) j ≡ false → look_up table j ≡ None
not_listed [] j e = refl
not_listed ((n, b) ∷ rest) j e = no_entry b (j == n) (is_in (map (λ z. z.0) rest) j) (look_up rest j) e (λ h. not_listed rest j h)

no_word : (used : ℕ) (p : Pos) (kk : Kind) → kind_in words kk ≡ false → word_kind used p kk ≡ None
no_word used p (k.Word x) e = absurd cc
no_word used p (k.Number n) e = refl
no_word used p (k.Sign j) e = ap (constant p used) (not_listed constants j e)
no_word used p k.End e = refl

refused_word : (used : ℕ) (x : Token) (xs : List Token) → token_in words x ≡ false → one (word_of used) (x ∷ xs) ≡ Err (record { is_deep = false; left = length (x ∷ xs) })
refused_word used x xs e = rw (no_word used x.pos x.kind e) refl

no_other : (depth used : ℕ) (xs : List Token) → begins (token_in others) xs ≡ false → other depth used xs ≡ Err (record { is_deep = false; left = length xs })
unfolding other
no_other zero used [] e = refl
no_other zero used (x ∷ xs) e = rw (set_outside (sign 16) others refl x e, set_outside (signs (51 ∷ 0 ∷ [])) others refl x e) (refused_word used x xs (set_outside words others refl x e))
no_other (suc depth) used [] e = refl
no_other (suc depth) used (x ∷ xs) e = rw (set_outside (sign 16) others refl x e, set_outside (signs (51 ∷ 0 ∷ [])) others refl x e) (refused_word used x xs (set_outside words others refl x e))

refused_mapped : (f : Part → Part) (P : Reader Token Part) (xs : List Token) (s : Stop) → P xs ≡ Err s → mapped f P xs ≡ Err s
refused_mapped f P xs s e = rw e refl

none_ok : (b : Bool) (xs : List Token) (x : Part × List Token) → cond b (deep {A = Part} xs) (refuse xs) ≡ Ok x → ⊥
none_ok true xs x e = absurd cc
none_ok false xs x e = absurd cc

none_err : (b : Bool) (xs : List Token) (s : Stop) → cond b (deep {A = Part} xs) (refuse xs) ≡ Err s → s.is_deep ≡ false → (b ≡ false) × (s ≡ record { is_deep = false; left = length xs })
none_err true xs s e d = let e1 = ap (λ (z : Stop). z.is_deep) (err_left (Part × List Token) (record { is_deep = true; left = length xs }) s e) in absurd cc
none_err false xs s e d = (refl, sym (err_left (Part × List Token) (record { is_deep = false; left = length xs }) s e))

-- what is refused behind a minus without a level is refused with one
none_agrees : (depth used : ℕ) (p : Pos) → Agrees no_operand (mapped (negated p) (other depth used))
none_agrees depth used p = record {
  ok = λ xs x e. absurd (none_ok (begins (token_in others) xs) xs x e);
  err = λ xs s e d.
      let w = none_err (begins (token_in others) xs) xs s e d in
      rw w.1 (refused_mapped (negated p) (other depth used) xs (record { is_deep = false; left = length xs }) (no_other depth used xs w.0));
}

left_agrees : (b c : Bool) (P P' : Reader Token Part) → (b ≡ true → c ≡ true) → Agrees P P' → Agrees no_operand P' → Agrees (operand_left b P) (operand_left c P')
left_agrees true true P P' h p none = p
left_agrees true false P P' h p none = let e = h refl in absurd cc
left_agrees false true P P' h p none = none
left_agrees false false P P' h p none = Agrees-same no_operand

pub other_agrees : (depth used : ℕ) → Agrees (other depth used) (other (suc depth) used)
unfolding other
other_agrees zero used =
    Agrees-either (token_in (sign 16)) (minus_then (λ p. no_operand) used) (minus_then (λ p. operand_left (nat_lt used 1) (mapped (negated p) (other 0 used))) used) _ _
    (minus_agrees used (λ p. operand_left false (mapped (negated p) (other 0 used))) (λ p. operand_left (nat_lt used 1) (mapped (negated p) (other 0 used)))
    (λ p. left_agrees false (nat_lt used 1) (mapped (negated p) (other 0 used)) (mapped (negated p) (other 0 used)) (λ e. absurd cc) (Agrees-same (mapped (negated p) (other 0 used))) (none_agrees 0 used p)))
    (Agrees-either (token_in (signs (51 ∷ 0 ∷ []))) deep _ _ _ (Agrees-stop (where_left (nat_lt used 1) (either (token_in (sign 51)) (not_of (other 0) used) (group_of 0 (other 0) used)))) (Agrees-same (one (word_of used))))
other_agrees (suc depth) used =
    Agrees-either (token_in (sign 16)) (minus_then (λ p. operand_left (nat_lt used (suc depth)) (mapped (negated p) (other depth used))) used)
    (minus_then (λ p. operand_left (nat_lt used (suc (suc depth))) (mapped (negated p) (other (suc depth) used))) used) _ _
    (minus_agrees used (λ p. operand_left (nat_lt used (suc depth)) (mapped (negated p) (other depth used))) (λ p. operand_left (nat_lt used (suc (suc depth))) (mapped (negated p) (other (suc depth) used)))
    (λ p. left_agrees (nat_lt used (suc depth)) (nat_lt used (suc (suc depth))) (mapped (negated p) (other depth used)) (mapped (negated p) (other (suc depth) used)) (more_room used (suc depth))
    (Agrees-mapped (negated p) (other depth used) (other (suc depth) used) (other_agrees depth used)) (none_agrees (suc depth) used p)))
    (Agrees-either (token_in (signs (51 ∷ 0 ∷ []))) _ _ _ _
    (Agrees-where (nat_lt used (suc depth)) (nat_lt used (suc (suc depth))) (either (token_in (sign 51)) (not_of (other depth) used) (group_of depth (other depth) used))
    (either (token_in (sign 51)) (not_of (other (suc depth)) used) (group_of (suc depth) (other (suc depth)) used)) (more_room used (suc depth))
    (opened_agrees (other depth) (other (suc depth)) (other_agrees depth) depth used))
    (Agrees-same (one (word_of used))))

pub expression_agrees : (depth used : ℕ) → Agrees (expression depth used) (expression (suc depth) used)
expression_agrees depth used = expr_agrees depth (unary depth) (unary (suc depth)) (unary_of_agrees (other depth) (other (suc depth)) (other_agrees depth)) used

pub sum_is_agrees : (depth used : ℕ) → Agrees (sum depth used) (sum (suc depth) used)
sum_is_agrees depth used = sum_agrees depth (unary depth) (unary (suc depth)) (unary_of_agrees (other depth) (other (suc depth)) (other_agrees depth)) used
