-- Operators and operands behind a first one, at each number of levels.
use Rattle.std.proofs.Common.{◌≡◌, ℕ, zero, suc, ◌+◌, ◌≤◌, ◌<◌, inl, inr, nat_lt, Bool, true, false, List, [], ◌∷◌, ◌++◌, refl, arith}
use Rattle.std.proofs.lemmas.Bool.Decides.{nat_tests}
use Rattle.pl_readers.specs.Language.{Language, One, Then, Nothing, Void, Mapped, IsViable, HasText, Starts}
use Rattle.pl_readers.specs.Reader.{Reader, begins, one, next, nothing, mapped}
use Rattle.pl_readers.specs.Reads.{never, Ends, Reads}
use Rattle.pl_readers.proofs.Correct.{Reads-before, Reads-one, Reads-mapped, Reads-nothing, Reads-deep}
use Rattle.pl_readers.proofs.Firsts.{ends_never, Starts-one, Starts-then, some_then, some_mapped}
use Rattle.pl_syntax.specs.declared.expr.BinOp.{BinOp}
use Rattle.pl_lexer.specs.declared.tokens.Token.{Token}
use Rattle.pl_grammar.specs.Signs.{Set, token_in, signs_of, entry_of}
use Rattle.pl_grammar.specs.Grammar.{Part, Where, joined, Chain, Chained, Optional, Single}
use Rattle.pl_grammar.specs.Readers.{chain, chained, optional, single}
use Rattle.pl_grammar.proofs.More.{Reads-behind, Reads-where}
use Rattle.pl_grammar.proofs.Sets.{inside, apart, set_apart, set_outside, entry_in, entry_found}

-- where a level is left at one depth, one is left at two more
pub room_above : (used depth : ℕ) → used ≤ depth → nat_lt used (suc (suc depth)) ≡ true
room_above used depth h = grind (arith, nat_tests)

pub room_below : (used depth : ℕ) → nat_lt used depth ≡ true → used < depth
room_below used depth h = grind (arith, nat_tests)

pub room_next : (used depth : ℕ) → nat_lt used depth ≡ true → used + 1 ≤ depth
room_next used depth h = grind (arith, nat_tests)

-- behind a text that ends there, or goes on with one of a set
pub ends_both : (s t : Set) (xs : List Token) → inside s t ≡ true → Ends (token_in t) xs → Ends (token_in s) xs
ends_both s t [] h e = refl
ends_both s t (x ∷ xs) h e = set_outside s t h x e

-- operands T at one depth and V at two more, read by P; g is with what an operand may go on
module _ (ops : List (ℕ × BinOp)) (depth : ℕ) (T V : ℕ → Language Token Part) (g goes : Set) (P : ℕ → Reader Token Part)
    (reads : (used : ℕ) → used ≤ depth → Reads (T used) (V used) (token_in g) (P used))
    (keeps : (used : ℕ) → used ≤ depth → (a : Part) (text : List Token) → T used a text → a.used ≤ depth)
    (some : (used : ℕ) → HasText (V used))
    (some_op : HasText (One (entry_of ops)))
    (op_apart : apart (signs_of ops) g ≡ true) (op_inside : inside (signs_of ops) goes ≡ true) (g_inside : inside g goes ≡ true) where
  abbrev test : Token → Bool
  test = token_in (signs_of ops)

  op_starts : Starts test (One (entry_of ops))
  op_starts = Starts-one test (entry_of ops) (λ x o e. entry_in ops x o e)

  not_op : (rest : List Token) → Ends (token_in goes) rest → begins test rest ≡ false
  not_op rest e = ends_both (signs_of ops) goes rest op_inside e

  nothing_fails : (left a : Part) (text rest : List Token) → Nothing left a text → Ends (token_in goes) rest → begins test (text ++ rest) ≡ false
  nothing_fails left a text rest n e = rw n.0 (not_op rest e)

  -- what an operator begins doesn't go on with an operand
  begun_ends : {A : Type 0} (U : Language Token A) → Starts test U → (a : A) (text rest : List Token) → U a text → Ends (token_in g) (text ++ rest)
  begun_ends U starts a text rest u =
      let w = starts a text u in
      rw w.2 (set_apart (signs_of ops) g op_apart w.0 w.3)

  -- an operator begins a text of what it opens
  op_viable : (K : BinOp → Language Token Part) → ((o : BinOp) → HasText (K o)) → (y : Token) → test y ≡ true → IsViable (Then (One (entry_of ops)) K) (y ∷ [])
  op_viable K has y h =
      let found = entry_found ops y h in
      let w = has found.0 in
      (w.1, w.0, (found.0, y ∷ [], w.1, (y, refl, found.1), w.2, refl))

  -- ---- { operator operand }

  abbrev Step : ℕ → ℕ → (ℕ → Language Token Part) → Part → Language Token Part
  Step n count U left = Then (One (entry_of ops)) (λ o. Then (U (left.used + 1)) (λ right. Chain ops U n count (joined left o right)))

  chain_some : (n count : ℕ) (left : Part) → HasText (Chain ops V n count left)
  unfolding Chain
  chain_some n zero left = (left, [], (refl, refl))
  chain_some n (suc count) left = (left, [], inr (refl, refl))

  step_some : (n count : ℕ) (left : Part) (o : BinOp) → HasText (Then (V (left.used + 1)) (λ right. Chain ops V n count (joined left o right)))
  step_some n count left o = some_then (V (left.used + 1)) (λ right. Chain ops V n count (joined left o right)) (some (left.used + 1)) (λ right. chain_some n count (joined left o right))

  step_starts : (n count : ℕ) (U : ℕ → Language Token Part) (left : Part) → Starts test (Step n count U left)
  step_starts n count U left = Starts-then test (One (entry_of ops)) (λ o. Then (U (left.used + 1)) (λ right. Chain ops U n count (joined left o right))) op_starts

  where_ends : (b : Bool) (n count : ℕ) (left a : Part) (text rest : List Token) → Where b (Step n count T left) a text → Ends (token_in g) (text ++ rest)
  where_ends true n count left a text rest u = begun_ends (Step n count T left) (step_starts n count T left) a text rest u
  where_ends false n count left a text rest u = absurd u

  nothing_ends : (left a : Part) (text rest : List Token) → Nothing left a text → Ends (token_in goes) rest → Ends (token_in g) (text ++ rest)
  nothing_ends left a text rest n e = rw n.0 (ends_both g goes rest g_inside e)

  -- an operand doesn't go on with what stands behind it
  chain_ends : (count : ℕ) (left a : Part) (text rest : List Token) → Chain ops T depth count left a text → Ends (token_in goes) rest → Ends (token_in g) (text ++ rest)
  unfolding Chain
  chain_ends zero left a text rest u e = nothing_ends left a text rest u e
  chain_ends (suc count) left a text rest (inl u) e = where_ends (nat_lt left.used depth) depth count left a text rest u
  chain_ends (suc count) left a text rest (inr u) e = nothing_ends left a text rest u e

  some_nothing : (left : Part) → HasText {S = Token} (Nothing left)
  some_nothing left = (left, [], (refl, refl))

  step_opens : (count : ℕ) (left : Part) (y : Token) → test y ≡ true → IsViable (Step (suc (suc depth)) count V left) (y ∷ [])
  step_opens count left y h = op_viable (λ o. Then (V (left.used + 1)) (λ right. Chain ops V (suc (suc depth)) count (joined left o right))) (step_some (suc (suc depth)) count left) y h

  where_opens : (b : Bool) → b ≡ true → (count : ℕ) (left : Part) (y : Token) → test y ≡ true → IsViable (Where b (Step (suc (suc depth)) count V left)) (y ∷ [])
  where_opens true e count left y h = step_opens count left y h
  where_opens false e count left y h = absurd cc

  pub reads_chain : (count : ℕ) (left : Part) → left.used ≤ depth → Reads (Chain ops T depth count left) (Chain ops V (suc (suc depth)) (suc (suc count)) left) (token_in goes) (chain ops P depth count left)
  unfolding Chain chain
  reads_chain zero left h =
      Reads-deep test Void (Where (nat_lt left.used (suc (suc depth))) (Step (suc (suc depth)) 1 V left)) (Nothing left) (Nothing left) (token_in goes) (nothing left) (nothing left)
      (Reads-nothing left (token_in goes)) (some_nothing left) (λ y e. where_opens (nat_lt left.used (suc (suc depth))) (room_above left.used depth h) 1 left y e)
      (λ a text rest t e. nothing_fails left a text rest t e)
  reads_chain (suc count) left h =
      Reads-where test (Step depth count T left) (Step (suc (suc depth)) (suc (suc count)) V left) (Nothing left) (Nothing left) (token_in goes)
      (next (one (entry_of ops)) (λ o. next (P (left.used + 1)) (λ right. chain ops P depth count (joined left o right)))) (nothing left)
      (nat_lt left.used depth) (nat_lt left.used (suc (suc depth))) (room_above left.used depth h)
      (λ b.
      let lt : left.used + 1 ≤ depth = room_next left.used depth b in
      Reads-behind (One (entry_of ops)) (One (entry_of ops)) (λ o. Then (T (left.used + 1)) (λ right. Chain ops T depth count (joined left o right)))
      (λ o. Then (V (left.used + 1)) (λ right. Chain ops V (suc (suc depth)) (suc (suc count)) (joined left o right))) never (token_in goes)
      (one (entry_of ops)) (λ o. next (P (left.used + 1)) (λ right. chain ops P depth count (joined left o right)))
      (Reads-one (entry_of ops) never some_op)
      (λ o text t. Reads-behind (T (left.used + 1)) (V (left.used + 1)) (λ right. Chain ops T depth count (joined left o right)) (λ right. Chain ops V (suc (suc depth)) (suc (suc count)) (joined left o right))
      (token_in g) (token_in goes) (P (left.used + 1)) (λ right. chain ops P depth count (joined left o right)) (reads (left.used + 1) lt)
      (λ right text1 u. reads_chain count (joined left o right) (keeps (left.used + 1) lt right text1 u))
      (λ right. chain_some (suc (suc depth)) (suc (suc count)) (joined left o right))
      (λ right a back rest u e. chain_ends count (joined left o right) a back rest u e))
      (λ o. step_some (suc (suc depth)) (suc (suc count)) left o) (λ o a back rest u e. ends_never (back ++ rest)))
      (Reads-nothing left (token_in goes)) (some_nothing left) (step_starts depth count T left) (step_opens (suc (suc count)) left)
      (λ a text rest t e. nothing_fails left a text rest t e)

  -- operand { operator operand }
  pub reads_chained : (used : ℕ) → used ≤ depth → Reads (Chained ops depth T used) (Chained ops (suc (suc depth)) V used) (token_in goes) (chained ops depth P used)
  reads_chained used h =
      Reads-behind (T used) (V used) (Chain ops T depth depth) (Chain ops V (suc (suc depth)) (suc (suc depth))) (token_in g) (token_in goes) (P used) (chain ops P depth depth)
      (reads used h) (λ left text t. reads_chain depth left (keeps used h left text t)) (chain_some (suc (suc depth)) (suc (suc depth)))
      (λ left a back rest u e. chain_ends depth left a back rest u e)

  step_keeps : (b : Bool) (count : ℕ) (left a : Part) (text : List Token) → nat_lt left.used depth ≡ b → Where b (Step depth count T left) a text
      → ((o : BinOp) (right : Part) (text : List Token) → right.used ≤ depth → Chain ops T depth count (joined left o right) a text → a.used ≤ depth) → a.used ≤ depth
  step_keeps true count left a text b t ih =
      let inner = t.4 in
      ih t.0 inner.0 inner.2 (keeps (left.used + 1) (room_next left.used depth b) inner.0 inner.1 inner.3) inner.4
  step_keeps false count left a text b t ih = absurd t

  pub chain_keeps : (count : ℕ) (left a : Part) (text : List Token) → left.used ≤ depth → Chain ops T depth count left a text → a.used ≤ depth
  unfolding Chain
  chain_keeps zero left a text h t = rw t.1 h
  chain_keeps (suc count) left a text h (inr t) = rw t.1 h
  chain_keeps (suc count) left a text h (inl t) = step_keeps (nat_lt left.used depth) count left a text refl t (λ o right text1 k u. chain_keeps count (joined left o right) a text1 k u)

  pub some_chained : (used : ℕ) → HasText (Chained ops (suc (suc depth)) V used)
  some_chained used = some_then (V used) (Chain ops V (suc (suc depth)) (suc (suc depth))) (some used) (chain_some (suc (suc depth)) (suc (suc depth)))

  pub chained_keeps : (used : ℕ) → used ≤ depth → (a : Part) (text : List Token) → Chained ops depth T used a text → a.used ≤ depth
  chained_keeps used h a text t = chain_keeps depth t.0 a t.2 (keeps used h t.0 t.1 t.3) t.4

  -- ---- [ operator operand ]

  abbrev Once : (ℕ → Language Token Part) → Part → Language Token Part
  Once U left = Then (One (entry_of ops)) (λ o. Mapped (joined left o) (U (left.used + 1)))

  once_some : (left : Part) (o : BinOp) → HasText (Mapped (joined left o) (V (left.used + 1)))
  once_some left o = some_mapped (joined left o) (V (left.used + 1)) (some (left.used + 1))

  once_starts : (U : ℕ → Language Token Part) (left : Part) → Starts test (Once U left)
  once_starts U left = Starts-then test (One (entry_of ops)) (λ o. Mapped (joined left o) (U (left.used + 1))) op_starts

  once_ends : (b : Bool) (left a : Part) (text rest : List Token) → Where b (Once T left) a text → Ends (token_in g) (text ++ rest)
  once_ends true left a text rest u = begun_ends (Once T left) (once_starts T left) a text rest u
  once_ends false left a text rest u = absurd u

  optional_ends : (left a : Part) (text rest : List Token) → Optional ops T depth left a text → Ends (token_in goes) rest → Ends (token_in g) (text ++ rest)
  unfolding Optional
  optional_ends left a text rest (inl u) e = once_ends (nat_lt left.used depth) left a text rest u
  optional_ends left a text rest (inr u) e = nothing_ends left a text rest u e

  optional_some : (left : Part) → HasText (Optional ops V (suc (suc depth)) left)
  unfolding Optional
  optional_some left = (left, [], inr (refl, refl))

  reads_optional : (left : Part) → left.used ≤ depth → Reads (Optional ops T depth left) (Optional ops V (suc (suc depth)) left) (token_in goes) (optional ops P depth left)
  unfolding Optional optional
  reads_optional left h =
      Reads-where test (Once T left) (Once V left) (Nothing left) (Nothing left) (token_in goes)
      (next (one (entry_of ops)) (λ o. mapped (joined left o) (P (left.used + 1)))) (nothing left)
      (nat_lt left.used depth) (nat_lt left.used (suc (suc depth))) (room_above left.used depth h)
      (λ b.
      let lt : left.used + 1 ≤ depth = room_next left.used depth b in
      Reads-before (Once T left) (Once V left) (token_in g) (token_in goes) (next (one (entry_of ops)) (λ o. mapped (joined left o) (P (left.used + 1))))
      (λ x e. set_outside g goes g_inside x e)
      (Reads-behind (One (entry_of ops)) (One (entry_of ops)) (λ o. Mapped (joined left o) (T (left.used + 1))) (λ o. Mapped (joined left o) (V (left.used + 1))) never (token_in g)
      (one (entry_of ops)) (λ o. mapped (joined left o) (P (left.used + 1)))
      (Reads-one (entry_of ops) never some_op)
      (λ o text t. Reads-mapped (joined left o) (T (left.used + 1)) (V (left.used + 1)) (token_in g) (P (left.used + 1)) (reads (left.used + 1) lt))
      (λ o. once_some left o) (λ o a back rest u e. ends_never (back ++ rest))))
      (Reads-nothing left (token_in goes)) (some_nothing left) (once_starts T left) (op_viable (λ o. Mapped (joined left o) (V (left.used + 1))) (once_some left))
      (λ a text rest t e. nothing_fails left a text rest t e)

  pub reads_single : (used : ℕ) → used ≤ depth → Reads (Single ops depth T used) (Single ops (suc (suc depth)) V used) (token_in goes) (single ops depth P used)
  reads_single used h =
      Reads-behind (T used) (V used) (Optional ops T depth) (Optional ops V (suc (suc depth))) (token_in g) (token_in goes) (P used) (optional ops P depth)
      (reads used h) (λ left text t. reads_optional left (keeps used h left text t)) optional_some
      (λ left a back rest u e. optional_ends left a back rest u e)

  pub some_single : (used : ℕ) → HasText (Single ops (suc (suc depth)) V used)
  some_single used = some_then (V used) (Optional ops V (suc (suc depth))) (some used) optional_some

  once_keeps : (b : Bool) (left a : Part) (text : List Token) → nat_lt left.used depth ≡ b → Where b (Once T left) a text → a.used ≤ depth
  once_keeps true left a text b t =
      let inner = t.4 in
      rw inner.2 (keeps (left.used + 1) (room_next left.used depth b) inner.0 t.2 inner.1)
  once_keeps false left a text b t = absurd t

  optional_keeps : (left a : Part) (text : List Token) → left.used ≤ depth → Optional ops T depth left a text → a.used ≤ depth
  unfolding Optional
  optional_keeps left a text h (inl t) = once_keeps (nat_lt left.used depth) left a text refl t
  optional_keeps left a text h (inr t) = rw t.1 h

  pub single_keeps : (used : ℕ) → used ≤ depth → (a : Part) (text : List Token) → Single ops depth T used a text → a.used ≤ depth
  single_keeps used h a text t = optional_keeps t.0 a t.2 (keeps used h t.0 t.1 t.3) t.4
