-- Places in the grammar, from any expression to what stands behind a minus.
use Rattle.std.proofs.Common.{◌≡◌, ℕ, zero, suc, ◌+◌, ◌-◌, ◌≤◌, ◌<◌, inl, inr, nat_lt, Bool, true, false, List, [], ◌∷◌, ◌++◌, append_assoc, append-nil, Option, Some, None, refl, sym, ap, subst, ◌∙◌, arith}
use Rattle.std.specs.Prelude.{pos, negsuc}
use Rattle.std.proofs.lemmas.Bool.Decides.{nat_tests}
use Rattle.pl_readers.specs.Language.{Language, One, Then, Either, Mapped}
use Rattle.pl_base.specs.declared.pos.Pos.{Pos}
use Rattle.pl_lexer.specs.declared.tokens.Kind.{Kind}
use Rattle.pl_lexer.specs.declared.tokens.Kind.TheVariants as k
use Rattle.pl_lexer.specs.declared.tokens.Token.{Token}
use Rattle.pl_syntax.specs.declared.expr.BinOp.{BinOp}
use Rattle.pl_syntax.specs.Tree as t
use Rattle.pl_syntax.specs.Tree.{Expr}
use Rattle.pl_grammar.specs.Signs.{entry_of, look_up}
use Rattle.pl_grammar.specs.Grammar.{Part, Where, joined, negated, times, plus, relation, conjunction, disjunction, implication, constants, Chain, Chained, Optional, Single, constant, word_kind, word_of, literal_kind, negative_kind, TermOf, SumOf, CompareOf, AndOf, OrOf, ExprOf, UnaryOf, BehindMinus, NotOf, GroupOf, Other, Unary}

-- what stands at a place, at a depth, with so many levels open
abbrev pub Place : ℕ → ℕ → ℕ → Language Token Part
Place zero d = ExprOf d (Unary d)
Place (suc zero) d = OrOf d (Unary d)
Place (suc (suc zero)) d = AndOf d (Unary d)
Place (suc (suc (suc zero))) d = CompareOf d (Unary d)
Place (suc (suc (suc (suc zero)))) d = SumOf d (Unary d)
Place (suc (suc (suc (suc (suc zero))))) d = TermOf d (Unary d)
Place (suc (suc (suc (suc (suc (suc zero)))))) d = Unary d
Place (suc (suc (suc (suc (suc (suc (suc p))))))) d = Other d

-- ---- where a level is left

pub where_left : (A : Type 0) (b : Bool) (T : Language Token A) (a : A) (ts : List Token) → b ≡ true → T a ts → Where b T a ts
where_left A b T a ts e h = subst (λ (c : Bool). Where c T a ts) (sym e) h

pub where_in : (A : Type 0) (b : Bool) (T : Language Token A) (a : A) (ts : List Token) → Where b T a ts → T a ts
where_in A true T a ts h = h
where_in A false T a ts h = absurd h

pub room : (used depth : ℕ) → used < depth → nat_lt used depth ≡ true
room used depth h = grind (arith, nat_tests)

-- ---- what binds tighter stands where less is wanted

chain_stop : (ops : List (ℕ × BinOp)) (T : ℕ → Language Token Part) (d count : ℕ) (left : Part) → Chain ops T d count left left []
unfolding Chain
chain_stop ops T d zero left = (refl, refl)
chain_stop ops T d (suc count) left = inr (refl, refl)

chained_up : (ops : List (ℕ × BinOp)) (T : ℕ → Language Token Part) (d u : ℕ) (x : Part) (ts : List Token) → T u x ts → Chained ops d T u x ts
chained_up ops T d u x ts h = (x, ts, [], h, chain_stop ops T d d x, sym (append-nil ts))

single_up : (ops : List (ℕ × BinOp)) (T : ℕ → Language Token Part) (d u : ℕ) (x : Part) (ts : List Token) → T u x ts → Single ops d T u x ts
unfolding Optional
single_up ops T d u x ts h = (x, ts, [], h, inr (refl, refl), sym (append-nil ts))

up : (p d u : ℕ) (x : Part) (ts : List Token) → Place (suc p) d u x ts → Place p d u x ts
up zero d u x ts h = single_up implication (OrOf d (Unary d)) d u x ts h
up (suc zero) d u x ts h = chained_up disjunction (AndOf d (Unary d)) d u x ts h
up (suc (suc zero)) d u x ts h = chained_up conjunction (CompareOf d (Unary d)) d u x ts h
up (suc (suc (suc zero))) d u x ts h = single_up relation (SumOf d (Unary d)) d u x ts h
up (suc (suc (suc (suc zero)))) d u x ts h = chained_up plus (TermOf d (Unary d)) d u x ts h
up (suc (suc (suc (suc (suc zero))))) d u x ts h = chained_up times (Unary d) d u x ts h
up (suc (suc (suc (suc (suc (suc zero)))))) d u x ts h = inr h
up (suc (suc (suc (suc (suc (suc (suc p))))))) d u x ts h = h

up_by : (n p d u : ℕ) (x : Part) (ts : List Token) → Place (n + p) d u x ts → Place p d u x ts
up_by zero p d u x ts h = let is : 0 + p ≡ p = omega arith in subst (λ (q : ℕ). Place q d u x ts) is h
up_by (suc n) p d u x ts h = let is : suc n + p ≡ suc (n + p) = omega arith in up_by n p d u x ts (up (n + p) d u x ts (subst (λ (q : ℕ). Place q d u x ts) is h))

pub up_to : (q p d u : ℕ) (x : Part) (ts : List Token) → p ≤ q → Place q d u x ts → Place p d u x ts
up_to q p d u x ts le h = let is : q ≡ q - p + p = omega arith in up_by (q - p) p d u x ts (subst (λ (r : ℕ). Place r d u x ts) is h)

-- ---- no text closes what was open before it

abbrev Rises : (ℕ → Language Token Part) → Type 0
Rises T = (u : ℕ) (x : Part) (ts : List Token) → T u x ts → u ≤ x.used

abbrev used_of : Part → ℕ
used_of x = x.used

constant_used : (p : Pos) (u : ℕ) (o : Option (Pos → Expr)) (x : Part) → constant p u o ≡ Some x → x.used ≡ u
constant_used p u None x h = absurd cc
constant_used p u (Some make) x h = let e : record { first = p; tree = make p; used = u } ≡ x = cc in sym (ap used_of e)

word_used : (u : ℕ) (p : Pos) (kk : Kind) (x : Part) → word_kind u p kk ≡ Some x → x.used ≡ u
word_used u p (k.Word n) x h = let e : record { first = p; tree = t.Var p n; used = u } ≡ x = cc in sym (ap used_of e)
word_used u p (k.Number n) x h = absurd cc
word_used u p (k.Sign j) x h = constant_used p u (look_up constants j) x h
word_used u p k.End x h = absurd cc

literal_used : (u : ℕ) (p : Pos) (kk : Kind) (x : Part) → literal_kind u p kk ≡ Some x → x.used ≡ u
literal_used u p (k.Word n) x h = absurd cc
literal_used u p (k.Number n) x h = let e : record { first = p; tree = t.Int p n; used = u } ≡ x = cc in sym (ap used_of e)
literal_used u p (k.Sign j) x h = absurd cc
literal_used u p k.End x h = absurd cc

made_used : (u : ℕ) (p : Pos) (e : Expr) (x : Part) → Some (record { first = p; tree = e; used = u }) ≡ Some x → x.used ≡ u
made_used u p e x h = let is : record { first = p; tree = e; used = u } ≡ x = cc in sym (ap used_of is)

negative_used : (u : ℕ) (p : Pos) (kk : Kind) (x : Part) → negative_kind u p kk ≡ Some x → x.used ≡ u
negative_used u p (k.Word n) x h = absurd cc
negative_used u p (k.Number (pos n)) x h = made_used u p _ x h
negative_used u p (k.Number (negsuc n)) x h = absurd cc
negative_used u p (k.Sign j) x h = absurd cc
negative_used u p k.End x h = absurd cc

rises_word : (u : ℕ) (x : Part) (ts : List Token) → One (word_of u) x ts → u ≤ x.used
rises_word u x ts h = omega (arith, word_used u h.0.pos h.0.kind x h.2)

rises_chain : (ops : List (ℕ × BinOp)) (T : ℕ → Language Token Part) (d : ℕ) → Rises T → (count : ℕ) (left x : Part) (ts : List Token) → Chain ops T d count left x ts → left.used ≤ x.used
unfolding Chain
rises_chain ops T d r zero left x ts h = omega (arith, ap used_of h.1)
rises_chain ops T d r (suc count) left x ts (inl w) =
    let s = where_in Part (nat_lt left.used d) (Then (One (entry_of ops)) (λ o. Then (T (left.used + 1)) (λ right. Chain ops T d count (joined left o right)))) x ts w in
    let right = s.4.0 in
    let one : left.used + 1 ≤ right.used = r (left.used + 1) right s.4.1 s.4.3 in
    let more : right.used ≤ x.used = rises_chain ops T d r count (joined left s.0 right) x s.4.2 s.4.4 in
    omega (arith, one, more)
rises_chain ops T d r (suc count) left x ts (inr n) = omega (arith, ap used_of n.1)

rises_chained : (ops : List (ℕ × BinOp)) (T : ℕ → Language Token Part) (d : ℕ) → Rises T → Rises (Chained ops d T)
rises_chained ops T d r u x ts h =
    let one : u ≤ h.0.used = r u h.0 h.1 h.3 in
    let more : h.0.used ≤ x.used = rises_chain ops T d r d h.0 x h.2 h.4 in
    omega (arith, one, more)

rises_optional : (ops : List (ℕ × BinOp)) (T : ℕ → Language Token Part) (d : ℕ) → Rises T → (left x : Part) (ts : List Token) → Optional ops T d left x ts → left.used ≤ x.used
unfolding Optional
rises_optional ops T d r left x ts (inl w) =
    let s = where_in Part (nat_lt left.used d) (Then (One (entry_of ops)) (λ o. Mapped (joined left o) (T (left.used + 1)))) x ts w in
    let one : left.used + 1 ≤ s.4.0.used = r (left.used + 1) s.4.0 s.2 s.4.1 in
    let is : x.used ≡ s.4.0.used = ap used_of s.4.2 in
    omega (arith, one, is)
rises_optional ops T d r left x ts (inr n) = omega (arith, ap used_of n.1)

rises_single : (ops : List (ℕ × BinOp)) (T : ℕ → Language Token Part) (d : ℕ) → Rises T → Rises (Single ops d T)
rises_single ops T d r u x ts h =
    let one : u ≤ h.0.used = r u h.0 h.1 h.3 in
    let more : h.0.used ≤ x.used = rises_optional ops T d r h.0 x h.2 h.4 in
    omega (arith, one, more)

rises_unary : (O : ℕ → Language Token Part) → Rises O → Rises (UnaryOf O)
rises_unary O r u x ts (inl h) = omega (arith, literal_used u h.0.pos h.0.kind x h.2)
rises_unary O r u x ts (inr h) = r u x ts h

rises_minus : (b : Bool) (O : ℕ → Language Token Part) → Rises O → (u : ℕ) (p : Pos) (x : Part) (ts : List Token) → BehindMinus b O u p x ts → u ≤ x.used
rises_minus b O r u p x ts (inl h) = omega (arith, negative_used u p h.0.kind x h.2)
rises_minus b O r u p x ts (inr w) =
    let s = where_in Part b (Mapped (negated p) (O u)) x ts w in
    let one : u ≤ s.0.used = r u s.0 ts s.1 in
    let is : x.used ≡ s.0.used + 1 = ap used_of s.2 in
    omega (arith, one, is)

rises_bracket : (b : Bool) (d : ℕ) (O : ℕ → Language Token Part) → Rises O → (u : ℕ) (x : Part) (ts : List Token) → Either (NotOf O u) (GroupOf d O u) x ts → u ≤ x.used
rises_bracket b d O r u x ts (inl s) =
    let m = s.4 in
    let one : u ≤ m.0.used = rises_unary O r u m.0 s.2 m.1 in
    let is : x.used ≡ m.0.used + 1 = ap used_of m.2 in
    omega (arith, one, is)
rises_bracket b d O r u x ts (inr s) =
    let m = s.4.4 in
    let is : x.used ≡ u = ap used_of m.2 in
    omega (arith, is)

pub rises_other : (d : ℕ) → Rises (Other d)
unfolding Other
rises_other zero u x ts (inl s) = omega (arith, negative_used u s.0 s.4.0.kind x s.4.2)
rises_other zero u x ts (inr w) = rises_word u x ts w
rises_other (suc d) u x ts (inl s) = rises_minus (nat_lt u (suc d)) (Other d) (rises_other d) u s.0 x s.2 s.4
rises_other (suc d) u x ts (inr (inl w)) =
    rises_bracket true d (Other d) (rises_other d) u x ts (where_in Part (nat_lt u (suc d)) (Either (NotOf (Other d) u) (GroupOf d (Other d) u)) x ts w)
rises_other (suc d) u x ts (inr (inr w)) = rises_word u x ts w

rises_unaries : (d : ℕ) → Rises (Place 6 d)
rises_unaries d = rises_unary (Other d) (rises_other d)

rises_terms : (d : ℕ) → Rises (Place 5 d)
rises_terms d = rises_chained times (Place 6 d) d (rises_unaries d)

rises_sums : (d : ℕ) → Rises (Place 4 d)
rises_sums d = rises_chained plus (Place 5 d) d (rises_terms d)

rises_comparisons : (d : ℕ) → Rises (Place 3 d)
rises_comparisons d = rises_single relation (Place 4 d) d (rises_sums d)

rises_ands : (d : ℕ) → Rises (Place 2 d)
rises_ands d = rises_chained conjunction (Place 3 d) d (rises_comparisons d)

rises_ors : (d : ℕ) → Rises (Place 1 d)
rises_ors d = rises_chained disjunction (Place 2 d) d (rises_ands d)

pub rises_place : (p d : ℕ) → Rises (Place p d)
rises_place zero d = rises_single implication (Place 1 d) d (rises_ors d)
rises_place (suc zero) d = rises_ors d
rises_place (suc (suc zero)) d = rises_ands d
rises_place (suc (suc (suc zero))) d = rises_comparisons d
rises_place (suc (suc (suc (suc zero)))) d = rises_sums d
rises_place (suc (suc (suc (suc (suc zero))))) d = rises_terms d
rises_place (suc (suc (suc (suc (suc (suc zero)))))) d = rises_unaries d
rises_place (suc (suc (suc (suc (suc (suc (suc p))))))) d = rises_other d

-- ---- an operator between two

-- one operand more, at the end of a chain
chain_push : (ops : List (ℕ × BinOp)) (T : ℕ → Language Token Part) (d : ℕ) → Rises T → (count : ℕ) (left x : Part) (ts : List Token) → d ≤ count + left.used → Chain ops T d count left x ts → x.used < d
    → (o : BinOp) (t : Token) → entry_of ops t ≡ Some o → (y : Part) (r : List Token) → T (x.used + 1) y r → Chain ops T d count left (joined x o y) (ts ++ (t ∷ r))
unfolding Chain
chain_push ops T d rises zero left x ts enough h lt o t e y r b = absurd (omega (arith, ap used_of h.1))
chain_push ops T d rises (suc count) left x ts enough (inr n) lt o t e y r b =
    let is : left ≡ x = sym n.1 in
    let here : Then (One (entry_of ops)) (λ p. Then (T (x.used + 1)) (λ right. Chain ops T d count (joined x p right))) (joined x o y) (t ∷ r) =
    (o, t ∷ [], r, (t, refl, e), (y, r, [], b, chain_stop ops T d count (joined x o y), sym (append-nil r)), refl) in
    let there = where_left Part (nat_lt x.used d) (Then (One (entry_of ops)) (λ p. Then (T (x.used + 1)) (λ right. Chain ops T d count (joined x p right)))) (joined x o y) (t ∷ r) (room x.used d lt) here in
    let all : Chain ops T d (suc count) x (joined x o y) (t ∷ r) = inl there in
    let text : ts ++ (t ∷ r) ≡ t ∷ r = ap (λ (z : List Token). z ++ (t ∷ r)) n.0 in
    subst (λ (z : List Token). Chain ops T d (suc count) left (joined x o y) z) (sym text) (subst (λ (z : Part). Chain ops T d (suc count) z (joined x o y) (t ∷ r)) (sym is) all)
chain_push ops T d rises (suc count) left x ts enough (inl w) lt o t e y r b =
    let s = where_in Part (nat_lt left.used d) (Then (One (entry_of ops)) (λ p. Then (T (left.used + 1)) (λ right. Chain ops T d count (joined left p right)))) x ts w in
    let c = s.4 in
    let right = c.0 in
    let one : left.used + 1 ≤ right.used = rises (left.used + 1) right c.1 c.3 in
    let more : right.used ≤ x.used = rises_chain ops T d rises count (joined left s.0 right) x c.2 c.4 in
    let pushed = chain_push ops T d rises count (joined left s.0 right) x c.2 (omega (arith, one, enough)) c.4 lt o t e y r b in
    let here : Then (One (entry_of ops)) (λ p. Then (T (left.used + 1)) (λ q. Chain ops T d count (joined left p q))) (joined x o y) (ts ++ (t ∷ r)) =
    (s.0, s.1, s.2 ++ (t ∷ r), s.3, (right, c.1, c.2 ++ (t ∷ r), c.3, pushed, ap (λ (z : List Token). z ++ (t ∷ r)) c.5 ∙ append_assoc c.1 c.2 (t ∷ r)), ap (λ (z : List Token). z ++ (t ∷ r)) s.5 ∙ append_assoc s.1 s.2 (t ∷ r)) in
    inl (where_left Part (nat_lt left.used d) (Then (One (entry_of ops)) (λ p. Then (T (left.used + 1)) (λ q. Chain ops T d count (joined left p q)))) (joined x o y) (ts ++ (t ∷ r)) (room left.used d (omega (arith, one, more, lt))) here)

pub chained_push : (ops : List (ℕ × BinOp)) (T : ℕ → Language Token Part) (d u : ℕ) → Rises T → (x : Part) (ts : List Token) → Chained ops d T u x ts → x.used < d
    → (o : BinOp) (t : Token) → entry_of ops t ≡ Some o → (y : Part) (r : List Token) → T (x.used + 1) y r → Chained ops d T u (joined x o y) (ts ++ (t ∷ r))
chained_push ops T d u rises x ts h lt o t e y r b = (
  h.0,
  h.1,
  h.2 ++ (t ∷ r),
  h.3,
  chain_push ops T d rises d h.0 x h.2 (omega arith) h.4 lt o t e y r b,
  ap (λ (z : List Token). z ++ (t ∷ r)) h.5 ∙ append_assoc h.1 h.2 (t ∷ r),
)

pub single_push : (ops : List (ℕ × BinOp)) (T : ℕ → Language Token Part) (d u : ℕ) (x : Part) (ts : List Token) → T u x ts → x.used < d
    → (o : BinOp) (t : Token) → entry_of ops t ≡ Some o → (y : Part) (r : List Token) → T (x.used + 1) y r → Single ops d T u (joined x o y) (ts ++ (t ∷ r))
unfolding Optional
single_push ops T d u x ts h lt o t e y r b =
    let here : Then (One (entry_of ops)) (λ p. Mapped (joined x p) (T (x.used + 1))) (joined x o y) (t ∷ r) = (o, t ∷ [], r, (t, refl, e), (y, b, refl), refl) in
    (x, ts, t ∷ r, h, inl (where_left Part (nat_lt x.used d) (Then (One (entry_of ops)) (λ p. Mapped (joined x p) (T (x.used + 1)))) (joined x o y) (t ∷ r) (room x.used d lt) here), refl)
