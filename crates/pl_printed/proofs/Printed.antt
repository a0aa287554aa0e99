-- Tokens of what is printed of an expression are of that expression, but for places.
use Rattle.std.proofs.Common.{◌≡◌, ℕ, zero, suc, ◌+◌, ◌≤◌, ◌<◌, ◌⊎◌, inl, inr, nat_lt, Bool, true, false, List, [], ◌∷◌, ◌++◌, Some, refl, sym, ap, subst, ◌∙◌, arith}
use Rattle.std.specs.Prelude.{ℤ, pos, negsuc, ◌==◌, ⊤}
use Rattle.std.proofs.lemmas.Bool.Decides.{nat_tests}
use Rattle.pl_readers.specs.Language.{One, Either, Mapped}
use Rattle.pl_base.specs.declared.pos.Pos.{Pos}
use Rattle.pl_lexer.specs.declared.tokens.Kind.{Kind}
use Rattle.pl_lexer.specs.declared.tokens.Kind.TheVariants as k
use Rattle.pl_lexer.specs.declared.tokens.Token.{Token}
use Rattle.pl_syntax.specs.declared.expr.BinOp.{BinOp}
use Rattle.pl_syntax.specs.declared.expr.BinOp.TheVariants as op
use Rattle.pl_syntax.specs.Tree as t
use Rattle.pl_syntax.specs.Tree.{Expr, Name}
use Rattle.pl_grammar.specs.Signs.{entry_of}
use Rattle.pl_grammar.specs.Grammar.{Part, joined, negated, denied, grouped, times, plus, relation, conjunction, disjunction, implication, word_of, literal_of, negative_of, NotOf, GroupOf, Other, Unary}
use Rattle.pl_print.specs.ExprText.{tightness, left_place, right_place}
use Rattle.pl_printed.proofs.Laid.{Piece, Gap, Mark, Count, kinds, kinds_of, sign_of, enclosed, laid}
use Rattle.pl_printed.specs.Bare.{nowhere, bare}
use Rattle.pl_printed.specs.Levels.{Opened, Enclosed, closing, after, FitsExpr}
use Rattle.pl_printed.proofs.Parts.{kinds-append, parts, first_of_kinds, single, no_kinds, sign_here}
use Rattle.pl_printed.proofs.Places.{Place, where_left, room, up_to, rises_place, chained_push, single_push}

-- a part for the tree at a place, with so many levels open behind it
abbrev Found : Expr → ℕ → ℕ → ℕ → ℕ → List Token → Type 0
Found e p d u open_behind ts = (y : Part) × Place p d u y ts × (bare y.tree ≡ bare e) × (y.used ≡ open_behind)

abbrev pub Claim : Expr → Type 0
Claim e = (p d u : ℕ) (ts : List Token) → p ≤ 7 → FitsExpr d u p e → kinds_of ts ≡ kinds (laid p e) → Found e p d u (after p e u) ts

lower : (q p d u v : ℕ) (e : Expr) (ts : List Token) → p ≤ q → Found e q d u v ts → Found e p d u v ts
lower q p d u v e ts le f = (f.0, up_to q p d u f.0 ts le f.1, f.2, f.3)

-- ---- one token

word_other : (d u : ℕ) (y : Part) (ts : List Token) → One (word_of u) y ts → Other d u y ts
unfolding Other
word_other zero u y ts h = inr h
word_other (suc d) u y ts h = inr (inr h)

word_found : (e : Expr) (f : Pos → Expr) (kk : Kind) → ((q : Pos) → bare (f q) ≡ bare e) → ((u : ℕ) (q : Pos) → word_of u (record { pos = q; kind = kk }) ≡ Some (record { first = q; tree = f q; used = u }))
    → (p d u : ℕ) (ts : List Token) → p ≤ 7 → kinds_of ts ≡ kk ∷ [] → Found e p d u u ts
word_found e f kk same is p d u ts le h =
    let s = single ts kk h in
    let t = s.0 in
    let found : word_of u t ≡ Some (record { first = t.pos; tree = f t.pos; used = u }) =
    subst (λ (c : Kind). word_of u (record { pos = t.pos; kind = c }) ≡ Some (record { first = t.pos; tree = f t.pos; used = u })) (sym s.2) (is u t.pos) in
    lower 7 p d u u e ts le (record { first = t.pos; tree = f t.pos; used = u }, word_other d u (record { first = t.pos; tree = f t.pos; used = u }) ts (t, s.1, found), same t.pos, refl)

claim_truth : (at : Pos) (b : Bool) → Claim (t.Truth at b)
claim_truth at true p d u ts le fits h = word_found (t.Truth at true) (λ q. t.Truth q true) (k.Sign 52) (λ q. refl) (λ v q. refl) p d u ts le h
claim_truth at false p d u ts le fits h = word_found (t.Truth at false) (λ q. t.Truth q false) (k.Sign 53) (λ q. refl) (λ v q. refl) p d u ts le h

claim_null : (at : Pos) → Claim (t.Null at)
claim_null at p d u ts le fits h = word_found (t.Null at) (λ q. t.Null q) (k.Sign 54) (λ q. refl) (λ v q. refl) p d u ts le h

claim_var : (at : Pos) (x : Name) → Claim (t.Var at x)
claim_var at x p d u ts le fits h = word_found (t.Var at x) (λ q. t.Var q x) (k.Word x) (λ q. refl) (λ v q. refl) p d u ts le h

-- ---- brackets

bracket_other : (d u : ℕ) (y : Part) (ts : List Token) (o c : Token) → u ≤ d → o.kind ≡ k.Sign 0 → c.kind ≡ k.Sign 1 → Place 0 d u y ts → Other (suc d) u (grouped o.pos u y) (o ∷ (ts ++ c ∷ []))
unfolding Other
bracket_other d u y ts o c le e1 e2 h =
    let group : GroupOf d (Other d) u (grouped o.pos u y) (o ∷ (ts ++ c ∷ [])) =
    (o.pos, o ∷ [], ts ++ c ∷ [], sign_here 0 o e1 (λ q. refl), (y, ts, c ∷ [], h, (c.pos, sign_here 1 c e2 (λ q. refl), refl), refl), refl) in
    inr (inl (where_left Part (nat_lt u (suc d)) (Either (NotOf (Other d) u) (GroupOf d (Other d) u)) (grouped o.pos u y) (o ∷ (ts ++ c ∷ [])) (room u (suc d) (omega arith)) (inr group)))

-- in brackets, where what stands in them is found
bracketed : (e : Expr) (p d u v : ℕ) (ts : List Token) (ks : List Kind) → p ≤ 7 → (Inner : ℕ → Type 0) → Opened d u Inner → kinds_of ts ≡ k.Sign 0 ∷ (ks ++ k.Sign 1 ∷ [])
    → ((m : ℕ) (inner : List Token) → Inner m → kinds_of inner ≡ ks → Found e 0 m u v inner) → Found e p d u u ts
bracketed e p zero u v ts ks le Inner fits h f = absurd fits
bracketed e p (suc m) u v ts ks le Inner fits h f =
    let a = first_of_kinds ts (k.Sign 0) (ks ++ k.Sign 1 ∷ []) h in
    let w = parts a.1 ks (k.Sign 1) [] a.4 in
    let g = f m w.0 fits.1 w.4 in
    let text : ts ≡ a.0 ∷ (w.0 ++ w.1 ∷ []) = a.2 ∙ ap (λ (z : List Token). a.0 ∷ z) (w.3 ∙ ap (λ (z : List Token). w.0 ++ (w.1 ∷ z)) (no_kinds w.2 w.6)) in
    let y : Part = grouped a.0.pos u g.0 in
    lower 7 p (suc m) u u e ts le (y, subst (Other (suc m) u y) (sym text) (bracket_other m u g.0 w.0 a.0 w.1 fits.0 a.3 w.5 g.1), g.2, refl)

enclosed_kinds : (ps : List Piece) → kinds (enclosed true ps) ≡ k.Sign 0 ∷ (kinds ps ++ k.Sign 1 ∷ [])
enclosed_kinds ps = ap (λ (z : List Kind). k.Sign 0 ∷ z) (kinds-append ps (Mark 1 ∷ []))

-- ---- literals

number_found : (at : Pos) (n p d u : ℕ) (ts : List Token) → p ≤ 6 → kinds_of ts ≡ k.Number (pos n) ∷ [] → Found (t.Int at (pos n)) p d u u ts
number_found at n p d u ts le h =
    let s = single ts (k.Number (pos n)) h in
    let x = s.0 in
    let y : Part = record { first = x.pos; tree = t.Int x.pos (pos n); used = u } in
    let found : literal_of u x ≡ Some (record { first = x.pos; tree = t.Int x.pos (pos n); used = u }) = ap (λ (c : Kind). literal_of u (record { pos = x.pos; kind = c })) s.2 in
    lower 6 p d u u (t.Int at (pos n)) ts le (y, inl (x, s.1, found), refl, refl)

same_or_less : (p n : ℕ) → p ≤ suc n → (p ≤ n) ⊎ (p ≡ suc n)
same_or_less zero n h = inl (omega arith)
same_or_less (suc zero) zero h = inr refl
same_or_less (suc (suc p)) zero h = absurd (omega arith)
same_or_less (suc p) (suc n) h = elim (same_or_less p n (omega arith)) [ inl g ↦ inl (omega (arith, g)) | inr g ↦ inr (ap (λ (m : ℕ). suc m) g) ]

not_seven : (p : ℕ) → p ≤ 7 → (p == 7) ≡ false → p ≤ 6
not_seven p le e = elim (same_or_less p 6 le) [ inl g ↦ g | inr g ↦ absurd (seven p g e) ]
  where
    seven : (p : ℕ) → p ≡ 7 → (p == 7) ≡ false → ⊥
    seven p g e = let f : (7 == 7) ≡ false = subst (λ (m : ℕ). (m == 7) ≡ false) g e in absurd cc

number_by : (at : Pos) (n p d u : ℕ) (ts : List Token) (b : Bool) → (p == 7) ≡ b → p ≤ 7 → Enclosed b d u (λ m. ⊤) → kinds_of ts ≡ kinds (enclosed b (Count n ∷ [])) → Found (t.Int at (pos n)) p d u u ts
number_by at n p d u ts true e le fits h =
    bracketed (t.Int at (pos n)) p d u u ts (k.Number (pos n) ∷ []) le (λ m. ⊤) fits h (λ m inner i ks. number_found at n 0 m u inner (omega arith) ks)
number_by at n p d u ts false e le fits h = number_found at n p d u ts (not_seven p le e) h

minus_other : (d u : ℕ) (y : Part) (m x : Token) → m.kind ≡ k.Sign 16 → negative_of u m.pos x ≡ Some y → Other d u y (m ∷ x ∷ [])
unfolding Other
minus_other zero u y m x e h = inl (m.pos, m ∷ [], x ∷ [], sign_here 16 m e (λ q. refl), (x, refl, h), refl)
minus_other (suc d) u y m x e h = inl (m.pos, m ∷ [], x ∷ [], sign_here 16 m e (λ q. refl), inl (x, refl, h), refl)

negative_found : (at : Pos) (n p d u : ℕ) (ts : List Token) → p ≤ 7 → kinds_of ts ≡ k.Sign 16 ∷ k.Number (pos (suc n)) ∷ [] → Found (t.Int at (negsuc n)) p d u u ts
negative_found at n p d u ts le h =
    let a = first_of_kinds ts (k.Sign 16) (k.Number (pos (suc n)) ∷ []) h in
    let s = single a.1 (k.Number (pos (suc n))) a.4 in
    let x = s.0 in
    let y : Part = record { first = a.0.pos; tree = t.Int a.0.pos (negsuc n); used = u } in
    let found : negative_of u a.0.pos x ≡ Some y = ap (λ (c : Kind). negative_of u a.0.pos (record { pos = x.pos; kind = c })) s.2 in
    let text : ts ≡ a.0 ∷ x ∷ [] = a.2 ∙ ap (λ (z : List Token). a.0 ∷ z) s.1 in
    lower 7 p d u u (t.Int at (negsuc n)) ts le (y, subst (Other d u y) (sym text) (minus_other d u y a.0 x a.3 found), refl, refl)

claim_int : (at : Pos) (n : ℤ) → Claim (t.Int at n)
claim_int at (pos n) p d u ts le fits h = number_by at n p d u ts (p == 7) refl le fits h
claim_int at (negsuc n) p d u ts le fits h = negative_found at n p d u ts le h

-- ---- unary operators

neg_other : (d u : ℕ) (y : Part) (m : Token) (ts : List Token) → u ≤ d → m.kind ≡ k.Sign 16 → Other d u y ts → Other (suc d) u (negated m.pos y) (m ∷ ts)
unfolding Other
neg_other d u y m ts le e h =
    let behind = where_left Part (nat_lt u (suc d)) (Mapped (negated m.pos) (Other d u)) (negated m.pos y) ts (room u (suc d) (omega arith)) (y, h, refl) in
    inl (m.pos, m ∷ [], ts, sign_here 16 m e (λ q. refl), inr behind, refl)

not_other : (d u : ℕ) (y : Part) (m : Token) (ts : List Token) → u ≤ d → m.kind ≡ k.Sign 51 → Unary d u y ts → Other (suc d) u (denied m.pos y) (m ∷ ts)
unfolding Other
not_other d u y m ts le e h =
    let denial : NotOf (Other d) u (denied m.pos y) (m ∷ ts) = (m.pos, m ∷ [], ts, sign_here 51 m e (λ q. refl), (y, h, refl), refl) in
    inr (inl (where_left Part (nat_lt u (suc d)) (Either (NotOf (Other d) u) (GroupOf d (Other d) u)) (denied m.pos y) (m ∷ ts) (room u (suc d) (omega arith)) (inl denial)))

claim_neg : (at : Pos) (e : Expr) → Claim e → Claim (t.Neg at e)
claim_neg at e c p zero u ts le fits h = absurd fits
claim_neg at e c p (suc d) u ts le fits h =
    let a = first_of_kinds ts (k.Sign 16) (kinds (laid 7 e)) h in
    let g = c 7 d u a.1 (omega arith) fits.1 a.4 in
    let y : Part = negated a.0.pos g.0 in
    lower 7 p (suc d) u (after 7 e u + 1) (t.Neg at e) ts le
    (y, subst (Other (suc d) u y) (sym a.2) (neg_other d u g.0 a.0 a.1 fits.0 a.3 g.1), ap (λ (z : Expr). t.Neg nowhere z) g.2, ap (λ (n : ℕ). n + 1) g.3)

claim_not : (at : Pos) (e : Expr) → Claim e → Claim (t.Not at e)
claim_not at e c p zero u ts le fits h = absurd fits
claim_not at e c p (suc d) u ts le fits h =
    let a = first_of_kinds ts (k.Sign 51) (kinds (laid 6 e)) h in
    let g = c 6 d u a.1 (omega arith) fits.1 a.4 in
    let y : Part = denied a.0.pos g.0 in
    lower 7 p (suc d) u (after 6 e u + 1) (t.Not at e) ts le
    (y, subst (Other (suc d) u y) (sym a.2) (not_other d u g.0 a.0 a.1 fits.0 a.3 g.1), ap (λ (z : Expr). t.Not nowhere z) g.2, ap (λ (n : ℕ). n + 1) g.3)

-- ---- an operator between two

entry_here : (ops : List (ℕ × BinOp)) (o : BinOp) (n : ℕ) (x : Token) → x.kind ≡ k.Sign n → ((q : Pos) → entry_of ops (record { pos = q; kind = k.Sign n }) ≡ Some o) → entry_of ops x ≡ Some o
entry_here ops o n x e h = subst (λ (c : Kind). entry_of ops (record { pos = x.pos; kind = c }) ≡ Some o) (sym e) (h x.pos)

bin_place : (o : BinOp) (d u : ℕ) (x y : Part) (m : Token) (l r : List Token) → m.kind ≡ k.Sign (sign_of o) → Place (left_place o) d u x l → x.used < d → Place (right_place o) d (x.used + 1) y r
    → Place (tightness o) d u (joined x o y) (l ++ (m ∷ r))
bin_place op.Implies d u x y m l r e a lt b = single_push implication (Place 1 d) d u x l a lt op.Implies m (entry_here implication op.Implies 28 m e (λ q. refl)) y r b
bin_place op.Or d u x y m l r e a lt b = chained_push disjunction (Place 2 d) d u (rises_place 2 d) x l a lt op.Or m (entry_here disjunction op.Or 27 m e (λ q. refl)) y r b
bin_place op.And d u x y m l r e a lt b = chained_push conjunction (Place 3 d) d u (rises_place 3 d) x l a lt op.And m (entry_here conjunction op.And 26 m e (λ q. refl)) y r b
bin_place op.Lt d u x y m l r e a lt b = single_push relation (Place 4 d) d u x l a lt op.Lt m (entry_here relation op.Lt 20 m e (λ q. refl)) y r b
bin_place op.Le d u x y m l r e a lt b = single_push relation (Place 4 d) d u x l a lt op.Le m (entry_here relation op.Le 21 m e (λ q. refl)) y r b
bin_place op.Gt d u x y m l r e a lt b = single_push relation (Place 4 d) d u x l a lt op.Gt m (entry_here relation op.Gt 22 m e (λ q. refl)) y r b
bin_place op.Ge d u x y m l r e a lt b = single_push relation (Place 4 d) d u x l a lt op.Ge m (entry_here relation op.Ge 23 m e (λ q. refl)) y r b
bin_place op.Eq d u x y m l r e a lt b = single_push relation (Place 4 d) d u x l a lt op.Eq m (entry_here relation op.Eq 24 m e (λ q. refl)) y r b
bin_place op.Ne d u x y m l r e a lt b = single_push relation (Place 4 d) d u x l a lt op.Ne m (entry_here relation op.Ne 25 m e (λ q. refl)) y r b
bin_place op.Add d u x y m l r e a lt b = chained_push plus (Place 5 d) d u (rises_place 5 d) x l a lt op.Add m (entry_here plus op.Add 15 m e (λ q. refl)) y r b
bin_place op.Sub d u x y m l r e a lt b = chained_push plus (Place 5 d) d u (rises_place 5 d) x l a lt op.Sub m (entry_here plus op.Sub 16 m e (λ q. refl)) y r b
bin_place op.Mul d u x y m l r e a lt b = chained_push times (Place 6 d) d u (rises_place 6 d) x l a lt op.Mul m (entry_here times op.Mul 17 m e (λ q. refl)) y r b
bin_place op.Div d u x y m l r e a lt b = chained_push times (Place 6 d) d u (rises_place 6 d) x l a lt op.Div m (entry_here times op.Div 18 m e (λ q. refl)) y r b
bin_place op.Rem d u x y m l r e a lt b = chained_push times (Place 6 d) d u (rises_place 6 d) x l a lt op.Rem m (entry_here times op.Rem 19 m e (λ q. refl)) y r b

-- each place of an operator is one of the grammar's
record Small (o : BinOp) : Type 0 where
  operator : tightness o ≤ 7
  left : left_place o ≤ 7
  right : right_place o ≤ 7

small : (o : BinOp) → Small o
small op.Implies = record { operator = omega arith; left = omega arith; right = omega arith }
small op.Or = record { operator = omega arith; left = omega arith; right = omega arith }
small op.And = record { operator = omega arith; left = omega arith; right = omega arith }
small op.Lt = record { operator = omega arith; left = omega arith; right = omega arith }
small op.Le = record { operator = omega arith; left = omega arith; right = omega arith }
small op.Gt = record { operator = omega arith; left = omega arith; right = omega arith }
small op.Ge = record { operator = omega arith; left = omega arith; right = omega arith }
small op.Eq = record { operator = omega arith; left = omega arith; right = omega arith }
small op.Ne = record { operator = omega arith; left = omega arith; right = omega arith }
small op.Add = record { operator = omega arith; left = omega arith; right = omega arith }
small op.Sub = record { operator = omega arith; left = omega arith; right = omega arith }
small op.Mul = record { operator = omega arith; left = omega arith; right = omega arith }
small op.Div = record { operator = omega arith; left = omega arith; right = omega arith }
small op.Rem = record { operator = omega arith; left = omega arith; right = omega arith }

abbrev middle : BinOp → Expr → Expr → List Piece
middle o a b = laid (left_place o) a ++ (Gap ∷ Mark (sign_of o) ∷ Gap ∷ laid (right_place o) b)

abbrev Inside : BinOp → Expr → Expr → ℕ → ℕ → Type 0
Inside o a b u d = FitsExpr d u (left_place o) a × (after (left_place o) a u < d) × FitsExpr d (after (left_place o) a u + 1) (right_place o) b

abbrev behind : BinOp → Expr → Expr → ℕ → ℕ
behind o a b u = after (right_place o) b (after (left_place o) a u + 1)

bin_found : (at : Pos) (o : BinOp) (a b : Expr) → Claim a → Claim b → (d u : ℕ) (ts : List Token) → Inside o a b u d → kinds_of ts ≡ kinds (middle o a b) → Found (t.Bin at o a b) (tightness o) d u (behind o a b u) ts
bin_found at o a b ca cb d u ts fits h =
    let both : kinds_of ts ≡ kinds (laid (left_place o) a) ++ (k.Sign (sign_of o) ∷ kinds (laid (right_place o) b)) = h ∙ kinds-append (laid (left_place o) a) (Gap ∷ Mark (sign_of o) ∷ Gap ∷ laid (right_place o) b) in
    let w = parts ts (kinds (laid (left_place o) a)) (k.Sign (sign_of o)) (kinds (laid (right_place o) b)) both in
    let f = ca (left_place o) d u w.0 (small o).left fits.0 w.4 in
    let g = cb (right_place o) d (after (left_place o) a u + 1) w.2 (small o).right fits.2 w.6 in
    let y : Part = joined f.0 o g.0 in
    let lt : f.0.used < d = omega (arith, f.3, fits.1) in
    let right = subst (λ (n : ℕ). Place (right_place o) d (n + 1) g.0 w.2) (sym f.3) g.1 in
    (y, subst (Place (tightness o) d u y) (sym w.3) (bin_place o d u f.0 g.0 w.1 w.0 w.2 w.5 f.1 lt right), cc (f.2, g.2), g.3)

bin_by : (at : Pos) (o : BinOp) (a b : Expr) → Claim a → Claim b → (p d u : ℕ) (ts : List Token) (q : Bool) → nat_lt (tightness o) p ≡ q → p ≤ 7 → Enclosed q d u (Inside o a b u) → kinds_of ts ≡ kinds (enclosed q (middle o a b))
    → Found (t.Bin at o a b) p d u (closing q u (behind o a b u)) ts
bin_by at o a b ca cb p d u ts true e le fits h =
    bracketed (t.Bin at o a b) p d u (behind o a b u) ts (kinds (middle o a b)) le (Inside o a b u) fits (h ∙ enclosed_kinds (middle o a b))
    (λ m inner i ks. lower (tightness o) 0 m u (behind o a b u) (t.Bin at o a b) inner (omega arith) (bin_found at o a b ca cb m u inner i ks))
bin_by at o a b ca cb p d u ts false e le fits h =
    lower (tightness o) p d u (behind o a b u) (t.Bin at o a b) ts (grind (arith, nat_tests)) (bin_found at o a b ca cb d u ts fits h)

claim_bin : (at : Pos) (o : BinOp) (a b : Expr) → Claim a → Claim b → Claim (t.Bin at o a b)
claim_bin at o a b ca cb p d u ts le fits h = bin_by at o a b ca cb p d u ts (nat_lt (tightness o) p) refl le fits h

-- Tokens of the kinds that are printed of an expression are of that expression, but for places.
pub printed : (e : Expr) → Claim e
printed (t.Int at n) = claim_int at n
printed (t.Truth at b) = claim_truth at b
printed (t.Null at) = claim_null at
printed (t.Var at x) = claim_var at x
printed (t.Neg at e) = claim_neg at e (printed e)
printed (t.Not at e) = claim_not at e (printed e)
printed (t.Bin at o a b) = claim_bin at o a b (printed a) (printed b)
