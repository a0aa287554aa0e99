-- Expressions and propositions that were read can be printed.
use Rattle.std.proofs.Common.{◌≡◌, ℕ, zero, suc, ◌+◌, ◌/◌, ◌^◌, ◌≤◌, ◌<◌, ◌==◌, ◌&&◌, nat_lt, Bool, true, false, List, [], ◌∷◌, Option, Some, refl, sym, subst, arith, le_trans}
use Rattle.std.specs.Prelude.{ℤ, pos, negsuc, neg_ℤ, nat_le, min, ⊤}
use Rattle.std.proofs.Math.Nat.{min-eq_left}
use Rattle.std.proofs.lemmas.Bool.{and_parts, eqb-true, leb-true, ltb-true}
use Rattle.pl_base.specs.declared.pos.Pos.{Pos}
use Rattle.pl_base.specs.Fraction.{IsFraction}
use Rattle.pl_base.proofs.FractionLaws.{made, quotients}
use Rattle.pl_lexer.specs.declared.tokens.Kind.{Kind}
use Rattle.pl_lexer.specs.declared.tokens.Kind.TheVariants as k
use Rattle.pl_lexer.specs.declared.tokens.Token.{Token}
use Rattle.pl_lexer.specs.Proper.{IsName, IsProper}
use Rattle.pl_readers.specs.Language.{Language, One}
use Rattle.pl_syntax.specs.declared.expr.BinOp.{BinOp}
use Rattle.pl_syntax.specs.declared.expr.Class.{Class}
use Rattle.pl_syntax.specs.declared.expr.Class.TheVariants as c
use Rattle.pl_syntax.specs.declared.expr.Sort.{Sort}
use Rattle.pl_syntax.specs.declared.expr.Sort.TheVariants as v
use Rattle.pl_syntax.specs.Tree as t
use Rattle.pl_syntax.specs.Tree.{Name, Expr}
use Rattle.pl_grammar.specs.Signs.{look_up, entry_kind}
use Rattle.pl_grammar.specs.Grammar.{Part, joined, constants, constant, word_kind, word_of, literal_kind, literal_of, negative_kind, negative_of, Chain, Chained, Optional, Single, times, plus, relation, conjunction, disjunction, implication, TermOf, SumOf, CompareOf, AndOf, OrOf, ExprOf, UnaryOf, Other, Unary, Sum, Expression}
use Rattle.pl_grammar.specs.PropGrammar.{Value, Summed, Arguments, CellBehind, Cell, InstanceBehind, Instance, ref_kind, sorts, SortOf, BinderOf, Binders, finest, divisor, numerator_kind, denominator_kind, Factor, Fraction, BehindNumerator, Permission, PropPart, Labelled, PermissionOrWhole, NamedAtom, LastPermission, Atom, Prop, WholeProp}
use Rattle.pl_grammar.proofs.Divisors.{divisor_is}
use Rattle.pl_printed.specs.Printable.{HasOne, IfSome, Each, IsLiteral, IsExpr, IsCell, IsInstance, IsPerm, IsSort, IsBinder, IsProp}
use Rattle.pl_printed.proofs.Gives.{Gives, one, any, next, sign, name, mapped, last_sign, last_name, either, nothing, where_gives, many}

-- ---- expressions

abbrev IsTree : Part → Type 0
IsTree y = IsExpr y.tree

constant_tree : (p : Pos) (u : ℕ) (j : ℕ) (y : Part) → (b1 b2 b3 : Bool) → (j == 52) ≡ b1 → (j == 53) ≡ b2 → (j == 54) ≡ b3 → constant p u (look_up constants j) ≡ Some y → IsTree y
constant_tree p u j y true b2 b3 e1 e2 e3 h = let g = (rw e1 at h) in let is : record { first = p; tree = t.Truth p true; used = u } ≡ y = cc in subst IsTree is tt
constant_tree p u j y false true b3 e1 e2 e3 h = let g = (rw (e1, e2) at h) in let is : record { first = p; tree = t.Truth p false; used = u } ≡ y = cc in subst IsTree is tt
constant_tree p u j y false false true e1 e2 e3 h = let g = (rw (e1, e2, e3) at h) in let is : record { first = p; tree = t.Null p; used = u } ≡ y = cc in subst IsTree is tt
constant_tree p u j y false false false e1 e2 e3 h = let g = (rw (e1, e2, e3) at h) in absurd cc

word_tree : (u : ℕ) (p : Pos) (kk : Kind) (y : Part) → IsProper kk → word_kind u p kk ≡ Some y → IsTree y
word_tree u p (k.Word x) y h e = let is : record { first = p; tree = t.Var p x; used = u } ≡ y = cc in subst IsTree is h
word_tree u p (k.Number n) y h e = absurd cc
word_tree u p (k.Sign j) y h e = constant_tree p u j y (j == 52) (j == 53) (j == 54) refl refl refl e
word_tree u p k.End y h e = absurd cc

literal_is : (z : ℤ) (n : ℕ) → z ≡ pos n → n < 2 ^ 127 → IsLiteral z
literal_is z n e lt = subst IsLiteral (sym e) lt

literal_tree : (u : ℕ) (p : Pos) (kk : Kind) (y : Part) → IsProper kk → literal_kind u p kk ≡ Some y → IsTree y
literal_tree u p (k.Word x) y h e = absurd cc
literal_tree u p (k.Number n) y h e = let is : record { first = p; tree = t.Int p n; used = u } ≡ y = cc in subst IsTree is (literal_is n h.0 h.1 h.2)
literal_tree u p (k.Sign j) y h e = absurd cc
literal_tree u p k.End y h e = absurd cc

negative_literal : (n : ℕ) → n < 2 ^ 127 → IsLiteral (neg_ℤ (pos n))
negative_literal zero lt = lt
negative_literal (suc n) lt = lt

number_below : (n m : ℕ) → pos n ≡ pos m → m < 2 ^ 127 → n < 2 ^ 127
number_below n m e lt = let is : n ≡ m = cc in rw is lt

negative_tree : (u : ℕ) (p : Pos) (kk : Kind) (y : Part) → IsProper kk → negative_kind u p kk ≡ Some y → IsTree y
negative_tree u p (k.Word x) y h e = absurd cc
negative_tree u p (k.Number (pos n)) y h e =
    let is : record { first = p; tree = t.Int p (neg_ℤ (pos n)); used = u } ≡ y = cc in
    subst IsTree is (negative_literal n (number_below n h.0 h.1 h.2))
negative_tree u p (k.Number (negsuc n)) y h e = absurd cc
negative_tree u p (k.Sign j) y h e = absurd cc
negative_tree u p k.End y h e = absurd cc

a_word : (u : ℕ) → Gives (One (word_of u)) IsTree
a_word u = one (λ x y h e. word_tree u x.pos x.kind y h e)

a_literal : (u : ℕ) → Gives (One (literal_of u)) IsTree
a_literal u = one (λ x y h e. literal_tree u x.pos x.kind y h e)

a_negative : (u : ℕ) (p : Pos) → Gives (One (negative_of u p)) IsTree
a_negative u p = one (λ x y h e. negative_tree u p x.kind y h e)

abbrev Trees : (ℕ → Language Token Part) → Type 0
Trees T = (u : ℕ) → Gives (T u) IsTree

chain : (ops : List (ℕ × BinOp)) (T : ℕ → Language Token Part) (d : ℕ) → Trees T → (count : ℕ) (left : Part) → IsTree left → Gives (Chain ops T d count left) IsTree
unfolding Chain
chain ops T d g zero left h = nothing h
chain ops T d g (suc count) left h = either (where_gives (nat_lt left.used d) (next any (λ o i. next (g (left.used + 1)) (λ right j. chain ops T d g count (joined left o right) (h, j))))) (nothing h)

chained : (ops : List (ℕ × BinOp)) (T : ℕ → Language Token Part) (d : ℕ) → Trees T → Trees (Chained ops d T)
chained ops T d g u = next (g u) (λ y h. chain ops T d g d y h)

optional : (ops : List (ℕ × BinOp)) (T : ℕ → Language Token Part) (d : ℕ) → Trees T → (left : Part) → IsTree left → Gives (Optional ops T d left) IsTree
unfolding Optional
optional ops T d g left h = either (where_gives (nat_lt left.used d) (next any (λ o i. mapped (g (left.used + 1)) (λ right j. (h, j))))) (nothing h)

single : (ops : List (ℕ × BinOp)) (T : ℕ → Language Token Part) (d : ℕ) → Trees T → Trees (Single ops d T)
single ops T d g u = next (g u) (λ y h. optional ops T d g y h)

unary : (O : ℕ → Language Token Part) → Trees O → Trees (UnaryOf O)
unary O g u = either (a_literal u) (g u)

sums : (d : ℕ) (U : ℕ → Language Token Part) → Trees U → Trees (SumOf d U)
sums d U g = chained plus (TermOf d U) d (chained times U d g)

exprs : (d : ℕ) (U : ℕ → Language Token Part) → Trees U → Trees (ExprOf d U)
exprs d U g = single implication (OrOf d U) d (chained disjunction (AndOf d U) d (chained conjunction (CompareOf d U) d (single relation (SumOf d U) d (sums d U g))))

other : (d : ℕ) → Trees (Other d)
unfolding Other
other zero u = either (sign 16 (λ p. a_negative u p)) (a_word u)
other (suc d) u =
    either (sign 16 (λ p. either (a_negative u p) (where_gives (nat_lt u (suc d)) (mapped (other d u) (λ y h. h)))))
    (either (where_gives (nat_lt u (suc d)) (either (sign 51 (λ p. mapped (unary (Other d) (other d) u) (λ y h. h))) (sign 0 (λ p. next (exprs d (UnaryOf (Other d)) (unary (Other d) (other d)) u) (λ y h. last_sign 1 (λ q. h))))))
    (a_word u))

a_sum : (d u : ℕ) → Gives (Sum d u) IsTree
unfolding Sum
a_sum d u = sums d (Unary d) (unary (Other d) (other d)) u

pub value : (d u : ℕ) → Gives (Value d u) IsExpr
unfolding Expression
value d u = mapped (exprs d (Unary d) (unary (Other d) (other d)) u) (λ y h. h)

pub summed : (d u : ℕ) → Gives (Summed d u) IsExpr
summed d u = mapped (a_sum d u) (λ y h. h)

-- ---- arguments, cells and instances

pub arguments : (d u : ℕ) → Gives (Arguments d u) (Each IsExpr)
arguments d u = either (last_sign 1 (λ p. tt)) (next (value d u) (λ y h. next (many (sign 6 (λ p. value d u))) (λ ys i. last_sign 1 (λ p. (h, i)))))

pub cell_behind : (d u : ℕ) (x : Pos × List ℕ) → IsName x.1 → Gives (CellBehind d u x) IsCell
cell_behind d u x h = either (either (sign 4 (λ p. next (summed d u) (λ y i. last_sign 5 (λ q. (h, i))))) (sign 9 (λ p. last_name (λ f i. (h, i))))) (nothing h)

pub cell : (d u : ℕ) → Gives (Cell d u) IsCell
cell d u = name (λ x h. cell_behind d u x h)

instance_behind : (d u : ℕ) (x : Pos × List ℕ) → IsName x.1 → Gives (InstanceBehind d u x) IsInstance
instance_behind d u x h = sign 0 (λ p. mapped (arguments d u) (λ ys i. (h, i)))

pub instance : (d u : ℕ) → Gives (Instance d u) IsInstance
instance d u = name (λ x h. instance_behind d u x h)

-- ---- binders

ref_sort : (kk : Kind) (s : Sort) → IsProper kk → ref_kind kk ≡ Some s → IsSort s
ref_sort (k.Word x) s h e = let is : v.RefStruct x ≡ s = cc in subst IsSort is h
ref_sort (k.Number n) s h e = absurd cc
ref_sort (k.Sign j) s h e = ref_by j s (j == 92) (j == 93) refl refl e
  where
    ref_by : (j : ℕ) (s : Sort) (b1 b2 : Bool) → (j == 92) ≡ b1 → (j == 93) ≡ b2 → look_up ((92, v.RefI64) ∷ (93, v.RefBool) ∷ []) j ≡ Some s → IsSort s
    ref_by j s true b2 e1 e2 h = let g = (rw e1 at h) in let is : v.RefI64 ≡ s = cc in subst IsSort is tt
    ref_by j s false true e1 e2 h = let g = (rw (e1, e2) at h) in let is : v.RefBool ≡ s = cc in subst IsSort is tt
    ref_by j s false false e1 e2 h = let g = (rw (e1, e2) at h) in absurd cc
ref_sort k.End s h e = absurd cc

-- sorts in a table, none of which has a name
abbrev AllSorts : List (ℕ × Sort) → Type 0
AllSorts [] = ⊤
AllSorts (e ∷ es) = IsSort e.1 × AllSorts es

table_sort : (table : List (ℕ × Sort)) → AllSorts table → (j : ℕ) (s : Sort) → look_up table j ≡ Some s → IsSort s
table_sort [] h j s e = absurd cc
table_sort ((n, a) ∷ rest) h j s e = at_by n a rest h j s (j == n) refl e (λ g. table_sort rest h.1 j s g)
  where
    at_by : (n : ℕ) (a : Sort) (rest : List (ℕ × Sort)) → AllSorts ((n, a) ∷ rest) → (j : ℕ) (s : Sort) (b : Bool) → (j == n) ≡ b → look_up ((n, a) ∷ rest) j ≡ Some s → (look_up rest j ≡ Some s → IsSort s) → IsSort s
    at_by n a rest h j s true e1 e ih = let g = (rw e1 at e) in let is : a ≡ s = cc in subst IsSort is h.0
    at_by n a rest h j s false e1 e ih = let g = (rw e1 at e) in ih g

sign_sort : (kk : Kind) (s : Sort) → entry_kind sorts kk ≡ Some s → IsSort s
sign_sort (k.Word x) s e = absurd cc
sign_sort (k.Number n) s e = absurd cc
sign_sort (k.Sign j) s e = table_sort sorts (tt, (tt, (tt, (tt, (tt, (tt, (tt, (tt, tt)))))))) j s e
sign_sort k.End s e = absurd cc

a_sort : Gives SortOf IsSort
a_sort = either (sign 94 (λ p. one (λ x s h e. ref_sort x.kind s h e))) (one (λ x s h e. sign_sort x.kind s e))

pub binder : (class : Class) → Gives (BinderOf class) (IsBinder class)
binder class = name (λ x h. sign 8 (λ p. mapped a_sort (λ s i. (h, i, refl))))

pub binders : (class : Class) → Gives (Binders class) (λ bs. HasOne bs × Each (IsBinder class) bs)
binders class = next (binder class) (λ b h. mapped (many (sign 6 (λ p. binder class))) (λ bs i. (tt, (h, i))))

-- ---- permissions

abbrev IsNumerator : ℕ → Type 0
IsNumerator n = (0 < n) × (n ≤ finest)

numerator_by : (p : Pos) (n : ℕ) (a : Pos × ℕ) (b : Bool) → (nat_lt 0 n && nat_le n finest) ≡ b → numerator_kind p (k.Number (pos n)) ≡ Some a → IsNumerator a.1
numerator_by p n a true e h =
    let g = (rw e at h) in
    let w = and_parts (nat_lt 0 n) (nat_le n finest) e in
    let is : (p, n) ≡ a = cc in
    subst (λ (z : Pos × ℕ). IsNumerator z.1) is (ltb-true 0 n w.0, leb-true n finest w.1)
numerator_by p n a false e h = let g = (rw e at h) in absurd cc

numerator_at : (p : Pos) (kk : Kind) (a : Pos × ℕ) → numerator_kind p kk ≡ Some a → IsNumerator a.1
numerator_at p (k.Word x) a h = absurd cc
numerator_at p (k.Number (pos n)) a h = numerator_by p n a (nat_lt 0 n && nat_le n finest) refl h
numerator_at p (k.Number (negsuc n)) a h = absurd cc
numerator_at p (k.Sign j) a h = absurd cc
numerator_at p k.End a h = absurd cc

denominator_by : (n m d : ℕ) (b : Bool) → n ≤ finest → (nat_le (min n finest) m && nat_le m finest) ≡ b → denominator_kind n (k.Number (pos m)) ≡ Some d → (n ≤ d) × (d ≤ finest)
denominator_by n m d true small e h =
    let g = (rw e at h) in
    let w = and_parts (nat_le (min n finest) m) (nat_le m finest) e in
    let is : m ≡ d = cc in
    let le : min n finest ≤ m = leb-true (min n finest) m w.0 in
    let at_most : n ≤ m = rw (min-eq_left small) at le in
    subst (λ (z : ℕ). (n ≤ z) × (z ≤ finest)) is (at_most, leb-true m finest w.1)
denominator_by n m d false small e h = let g = (rw e at h) in absurd cc

denominator_at : (n : ℕ) (kk : Kind) (d : ℕ) → n ≤ finest → denominator_kind n kk ≡ Some d → (n ≤ d) × (d ≤ finest)
denominator_at n (k.Word x) d small h = absurd cc
denominator_at n (k.Number (pos m)) d small h = denominator_by n m d (nat_le (min n finest) m && nat_le m finest) small refl h
denominator_at n (k.Number (negsuc m)) d small h = absurd cc
denominator_at n (k.Sign j) d small h = absurd cc
denominator_at n k.End d small h = absurd cc

factor : Gives Factor (IfSome IsName)
factor = either (sign 17 (λ p. last_name (λ f h. h))) (nothing tt)

part_in : (n d : ℕ) → 0 < n → n ≤ d → d ≤ finest → IsFraction (n / divisor (suc d) n d) (d / divisor (suc d) n d)
part_in n d some le small =
    let i = divisor_is (suc d) n d (omega arith) in
    made n d (divisor (suc d) n d) some le i (le_trans (quotients n d (divisor (suc d) n d) some le i).2 small)

a_fraction : (n : Pos × ℕ) → IsNumerator n.1 → Gives (Fraction n) IsPerm
a_fraction n h = sign 18 (λ p. next (one (λ x d i e. denominator_at n.1 x.kind d h.1 e)) (λ d i. mapped factor (λ f j. (part_in n.1 d h.0 i.0 i.1, j))))

behind_numerator : (b : Bool) (n : Pos × ℕ) → (n.1 == 1) ≡ b → IsNumerator n.1 → Gives (BehindNumerator b n) IsPerm
behind_numerator true n e h =
    let is : n.1 ≡ 1 = eqb-true n.1 1 e in
    either (a_fraction n h) (mapped factor (λ f j. (part_in n.1 1 h.0 (omega (arith, is)) (leb-true 1 finest refl), j)))
behind_numerator false n e h = a_fraction n h

whole_part : IsFraction 1 1
unfolding divisor
whole_part = part_in 1 1 (omega arith) (omega arith) (leb-true 1 finest refl)

pub permission : Gives Permission IsPerm
permission = either (next (one (λ x n i e. numerator_at x.pos x.kind n e)) (λ n h. behind_numerator (n.1 == 1) n refl h)) (last_name (λ f h. (whole_part, h)))

-- ---- atoms

abbrev IsPart : PropPart → Type 0
IsPart y = IsProp y.tree

abbrev IsLabelled : Option Name × Expr → Type 0
IsLabelled y = IfSome IsName y.0 × IsExpr y.1

pub labelled : (d u : ℕ) → Gives (Labelled d u) IsLabelled
labelled d u = either (name (λ x h. sign 8 (λ p. mapped (value d u) (λ e i. (h, i))))) (mapped (value d u) (λ e i. (tt, i)))

last_permission : (p : Pos) → Gives (LastPermission p) IsPerm
last_permission p = either (sign 6 (λ q. permission)) (nothing (whole_part, tt))

permission_or_whole : (p : Pos) → Gives (PermissionOrWhole p) IsPerm
permission_or_whole p = either (sign 2 (λ q. next permission (λ r h. last_sign 3 (λ s. h)))) (nothing (whole_part, tt))

named_atom : (d u : ℕ) → Gives (NamedAtom d u) IsPart
named_atom d u = name (λ x h. either (mapped (instance_behind d u x h) (λ i j. j))
    (next (cell_behind d u x h) (λ s i. sign 13 (λ p. next (permission_or_whole x.0) (λ q j. mapped (a_sum d u) (λ e l. (i, j, l)))))))

atom : (d u : ℕ) → Gives (Atom d u) IsPart
atom d u =
    either (last_sign 55 (λ p. tt))
    (either (sign 56 (λ p. sign 0 (λ q. next (labelled d u) (λ e h. last_sign 1 (λ r. (h.0, h.1))))))
    (either (sign 59 (λ p. sign 0 (λ q. next (value d u) (λ a h. sign 6 (λ r. next (value d u) (λ n i. last_sign 1 (λ s. (h, i))))))))
    (either (sign 58 (λ p. sign 0 (λ q. next (value d u) (λ a h. sign 6 (λ r. next (value d u) (λ lo i. sign 6 (λ s. next (value d u) (λ hi j. next (last_permission p) (λ m l. last_sign 1 (λ w. (h, i, j, l)))))))))))
    (either (sign 60 (λ p. sign 0 (λ q. next (value d u) (λ a h. sign 6 (λ r. next permission (λ m i. sign 6 (λ s. next (instance d u) (λ n j. last_sign 1 (λ w. (h, i, j))))))))))
    (either (sign 61 (λ p. sign 0 (λ q. next (value d u) (λ a h. last_sign 1 (λ r. h)))))
    (either (sign 62 (λ p. sign 0 (λ q. next (value d u) (λ a h. sign 6 (λ r. next (instance d u) (λ n i. last_sign 1 (λ s. (h, i))))))))
    (named_atom d u)))))))

-- ---- propositions

pub prop : (d u : ℕ) → Gives (Prop d u) IsPart
unfolding Prop
prop zero u = atom zero u
prop (suc d) u =
    either (where_gives (nat_lt u (suc d)) (sign 57 (λ p. next (binders c.Logical) (λ bs h. sign 9 (λ q. mapped (prop d u) (λ y i. (h.0, h.1, i)))))))
    (next (either (where_gives (nat_lt u (suc d)) (sign 0 (λ p. next (prop d u) (λ y h. last_sign 1 (λ q. h))))) (atom (suc d) u))
    (λ a h. either (where_gives (nat_lt a.used (suc d)) (sign 14 (λ p. mapped (prop d a.used) (λ y i. (h, i))))) (nothing h)))

pub whole_prop : (d u : ℕ) → Gives (WholeProp d u) IsProp
whole_prop d u = mapped (prop d u) (λ y h. h)
