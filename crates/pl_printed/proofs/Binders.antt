-- Permissions, sorts and binders as they are printed.
use Rattle.std.proofs.Common.{◌≡◌, ◌∙◌, ℕ, ◌^◌, ◌≤◌, ◌<◌, ◌==◌, ◌&&◌, Bool, true, false, List, [], ◌∷◌, ◌++◌, map, Option, Some, None, refl, sym, ap, subst, append_assoc, append-nil, arith, le_trans, lt_of_lt_of_le}
use Rattle.std.specs.Prelude.{pos, nat_le, nat_lt, min, codes, decimal, is_none}
use Rattle.std.proofs.Math.Nat.{min-le_left}
use Rattle.std.proofs.lemmas.Bool.{and_parts, and_from, eqb-true, leb-true, le-leb, lt-ltb}
use Rattle.pl_base.specs.declared.pos.Pos.{Pos}
use Rattle.pl_base.specs.Fraction.{IsFraction}
use Rattle.pl_grammar.proofs.Divisors.{part_is}
use Rattle.pl_lexer.specs.declared.tokens.Kind.{Kind}
use Rattle.pl_lexer.specs.declared.tokens.Kind.TheVariants as k
use Rattle.pl_lexer.specs.Proper.{IsName}
use Rattle.pl_syntax.specs.declared.expr.Class.{Class}
use Rattle.pl_syntax.specs.declared.expr.Sort.{Sort}
use Rattle.pl_syntax.specs.declared.expr.Sort.TheVariants as v
use Rattle.pl_syntax.specs.declared.expr.Binder.{Binder}
use Rattle.pl_syntax.specs.declared.expr.PermExpr.{PermExpr}
use Rattle.pl_syntax.specs.Tree.{Name}
use Rattle.pl_grammar.specs.PropGrammar.{finest, divisor, lowest, numerator_of, denominator_of, fraction, Fraction, BehindNumerator, Permission, whole_at, LastPermission, SortOf, BinderOf, MoreBinders, Binders}
use Rattle.pl_print.specs.Lists.{each_behind}
use Rattle.pl_print.specs.ExprText.{perm_text, is_all, last_perm_text, sort_text, binder_text, binders_text}
use Rattle.pl_printed.specs.Bare.{bare_perm, bare_binder, nowhere}
use Rattle.pl_printed.specs.Printable.{IsPerm, IsSort, IsBinder, IfSome, Each, HasOne}
use Rattle.pl_printed.proofs.Laid.{kinds}
use Rattle.pl_printed.proofs.Takes.{Takes, next, sign, name, one, token, last_name, mapped, left, right, nothing, no_texts, texts}
use Rattle.pl_printed.proofs.Members.{gap, mark, named, count, part, clause, Printed, Written, printed_by, written_by}

-- ---- permissions

abbrev pub PermMeans : PermExpr → List Kind → Type 0
PermMeans q ks = Takes Permission ks (λ y. bare_perm y ≡ bare_perm q)

abbrev perm_at : Pos → ℕ × ℕ → Option Name → PermExpr
perm_at p ratio f = record { pos = p; part = ratio; var = f }

whole_perm : (at : Pos) (f : Option Name) → IfSome IsName f → Printed (perm_text (perm_at at (1, 1) f)) (PermMeans (perm_at at (1, 1) f))
unfolding divisor
whole_perm at None h =
    printed_by (count 1 (leb-true 2 (2 ^ 127) refl) ∷ []) (decimal 1) refl (append-nil (decimal 1))
    (left (token (k.Number (pos 1)) (λ p. (p, 1)) (λ p. refl) (λ p. right (mapped {P = λ o. o ≡ None} (right (nothing refl)) (λ o e. ap (λ (z : Option Name). perm_at nowhere (1, 1) z) e)))))
whole_perm at (Some f) h = printed_by (named f h ∷ []) f refl (append-nil f) (right (last_name f (λ p. refl)))

numerator_here : (n : ℕ) → 0 < n → n ≤ finest → (p : Pos) → numerator_of (record { pos = p; kind = k.Number (pos n) }) ≡ Some (p, n)
numerator_here n some small p = let e : (nat_lt 0 n && nat_le n finest) ≡ true = and_from (nat_lt 0 n) (nat_le n finest) (lt-ltb 0 n some) (le-leb n finest small) in rw e refl

denominator_here : (n d : ℕ) → n ≤ d → d ≤ finest → (p : Pos) → denominator_of n (record { pos = p; kind = k.Number (pos d) }) ≡ Some d
denominator_here n d le small p =
    let e : (nat_le (min n finest) d && nat_le d finest) ≡ true = and_from (nat_le (min n finest) d) (nat_le d finest) (le-leb (min n finest) d (le_trans (min-le_left n finest) le)) (le-leb d finest small) in
    rw e refl

small_number : (n : ℕ) → n ≤ finest → n < 2 ^ 127
small_number n le = let lt : n < 1048577 = omega arith in lt_of_lt_of_le lt (leb-true 1048577 (2 ^ 127) refl)

behind_numerator : (b : Bool) (n : Pos × ℕ) (ks : List Kind) (Q : PermExpr → Type 0) → Takes (Fraction n) ks Q → Takes (BehindNumerator b n) ks Q
behind_numerator true n ks Q t = left t
behind_numerator false n ks Q t = t

abbrev factor_text : Option Name → List ℕ
factor_text None = []
factor_text (Some f) = codes "*" ++ f

five_group : (a b c d e : List ℕ) → a ++ (b ++ (c ++ (d ++ e))) ≡ (((a ++ b) ++ c) ++ d) ++ e
five_group a b c d e = sym (append_assoc ((a ++ b) ++ c) d e ∙ append_assoc (a ++ b) c (d ++ e) ∙ append_assoc a b (c ++ (d ++ e)))

fraction_text : (f : Option Name) (at : Pos) (n d : ℕ) → (d == 1) ≡ false → decimal n ++ (codes "/" ++ (decimal d ++ factor_text f)) ≡ perm_text (perm_at at (n, d) f)
fraction_text None at n d e = rw e (ap (λ (z : List ℕ). decimal n ++ (codes "/" ++ z)) (append-nil (decimal d)) ∙ sym (append_assoc (decimal n) (codes "/") (decimal d)))
fraction_text (Some f) at n d e = rw e (five_group (decimal n) (codes "/") (decimal d) (codes "*") f)

same_fraction : (p : Pos) (n d : ℕ) (f g : Option Name) → lowest n d ≡ (n, d) → g ≡ f → bare_perm (fraction (p, n) d g) ≡ perm_at nowhere (n, d) f
same_fraction p n d f g low same = ap (λ (z : ℕ × ℕ). perm_at nowhere z g) low ∙ ap (λ (z : Option Name). perm_at nowhere (n, d) z) same

-- a fraction in lowest terms is what it is in lowest terms
lowest_is : (n d : ℕ) → IsFraction n d → lowest n d ≡ (n, d)
lowest_is n d i = sym (part_is n d (n, d) i.part (record { same = refl; lowest = i.lowest }))

fraction_perm : (at : Pos) (n d : ℕ) (f : Option Name) → (d == 1) ≡ false → IsFraction n d → IfSome IsName f → Printed (perm_text (perm_at at (n, d) f)) (PermMeans (perm_at at (n, d) f))
fraction_perm at n d None e i h =
    printed_by (count n (small_number n (le_trans i.part.within i.part.coarse)) ∷ mark 18 ∷ count d (small_number d i.part.coarse) ∷ []) (perm_text (perm_at at (n, d) None)) refl (fraction_text None at n d e)
    (left (token (k.Number (pos n)) (λ p. (p, n)) (numerator_here n i.part.some (le_trans i.part.within i.part.coarse)) (λ p. behind_numerator (n == 1) (p, n) _ _
    (sign 18 (λ q. token (k.Number (pos d)) (λ x. d) (denominator_here n d i.part.within i.part.coarse) (λ x. mapped {P = λ g. g ≡ None} (right (nothing refl)) (λ g same. same_fraction p n d None g (lowest_is n d i) same)))))))
fraction_perm at n d (Some f) e i h =
    printed_by (count n (small_number n (le_trans i.part.within i.part.coarse)) ∷ mark 18 ∷ count d (small_number d i.part.coarse) ∷ mark 17 ∷ named f h ∷ []) (perm_text (perm_at at (n, d) (Some f))) refl
    (ap (λ (z : List ℕ). decimal n ++ (codes "/" ++ (decimal d ++ (codes "*" ++ z)))) (append-nil f) ∙ fraction_text (Some f) at n d e)
    (left (token (k.Number (pos n)) (λ p. (p, n)) (numerator_here n i.part.some (le_trans i.part.within i.part.coarse)) (λ p. behind_numerator (n == 1) (p, n) _ _
    (sign 18 (λ q. token (k.Number (pos d)) (λ x. d) (denominator_here n d i.part.within i.part.coarse)
    (λ x. mapped {P = λ g. g ≡ Some f} (left (sign 17 (λ y. last_name f (λ z. refl)))) (λ g same. same_fraction p n d (Some f) g (lowest_is n d i) same)))))))

part_one : (n d : ℕ) → IsFraction n d → (d == 1) ≡ true → (n ≡ 1) × (d ≡ 1)
part_one n d i e = let is = eqb-true d 1 e in let some = i.part.some in let le = i.part.within in let one : n ≡ 1 = omega (arith, is, some, le) in (one, is)

perm_by : (at : Pos) (n d : ℕ) (f : Option Name) (b : Bool) → (d == 1) ≡ b → IsFraction n d → IfSome IsName f → Printed (perm_text (perm_at at (n, d) f)) (PermMeans (perm_at at (n, d) f))
perm_by at n d f true e i h =
    let is = part_one n d i e in
    subst (λ (m : ℕ). Printed (perm_text (perm_at at (m, d) f)) (PermMeans (perm_at at (m, d) f))) (sym is.0)
    (subst (λ (m : ℕ). Printed (perm_text (perm_at at (1, m) f)) (PermMeans (perm_at at (1, m) f))) (sym is.1) (whole_perm at f h))
perm_by at n d f false e i h = fraction_perm at n d f e i h

pub perm : (q : PermExpr) → IsPerm q → Printed (perm_text q) (PermMeans q)
perm q h = perm_by q.pos q.part.0 q.part.1 q.var (q.part.1 == 1) refl h.0 h.1

none_is : (f : Option Name) → is_none f ≡ true → f ≡ None
none_is None e = refl
none_is (Some f) e = absurd cc

-- a permission that is not shown is the whole
pub all_same : (q : PermExpr) → IsPerm q → is_all q ≡ true → (p : Pos) → bare_perm (whole_at p) ≡ bare_perm q
all_same q h e p =
    let a = and_parts (is_none q.var) (q.part.1 == 1) e in
    let is = part_one q.part.0 q.part.1 h.0 a.1 in
    ap (λ (n : ℕ). perm_at nowhere (n, 1) None) (sym is.0) ∙ ap (λ (n : ℕ). perm_at nowhere (q.part.0, n) None) (sym is.1) ∙ ap (λ (z : Option Name). perm_at nowhere q.part z) (sym (none_is q.var a.0))

abbrev pub LastPermMeans : PermExpr → List Kind → Type 0
LastPermMeans q ks = (p : Pos) → Takes (LastPermission p) ks (λ y. bare_perm y ≡ bare_perm q)

last_perm_by : (q : PermExpr) (b : Bool) → is_all q ≡ b → IsPerm q → Written (last_perm_text q) (LastPermMeans q)
last_perm_by q true e h = written_by [] (last_perm_text q) refl (rw e refl) (λ p. right (nothing (all_same q h e p)))
last_perm_by q false e h =
    let r = perm q h in
    written_by (mark 6 ∷ gap ∷ part _ r.parts ∷ []) (last_perm_text q) refl (rw e refl) (λ p. left (sign 6 (λ x. r.means)))

pub last_perm : (q : PermExpr) → IsPerm q → Written (last_perm_text q) (LastPermMeans q)
last_perm q h = last_perm_by q (is_all q) refl h

-- ---- binders

abbrev SortMeans : Sort → List Kind → Type 0
SortMeans s ks = Takes SortOf ks (λ y. y ≡ s)

sort : (s : Sort) → IsSort s → Printed (sort_text s) (SortMeans s)
sort v.I64 h = printed_by (mark 92 ∷ []) (sort_text v.I64) refl refl (right (one (k.Sign 92) (λ p. v.I64) (λ p. refl) (λ p. refl)))
sort v.Bool h = printed_by (mark 93 ∷ []) (sort_text v.Bool) refl refl (right (one (k.Sign 93) (λ p. v.Bool) (λ p. refl) (λ p. refl)))
sort v.RefI64 h = printed_by (mark 94 ∷ gap ∷ mark 92 ∷ []) (sort_text v.RefI64) refl refl (left (sign 94 (λ q. one (k.Sign 92) (λ p. v.RefI64) (λ p. refl) (λ p. refl))))
sort v.RefBool h = printed_by (mark 94 ∷ gap ∷ mark 93 ∷ []) (sort_text v.RefBool) refl refl (left (sign 94 (λ q. one (k.Sign 93) (λ p. v.RefBool) (λ p. refl) (λ p. refl))))
sort (v.RefStruct s) h =
    printed_by (mark 94 ∷ gap ∷ named s h ∷ []) (sort_text (v.RefStruct s)) refl (ap (λ (z : List ℕ). codes "ref " ++ z) (append-nil s))
    (left (sign 94 (λ q. one (k.Word s) (λ p. v.RefStruct s) (λ p. refl) (λ p. refl))))
sort v.Atomic h = printed_by (mark 95 ∷ []) (sort_text v.Atomic) refl refl (right (one (k.Sign 95) (λ p. v.Atomic) (λ p. refl) (λ p. refl)))
sort v.Lock h = printed_by (mark 96 ∷ []) (sort_text v.Lock) refl refl (right (one (k.Sign 96) (λ p. v.Lock) (λ p. refl) (λ p. refl)))
sort v.Int h = printed_by (mark 97 ∷ []) (sort_text v.Int) refl refl (right (one (k.Sign 97) (λ p. v.Int) (λ p. refl) (λ p. refl)))
sort v.Perm h = printed_by (mark 98 ∷ []) (sort_text v.Perm) refl refl (right (one (k.Sign 98) (λ p. v.Perm) (λ p. refl) (λ p. refl)))
sort v.Gref h = printed_by (mark 99 ∷ []) (sort_text v.Gref) refl refl (right (one (k.Sign 99) (λ p. v.Gref) (λ p. refl) (λ p. refl)))
sort v.Iname h = printed_by (mark 100 ∷ []) (sort_text v.Iname) refl refl (right (one (k.Sign 100) (λ p. v.Iname) (λ p. refl) (λ p. refl)))

abbrev pub BinderMeans : Binder → List Kind → Type 0
BinderMeans b ks = Takes (BinderOf b.class) ks (λ y. bare_binder y ≡ bare_binder b)

same_binder : (p : Pos) (b : Binder) (s : Sort) → s ≡ b.sort → bare_binder (record { pos = p; class = b.class; name = b.name; sort = s }) ≡ bare_binder b
same_binder p b s h = ap (λ (z : Sort). let c : Binder = record { pos = nowhere; class = b.class; name = b.name; sort = z } in c) h

pub binder : (b : Binder) → IsName b.name → IsSort b.sort → Printed (binder_text b) (BinderMeans b)
binder b n h =
    let s = sort b.sort h in
    printed_by (named b.name n ∷ mark 8 ∷ gap ∷ part _ s.parts ∷ []) (binder_text b) refl (sym (append_assoc b.name (codes ": ") (sort_text b.sort)))
    (name b.name (λ p. sign 8 (λ q. mapped s.means (λ y a. same_binder p b y a))))

-- a binder of a class
of_class : (class : Class) (b : Binder) → IsBinder class b → Printed (binder_text b) (λ ks. Takes (BinderOf class) ks (λ y. bare_binder y ≡ bare_binder b))
of_class class b h = let r = binder b h.0 h.1 in record { parts = r.parts; means = subst (λ (c : Class). Takes (BinderOf c) (kinds r.parts.pieces) (λ y. bare_binder y ≡ bare_binder b)) h.2 r.means }

abbrev MoreBindersMean : Class → List Binder → List Kind → Type 0
MoreBindersMean class bs ks = Takes (MoreBinders class) ks (λ ys. map bare_binder ys ≡ map bare_binder bs)

more_binders : (class : Class) (bs : List Binder) → Each (IsBinder class) bs → Written (each_behind (codes ", ") (map binder_text bs)) (MoreBindersMean class bs)
more_binders class [] h = written_by [] [] refl refl (no_texts refl)
more_binders class (b ∷ bs) h =
    let v = of_class class b h.0 in
    let r = more_binders class bs h.1 in
    written_by (mark 6 ∷ gap ∷ part _ v.parts ∷ clause _ r.parts ∷ []) (each_behind (codes ", ") (map binder_text (b ∷ bs))) refl refl
    (texts (sign 6 (λ p. v.means)) r.means (λ y ys a c. cc (a, c)))

abbrev pub BindersMean : Class → List Binder → List Kind → Type 0
BindersMean class bs ks = Takes (Binders class) ks (λ ys. map bare_binder ys ≡ map bare_binder bs)

pub binders : (class : Class) (bs : List Binder) → HasOne bs → Each (IsBinder class) bs → Printed (binders_text bs) (BindersMean class bs)
binders class [] some h = absurd some
binders class (b ∷ bs) some h =
    let v = of_class class b h.0 in
    let r = more_binders class bs h.1 in
    printed_by (part _ v.parts ∷ clause _ r.parts ∷ []) (binders_text (b ∷ bs)) refl refl
    (next v.means (λ y a. mapped r.means (λ ys c. cc (a, c))))
