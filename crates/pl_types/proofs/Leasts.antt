-- Laws of the first of breaches.
use Rattle.std.proofs.Common.{◌≡◌, ◌∙◌, sym, ap, refl, ℕ, Bool, true, false, cond, Option, Some, None, List, [], ◌∷◌, ◌++◌, arith}
use Rattle.std.proofs.lemmas.Bool.Decides.{nat_tests}
use Rattle.pl_syntax.specs.declared.rules.Breach.{Breach}
use Rattle.pl_syntax.specs.Breaches.{group, rank, precedes, comes_before, earlier, first, least, or_else}

-- the lesser number goes first: through a third
through : (m n k : ℕ) (r s t : Bool) → (r ≡ true → s ≡ true → t ≡ true) → precedes m n r ≡ true → precedes n k s ≡ true → precedes m k t ≡ true
through m n k true true true h a b = grind (arith, nat_tests)
through m n k true true false h a b =
    let e : false ≡ true = h refl refl in
    grind (arith, nat_tests)
through m n k true false t h a b = grind (arith, nat_tests)
through m n k false s t h a b = grind (arith, nat_tests)

-- and so where it doesn't
not_through : (m n k : ℕ) (r s t : Bool) → (r ≡ false → s ≡ false → t ≡ false) → precedes m n r ≡ false → precedes n k s ≡ false → precedes m k t ≡ false
not_through m n k false false false h a b = grind (arith, nat_tests)
not_through m n k false false true h a b =
    let e : true ≡ false = h refl refl in
    grind (arith, nat_tests)
not_through m n k false true t h a b = grind (arith, nat_tests)
not_through m n k true s t h a b = grind (arith, nat_tests)

abbrev by_kind : Breach → Breach → Bool
by_kind a b = precedes (rank a.rule) (rank b.rule) false

abbrev by_place : Breach → Breach → Bool
by_place a b = precedes a.pos.byte b.pos.byte (by_kind a b)

-- coming before goes through a third
before_through : (a b c : Breach) → comes_before a b ≡ true → comes_before b c ≡ true → comes_before a c ≡ true
before_through a b c h k =
    through (group a.rule) (group b.rule) (group c.rule) (by_place a b) (by_place b c) (by_place a c)
    (through a.pos.byte b.pos.byte c.pos.byte (by_kind a b) (by_kind b c) (by_kind a c) (through (rank a.rule) (rank b.rule) (rank c.rule) false false false (λ x y. x))) h k

not_before_through : (a b c : Breach) → comes_before a b ≡ false → comes_before b c ≡ false → comes_before a c ≡ false
not_before_through a b c h k =
    not_through (group a.rule) (group b.rule) (group c.rule) (by_place a b) (by_place b c) (by_place a c)
    (not_through a.pos.byte b.pos.byte c.pos.byte (by_kind a b) (by_kind b c) (by_kind a c) (not_through (rank a.rule) (rank b.rule) (rank c.rule) false false false (λ x y. x))) h k

-- three breaches, by the tests whether b comes before a, c before b and c before a
assoc_by : (a b c : Breach) (p q r : Bool) → (q ≡ true → p ≡ true → r ≡ true) → (q ≡ false → p ≡ false → r ≡ false) →
    cond p (cond q (Some c) (Some b)) (cond r (Some c) (Some a)) ≡ cond q (cond r (Some c) (Some a)) (cond p (Some b) (Some a))
assoc_by a b c true true true h k = refl
assoc_by a b c true true false h k = ap (λ x. cond x (Some a) (Some c)) (h refl refl)
assoc_by a b c true false r h k = refl
assoc_by a b c false true r h k = refl
assoc_by a b c false false true h k = ap (λ x. cond x (Some c) (Some a)) (k refl refl)
assoc_by a b c false false false h k = refl

-- a choice goes on to what is made of it
onto_cond : (p : Bool) (a b : Breach) (c : Option Breach) → earlier (cond p (Some b) (Some a)) c ≡ cond p (earlier (Some b) c) (earlier (Some a) c)
onto_cond true a b c = refl
onto_cond false a b c = refl

into_cond : (q : Bool) (a b c : Breach) → earlier (Some a) (cond q (Some c) (Some b)) ≡ cond q (earlier (Some a) (Some c)) (earlier (Some a) (Some b))
into_cond true a b c = refl
into_cond false a b c = refl

pub earlier_assoc : (a b c : Option Breach) → earlier (earlier a b) c ≡ earlier a (earlier b c)
earlier_assoc None b c = refl
earlier_assoc (Some a) None c = refl
earlier_assoc (Some a) (Some b) None = onto_cond (comes_before b a) a b None
earlier_assoc (Some a) (Some b) (Some c) =
    onto_cond (comes_before b a) a b (Some c)
    ∙ assoc_by a b c (comes_before b a) (comes_before c b) (comes_before c a) (λ x y. before_through c b a x y) (λ x y. not_before_through c b a x y)
    ∙ sym (into_cond (comes_before c b) a b c)

earlier_none : (a : Option Breach) → earlier a None ≡ a
earlier_none None = refl
earlier_none (Some a) = refl

-- the first of these and those
pub least_append : (xs ys : List Breach) → least (xs ++ ys) ≡ earlier (least xs) (least ys)
least_append [] ys = refl
least_append (x ∷ xs) ys = ap (earlier (Some x)) (least_append xs ys) ∙ sym (earlier_assoc (Some x) (least xs) (least ys))

some_kept : (x : Breach) (p : Bool) (y : Breach) (b : Option Breach) → cond p (Some y) (Some x) ≡ first (cond p (Some y) (Some x)) b
some_kept x true y b = refl
some_kept x false y b = refl

first_some : (x : Breach) (a b : Option Breach) → earlier (Some x) a ≡ first (earlier (Some x) a) b
first_some x None b = refl
first_some x (Some y) b = some_kept x (comes_before y x) y b

-- these, or where there are none those
pub least_or_else : (xs ys : List Breach) → least (or_else xs ys) ≡ first (least xs) (least ys)
least_or_else [] ys = refl
least_or_else (x ∷ xs) ys = first_some x (least xs) (least ys)

-- one step of a loop that keeps the first of breaches
pub fold_least : (part next total : Option Breach) (one rest whole left : List Breach) → whole ≡ one ++ rest → next ≡ least one → left ≡ rest →
    earlier part (least whole) ≡ total → earlier (earlier part next) (least left) ≡ total
fold_least part next total one rest whole left w h l t =
    earlier_assoc part next (least left) ∙ ap (earlier part) (ap (earlier next) (ap least l) ∙ ap (λ r. earlier r (least rest)) h ∙ sym (least_append one rest) ∙ sym (ap least w)) ∙ t

some_none : (x : Breach) → Some x ≡ None → ⊥
some_none x h = grind arith

by_test : (x y : Breach) (p : Bool) → cond p (Some y) (Some x) ≡ None → ⊥
by_test x y true h = some_none y h
by_test x y false h = some_none x h

-- where nothing is found there is no breach
some_first : (x : Breach) (a : Option Breach) → earlier (Some x) a ≡ None → ⊥
some_first x None h = some_none x h
some_first x (Some y) h = by_test x y (comes_before y x) h

pub least_none : (xs : List Breach) → least xs ≡ None → xs ≡ []
least_none [] h = refl
least_none (x ∷ xs) h = absurd (some_first x (least xs) h)
