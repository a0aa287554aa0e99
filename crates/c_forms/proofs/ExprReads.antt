-- Expressions are read right.
use Rattle.std.proofs.Common.{◌≡◌, ◌⊎◌, inl, inr, ℕ, zero, suc, ◌+◌, ◌-◌, ◌*◌, ◌^◌, ◌<◌, Bool, true, false, List, [], ◌∷◌, ◌++◌, refl, sym, ap, ◌∙◌, append_assoc, arith}
use Rattle.std.specs.Prelude.{⊤, ◌==◌, pos, negsuc, codes, decimal}
use Rattle.std.specs.Char.{is_ascii_digit}
use Rattle.std.proofs.lemmas.Bool.{or_right, eqb-true, eq-eqb}
use Rattle.std.proofs.lemmas.Fmt.{decimal_digit}
use Rattle.c_syntax.specs.declared.expr.COp.{COp}
use Rattle.c_syntax.specs.declared.expr.COp.TheVariants as op
use Rattle.c_syntax.specs.Text.{constant, literal_text, operator}
use Rattle.pl_readers.specs.Language.{Language, Then, Either, Mapped}
use Rattle.pl_readers.specs.Reader.{Reader, next, either, mapped}
use Rattle.pl_readers.specs.Reads.{never, Ends}
use Rattle.pl_readers.specs.Bytes.{is, word, Number, value_from}
use Rattle.pl_readers.specs.Bytes as bytes
use Rattle.pl_readers.proofs.Exact.{Reads-number}
use Rattle.pl_readers.proofs.Words.{some_number}
use Rattle.pl_readers.proofs.Firsts.{ends_never}
use Rattle.c_forms.specs.declared.word.Local.{Local}
use Rattle.c_forms.specs.Reading.{among, after, ended_by, both, just}
use Rattle.c_forms.specs.Text.{local_text, expr_text}
use Rattle.c_forms.specs.Forms.{IsLocalForm, IsAboveZero, IsNestedForm, IsExprForm}
use Rattle.c_forms.specs.Tree as t
use Rattle.c_forms.specs.Tree.{Expr}
use Rattle.c_forms.specs.ExprReaders.{local, comparison, operator_sign, int, closed, unsigned_of, expr_of, negative, minus_of, binary_of, bracket_of, plain, expr}
use Rattle.c_forms.proofs.NameReads.{same_or_above}
use Rattle.c_forms.proofs.WordReads.{decimal_text, is_decimal, local_end, good_local}
use Rattle.c_forms.proofs.Spelling.{Spells, Good, Alts, Begin, Behind, same, at_any, good_behind, good_just, good_mapped, good_then, lit, fin, pair, alt, last, begin_mapped, begin_spells, begin_behind, begin_just}

-- ---- operators

abbrev Just : {A : Type 0} → A → List ℕ → Language ℕ A
Just v s = Spells (λ a. a ≡ v) (λ _. s)

single : (v : COp) (c : ℕ) (s : List ℕ) → Alts (c ∷ []) (Just v (c ∷ s)) never (just v (c ∷ s))
single v c s = last (c ∷ []) (Just v (c ∷ s)) never (just v (c ∷ s)) (good_just v (c ∷ s) never) (begin_just c s v)

-- one more operator, in front of others
or_just : (v : COp) (c : ℕ) (s ks : List ℕ) (U : Language ℕ COp) (Q : Reader ℕ COp) → among ks c ≡ false → Alts ks U never Q → Alts (c ∷ ks) (Either (Just v (c ∷ s)) U) never (either (is c) (just v (c ∷ s)) Q)
or_just v c s ks U Q e q = alt c ks (Just v (c ∷ s)) U never (just v (c ∷ s)) Q e (good_just v (c ∷ s) never) (begin_just c s v) q

abbrev Longer : ℕ → COp → COp → Language ℕ COp
Longer c v w = Behind (c ∷ []) (Either (Just v (codes "= ")) (Just w (codes " ")))

longer : (c : ℕ) (v w : COp) → Good (Longer c v w) never (after (c ∷ []) (either (is 61) (just v (codes "= ")) (just w (codes " "))))
longer c v w = good_behind (c ∷ []) (Either (Just v (codes "= ")) (Just w (codes " "))) never (either (is 61) (just v (codes "= ")) (just w (codes " ")))
    (or_just v 61 (32 ∷ []) (32 ∷ []) (Just w (codes " ")) (just w (codes " ")) refl (single w 32 [])).good

abbrev Comparison : Language ℕ COp
Comparison = Either (Longer 60 op.Le op.Lt) (Either (Longer 62 op.Ge op.Gt) (Either (Just op.Eq (codes "== ")) (Either (Just op.Ne (codes "!= ")) (Either (Just op.And (codes "&& ")) (Just op.Or (codes "|| "))))))

alts_comparison : Alts (60 ∷ 62 ∷ 61 ∷ 33 ∷ 38 ∷ 124 ∷ []) Comparison never comparison
unfolding comparison
alts_comparison =
    alt 60 (62 ∷ 61 ∷ 33 ∷ 38 ∷ 124 ∷ []) (Longer 60 op.Le op.Lt) _ never _ _ refl (longer 60 op.Le op.Lt) (begin_behind 60 [] _)
    (alt 62 (61 ∷ 33 ∷ 38 ∷ 124 ∷ []) (Longer 62 op.Ge op.Gt) _ never _ _ refl (longer 62 op.Ge op.Gt) (begin_behind 62 [] _)
    (or_just op.Eq 61 (codes "= ") (33 ∷ 38 ∷ 124 ∷ []) _ _ refl
    (or_just op.Ne 33 (codes "= ") (38 ∷ 124 ∷ []) _ _ refl
    (or_just op.And 38 (codes "& ") (124 ∷ []) _ _ refl (single op.Or 124 (codes "| "))))))

abbrev Sign : Language ℕ COp
Sign = Either (Just op.Add (codes "+ ")) (Either (Just op.Sub (codes "- ")) (Either (Just op.Mul (codes "* ")) (Either (Just op.Div (codes "/ ")) (Either (Just op.Rem (codes "% ")) Comparison))))

operator_there : (v : COp) (text : List ℕ) → Behind (codes " ") Sign v text → text ≡ operator v
operator_there v text (back, inl (e, h), k) = rw (e, k, h) refl
operator_there v text (back, inr (inl (e, h)), k) = rw (e, k, h) refl
operator_there v text (back, inr (inr (inl (e, h))), k) = rw (e, k, h) refl
operator_there v text (back, inr (inr (inr (inl (e, h)))), k) = rw (e, k, h) refl
operator_there v text (back, inr (inr (inr (inr (inl (e, h))))), k) = rw (e, k, h) refl
operator_there v text (back, inr (inr (inr (inr (inr (inl (b2, inl (e, h), k2)))))), k) = rw (e, k, k2, h) refl
operator_there v text (back, inr (inr (inr (inr (inr (inl (b2, inr (e, h), k2)))))), k) = rw (e, k, k2, h) refl
operator_there v text (back, inr (inr (inr (inr (inr (inr (inl (b2, inl (e, h), k2))))))), k) = rw (e, k, k2, h) refl
operator_there v text (back, inr (inr (inr (inr (inr (inr (inl (b2, inr (e, h), k2))))))), k) = rw (e, k, k2, h) refl
operator_there v text (back, inr (inr (inr (inr (inr (inr (inr (inl (e, h)))))))), k) = rw (e, k, h) refl
operator_there v text (back, inr (inr (inr (inr (inr (inr (inr (inr (inl (e, h))))))))), k) = rw (e, k, h) refl
operator_there v text (back, inr (inr (inr (inr (inr (inr (inr (inr (inr (inl (e, h)))))))))), k) = rw (e, k, h) refl
operator_there v text (back, inr (inr (inr (inr (inr (inr (inr (inr (inr (inr (e, h)))))))))), k) = rw (e, k, h) refl

sign_back : (v : COp) → (back : List ℕ) × Sign v back × (operator v ≡ codes " " ++ back)
sign_back op.Add = (codes "+ ", inl (refl, refl), refl)
sign_back op.Sub = (codes "- ", inr (inl (refl, refl)), refl)
sign_back op.Mul = (codes "* ", inr (inr (inl (refl, refl))), refl)
sign_back op.Div = (codes "/ ", inr (inr (inr (inl (refl, refl)))), refl)
sign_back op.Rem = (codes "% ", inr (inr (inr (inr (inl (refl, refl))))), refl)
sign_back op.Le = (codes "<= ", inr (inr (inr (inr (inr (inl (codes "= ", inl (refl, refl), refl)))))), refl)
sign_back op.Lt = (codes "< ", inr (inr (inr (inr (inr (inl (codes " ", inr (refl, refl), refl)))))), refl)
sign_back op.Ge = (codes ">= ", inr (inr (inr (inr (inr (inr (inl (codes "= ", inl (refl, refl), refl))))))), refl)
sign_back op.Gt = (codes "> ", inr (inr (inr (inr (inr (inr (inl (codes " ", inr (refl, refl), refl))))))), refl)
sign_back op.Eq = (codes "== ", inr (inr (inr (inr (inr (inr (inr (inl (refl, refl)))))))), refl)
sign_back op.Ne = (codes "!= ", inr (inr (inr (inr (inr (inr (inr (inr (inl (refl, refl))))))))), refl)
sign_back op.And = (codes "&& ", inr (inr (inr (inr (inr (inr (inr (inr (inr (inl (refl, refl)))))))))), refl)
sign_back op.Or = (codes "|| ", inr (inr (inr (inr (inr (inr (inr (inr (inr (inr (refl, refl)))))))))), refl)

good_sign : Good (Behind (codes " ") Sign) never operator_sign
unfolding operator_sign
good_sign = good_behind (codes " ") Sign never _
    (or_just op.Add 43 (codes " ") (45 ∷ 42 ∷ 47 ∷ 37 ∷ 60 ∷ 62 ∷ 61 ∷ 33 ∷ 38 ∷ 124 ∷ []) _ _ refl
    (or_just op.Sub 45 (codes " ") (42 ∷ 47 ∷ 37 ∷ 60 ∷ 62 ∷ 61 ∷ 33 ∷ 38 ∷ 124 ∷ []) _ _ refl
    (or_just op.Mul 42 (codes " ") (47 ∷ 37 ∷ 60 ∷ 62 ∷ 61 ∷ 33 ∷ 38 ∷ 124 ∷ []) _ _ refl
    (or_just op.Div 47 (codes " ") (37 ∷ 60 ∷ 62 ∷ 61 ∷ 33 ∷ 38 ∷ 124 ∷ []) _ _ refl
    (or_just op.Rem 37 (codes " ") (60 ∷ 62 ∷ 61 ∷ 33 ∷ 38 ∷ 124 ∷ []) _ _ refl alts_comparison))))).good

pub good_operator : Good (Spells (λ v. ⊤) operator) never operator_sign
good_operator = same (Behind (codes " ") Sign) (Spells (λ v. ⊤) operator) never operator_sign
    (λ v text t. (tt, operator_there v text t)) (λ v text t. let b = sign_back v in (b.0, b.1, t.1 ∙ b.2)) good_sign

-- ---- literals

-- the number that is no literal any more
abbrev limit : ℕ
limit = 9223372036854775808

number_is : (k : ℕ) (text : List ℕ) → Number limit k text → (k < limit) × (text ≡ decimal k)
number_is k text (c, cs, e, d, ds, z, v, lt) =
    let value : value_from 0 text ≡ k = rw e (ap (λ (m : ℕ). value_from m cs) (start c) ∙ v) in
    (lt, sym (sym (ap decimal value) ∙ decimal_text text (c, cs, e, d, ds, z) (rw value (omega (arith, lt)))) ∙ refl)
  where
    start : (c : ℕ) → 0 * 10 + (c - 48) ≡ c - 48
    start c = omega arith

number_from : (k : ℕ) (text : List ℕ) → k < limit → text ≡ decimal k → Number limit k text
number_from k text lt e =
    let d = is_decimal k (omega (arith, lt)) in
    let i = d.0 in
    (i.0, i.1, e ∙ i.2, i.3, i.4, i.5, ap (λ (m : ℕ). value_from m i.1) (sym (start i.0)) ∙ ap (value_from 0) (sym i.2) ∙ d.1, lt)
  where
    start : (c : ℕ) → 0 * 10 + (c - 48) ≡ c - 48
    start c = omega arith

abbrev Small : ℕ → Type 0
Small k = k < limit

good_digits : Good (Spells Small decimal) is_ascii_digit (bytes.number (2 ^ 63))
good_digits = same (Number limit) (Spells Small decimal) is_ascii_digit (bytes.number (2 ^ 63)) number_is (λ k text t. number_from k text t.0 t.1)
    (record { reads = Reads-number limit (omega arith); some = some_number limit (omega arith) })

good_constant : (h : ℕ → Bool) → Good (Spells Small (λ k. codes "INT64_C(" ++ (decimal k ++ codes ")"))) h (after (codes "INT64_C(") (ended_by (bytes.number (2 ^ 63)) (codes ")")))
good_constant h = lit Small (λ k. decimal k ++ codes ")") h (ended_by (bytes.number (2 ^ 63)) (codes ")")) (codes "INT64_C(")
    (fin Small decimal is_ascii_digit (bytes.number (2 ^ 63)) (codes ")") h (λ rest. refl) good_digits)

-- ---- kinds of expressions

-- an expression but a literal that is not below 0
abbrev IsUnsigned : Expr → Type 0
IsUnsigned (t.Int (pos k)) = ⊥
IsUnsigned _ = ⊤

-- one that is no local and not `false` either
abbrev IsPlain : Expr → Type 0
IsPlain (t.Int (pos k)) = ⊥
IsPlain (t.Truth false) = ⊥
IsPlain (t.Var x) = ⊥
IsPlain _ = ⊤

abbrev Plain : ℕ → Language ℕ Expr
Plain n = Spells (λ e. IsPlain e × IsNestedForm n e) expr_text

abbrev Unsigned : ℕ → Language ℕ Expr
Unsigned n = Spells (λ e. IsUnsigned e × IsNestedForm n e) expr_text

abbrev Nested : ℕ → Language ℕ Expr
Nested n = Spells (IsNestedForm n) expr_text

weaker : (e : Expr) → IsPlain e → IsUnsigned e
weaker (t.Int (pos k)) h = h
weaker (t.Int (negsuc k)) h = tt
weaker (t.Truth b) h = tt
weaker t.Null h = tt
weaker (t.Var x) h = tt
weaker (t.Neg e) h = tt
weaker (t.Not e) h = tt
weaker (t.Bin o a b) h = tt

plain_bytes : List ℕ
plain_bytes = 40 ∷ 116 ∷ 78 ∷ []

pub begin_same : {A : Type 0} (ks : List ℕ) (T U : Language ℕ A) → ((a : A) (text : List ℕ) → U a text → T a text) → Begin ks T → Begin ks U
begin_same ks T U back b a text u = b a text (back a text u)

pub alts_same : {A : Type 0} (ks : List ℕ) (T U : Language ℕ A) (g : ℕ → Bool) (P : Reader ℕ A) → ((a : A) (text : List ℕ) → T a text → U a text) → ((a : A) (text : List ℕ) → U a text → T a text) → Alts ks T g P → Alts ks U g P
alts_same ks T U g P there back p = record { good = same T U g P there back p.good; begin = begin_same ks T U back p.begin }

pub alts_before : {A : Type 0} (ks : List ℕ) (T : Language ℕ A) (h : ℕ → Bool) (P : Reader ℕ A) → Alts ks T never P → Alts ks T h P
alts_before ks T h P p = record { good = at_any T h P p.good; begin = p.begin }

module _ (n : ℕ) (P : Reader ℕ Expr) (p : Alts (40 ∷ 116 ∷ 78 ∷ []) (Plain n) never P) where
  abbrev UnsignedParts : Language ℕ Expr
  UnsignedParts = Either (Mapped t.Var (Spells IsLocalForm local_text)) (Either (Just (t.Truth false) (codes "false")) (Plain n))

  unsigned_there : (e : Expr) (text : List ℕ) → UnsignedParts e text → Unsigned n e text
  unsigned_there e text (inl t) = rw t.2 ((tt, t.1.0), t.1.1)
  unsigned_there e text (inr (inl t)) = rw t.0 ((tt, tt), t.1)
  unsigned_there e text (inr (inr t)) = ((weaker e t.0.0, t.0.1), t.1)

  unsigned_back : (e : Expr) (text : List ℕ) → Unsigned n e text → UnsignedParts e text
  unsigned_back (t.Int (pos k)) text u = absurd u.0.0
  unsigned_back (t.Int (negsuc k)) text u = inr (inr ((tt, u.0.1), u.1))
  unsigned_back (t.Truth true) text u = inr (inr ((tt, u.0.1), u.1))
  unsigned_back (t.Truth false) text u = inr (inl (refl, u.1))
  unsigned_back t.Null text u = inr (inr ((tt, u.0.1), u.1))
  unsigned_back (t.Var x) text u = inl (x, (u.0.1, u.1), refl)
  unsigned_back (t.Neg e) text u = inr (inr ((tt, u.0.1), u.1))
  unsigned_back (t.Not e) text u = inr (inr ((tt, u.0.1), u.1))
  unsigned_back (t.Bin o a b) text u = inr (inr ((tt, u.0.1), u.1))

  alts_unsigned : Alts (118 ∷ 102 ∷ 40 ∷ 116 ∷ 78 ∷ []) (Unsigned n) is_ascii_digit (unsigned_of P)
  unfolding unsigned_of
  alts_unsigned = alts_same (118 ∷ 102 ∷ 40 ∷ 116 ∷ 78 ∷ []) UnsignedParts (Unsigned n) is_ascii_digit (unsigned_of P) unsigned_there unsigned_back
      (alt 118 (102 ∷ 40 ∷ 116 ∷ 78 ∷ []) (Mapped t.Var (Spells IsLocalForm local_text)) _ is_ascii_digit (mapped t.Var local) _ refl
      (good_mapped IsLocalForm local_text is_ascii_digit local t.Var good_local) (begin_mapped (118 ∷ []) t.Var (Spells IsLocalForm local_text) local_begins)
      (alt 102 (40 ∷ 116 ∷ 78 ∷ []) (Just (t.Truth false) (codes "false")) (Plain n) is_ascii_digit (just (t.Truth false) (codes "false")) P refl
      (good_just (t.Truth false) (codes "false") is_ascii_digit) (begin_just 102 (codes "alse") (t.Truth false)) (alts_before (40 ∷ 116 ∷ 78 ∷ []) (Plain n) is_ascii_digit P p)))
    where
      local_begins : Begin (118 ∷ []) (Spells IsLocalForm local_text)
      local_begins x text t = begin_spells 118 (codes "_") IsLocalForm (λ y. local_rest y) x text t
        where
          local_rest : Local → List ℕ
          local_rest y = local_end y

  abbrev NestedParts : Language ℕ Expr
  NestedParts = Either (Mapped (λ k. t.Int (pos k)) (Spells Small (λ k. codes "INT64_C(" ++ (decimal k ++ codes ")")))) (Unsigned n)

  nested_there : (e : Expr) (text : List ℕ) → NestedParts e text → Nested n e text
  nested_there e text (inl u) = rw u.2 (u.1.0, u.1.1)
  nested_there e text (inr u) = (u.0.1, u.1)

  nested_back : (e : Expr) (text : List ℕ) → Nested n e text → NestedParts e text
  nested_back (t.Int (pos k)) text u = inl (k, u, refl)
  nested_back (t.Int (negsuc k)) text u = inr ((tt, u.0), u.1)
  nested_back (t.Truth b) text u = inr ((tt, u.0), u.1)
  nested_back t.Null text u = inr ((tt, u.0), u.1)
  nested_back (t.Var x) text u = inr ((tt, u.0), u.1)
  nested_back (t.Neg e) text u = inr ((tt, u.0), u.1)
  nested_back (t.Not e) text u = inr ((tt, u.0), u.1)
  nested_back (t.Bin o a b) text u = inr ((tt, u.0), u.1)

  alts_nested : Alts (73 ∷ 118 ∷ 102 ∷ 40 ∷ 116 ∷ 78 ∷ []) (Nested n) is_ascii_digit (expr_of P)
  unfolding expr_of int
  alts_nested = alts_same (73 ∷ 118 ∷ 102 ∷ 40 ∷ 116 ∷ 78 ∷ []) NestedParts (Nested n) is_ascii_digit (expr_of P) nested_there nested_back
      (alt 73 (118 ∷ 102 ∷ 40 ∷ 116 ∷ 78 ∷ []) (Mapped (λ k. t.Int (pos k)) (Spells Small (λ k. codes "INT64_C(" ++ (decimal k ++ codes ")")))) (Unsigned n) is_ascii_digit int (unsigned_of P) refl
      (good_mapped Small (λ k. codes "INT64_C(" ++ (decimal k ++ codes ")")) is_ascii_digit (after (codes "INT64_C(") (ended_by (bytes.number (2 ^ 63)) (codes ")"))) (λ k. t.Int (pos k)) (good_constant is_ascii_digit))
      (begin_mapped (73 ∷ []) (λ k. t.Int (pos k)) (Spells Small (λ k. codes "INT64_C(" ++ (decimal k ++ codes ")"))) (begin_spells 73 (codes "NT64_C(") Small (λ k. decimal k ++ codes ")")))
      alts_unsigned)

-- ---- behind a bracket and a minus

-- what stands behind `(-INT64_C(k)`
abbrev NegativeOf : ℕ → Language ℕ Expr
NegativeOf k e text =
    ((k ≡ 0) × (e ≡ t.Neg (t.Int (pos 0))) × (text ≡ codes ")"))
    ⊎ (((0 < k) × (e ≡ t.Int (negsuc (k - 1))) × (text ≡ codes ")"))
    ⊎ ((k ≡ 9223372036854775807) × (e ≡ t.Int (negsuc 9223372036854775807)) × (text ≡ codes " - INT64_C(1))")))

zero_or_more : (k : ℕ) → (k == 0) ≡ false → 0 < k
zero_or_more zero e = absurd cc
zero_or_more (suc k) e = omega arith

good_negative : (k : ℕ) (z m : Bool) → (k == 0) ≡ z → (k == 9223372036854775807) ≡ m → Good (NegativeOf k) never (negative k)
unfolding negative
good_negative k true m ez em = let k_is = eqb-true k 0 ez in
    rw ez (same (Just (t.Neg (t.Int (pos 0))) (codes ")")) (NegativeOf k) never (just (t.Neg (t.Int (pos 0))) (codes ")"))
    (λ e text u. inl (k_is, u.0, u.1))
    (λ e text u. elim u [
      | inl w ↦ (w.1, w.2)
      | inr (inl w) ↦ let lt = w.0 in absurd (omega (arith, lt, k_is))
      | inr (inr w) ↦ let e1 = w.0 in absurd (omega (arith, e1, k_is))
    ]) (good_just (t.Neg (t.Int (pos 0))) (codes ")") never))
good_negative k false true ez em = let k_is = eqb-true k 9223372036854775807 em in
    rw (ez, em) (same (Either (Just (t.Int (negsuc 9223372036854775807)) (codes " - INT64_C(1))")) (Just (t.Int (negsuc 9223372036854775806)) (codes ")"))) (NegativeOf k) never
    (either (is 32) (just (t.Int (negsuc 9223372036854775807)) (codes " - INT64_C(1))")) (just (t.Int (negsuc 9223372036854775806)) (codes ")")))
    (λ e text u. elim u [ inl w ↦ inr (inr (k_is, w.0, w.1)) | inr w ↦ inr (inl (zero_or_more k ez, rw k_is w.0, w.1)) ])
    (λ e text u. elim u [
      | inl w ↦ let e1 = w.0 in absurd (omega (arith, e1, k_is))
      | inr (inl w) ↦ inr ((let e1 = w.1 in let e2 = (rw k_is at e1) in e2), w.2)
      | inr (inr w) ↦ inl (w.1, w.2)
    ])
    (alt 32 (41 ∷ []) (Just (t.Int (negsuc 9223372036854775807)) (codes " - INT64_C(1))")) (Just (t.Int (negsuc 9223372036854775806)) (codes ")")) never (just (t.Int (negsuc 9223372036854775807)) (codes " - INT64_C(1))")) (just (t.Int (negsuc 9223372036854775806)) (codes ")")) refl
    (good_just (t.Int (negsuc 9223372036854775807)) (codes " - INT64_C(1))") never) (begin_just 32 (codes "- INT64_C(1))") (t.Int (negsuc 9223372036854775807)))
    (last (41 ∷ []) (Just (t.Int (negsuc 9223372036854775806)) (codes ")")) never (just (t.Int (negsuc 9223372036854775806)) (codes ")")) (good_just (t.Int (negsuc 9223372036854775806)) (codes ")") never) (begin_just 41 [] (t.Int (negsuc 9223372036854775806))))).good)
good_negative k false false ez em =
    rw (ez, em) (same (Just (t.Int (negsuc (k - 1))) (codes ")")) (NegativeOf k) never (just (t.Int (negsuc (k - 1))) (codes ")"))
    (λ e text u. inr (inl (zero_or_more k ez, u.0, u.1)))
    (λ e text u. elim u [
      | inl w ↦ let lt = zero_or_more k ez in let e1 = w.0 in absurd (omega (arith, lt, e1))
      | inr (inl w) ↦ (w.1, w.2)
      | inr (inr w) ↦ let t = eq-eqb k 9223372036854775807 w.0 in absurd cc
    ]) (good_just (t.Int (negsuc (k - 1))) (codes ")") never))

pub begin_pair : {A B : Type 0} (ks : List ℕ) (W : A → Type 0) (f : A → List ℕ) (U : B → Type 0) (k : B → List ℕ) → Begin ks (Spells W f) → Begin ks (Spells (λ (p : A × B). W p.0 × U p.1) (λ (p : A × B). f p.0 ++ k p.1))
begin_pair ks W f U k b p text u = let w = b p.0 (f p.0) (u.0.0, refl) in (w.0, w.1 ++ k p.1, u.1 ∙ ap (λ (r : List ℕ). r ++ k p.1) w.2, w.3)

pub begin_fin : {A : Type 0} (ks : List ℕ) (W : A → Type 0) (f : A → List ℕ) (s : List ℕ) → Begin ks (Spells W f) → Begin ks (Spells W (λ a. f a ++ s))
begin_fin ks W f s b a text u = let w = b a (f a) (u.0, refl) in (w.0, w.1 ++ s, u.1 ∙ ap (λ (r : List ℕ). r ++ s) w.2, w.3)

module _ (n : ℕ) (P : Reader ℕ Expr) (p : Alts (40 ∷ 116 ∷ 78 ∷ []) (Plain n) never P) where
  abbrev Literal : Language ℕ Expr
  Literal = Then (Spells Small (λ k. codes "INT64_C(" ++ (decimal k ++ codes ")"))) NegativeOf

  abbrev Negated : Language ℕ Expr
  Negated = Mapped t.Neg (Spells (λ e. IsUnsigned e × IsNestedForm n e) (λ e. expr_text e ++ codes ")"))

  alts_minus : Alts (73 ∷ 118 ∷ 102 ∷ 40 ∷ 116 ∷ 78 ∷ []) (Either Literal Negated) never (minus_of P)
  unfolding minus_of
  alts_minus = alt 73 (118 ∷ 102 ∷ 40 ∷ 116 ∷ 78 ∷ []) Literal Negated never (next (after (codes "INT64_C(") (ended_by (bytes.number (2 ^ 63)) (codes ")"))) negative) (mapped t.Neg (ended_by (unsigned_of P) (codes ")"))) refl
      (good_then (Spells Small (λ k. codes "INT64_C(" ++ (decimal k ++ codes ")"))) NegativeOf never never (after (codes "INT64_C(") (ended_by (bytes.number (2 ^ 63)) (codes ")"))) negative (good_constant never)
      (λ k front u. good_negative k (k == 0) (k == 9223372036854775807) refl refl) (λ k e back rest u h. ends_never (back ++ rest)))
      literal_begins
      (last (118 ∷ 102 ∷ 40 ∷ 116 ∷ 78 ∷ []) Negated never (mapped t.Neg (ended_by (unsigned_of P) (codes ")")))
      (good_mapped (λ e. IsUnsigned e × IsNestedForm n e) (λ e. expr_text e ++ codes ")") never (ended_by (unsigned_of P) (codes ")")) t.Neg
      (fin (λ e. IsUnsigned e × IsNestedForm n e) expr_text is_ascii_digit (unsigned_of P) (codes ")") never (λ rest. refl) (alts_unsigned n P p).good))
      (begin_mapped (118 ∷ 102 ∷ 40 ∷ 116 ∷ 78 ∷ []) t.Neg (Spells (λ e. IsUnsigned e × IsNestedForm n e) (λ e. expr_text e ++ codes ")"))
      (begin_fin (118 ∷ 102 ∷ 40 ∷ 116 ∷ 78 ∷ []) (λ e. IsUnsigned e × IsNestedForm n e) expr_text (codes ")") (alts_unsigned n P p).begin)))
    where
      literal_begins : Begin (73 ∷ []) Literal
      literal_begins e text u = (73, (codes "NT64_C(" ++ (decimal u.0 ++ codes ")")) ++ u.2, u.5 ∙ rw u.3.1 refl, refl)

  abbrev Inverted : Language ℕ Expr
  Inverted = Mapped t.Not (Spells (IsNestedForm n) (λ e. codes "!" ++ (expr_text e ++ codes ")")))

  abbrev Ops : Expr × (COp × Expr) → Type 0
  Ops q = IsNestedForm n q.0 × (⊤ × IsNestedForm n q.1.1)

  abbrev ops_text : Expr × (COp × Expr) → List ℕ
  ops_text q = expr_text q.0 ++ (operator q.1.0 ++ (expr_text q.1.1 ++ codes ")"))

  abbrev bin_of : Expr × (COp × Expr) → Expr
  bin_of q = t.Bin q.1.0 q.0 q.1.1

  sign_apart : (b : COp × Expr) (rest : List ℕ) → Ends is_ascii_digit ((operator b.0 ++ (expr_text b.1 ++ codes ")")) ++ rest)
  sign_apart b rest = let s = sign_back b.0 in rw s.2 refl

  alts_binary : Alts (73 ∷ 118 ∷ 102 ∷ 40 ∷ 116 ∷ 78 ∷ []) (Mapped bin_of (Spells Ops ops_text)) never (binary_of P)
  unfolding binary_of
  alts_binary = last (73 ∷ 118 ∷ 102 ∷ 40 ∷ 116 ∷ 78 ∷ []) (Mapped bin_of (Spells Ops ops_text)) never (binary_of P)
      (good_mapped Ops ops_text never (both (expr_of P) (both operator_sign (ended_by (expr_of P) (codes ")")))) bin_of
      (pair (IsNestedForm n) expr_text is_ascii_digit (expr_of P) (λ b. ⊤ × IsNestedForm n b.1) (λ b. operator b.0 ++ (expr_text b.1 ++ codes ")")) never (both operator_sign (ended_by (expr_of P) (codes ")")))
      (λ b rest u h. sign_apart b rest) (alts_nested n P p).good
      (pair (λ v. ⊤) operator never operator_sign (IsNestedForm n) (λ e. expr_text e ++ codes ")") never (ended_by (expr_of P) (codes ")")) (λ b rest u h. ends_never _) good_operator
      (fin (IsNestedForm n) expr_text is_ascii_digit (expr_of P) (codes ")") never (λ rest. refl) (alts_nested n P p).good))))
      (begin_mapped (73 ∷ 118 ∷ 102 ∷ 40 ∷ 116 ∷ 78 ∷ []) bin_of (Spells Ops ops_text)
      (begin_pair (73 ∷ 118 ∷ 102 ∷ 40 ∷ 116 ∷ 78 ∷ []) (IsNestedForm n) expr_text (λ b. ⊤ × IsNestedForm n b.1) (λ b. operator b.0 ++ (expr_text b.1 ++ codes ")")) (alts_nested n P p).begin))

  abbrev Bracket : Language ℕ Expr
  Bracket = Either (Behind (codes "-") (Either Literal Negated)) (Either Inverted (Mapped bin_of (Spells Ops ops_text)))

  good_bracket : Good Bracket never (bracket_of P)
  unfolding bracket_of
  good_bracket = (alt 45 (33 ∷ 73 ∷ 118 ∷ 102 ∷ 40 ∷ 116 ∷ 78 ∷ []) (Behind (codes "-") (Either Literal Negated)) (Either Inverted (Mapped bin_of (Spells Ops ops_text))) never (after (codes "-") (minus_of P)) _ refl
      (good_behind (codes "-") (Either Literal Negated) never (minus_of P) alts_minus.good) (begin_behind 45 [] (Either Literal Negated))
      (alt 33 (73 ∷ 118 ∷ 102 ∷ 40 ∷ 116 ∷ 78 ∷ []) Inverted (Mapped bin_of (Spells Ops ops_text)) never (mapped t.Not (after (codes "!") (ended_by (expr_of P) (codes ")")))) (binary_of P) refl
      (good_mapped (IsNestedForm n) (λ e. codes "!" ++ (expr_text e ++ codes ")")) never (after (codes "!") (ended_by (expr_of P) (codes ")"))) t.Not
      (lit (IsNestedForm n) (λ e. expr_text e ++ codes ")") never (ended_by (expr_of P) (codes ")")) (codes "!") (fin (IsNestedForm n) expr_text is_ascii_digit (expr_of P) (codes ")") never (λ rest. refl) (alts_nested n P p).good)))
      (begin_mapped (33 ∷ []) t.Not (Spells (IsNestedForm n) (λ e. codes "!" ++ (expr_text e ++ codes ")"))) (begin_spells 33 [] (IsNestedForm n) (λ e. expr_text e ++ codes ")")))
      alts_binary)).good

-- ---- levels

abbrev Closed : Language ℕ Expr
Closed = Either (Just (t.Truth true) (codes "true")) (Just t.Null (codes "NULL"))

alts_closed : Alts (116 ∷ 78 ∷ []) Closed never closed
unfolding closed
alts_closed = alt 116 (78 ∷ []) (Just (t.Truth true) (codes "true")) (Just t.Null (codes "NULL")) never (just (t.Truth true) (codes "true")) (just t.Null (codes "NULL")) refl
    (good_just (t.Truth true) (codes "true") never) (begin_just 116 (codes "rue") (t.Truth true))
    (last (78 ∷ []) (Just t.Null (codes "NULL")) never (just t.Null (codes "NULL")) (good_just t.Null (codes "NULL") never) (begin_just 78 (codes "ULL") t.Null))

pub begin_wider : {A : Type 0} (c : ℕ) (ks : List ℕ) (T : Language ℕ A) → Begin ks T → Begin (c ∷ ks) T
begin_wider c ks T b a text u = let w = b a text u in (w.0, w.1, w.2, or_right (w.0 == c) (among ks w.0) w.3)

zero_there : (e : Expr) (text : List ℕ) → Closed e text → Plain zero e text
zero_there e text (inl u) = rw u.0 ((tt, tt), u.1)
zero_there e text (inr u) = rw u.0 ((tt, tt), u.1)

zero_back : (e : Expr) (text : List ℕ) → Plain zero e text → Closed e text
zero_back (t.Int (pos k)) text u = absurd u.0.0
zero_back (t.Int (negsuc k)) text u = absurd u.0.1
zero_back (t.Truth true) text u = inl (refl, u.1)
zero_back (t.Truth false) text u = absurd u.0.0
zero_back t.Null text u = inr (refl, u.1)
zero_back (t.Var x) text u = absurd u.0.0
zero_back (t.Neg e) text u = absurd u.0.1
zero_back (t.Not e) text u = absurd u.0.1
zero_back (t.Bin o a b) text u = absurd u.0.1

not_above : (e : Expr) → IsUnsigned e → IsAboveZero e → ⊥
not_above (t.Int (pos k)) u h = absurd u
not_above (t.Int (negsuc k)) u h = h
not_above (t.Truth b) u h = h
not_above t.Null u h = h
not_above (t.Var x) u h = h
not_above (t.Neg e) u h = h
not_above (t.Not e) u h = h
not_above (t.Bin o a b) u h = h

below_text : (k : ℕ) → 0 < k → k < limit → literal_text (negsuc (k - 1)) ≡ codes "(-" ++ constant k ++ codes ")"
below_text zero lt h = absurd (omega arith)
below_text (suc m) lt h =
    let m_is : suc m - 1 ≡ m = omega arith in
    rw m_is (by_test m (m == 9223372036854775807) refl (omega (arith, h)))
  where
    by_test : (m : ℕ) (b : Bool) → (m == 9223372036854775807) ≡ b → m < 9223372036854775807 → literal_text (negsuc m) ≡ codes "(-" ++ constant (suc m) ++ codes ")"
    by_test m true e lt = let k = eqb-true m 9223372036854775807 e in absurd (omega (arith, k, lt))
    by_test m false e lt = rw e refl

least_of : (d o : List ℕ) → o ≡ 49 ∷ [] → codes "(-" ++ (codes "INT64_C(" ++ d ++ codes ")") ++ codes " - " ++ (codes "INT64_C(" ++ o ++ codes ")") ++ codes ")" ≡ codes "(-" ++ ((codes "INT64_C(" ++ (d ++ codes ")")) ++ codes " - INT64_C(1))")
least_of d o e = rw e (ap (λ (r : List ℕ). codes "(-INT64_C(" ++ r) (append_assoc ((d ++ codes ")") ++ codes " - ") (codes "INT64_C(1)") (codes ")") ∙ append_assoc (d ++ codes ")") (codes " - ") (codes "INT64_C(1))")))

least_text : literal_text (negsuc 9223372036854775807) ≡ codes "(-" ++ ((codes "INT64_C(" ++ (decimal 9223372036854775807 ++ codes ")")) ++ codes " - INT64_C(1))")
least_text = least_of (decimal 9223372036854775807) (decimal 1) (decimal_digit 1 (omega arith))

bin_text : (a o b : List ℕ) → codes "(" ++ (a ++ (o ++ (b ++ codes ")"))) ≡ codes "(" ++ a ++ o ++ b ++ codes ")"
bin_text a o b = simp append_assoc refl

module _ (n : ℕ) (P : Reader ℕ Expr) (p : Alts (40 ∷ 116 ∷ 78 ∷ []) (Plain n) never P) where
  abbrev Level : Language ℕ Expr
  Level = Either (Behind (codes "(") (Bracket n P p)) Closed

  negative_there : (k : ℕ) (e : Expr) (text back : List ℕ) → k < limit → NegativeOf k e back → text ≡ codes "(-" ++ ((codes "INT64_C(" ++ (decimal k ++ codes ")")) ++ back) → Plain (suc n) e text
  negative_there k e text back small (inl w) et = rw w.1 ((tt, ((λ h. h), omega arith)), et ∙ rw (w.0, w.2) refl)
  negative_there k e text back small (inr (inl w)) et = rw w.1 ((tt, omega (arith, small)), et ∙ rw w.2 refl ∙ sym (below_text k w.0 small))
  negative_there k e text back small (inr (inr w)) et = rw w.1 ((tt, omega arith), et ∙ rw (w.0, w.2) (sym least_text))

  level_there : (e : Expr) (text : List ℕ) → Level e text → Plain (suc n) e text
  level_there e text (inl (back, inl (b2, inl l, k2), k)) = negative_there l.0 e text l.2 l.3.0 l.4 (rw (k, k2, l.5, l.3.1) refl)
  level_there e text (inl (back, inl (b2, inr w, k2), k)) = rw w.2 ((tt, (not_above w.0 w.1.0.0, w.1.0.1)), rw (k, k2, w.1.1) refl)
  level_there e text (inl (back, inr (inl w), k)) = rw w.2 ((tt, w.1.0), rw (k, w.1.1) refl)
  level_there e text (inl (back, inr (inr w), k)) = rw w.2 ((tt, (w.1.0.0, w.1.0.1.1)), rw (k, w.1.1) (bin_text (expr_text w.0.0) (operator w.0.1.0) (expr_text w.0.1.1)))
  level_there e text (inr (inl u)) = rw u.0 ((tt, tt), u.1)
  level_there e text (inr (inr u)) = rw u.0 ((tt, tt), u.1)

  literal_back : (k : ℕ) (e : Expr) (back text : List ℕ) → k < limit → NegativeOf k e back → text ≡ codes "(-" ++ ((codes "INT64_C(" ++ (decimal k ++ codes ")")) ++ back) → Level e text
  literal_back k e back text small o et =
      inl (
        codes "-" ++ ((codes "INT64_C(" ++ (decimal k ++ codes ")")) ++ back),
        inl ((codes "INT64_C(" ++ (decimal k ++ codes ")")) ++ back, inl (k, codes "INT64_C(" ++ (decimal k ++ codes ")"), back, (small, refl), o, refl), refl),
        et,
      )

  negated_back : (e : Expr) (text : List ℕ) → IsUnsigned e → IsNestedForm n e → text ≡ expr_text (t.Neg e) → Level (t.Neg e) text
  negated_back e text u f et = inl (codes "-" ++ (expr_text e ++ codes ")"), inl (expr_text e ++ codes ")", inr (e, ((u, f), refl), refl), refl), et)

  least_or_not : (m : ℕ) (text : List ℕ) → m < limit → text ≡ literal_text (negsuc m) → (b : Bool) → (m == 9223372036854775807) ≡ b → Level (t.Int (negsuc m)) text
  least_or_not m text small et true e =
      let m_is = eqb-true m 9223372036854775807 e in
      rw m_is (literal_back 9223372036854775807 (t.Int (negsuc 9223372036854775807)) (codes " - INT64_C(1))") text (omega arith) (inr (inr (refl, refl, refl))) (et ∙ rw m_is least_text))
  least_or_not m text small et false e =
      literal_back (suc m) (t.Int (negsuc m)) (codes ")") text (not_least m small e) (inr (inl (omega arith, same_number m, refl))) (et ∙ rw e refl)
    where
      not_least : (m : ℕ) → m < limit → (m == 9223372036854775807) ≡ false → suc m < limit
      not_least m lt e = by_cases (same_or_above m 9223372036854775807 (omega (arith, lt)))
        where
          by_cases : (m ≡ 9223372036854775807) ⊎ (m < 9223372036854775807) → suc m < limit
          by_cases (inl k) = let t = eq-eqb m 9223372036854775807 k in absurd cc
          by_cases (inr k) = omega (arith, k)

      same_number : (m : ℕ) → t.Int (negsuc m) ≡ t.Int (negsuc (suc m - 1))
      same_number m = let k : suc m - 1 ≡ m = omega arith in rw k refl

  level_back : (e : Expr) (text : List ℕ) → Plain (suc n) e text → Level e text
  level_back (t.Int (pos k)) text u = absurd u.0.0
  level_back (t.Int (negsuc m)) text u = least_or_not m text u.0.1 u.1 (m == 9223372036854775807) refl
  level_back (t.Truth true) text u = inr (inl (refl, u.1))
  level_back (t.Truth false) text u = absurd u.0.0
  level_back t.Null text u = inr (inr (refl, u.1))
  level_back (t.Var x) text u = absurd u.0.0
  level_back (t.Neg (t.Int (pos zero))) text u = literal_back 0 (t.Neg (t.Int (pos zero))) (codes ")") text (omega arith) (inl (refl, refl, refl)) u.1
  level_back (t.Neg (t.Int (pos (suc k)))) text u = absurd (u.0.1.0 tt)
  level_back (t.Neg (t.Int (negsuc k))) text u = negated_back (t.Int (negsuc k)) text tt u.0.1.1 u.1
  level_back (t.Neg (t.Truth b)) text u = negated_back (t.Truth b) text tt u.0.1.1 u.1
  level_back (t.Neg t.Null) text u = negated_back t.Null text tt u.0.1.1 u.1
  level_back (t.Neg (t.Var x)) text u = negated_back (t.Var x) text tt u.0.1.1 u.1
  level_back (t.Neg (t.Neg e)) text u = negated_back (t.Neg e) text tt u.0.1.1 u.1
  level_back (t.Neg (t.Not e)) text u = negated_back (t.Not e) text tt u.0.1.1 u.1
  level_back (t.Neg (t.Bin o a b)) text u = negated_back (t.Bin o a b) text tt u.0.1.1 u.1
  level_back (t.Not e) text u = inl (codes "!" ++ (expr_text e ++ codes ")"), inr (inl (e, (u.0.1, refl), refl)), u.1)
  level_back (t.Bin o a b) text u = inl (expr_text a ++ (operator o ++ (expr_text b ++ codes ")")), inr (inr ((a, (o, b)), ((u.0.1.0, (tt, u.0.1.1)), refl), refl)), u.1 ∙ sym (bin_text (expr_text a) (operator o) (expr_text b)))

  alts_level : Alts (40 ∷ 116 ∷ 78 ∷ []) (Plain (suc n)) never (either (is 40) (after (codes "(") (bracket_of P)) closed)
  alts_level = alts_same (40 ∷ 116 ∷ 78 ∷ []) Level (Plain (suc n)) never (either (is 40) (after (codes "(") (bracket_of P)) closed) level_there level_back
      (alt 40 (116 ∷ 78 ∷ []) (Behind (codes "(") (Bracket n P p)) Closed never (after (codes "(") (bracket_of P)) closed refl
      (good_behind (codes "(") (Bracket n P p) never (bracket_of P) (good_bracket n P p)) (begin_behind 40 [] (Bracket n P p)) alts_closed)

pub alts_plain : (n : ℕ) → Alts (40 ∷ 116 ∷ 78 ∷ []) (Plain n) never (plain n)
unfolding plain
alts_plain zero = record {
  good = same Closed (Plain zero) never closed zero_there zero_back alts_closed.good;
  begin = begin_same (40 ∷ 116 ∷ 78 ∷ []) Closed (Plain zero) zero_back (begin_wider 40 (116 ∷ 78 ∷ []) Closed alts_closed.begin);
}
alts_plain (suc n) = alts_level n (plain n) (alts_plain n)

-- an expression
pub alts_expr : Alts (73 ∷ 118 ∷ 102 ∷ 40 ∷ 116 ∷ 78 ∷ []) (Spells IsExprForm expr_text) is_ascii_digit expr
unfolding expr
alts_expr = alts_nested 128 (plain 128) (alts_plain 128)

-- an expression but a local and `false`
abbrev pub IsOwn : Expr → Type 0
IsOwn (t.Truth false) = ⊥
IsOwn (t.Var x) = ⊥
IsOwn _ = ⊤

abbrev OwnParts : Language ℕ Expr
OwnParts = Either (Mapped (λ k. t.Int (pos k)) (Spells Small (λ k. codes "INT64_C(" ++ (decimal k ++ codes ")")))) (Plain 128)

own : (e : Expr) → IsPlain e → IsOwn e
own (t.Int (pos k)) h = absurd h
own (t.Int (negsuc k)) h = tt
own (t.Truth true) h = tt
own (t.Truth false) h = h
own t.Null h = tt
own (t.Var x) h = h
own (t.Neg e) h = tt
own (t.Not e) h = tt
own (t.Bin o a b) h = tt

own_there : (e : Expr) (text : List ℕ) → OwnParts e text → Spells (λ e. IsOwn e × IsExprForm e) expr_text e text
own_there e text (inl u) = rw u.2 ((tt, u.1.0), u.1.1)
own_there e text (inr u) = ((own e u.0.0, u.0.1), u.1)

own_back : (e : Expr) (text : List ℕ) → Spells (λ e. IsOwn e × IsExprForm e) expr_text e text → OwnParts e text
own_back (t.Int (pos k)) text u = inl (k, (u.0.1, u.1), refl)
own_back (t.Int (negsuc k)) text u = inr ((tt, u.0.1), u.1)
own_back (t.Truth true) text u = inr ((tt, u.0.1), u.1)
own_back (t.Truth false) text u = absurd u.0.0
own_back t.Null text u = inr ((tt, u.0.1), u.1)
own_back (t.Var x) text u = absurd u.0.0
own_back (t.Neg e) text u = inr ((tt, u.0.1), u.1)
own_back (t.Not e) text u = inr ((tt, u.0.1), u.1)
own_back (t.Bin o a b) text u = inr ((tt, u.0.1), u.1)

pub alts_own : (h : ℕ → Bool) → Alts (73 ∷ 40 ∷ 116 ∷ 78 ∷ []) (Spells (λ e. IsOwn e × IsExprForm e) expr_text) h (either (is 73) int (plain 128))
unfolding int
alts_own h = alts_same (73 ∷ 40 ∷ 116 ∷ 78 ∷ []) OwnParts (Spells (λ e. IsOwn e × IsExprForm e) expr_text) h (either (is 73) int (plain 128)) own_there own_back
    (alt 73 (40 ∷ 116 ∷ 78 ∷ []) (Mapped (λ k. t.Int (pos k)) (Spells Small (λ k. codes "INT64_C(" ++ (decimal k ++ codes ")")))) (Plain 128) h int (plain 128) refl
    (good_mapped Small (λ k. codes "INT64_C(" ++ (decimal k ++ codes ")")) h (after (codes "INT64_C(") (ended_by (bytes.number (2 ^ 63)) (codes ")"))) (λ k. t.Int (pos k)) (good_constant h))
    (begin_mapped (73 ∷ []) (λ k. t.Int (pos k)) (Spells Small (λ k. codes "INT64_C(" ++ (decimal k ++ codes ")"))) (begin_spells 73 (codes "NT64_C(") Small (λ k. decimal k ++ codes ")")))
    (alts_before (40 ∷ 116 ∷ 78 ∷ []) (Plain 128) h (plain 128) (alts_plain 128)))

pub local_begins : Begin (118 ∷ []) (Spells IsLocalForm local_text)
local_begins x text t = (118, codes "_" ++ local_end x, t.1, refl)
