-- Further characters of names are read right.
use Rattle.std.proofs.Common.{◌≡◌, ◌⊎◌, inl, inr, ℕ, zero, suc, ◌+◌, ◌-◌, ◌<◌, ◌≤◌, Bool, true, false, List, [], ◌∷◌, ◌++◌, length, Some, None, refl, sym, ap, subst, ◌∙◌, append_assoc, arith}
use Rattle.std.specs.Prelude.{◌&&◌, ◌||◌, ◌==◌, nat_le, codes, encode_utf8, encode_utf8_all, if◌then◌else◌}
use Rattle.std.specs.Char.{is_ascii_alphanumeric}
use Rattle.std.specs.List.{list_all}
use Rattle.std.proofs.lemmas.Bool.{and_parts, and_from, or_cases, or_parts, or_left, or_right, eqb-true, leb-true, le-leb}
use Rattle.std.proofs.lemmas.List.{append-nil, length-append}
use Rattle.pl_base.specs.Mangling.{six_digits, mangled_char, mangled}
use Rattle.pl_lexer.specs.Lexemes.{is_start, is_more}
use Rattle.pl_readers.specs.Language.{Language, One, Then, Either, Nothing, HasText}
use Rattle.pl_readers.specs.Reader.{Reader, begins, one, next, either, nothing}
use Rattle.pl_readers.specs.Reads.{never, Ends}
use Rattle.pl_readers.proofs.Correct.{Reads-one, ends_less}
use Rattle.pl_readers.proofs.Firsts.{ends_never}
use Rattle.c_forms.specs.Reading.{after, just}
use Rattle.c_forms.specs.Names.{is_scalar, fits, escape, plain_of, is_name_byte, behind_line, second_line, more, more_line}
use Rattle.c_forms.proofs.NameReads.{good_escape}
use Rattle.c_forms.proofs.Spelling.{Spells, Good, Behind, When, same, good_then, good_behind, good_just, good_nothing, alt_when}

-- ---- characters of names

abbrev pub is_piece : ℕ → Bool
is_piece c = is_ascii_alphanumeric c || ((c == 95) || fits false c)

pub fits_high : (f : Bool) (c : ℕ) → fits f c ≡ true → 128 ≤ c
fits_high f c e =
    let p = and_parts (is_scalar c) (nat_le 128 c && (if f then is_start c else is_more c)) e in
    leb-true 128 c (and_parts (nat_le 128 c) (if f then is_start c else is_more c) p.1).0

pub plain_low : (c : ℕ) → is_ascii_alphanumeric c ≡ true → c < 128
plain_low c e = grind (arith, leb-true, and_parts, or_cases)

not_plain : (b : Bool) (c : ℕ) → 128 ≤ c → is_ascii_alphanumeric c ≡ b → b ≡ false
not_plain false c h e = refl
not_plain true c h e = let k = plain_low c e in absurd (omega arith)

not_line : (b : Bool) (c : ℕ) → 128 ≤ c → (c == 95) ≡ b → b ≡ false
not_line false c h e = refl
not_line true c h e = let k = eqb-true c 95 e in absurd (omega arith)

pub mangled_plain : (c : ℕ) → is_ascii_alphanumeric c ≡ true → mangled_char c ≡ c ∷ []
mangled_plain c e = rw e refl

pub mangled_other : (c : ℕ) → 128 ≤ c → mangled_char c ≡ 95 ∷ 117 ∷ six_digits c
mangled_other c h = rw (not_plain (is_ascii_alphanumeric c) c h refl, not_line (c == 95) c h refl) refl

pub mangled_line : mangled_char 95 ≡ 95 ∷ 95 ∷ []
mangled_line = refl

plain_is : (b : Bool) (x c : ℕ) → is_ascii_alphanumeric x ≡ b → plain_of is_ascii_alphanumeric x ≡ Some c → (b ≡ true) × (x ≡ c)
plain_is true x c e h = let h1 : Some x ≡ Some c = (rw e at h) in (refl, some_is x c h1)
  where
    some_is : (a b : ℕ) → Some a ≡ Some b → a ≡ b
    some_is a b e = cc
plain_is false x c e h = let h1 : None ≡ Some c = (rw e at h) in absurd cc

plain_of_is : (c : ℕ) → is_ascii_alphanumeric c ≡ true → plain_of is_ascii_alphanumeric c ≡ Some c
plain_of_is c e = rw e refl

line_plain : is_ascii_alphanumeric 95 ≡ false
line_plain = refl

-- ---- at most k characters, in at most m bytes

pub record Fit (k m : ℕ) (cs : List ℕ) : Type 0 where
  pub few : length cs ≤ k
  pub room : length (mangled cs) ≤ m
  pub each : list_all is_piece cs ≡ true

-- the bytes in front and such characters, whose text z ends
abbrev pub Tail : List ℕ → ℕ → ℕ → List ℕ → Language ℕ (List ℕ)
Tail z k m front bs text = (cs : List ℕ) × (bs ≡ front ++ encode_utf8_all cs) × Fit k m cs × (text ≡ mangled cs ++ z)

module _ (z : List ℕ) (k : ℕ) (g : ℕ → Bool) (R : ℕ → List ℕ → Reader ℕ (List ℕ)) (ih : (m : ℕ) (front : List ℕ) → Good (Tail z k m front) g (R m front)) (m : ℕ) (front : List ℕ) where
  abbrev Plain : Language ℕ (List ℕ)
  Plain = Then (One (plain_of is_ascii_alphanumeric)) (λ c. Tail z k (m - 1) (front ++ encode_utf8 c))

  abbrev Escaped : Language ℕ (List ℕ)
  Escaped = Then (Spells (λ c. fits false c ≡ true) (λ c. codes "u" ++ six_digits c)) (λ c. Tail z k (m - 8) (front ++ encode_utf8 c))

  abbrev Second : Language ℕ (List ℕ)
  Second = Behind (codes "_") (Tail z k (m - 2) (front ++ encode_utf8 95))

  good_plain : Good Plain g (next (one (plain_of is_ascii_alphanumeric)) (λ c. R (m - 1) (front ++ encode_utf8 c)))
  good_plain = good_then (One (plain_of is_ascii_alphanumeric)) (λ c. Tail z k (m - 1) (front ++ encode_utf8 c)) never g (one (plain_of is_ascii_alphanumeric)) (λ c. R (m - 1) (front ++ encode_utf8 c))
      (record { reads = Reads-one (plain_of is_ascii_alphanumeric) never some; some = some }) (λ c t u. ih (m - 1) (front ++ encode_utf8 c)) (λ a b back rest u e. ends_never (back ++ rest))
    where
      some : HasText (One (plain_of is_ascii_alphanumeric))
      some = (97, 97 ∷ [], (97, refl, refl))

  good_escaped : Good Escaped g (next (escape false) (λ c. R (m - 8) (front ++ encode_utf8 c)))
  good_escaped = good_then (Spells (λ c. fits false c ≡ true) (λ c. codes "u" ++ six_digits c)) (λ c. Tail z k (m - 8) (front ++ encode_utf8 c)) never g (escape false) (λ c. R (m - 8) (front ++ encode_utf8 c))
      (good_escape false) (λ c t u. ih (m - 8) (front ++ encode_utf8 c)) (λ a b back rest u e. ends_never (back ++ rest))

  good_second : Good Second g (second_line R m front)
  good_second = good_behind (codes "_") (Tail z k (m - 2) (front ++ encode_utf8 95)) g (R (m - 2) (front ++ encode_utf8 95)) (ih (m - 2) (front ++ encode_utf8 95))

  regroup : (c : ℕ) (cs : List ℕ) → (front ++ encode_utf8 c) ++ encode_utf8_all cs ≡ front ++ encode_utf8_all (c ∷ cs)
  regroup c cs = append_assoc front (encode_utf8 c) (encode_utf8_all cs)

  longer : (c : ℕ) (cs : List ℕ) → length (mangled (c ∷ cs)) ≡ length (mangled_char c) + length (mangled cs)
  longer c cs = length-append (mangled_char c) (mangled cs)

  -- one character more
  fit_more : (c : ℕ) (cs : List ℕ) (w : ℕ) → length (mangled_char c) ≡ w → w ≤ m → is_piece c ≡ true → Fit k (m - w) cs → Fit (suc k) m (c ∷ cs)
  fit_more c cs w is le p f = record {
    few = omega (arith, f.few);
    room = let r = f.room in omega (arith, longer c cs, is, r);
    each = and_from (is_piece c) (list_all is_piece cs) p f.each;
  }

  fit_less : (c : ℕ) (cs : List ℕ) (w : ℕ) → length (mangled_char c) ≡ w → Fit (suc k) m (c ∷ cs) → (w ≤ m) × (is_piece c ≡ true) × Fit k (m - w) cs
  fit_less c cs w is f =
      let e = and_parts (is_piece c) (list_all is_piece cs) f.each in
      let r = f.room in
      (omega (arith, longer c cs, is, r), e.0, record { few = omega (arith, f.few); room = omega (arith, longer c cs, is, r); each = e.1 })

  plain_there : (bs text : List ℕ) → nat_le 1 m ≡ true → Plain bs text → Tail z (suc k) m front bs text
  plain_there bs text le t =
      let p = plain_is (is_ascii_alphanumeric t.3.0) t.3.0 t.0 refl t.3.2 in
      let low : is_ascii_alphanumeric t.0 ≡ true = ap is_ascii_alphanumeric (sym p.1) ∙ p.0 in
      let u = t.4 in (
        t.0 ∷ u.0,
        u.1 ∙ regroup t.0 u.0,
        fit_more t.0 u.0 1 (ap length (mangled_plain t.0 low)) (leb-true 1 m le) (or_left (is_ascii_alphanumeric t.0) ((t.0 == 95) || fits false t.0) low) u.2,
        t.5 ∙ rw (t.3.1, p.1, u.3, mangled_plain t.0 low) refl,
      )

  escaped_there : (bs text : List ℕ) → nat_le 8 m ≡ true → Escaped bs text → Tail z (suc k) m front bs (95 ∷ text)
  escaped_there bs text le t =
      let high = fits_high false t.0 t.3.0 in
      let is = mangled_other t.0 high in
      let u = t.4 in (
        t.0 ∷ u.0,
        u.1 ∙ regroup t.0 u.0,
        fit_more t.0 u.0 8 (ap length is) (leb-true 8 m le) (or_right (is_ascii_alphanumeric t.0) ((t.0 == 95) || fits false t.0) (or_right (t.0 == 95) (fits false t.0) t.3.0)) u.2,
        rw (t.5, t.3.1, u.3, is) (ap (λ (r : List ℕ). 95 ∷ 117 ∷ r) (sym (append_assoc (six_digits t.0) (mangled u.0) z))),
      )

  second_there : (bs text : List ℕ) → nat_le 2 m ≡ true → Second bs text → Tail z (suc k) m front bs (95 ∷ text)
  second_there bs text le t =
      let u = t.1 in
      (95 ∷ u.0, u.1 ∙ regroup 95 u.0, fit_more 95 u.0 2 refl (leb-true 2 m le) refl u.2, rw (t.2, u.3) refl)

  -- the first character and what stands behind it
  data_of : (c : ℕ) (cs bs text : List ℕ) → (a l : Bool) → is_ascii_alphanumeric c ≡ a → (c == 95) ≡ l → bs ≡ front ++ encode_utf8_all (c ∷ cs) → Fit (suc k) m (c ∷ cs) → text ≡ mangled (c ∷ cs) ++ z
      → ((nat_le 1 m ≡ true) × Plain bs text) ⊎ ((back : List ℕ) × (text ≡ 95 ∷ back) × (nat_le 2 m ≡ true) × (((nat_le 8 m ≡ true) × Escaped bs back) ⊎ Second bs back))
  data_of c cs bs text true l ea el eb f et =
      let w = fit_less c cs 1 (ap length (mangled_plain c ea)) f in
      inl (le-leb 1 m w.0, (c, c ∷ [], mangled cs ++ z, (c, refl, plain_of_is c ea), (cs, eb ∙ sym (regroup c cs), w.2, refl), et ∙ rw (mangled_plain c ea) refl))
  data_of c cs bs text false true ea el eb f et =
      let is = eqb-true c 95 el in
      let f1 : Fit (suc k) m (95 ∷ cs) = subst (λ (d : ℕ). Fit (suc k) m (d ∷ cs)) is f in
      let w = fit_less 95 cs 2 refl f1 in
      inr (95 ∷ (mangled cs ++ z), et ∙ rw is refl, le-leb 2 m w.0, inr (mangled cs ++ z, (cs, eb ∙ rw is (sym (regroup 95 cs)), w.2, refl), refl))
  data_of c cs bs text false false ea el eb f et =
      let p : fits false c ≡ true = (let h = (and_parts (is_piece c) (list_all is_piece cs) f.each).0 in let h1 : (false || (false || fits false c)) ≡ true = (rw (ea, el) at h) in h1) in
      let is = mangled_other c (fits_high false c p) in
      let w = fit_less c cs 8 (ap length is) f in
      inr (
        (117 ∷ six_digits c) ++ (mangled cs ++ z),
        et ∙ rw is (ap (λ (r : List ℕ). 95 ∷ 117 ∷ r) (append_assoc (six_digits c) (mangled cs) z)),
        le-leb 2 m (omega (arith, w.0)),
        inl (le-leb 8 m w.0, (c, 117 ∷ six_digits c, mangled cs ++ z, (p, refl), (cs, eb ∙ sym (regroup c cs), w.2, refl), refl)),
      )

  escaped_starts : (bs text : List ℕ) → Escaped bs text → (x : ℕ) × (xs : List ℕ) × (text ≡ x ∷ xs) × ((x == 117) ≡ true)
  escaped_starts bs text t = (117, six_digits t.0 ++ t.2, t.5 ∙ rw t.3.1 refl, refl)

  plain_starts : (bs text : List ℕ) → Plain bs text → (x : ℕ) × (xs : List ℕ) × (text ≡ x ∷ xs) × (is_ascii_alphanumeric x ≡ true)
  plain_starts bs text t =
      let p = plain_is (is_ascii_alphanumeric t.3.0) t.3.0 t.0 refl t.3.2 in
      (t.3.0, t.2, t.5 ∙ rw t.3.1 refl, p.0)

  second_not : (test : ℕ → Bool) → test 95 ≡ false → (bs text rest : List ℕ) → Second bs text → begins test (text ++ rest) ≡ false
  second_not test e bs text rest t = rw t.2 e

  -- ---- names

  abbrev Under : Language ℕ (List ℕ)
  Under = Behind (codes "_") (Either (When (nat_le 8 m) Escaped) Second)

  good_under : Good Under g (after (codes "_") (behind_line R m front (second_line R m front)))
  good_under = good_behind (codes "_") (Either (When (nat_le 8 m) Escaped) Second) g (behind_line R m front (second_line R m front))
      (alt_when (λ x. x == 117) Escaped Second g (next (escape false) (λ c. R (m - 8) (front ++ encode_utf8 c))) (second_line R m front) escaped_starts
      (λ bs text rest t e. second_not (λ x. x == 117) refl bs text rest t) (nat_le 8 m) (λ e. good_escaped) good_second)

  -- ---- names and a `_`

  abbrev Closed : Language ℕ (List ℕ)
  Closed = Either (When (nat_le 2 m) Second) (Nothing front)

  abbrev UnderLine : Language ℕ (List ℕ)
  UnderLine = Behind (codes "_") (Either (When (nat_le 8 m) Escaped) Closed)

  module _ (no_line : (rest : List ℕ) → Ends g rest → begins (λ x. x == 95) rest ≡ false) (no_u : (rest : List ℕ) → Ends g rest → begins (λ x. x == 117) rest ≡ false) where
    second_starts : (bs text : List ℕ) → Second bs text → (x : ℕ) × (xs : List ℕ) × (text ≡ x ∷ xs) × ((x == 95) ≡ true)
    second_starts bs text t = (95, t.0, t.2, refl)

    closed_not : (bs text rest : List ℕ) → Closed bs text → Ends g rest → begins (λ x. x == 117) (text ++ rest) ≡ false
    closed_not bs text rest (inl t) e = second_not (λ x. x == 117) refl bs text rest t.1
    closed_not bs text rest (inr t) e = rw t.0 (no_u rest e)

    nothing_not : (bs text rest : List ℕ) → Nothing front bs text → Ends g rest → begins (λ x. x == 95) (text ++ rest) ≡ false
    nothing_not bs text rest t e = rw t.0 (no_line rest e)

    good_under_line : Good UnderLine g (after (codes "_") (behind_line R m front (either (λ x. nat_le 2 m && (x == 95)) (second_line R m front) (nothing front))))
    good_under_line = good_behind (codes "_") (Either (When (nat_le 8 m) Escaped) Closed) g (behind_line R m front (either (λ x. nat_le 2 m && (x == 95)) (second_line R m front) (nothing front)))
        (alt_when (λ x. x == 117) Escaped Closed g (next (escape false) (λ c. R (m - 8) (front ++ encode_utf8 c))) (either (λ x. nat_le 2 m && (x == 95)) (second_line R m front) (nothing front)) escaped_starts
        closed_not (nat_le 8 m) (λ e. good_escaped)
        (alt_when (λ x. x == 95) Second (Nothing front) g (second_line R m front) (nothing front) second_starts nothing_not (nat_le 2 m) (λ e. good_second) (good_nothing front g)))

-- ---- further characters

no_plain : (rest : List ℕ) → Ends is_name_byte rest → begins is_ascii_alphanumeric rest ≡ false
no_plain rest e = ends_less is_ascii_alphanumeric is_name_byte left rest e
  where
    left : (x : ℕ) → is_name_byte x ≡ false → is_ascii_alphanumeric x ≡ false
    left x h = (or_parts (is_ascii_alphanumeric x) (x == 95) h).0

no_under : (rest : List ℕ) → Ends is_name_byte rest → begins (λ x. x == 95) rest ≡ false
no_under rest e = ends_less (λ x. x == 95) is_name_byte right rest e
  where
    right : (x : ℕ) → is_name_byte x ≡ false → (x == 95) ≡ false
    right x h = (or_parts (is_ascii_alphanumeric x) (x == 95) h).1

no_more : (k m : ℕ) (front : List ℕ) → Fit k m []
no_more k m front = record { few = omega arith; room = omega arith; each = refl }

module _ (k : ℕ) (ih : (m : ℕ) (front : List ℕ) → Good (Tail [] k m front) is_name_byte (more k m front)) (m : ℕ) (front : List ℕ) where
  abbrev P : Language ℕ (List ℕ)
  P = Plain [] k is_name_byte (more k) ih m front

  abbrev L : Language ℕ (List ℕ)
  L = Under [] k is_name_byte (more k) ih m front

  abbrev U : Language ℕ (List ℕ)
  U = Either (When (nat_le 2 m) L) (Nothing front)

  others : (bs text rest : List ℕ) → U bs text → Ends is_name_byte rest → begins is_ascii_alphanumeric (text ++ rest) ≡ false
  others bs text rest (inl t) e = rw t.1.2 line_plain
  others bs text rest (inr t) e = rw t.0 (no_plain rest e)

  there : (bs text : List ℕ) → Either (When (nat_le 1 m) P) U bs text → Tail [] (suc k) m front bs text
  there bs text (inl t) = plain_there [] k is_name_byte (more k) ih m front bs text t.0 t.1
  there bs text (inr (inl (le, (back, inl u, e)))) = subst (Tail [] (suc k) m front bs) (sym e) (escaped_there [] k is_name_byte (more k) ih m front bs back u.0 u.1)
  there bs text (inr (inl (le, (back, inr u, e)))) = subst (Tail [] (suc k) m front bs) (sym e) (second_there [] k is_name_byte (more k) ih m front bs back le u)
  there bs text (inr (inr t)) = ([], t.1 ∙ sym (append-nil front), no_more (suc k) m front, t.0)

  back_by : (cs bs text : List ℕ) → bs ≡ front ++ encode_utf8_all cs → Fit (suc k) m cs → text ≡ mangled cs ++ [] → Either (When (nat_le 1 m) P) U bs text
  back_by [] bs text e f et = inr (inr (et, e ∙ append-nil front))
  back_by (c ∷ cs) bs text e f et = elim (data_of [] k is_name_byte (more k) ih m front c cs bs text (is_ascii_alphanumeric c) (c == 95) refl refl e f et) [
    | inl t ↦ inl t
    | inr t ↦ inr (inl (t.2, (t.0, t.3, t.1)))
  ]

  more_step : Good (Tail [] (suc k) m front) is_name_byte (more (suc k) m front)
  unfolding more
  more_step = same (Either (When (nat_le 1 m) P) U) (Tail [] (suc k) m front) is_name_byte (more (suc k) m front) there (λ bs text t. back_by t.0 bs text t.1 t.2 t.3)
      (alt_when is_ascii_alphanumeric P U is_name_byte (next (one (plain_of is_ascii_alphanumeric)) (λ c. more k (m - 1) (front ++ encode_utf8 c))) (either (λ x. nat_le 2 m && (x == 95)) (after (codes "_") (behind_line (more k) m front (second_line (more k) m front))) (nothing front))
      (plain_starts [] k is_name_byte (more k) ih m front) others (nat_le 1 m) (λ e. good_plain [] k is_name_byte (more k) ih m front)
      (alt_when (λ x. x == 95) L (Nothing front) is_name_byte (after (codes "_") (behind_line (more k) m front (second_line (more k) m front))) (nothing front)
      (λ bs text t. (95, t.0, t.2, refl)) (λ bs text rest t e. rw t.0 (no_under rest e)) (nat_le 2 m) (λ e. good_under [] k is_name_byte (more k) ih m front) (good_nothing front is_name_byte)))

pub good_more : (k m : ℕ) (front : List ℕ) → Good (Tail [] k m front) is_name_byte (more k m front)
unfolding more
good_more zero m front = same (Nothing front) (Tail [] zero m front) is_name_byte (nothing front)
    (λ bs text t. ([], t.1 ∙ sym (append-nil front), no_more zero m front, t.0))
    (λ bs text t. none_left t.0 bs text t.1 t.2 t.3) (good_nothing front is_name_byte)
  where
    none_left : (cs bs text : List ℕ) → bs ≡ front ++ encode_utf8_all cs → Fit zero m cs → text ≡ mangled cs ++ [] → (text ≡ []) × (bs ≡ front)
    none_left [] bs text e f et = (et, e ∙ append-nil front)
    none_left (c ∷ cs) bs text e f et = absurd (let h = f.few in omega arith)
good_more (suc k) m front = more_step k (good_more k) m front

-- ---- the same with a `_` behind them

-- what a name with a `_` behind it can go on with
abbrev pub goes_line : ℕ → Bool
goes_line x = (x == 95) || (x == 117)

line_line : (rest : List ℕ) → Ends goes_line rest → begins (λ x. x == 95) rest ≡ false
line_line rest e = ends_less (λ x. x == 95) goes_line (λ x h. (or_parts (x == 95) (x == 117) h).0) rest e

line_u : (rest : List ℕ) → Ends goes_line rest → begins (λ x. x == 117) rest ≡ false
line_u rest e = ends_less (λ x. x == 117) goes_line (λ x h. (or_parts (x == 95) (x == 117) h).1) rest e

module _ (k : ℕ) (ih : (m : ℕ) (front : List ℕ) → Good (Tail (95 ∷ []) k m front) goes_line (more_line k m front)) (m : ℕ) (front : List ℕ) where
  abbrev P2 : Language ℕ (List ℕ)
  P2 = Plain (95 ∷ []) k goes_line (more_line k) ih m front

  abbrev L2 : Language ℕ (List ℕ)
  L2 = UnderLine (95 ∷ []) k goes_line (more_line k) ih m front

  there2 : (bs text : List ℕ) → Either (When (nat_le 1 m) P2) L2 bs text → Tail (95 ∷ []) (suc k) m front bs text
  there2 bs text (inl t) = plain_there (95 ∷ []) k goes_line (more_line k) ih m front bs text t.0 t.1
  there2 bs text (inr (back, inl u, e)) = subst (Tail (95 ∷ []) (suc k) m front bs) (sym e) (escaped_there (95 ∷ []) k goes_line (more_line k) ih m front bs back u.0 u.1)
  there2 bs text (inr (back, inr (inl u), e)) = subst (Tail (95 ∷ []) (suc k) m front bs) (sym e) (second_there (95 ∷ []) k goes_line (more_line k) ih m front bs back u.0 u.1)
  there2 bs text (inr (back, inr (inr u), e)) = ([], u.1 ∙ sym (append-nil front), no_more (suc k) m front, e ∙ rw u.0 refl)

  back_by2 : (cs bs text : List ℕ) → bs ≡ front ++ encode_utf8_all cs → Fit (suc k) m cs → text ≡ mangled cs ++ 95 ∷ [] → Either (When (nat_le 1 m) P2) L2 bs text
  back_by2 [] bs text e f et = inr ([], inr (inr (refl, e ∙ append-nil front)), et)
  back_by2 (c ∷ cs) bs text e f et = elim (data_of (95 ∷ []) k goes_line (more_line k) ih m front c cs bs text (is_ascii_alphanumeric c) (c == 95) refl refl e f et) [
    | inl t ↦ inl t
    | inr t ↦ inr (t.0, elim t.3 [ inl u ↦ inl u | inr u ↦ inr (inl (t.2, u)) ], t.1)
  ]

  line_step : Good (Tail (95 ∷ []) (suc k) m front) goes_line (more_line (suc k) m front)
  unfolding more_line
  line_step = same (Either (When (nat_le 1 m) P2) L2) (Tail (95 ∷ []) (suc k) m front) goes_line (more_line (suc k) m front) there2 (λ bs text t. back_by2 t.0 bs text t.1 t.2 t.3)
      (alt_when is_ascii_alphanumeric P2 L2 goes_line (next (one (plain_of is_ascii_alphanumeric)) (λ c. more_line k (m - 1) (front ++ encode_utf8 c)))
      (after (codes "_") (behind_line (more_line k) m front (either (λ x. nat_le 2 m && (x == 95)) (second_line (more_line k) m front) (nothing front))))
      (plain_starts (95 ∷ []) k goes_line (more_line k) ih m front) (λ bs text rest t e. rw t.2 line_plain) (nat_le 1 m) (λ e. good_plain (95 ∷ []) k goes_line (more_line k) ih m front)
      (good_under_line (95 ∷ []) k goes_line (more_line k) ih m front line_line line_u))

pub good_more_line : (k m : ℕ) (front : List ℕ) → Good (Tail (95 ∷ []) k m front) goes_line (more_line k m front)
unfolding more_line
good_more_line zero m front = same (Spells (λ a. a ≡ front) (λ _. codes "_")) (Tail (95 ∷ []) zero m front) goes_line (just front (codes "_"))
    (λ bs text t. ([], t.0 ∙ sym (append-nil front), no_more zero m front, t.1))
    (λ bs text t. none_left t.0 bs text t.1 t.2 t.3) (good_just front (codes "_") goes_line)
  where
    none_left : (cs bs text : List ℕ) → bs ≡ front ++ encode_utf8_all cs → Fit zero m cs → text ≡ mangled cs ++ 95 ∷ [] → (bs ≡ front) × (text ≡ codes "_")
    none_left [] bs text e f et = (e ∙ append-nil front, et)
    none_left (c ∷ cs) bs text e f et = absurd (let h = f.few in omega arith)
good_more_line (suc k) m front = line_step k (good_more_line k) m front
