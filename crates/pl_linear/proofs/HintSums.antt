-- A hint whose multiples add to a positive constant gives a certificate, unless it is very long.
use Rattle.std.proofs.Common.{◌≡◌, ℕ, zero, suc, ◌<◌, ◌≤◌, ◌+◌, ◌-◌, ◌*◌, ◌^◌, ◌/◌, ℤ, pos, negsuc, neg_ℤ, ◌+ℤ◌, ◌*ℤ◌, ◌≤ℤ◌, int_div, int_lt, int_le, int_eq, unsigned_abs, nat_eq, nat_lt, Bool, true, false, cond, List, [], ◌∷◌, map, set, length, replicate, Some, refl, ap, sym, ◌∙◌, arith, All, length-set, le_trans, le_refl}
use Prim.Native.Nat.{◌∣◌}
use Rattle.std.proofs.lemmas.Int.{ints}
use Rattle.std.proofs.lemmas.Bool.{ltb-true}
use Rattle.std.proofs.lemmas.List.{get_or-set_same, get_or-set_other, length-replicate}
use Rattle.std.proofs.lemmas.Nat.Gcd.{dvd-zero}
use Rattle.std.proofs.Math.Nat.{div-add-mod, mod-lt}
use Rattle.std.proofs.Math.IntN.{pos-*ℤ-pos, pos-*ℤ-negsuc}
use lib.IntN.{*ℤ-zero, zero-*ℤ, suc_ℤ-*ℤ}
use Rattle.pl_forms.specs.declared.form.Part.{Part}
use Rattle.pl_forms.specs.declared.form.Form.{Form}
use Rattle.pl_forms.specs.declared.fact.Fact.{Fact}
use Rattle.pl_forms.specs.declared.fact.CertItem.{CertItem}
use Rattle.pl_forms.specs.declared.equation.Solution.{Solution}
use Rattle.pl_forms.specs.Forms.{IsForm}
use Rattle.pl_forms.specs.Equations.{coeff_of}
use Rattle.pl_forms.specs.Rows.{at, add_rows, ceil_div}
use Rattle.pl_forms.specs.Tightening.{common, divided, tight_form}
use Rattle.pl_forms.proofs.Divisors.{Each, more as divides, all_divided}
use Rattle.pl_forms.proofs.FormSteps.{product_size}
use Rattle.pl_forms.proofs.Products.{mul-assoc}
use Rattle.pl_forms.proofs.RowValues.{exact}
use Rattle.pl_forms.proofs.Tightness.{common_is, common_le}
use Rattle.pl_linear.specs.declared.hint.Written.{Written}
use Rattle.pl_linear.specs.Certificates.{item_row, start_row, add_one, add_items, all_zero, is_closed, closing}
use Rattle.pl_linear.specs.Hints.{at_least_one, own_row, add_own, add_all_own, items_of}
use Rattle.pl_linear.proofs.FormRows.{put_some, sum_size}
use Rattle.pl_linear.proofs.TightRows.{coeff_divided}
use Rattle.pl_linear.proofs.BesideRows.{place, place_zero, zero_by}

-- a multiple of numbers was added to a row
record RowsAdded (times : ℤ) (i : ℕ) (cs d e : List ℤ) : Type 0 where
  made_of : add_rows times i cs d ≡ Some e
  long : length e ≡ length d
  before : (k : ℕ) → k < i → at e k ≡ at d k
  places : (k j : ℕ) → k ≡ i + j → at e k ≡ at d k +ℤ (times *ℤ at cs j)

le_more : (l n : ℕ) → n ≤ l + n
le_more l n = omega arith

rows_added : (times : ℤ) (i : ℕ) (cs d : List ℤ) (b c : ℕ) → i + length cs ≤ length d → ((j : ℕ) → unsigned_abs (times *ℤ at cs j) ≤ b) → ((k : ℕ) → i ≤ k → unsigned_abs (at d k) ≤ c) → c + b ≤ 2 ^ 126 → (e : List ℤ) × RowsAdded times i cs d e
rows_added times i [] d b c fits hb hc whole = (d, record { made_of = refl; long = refl; before = λ k h. refl; places = λ k j e. omega (arith, ints, *ℤ-zero times) })
rows_added times i (x ∷ cs) d b c fits hb hc whole =
    let inside : i < length d = omega (arith, fits) in
    let z = at d i +ℤ (times *ℤ x) in
    let total : unsigned_abs (at d i +ℤ (times *ℤ x)) ≤ c + b = sum_size (at d i) (times *ℤ x) c b (hc i (le_refl i)) (hb 0) in
    let put = put_some times x i d (le_trans (hb 0) (le_trans (le_more c b) whole)) (le_trans total whole) in
    let long : length (set d i z) ≡ length d = length-set d i z in
    let r = rows_added times (i + 1) cs (set d i z) b c (rw long (omega (arith, fits))) (λ j. hb (suc j)) (λ k le. kept k le) whole in (
      r.0,
      record {
        made_of = rw put r.1.made_of;
        long = r.1.long ∙ long;
        before = λ k lt. r.1.before k (omega arith) ∙ get_or-set_other d i k z (pos 0) (λ q. absurd (omega arith));
        places = λ k j e. at_each r.0 r.1 k j e inside;
      },
    )
  where
    kept : (k : ℕ) → i + 1 ≤ k → unsigned_abs (at (set d i (at d i +ℤ (times *ℤ x))) k) ≤ c
    kept k le = rw (get_or-set_other d i k (at d i +ℤ (times *ℤ x)) (pos 0) (λ q. absurd (omega arith))) (hc k (omega arith))

    at_each : (e : List ℤ) → RowsAdded times (i + 1) cs (set d i (at d i +ℤ (times *ℤ x))) e → (k j : ℕ) → k ≡ i + j → i < length d → at e k ≡ at d k +ℤ (times *ℤ at (x ∷ cs) j)
    at_each e r k zero q inside =
        let same : k ≡ i = omega (arith, q) in
        r.before k (omega (arith, same)) ∙ rw same (get_or-set_same d i (at d i +ℤ (times *ℤ x)) (pos 0) inside)
    at_each e r k (suc j) q inside = r.places k j (omega (arith, q)) ∙ ap (λ y. y +ℤ (times *ℤ at cs j)) (get_or-set_other d i k (at d i +ℤ (times *ℤ x)) (pos 0) (λ s. absurd (omega (arith, q, s))))

-- what a term of a hint adds, and what its item adds
pub record Pair (n : ℕ) (eqs : List Solution) (facts : List Fact) (t : Form) (w : Written) : Type 0 where
  pub own : List ℤ
  pub cert : List ℤ
  pub own_is : own_row eqs facts t w.item.fact w.item (start_row w.item.fact (n + 1)) ≡ Some own
  pub cert_is : item_row eqs facts t w.item (start_row w.item.fact (n + 1)) ≡ Some cert
  pub own_long : length own ≡ n + 1
  pub cert_long : length cert ≡ n + 1
  pub some : int_lt w.item.times (pos 1) ≡ false
  pub own_size : (i : ℕ) → unsigned_abs (w.times *ℤ at own i) ≤ 2 ^ 101
  pub cert_size : (i : ℕ) → unsigned_abs (w.item.times *ℤ at cert i) ≤ 2 ^ 101
  pub same : (a : ℕ) → w.item.times *ℤ at cert (suc a) ≡ w.times *ℤ at own (suc a)
  pub no_less : (w.times *ℤ at own 0) ≤ℤ (w.item.times *ℤ at cert 0)

-- both sums behind k terms
record Sums (n k : ℕ) (own cert : List ℤ) : Type 0 where
  own_long : length own ≡ n + 1
  cert_long : length cert ≡ n + 1
  own_size : (i : ℕ) → unsigned_abs (at own i) ≤ k * 2 ^ 101
  cert_size : (i : ℕ) → unsigned_abs (at cert i) ≤ k * 2 ^ 101
  same : (a : ℕ) → at cert (suc a) ≡ at own (suc a)
  no_less : at own 0 ≤ℤ at cert 0

record Next (n k : ℕ) (eqs : List Solution) (facts : List Fact) (t : Form) (w : Written) (own cert : List ℤ) : Type 0 where
  own_now : List ℤ
  cert_now : List ℤ
  own_is : add_own eqs facts t w own ≡ Some own_now
  cert_is : add_one eqs facts t w.item cert ≡ Some cert_now
  sums : Sums n (k + 1) own_now cert_now

next_size : (k : ℕ) (a b c : ℤ) → unsigned_abs a ≤ k * 2 ^ 101 → unsigned_abs b ≤ 2 ^ 101 → c ≡ a +ℤ b → unsigned_abs c ≤ (k + 1) * 2 ^ 101
next_size k a b c h g e = let s : unsigned_abs (a +ℤ b) ≤ k * 2 ^ 101 + 2 ^ 101 = sum_size a b (k * 2 ^ 101) (2 ^ 101) h g in rw e (omega (arith, s))

within_limit : (k : ℕ) → k ≤ 2 ^ 24 → k * 2 ^ 101 + 2 ^ 101 ≤ 2 ^ 126
within_limit k h = omega (arith, h)

own_next : (n : ℕ) (eqs : List Solution) (facts : List Fact) (t : Form) (w : Written) (own row now : List ℤ) → length own ≡ n + 1 → own_row eqs facts t w.item.fact w.item (start_row w.item.fact (n + 1)) ≡ Some row → add_rows w.times 0 row own ≡ Some now → add_own eqs facts t w own ≡ Some now
own_next n eqs facts t w own row now l r m = rw (l, r) m

cert_next : (n : ℕ) (eqs : List Solution) (facts : List Fact) (t : Form) (it : CertItem) (cert row now : List ℤ) → int_lt it.times (pos 1) ≡ false → length cert ≡ n + 1 → item_row eqs facts t it (start_row it.fact (n + 1)) ≡ Some row → add_rows it.times 0 row cert ≡ Some now → add_one eqs facts t it cert ≡ Some now
cert_next n eqs facts t it cert row now some l r m = rw (some, l, r) m

next_sums : (n k : ℕ) (eqs : List Solution) (facts : List Fact) (t : Form) (w : Written) (own cert : List ℤ) → Sums n k own cert → Pair n eqs facts t w → k ≤ 2 ^ 24 → Next n k eqs facts t w own cert
next_sums n k eqs facts t w own cert s p few =
    let o = rows_added w.times 0 p.own own (2 ^ 101) (k * 2 ^ 101) (omega (arith, s.own_long, p.own_long)) p.own_size (λ i le. s.own_size i) (within_limit k few) in
    let c = rows_added w.item.times 0 p.cert cert (2 ^ 101) (k * 2 ^ 101) (omega (arith, s.cert_long, p.cert_long)) p.cert_size (λ i le. s.cert_size i) (within_limit k few) in
    let own_at : (i : ℕ) → at o.0 i ≡ at own i +ℤ (w.times *ℤ at p.own i) = λ i. o.1.places i i (omega arith) in
    let cert_at : (i : ℕ) → at c.0 i ≡ at cert i +ℤ (w.item.times *ℤ at p.cert i) = λ i. c.1.places i i (omega arith) in record {
      own_now = o.0;
      cert_now = c.0;
      own_is = own_next n eqs facts t w own p.own o.0 s.own_long p.own_is o.1.made_of;
      cert_is = cert_next n eqs facts t w.item cert p.cert c.0 p.some s.cert_long p.cert_is c.1.made_of;
      sums = record {
        own_long = o.1.long ∙ s.own_long;
        cert_long = c.1.long ∙ s.cert_long;
        own_size = λ i. next_size k (at own i) (w.times *ℤ at p.own i) (at o.0 i) (s.own_size i) (p.own_size i) (own_at i);
        cert_size = λ i. next_size k (at cert i) (w.item.times *ℤ at p.cert i) (at c.0 i) (s.cert_size i) (p.cert_size i) (cert_at i);
        same = λ a. omega (arith, ints, own_at (suc a), cert_at (suc a), s.same a, p.same a);
        no_less = omega (arith, ints, own_at 0, cert_at 0, s.no_less, p.no_less);
      };
    }

zero_places : (cs : List ℤ) → all_zero cs ≡ true → (i : ℕ) → at cs i ≡ pos 0
zero_places [] h i = refl
zero_places (c ∷ cs) h zero = int_is c (if_both (int_eq c (pos 0)) (all_zero cs) h).0
  where
    int_is : (c : ℤ) → int_eq c (pos 0) ≡ true → c ≡ pos 0
    int_is c h = grind (arith, ints)

    if_both : (a b : Bool) → cond a b false ≡ true → (a ≡ true) × (b ≡ true)
    if_both true b h = (refl, h)
    if_both false b h = absurd cc
zero_places (c ∷ cs) h (suc i) = zero_places cs (rest (int_eq c (pos 0)) (all_zero cs) h) i
  where
    rest : (a b : Bool) → cond a b false ≡ true → b ≡ true
    rest true b h = h
    rest false b h = absurd cc

if_not : (a b : Bool) → cond a false b ≡ true → (a ≡ false) × (b ≡ true)
if_not true b h = absurd cc
if_not false b h = (refl, h)

above : (x y : ℤ) → x ≤ℤ y → int_le x (pos 0) ≡ false → int_le y (pos 0) ≡ false
above x y h k = grind (arith, ints)

-- a positive constant, or a greater one
closed_more : (d e : List ℤ) → 0 < length e → ((a : ℕ) → at e (suc a) ≡ at d (suc a)) → at d 0 ≤ℤ at e 0 → is_closed d ≡ true → is_closed e ≡ true
closed_more [] e some same le h = absurd cc
closed_more (x ∷ xs) [] some same le h = absurd (omega (arith, some))
closed_more (x ∷ xs) (y ∷ ys) some same le h =
    let p = if_not (int_le x (pos 0)) (all_zero xs) h in
    rw (above x y le p.0) (zero_by ys (λ i. same i ∙ zero_places xs p.1 i))

sums_close : (n k : ℕ) (eqs : List Solution) (facts : List Fact) (t : Form) (ws : List Written) (own cert : List ℤ) → Sums n k own cert → All (Pair n eqs facts t) ws → k + length ws ≤ 2 ^ 24 + 1 → closing (add_all_own eqs facts t ws own) ≡ true → closing (add_items eqs facts t (items_of ws) cert) ≡ true
sums_close n k eqs facts t [] own cert s p few h = closed_more own cert (omega (arith, s.cert_long)) s.same s.no_less h
sums_close n k eqs facts t (w ∷ ws) own cert s p few h =
    let x = next_sums n k eqs facts t w own cert s (p 0 w (omega arith)) (omega (arith, few)) in
    let rest = rw x.own_is at h in
    rw x.cert_is (sums_close n (k + 1) eqs facts t ws x.own_now x.cert_now x.sums (λ j z lt. p (suc j) z (omega arith)) (omega (arith, few)) rest)

zero_at : (n i : ℕ) → at (replicate n (pos 0)) i ≡ pos 0
zero_at zero i = refl
zero_at (suc n) zero = refl
zero_at (suc n) (suc i) = zero_at n i

none_size : (c : ℤ) → c ≡ pos 0 → unsigned_abs c ≤ 0 * 2 ^ 101
none_size c e = rw e (omega arith)

-- the sum of the terms is a positive constant, and so is that of their items
pub hint_closes : (n : ℕ) (eqs : List Solution) (facts : List Fact) (t : Form) (ws : List Written) → All (Pair n eqs facts t) ws → length ws ≤ 2 ^ 24 + 1 → closing (add_all_own eqs facts t ws (replicate (n + 1) (pos 0))) ≡ true → closing (add_items eqs facts t (items_of ws) (replicate (n + 1) (pos 0))) ≡ true
hint_closes n eqs facts t ws p few h =
    let size : (i : ℕ) → unsigned_abs (at (replicate (n + 1) (pos 0)) i) ≤ 0 * 2 ^ 101 = λ i. none_size (at (replicate (n + 1) (pos 0)) i) (zero_at (n + 1) i) in
    let long = length-replicate (n + 1) (pos 0) in
    sums_close n 0 eqs facts t ws (replicate (n + 1) (pos 0)) (replicate (n + 1) (pos 0)) (record { own_long = long; cert_long = long; own_size = size; cert_size = size; same = λ a. refl; no_less = omega (arith, ints) }) p (omega (arith, few)) h

-- m times a form, and so often its tightened form
pub record Rounded (m : ℕ) (k : ℤ) (own cert : Form) : Type 0 where
  pub same : (a : ℕ) → k *ℤ place cert (suc a) ≡ pos m *ℤ place own (suc a)
  pub no_less : (pos m *ℤ place own 0) ≤ℤ (k *ℤ place cert 0)
  pub size : unsigned_abs (k *ℤ place cert 0) ≤ 2 ^ 101

each_coeff : (q a : ℕ) (ps : List Part) → Each q (map (λ p. p.coeff) ps) → q ∣ unsigned_abs (coeff_of a ps)
each_coeff q a [] e = dvd-zero q
each_coeff q a (p ∷ ps) (divides d e) = elim (nat_eq p.atom a) as (λ b. q ∣ unsigned_abs (cond b p.coeff (coeff_of a ps))) [ true ↦ d | false ↦ each_coeff q a ps e ]

pos_neg : (q y : ℕ) → pos q *ℤ neg_ℤ (pos y) ≡ neg_ℤ (pos (q * y))
pos_neg q zero = let e : q * zero ≡ 0 = omega arith in pos-*ℤ-pos q 0 ∙ rw e refl
pos_neg q (suc y) = pos-*ℤ-negsuc q y

record Ceil (q : ℕ) (k : ℤ) : Type 0 where
  no_less : k ≤ℤ (pos q *ℤ ceil_div k q)
  size : unsigned_abs (pos q *ℤ ceil_div k q) ≤ unsigned_abs k + q

size_by : (c d : ℤ) (n : ℕ) → c ≡ d → unsigned_abs d ≤ n → unsigned_abs c ≤ n
size_by c d n e h = rw e h

ceil_is : (q : ℕ) (k : ℤ) → 0 < q → Ceil q k
ceil_is q (pos n) h =
    let e = pos-*ℤ-pos q ((n + (q - 1)) / q) in
    let d = div-add-mod (n + (q - 1)) q in
    let r = mod-lt (n + (q - 1)) h in
    let low : n ≤ q * ((n + (q - 1)) / q) = omega (arith, d, r, h) in
    let high : q * ((n + (q - 1)) / q) ≤ n + q = omega (arith, d, r, h) in
    record { no_less = rw e (omega (arith, ints, low)); size = size_by (pos q *ℤ ceil_div (pos n) q) (pos (q * ((n + (q - 1)) / q))) (n + q) e high }
ceil_is q (negsuc n) h =
    let e = pos_neg q (suc n / q) in
    let d = div-add-mod (suc n) q in
    let low : q * (suc n / q) ≤ suc n = omega (arith, d) in
    record { no_less = rw e (below n (q * (suc n / q)) low); size = rw e (size n q (q * (suc n / q)) low) }
  where
    below : (n y : ℕ) → y ≤ suc n → negsuc n ≤ℤ neg_ℤ (pos y)
    below n y h = omega (arith, ints, h)

    size : (n q y : ℕ) → y ≤ suc n → unsigned_abs (neg_ℤ (pos y)) ≤ suc n + q
    size n q y h = grind (arith, ints)

times_le : (m : ℕ) (a b : ℤ) → a ≤ℤ b → (pos m *ℤ a) ≤ℤ (pos m *ℤ b)
times_le zero a b h = omega (arith, ints, zero-*ℤ a, zero-*ℤ b)
times_le (suc m) a b h = omega (arith, ints, times_le m a b h, suc_ℤ-*ℤ (pos m) a, suc_ℤ-*ℤ (pos m) b, h)

regroup : (m q : ℕ) (z : ℤ) → pos (m * q) *ℤ z ≡ pos m *ℤ (pos q *ℤ z)
regroup m q z = ap (λ x. x *ℤ z) (sym (pos-*ℤ-pos m q)) ∙ mul-assoc (pos m) (pos q) z

-- the negated goal as a hint adds it, and as a certificate does
pub goal_rounded : (m : ℕ) (f : Form) → m ≤ 2 ^ 20 → IsForm f → Rounded m (pos (m * at_least_one (common 0 f.parts))) f (tight_form f)
goal_rounded m f few p =
    (elim (nat_lt 1 (common 0 f.parts)) as (λ b. nat_lt 1 (common 0 f.parts) ≡ b → Rounded m (pos (m * cond b (common 0 f.parts) 1)) f (cond b (record { parts = map (divided (common 0 f.parts)) f.parts; constant = ceil_div f.constant (common 0 f.parts) }) f)) [
      | true ↦ λ e.
          let q = common 0 f.parts in
          let big : 1 < common 0 f.parts = ltb-true 1 (common 0 f.parts) e in
          let least : 0 < common 0 f.parts = omega (arith, big) in
          let each : Each (common 0 f.parts) (map (λ p. p.coeff) f.parts) = rw (common_is 0 f.parts) (all_divided 0 (map (λ p. p.coeff) f.parts)) in
          let limit : common 0 f.parts ≤ 2 ^ 40 = common_le 0 (2 ^ 40) f.parts (omega arith) p.small in
          let c = ceil_is (common 0 f.parts) f.constant least in
          let bounded = p.bounded in
          let whole : unsigned_abs (pos (common 0 f.parts) *ℤ ceil_div f.constant (common 0 f.parts)) ≤ 2 ^ 80 + 2 ^ 40 = omega (arith, c.size, bounded, limit) in
          record {
            same = λ a.
                ap (λ z. pos (m * q) *ℤ z) (coeff_divided q a f.parts)
                ∙ regroup m q (int_div (coeff_of a f.parts) (pos q))
                ∙ ap (λ z. pos m *ℤ z) (exact q (coeff_of a f.parts) least (each_coeff q a f.parts each));
            no_less = rw (regroup m q (ceil_div f.constant q)) (times_le m f.constant (pos q *ℤ ceil_div f.constant q) c.no_less);
            size = rw (regroup m q (ceil_div f.constant q)) (le_trans (product_size (pos m) (pos q *ℤ ceil_div f.constant q) (2 ^ 20) (2 ^ 80 + 2 ^ 40) few whole) (omega arith));
          }
      | false ↦ λ e.
          let once : m * 1 ≡ m = omega arith in
          record {
            same = λ a. ap (λ x. pos x *ℤ place f (suc a)) once;
            no_less = rw once (omega (arith, ints));
            size = rw once (le_trans (product_size (pos m) (place f 0) (2 ^ 20) (2 ^ 80) few (place_zero f p)) (omega arith));
          }
    ]) refl
