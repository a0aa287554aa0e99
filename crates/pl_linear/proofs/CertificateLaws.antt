-- What a certificate shows.
use Rattle.std.proofs.Common.{◌≡◌, ℕ, zero, suc, ◌<◌, ◌≤◌, ◌+◌, ◌^◌, ℤ, pos, negsuc, ◌+ℤ◌, ◌*ℤ◌, ◌≤ℤ◌, unsigned_abs, int_lt, int_le, int_eq, nat_eq, Bool, true, false, nat_lt, cond, List, [], ◌∷◌, set, map, drop, int_div, length, replicate, slice_get, Result, Ok, Err, IfOk, Option, Some, None, refl, ap, sym, subst, ◌∙◌, arith, All, length-set}
use Rattle.std.proofs.lemmas.Int.{ints, by_lt_z}
use Rattle.std.proofs.lemmas.List.{length-replicate, length-map}
use Rattle.std.proofs.lemmas.List.Elements.{All-cons}
use Rattle.std.proofs.lemmas.Bool.Decides.{nat_tests}
use lib.IntN.{pred_ℤ-*ℤ, suc_ℤ-*ℤ, *ℤ-zero, zero-*ℤ, *ℤ_comm}
use Rattle.pl_base.specs.declared.pos.Memory.{Memory}
use Rattle.pl_forms.specs.declared.form.Form.{Form}
use Rattle.pl_forms.specs.Forms.{value}
use Rattle.pl_forms.specs.Rows.{at, then_more, add_rows, tight, gcd_from, ceil_div, places_value, placed, row_value}
use Rattle.pl_forms.specs.declared.equation.Solution.{Solution}
use Rattle.pl_forms.specs.declared.form.TermError.{TermError}
use Rattle.pl_forms.specs.Facts.{MeetsShape, Meets, MeetsAll}
use Rattle.pl_forms.specs.Equations.{MeetsSolved, Follow, counted, named}
use Rattle.pl_forms.proofs.Reducing.{counted_meets}
use Rattle.pl_forms.specs.Places.{Within, AllWithin, AllSolvedWithin}
use Rattle.pl_linear.specs.Certificates.{is_yes, is_counted, add_shape, add_named, item_base, eq_times, add_eqs, small, tightened, finished, item_row, start_row, add_one, add_items, all_zero, is_closed, closing, is_certificate}
use Rattle.pl_forms.specs.declared.fact.Shape.{Shape}
use Rattle.pl_forms.specs.declared.fact.Shape.TheVariants.{Zero, Below, Differs}
use Rattle.pl_forms.specs.declared.fact.Fact.{Fact}
use Rattle.pl_forms.specs.declared.fact.EqTerm.{EqTerm}
use Rattle.pl_forms.specs.declared.fact.CertItem.{CertItem}
use Rattle.pl_forms.proofs.RowValues.{more_is, form_law, rows_law, tight_law, zeros_value, one_times}

small_more : (c : ℤ) (cs : List ℤ) (b : Bool) → (small cs ≡ true → All (λ c. unsigned_abs c ≤ 2 ^ 126) cs) → nat_lt (2 ^ 126) (unsigned_abs c) ≡ b → cond b false (small cs) ≡ true → All (λ c. unsigned_abs c ≤ 2 ^ 126) (c ∷ cs)
small_more c cs true ih e h = absurd cc
small_more c cs false ih e h = All-cons (λ c. unsigned_abs c ≤ 2 ^ 126) c cs (grind (arith, nat_tests)) (ih h)

pub small_all : (d : List ℤ) → small d ≡ true → All (λ c. unsigned_abs c ≤ 2 ^ 126) d
small_all [] h = λ k z lt. absurd (omega arith)
small_all (c ∷ cs) h = small_more c cs (nat_lt (2 ^ 126) (unsigned_abs c)) (λ q. small_all cs q) refl h

minus_one : (z : ℤ) → (negsuc 0 *ℤ z) +ℤ z ≡ pos 0
minus_one z = omega (arith, ints, pred_ℤ-*ℤ (pos 0) z, zero-*ℤ z)

shape_law : (v : ℕ → ℤ) (s : Shape) (back : Bool) (f : Form) (d e : List ℤ) → 0 < length d → Within (length d) f → MeetsShape v s f → add_shape s back f d ≡ Some e → (row_value v e ≤ℤ row_value v d) × (length e ≡ length d)
shape_law v Zero true f d e some w m h = let r = form_law v (negsuc 0) f d e some w h in (omega (arith, ints, r.0, minus_one (value v f), m), r.1)
shape_law v Zero false f d e some w m h = let r = form_law v (pos 1) f d e some w h in (omega (arith, ints, r.0, one_times (value v f), *ℤ_comm (pos 1) (value v f), m), r.1)
shape_law v Below true f d e some w m h = absurd cc
shape_law v Below false f d e some w m h = let r = form_law v (pos 1) f d e some w h in (omega (arith, ints, r.0, one_times (value v f), *ℤ_comm (pos 1) (value v f), m), r.1)
shape_law v Differs back f d e some w m h = absurd cc

-- what a list says of the element that `get` finds
pub got : (fs : List Fact) (i : ℕ) (f : Fact) (P : Fact → Type 0) → All P fs → slice_get fs i ≡ Some f → P f
got [] i f P a h = absurd cc
got (g ∷ gs) zero f P a h = let e : g ≡ f = cc in subst P e (a 0 g (omega arith))
got (g ∷ gs) (suc i) f P a h = got gs i f P (λ k z lt. a (suc k) z (omega arith)) h

if_so : (b : Bool) (o : Option (List ℤ)) (e : List ℤ) → cond b o None ≡ Some e → (b ≡ true) × (o ≡ Some e)
if_so true o e h = (refl, h)
if_so false o e h = absurd cc

pub yes_is : (r : Result Bool TermError) → is_yes r ≡ true → r ≡ Ok true
yes_is (Ok true) h = refl
yes_is (Ok false) h = absurd cc
yes_is (Err e) h = absurd cc

fact_law : (v : ℕ → ℤ) (eqs : List Solution) (back : Bool) (f : Fact) (d e : List ℤ) → 0 < length d → Within (length d) f.form → MeetsSolved v eqs → Meets v f → add_named eqs (Some f) back d ≡ Some e → (row_value v e ≤ℤ row_value v d) × (length e ≡ length d)
fact_law v eqs back f d e some w ms m h =
    let k = if_so (is_counted eqs f) (add_shape f.shape back f.form d) e h in
    shape_law v f.shape back f.form d e some w (m.said (counted_meets v eqs f.guard ms (yes_is (counted eqs f.guard) k.0))) k.1

named_law : (v : ℕ → ℤ) (eqs : List Solution) (facts : List Fact) (i : ℕ) (o : Option Fact) (back : Bool) (d e : List ℤ) → slice_get facts i ≡ o → 0 < length d → AllWithin (length d) facts → MeetsSolved v eqs → MeetsAll v facts → add_named eqs o back d ≡ Some e → (row_value v e ≤ℤ row_value v d) × (length e ≡ length d)
named_law v eqs facts i None back d e q some w ms m h = absurd cc
named_law v eqs facts i (Some f) back d e q some w ms m h = fact_law v eqs back f d e some (got facts i f (λ f. Within (length d) f.form) w q) ms (got facts i f (Meets v) m q) h

start_value : (v : ℕ → ℤ) (n : ℕ) → 0 < n → row_value v (set (replicate n (pos 0)) 0 (pos 1)) ≡ pos 1
start_value v zero h = absurd (omega arith)
start_value v (suc n) h = omega (arith, ints, zeros_value (placed v) 1 n, one_times (pos 1))

-- the row of an item, before it is tightened, has a value at most 0
base_law : (v : ℕ → ℤ) (eqs : List Solution) (facts : List Fact) (goal : Form) (fact : Option ℕ) (back : Bool) (n : ℕ) (e : List ℤ) → 0 < n → AllSolvedWithin n eqs → AllWithin n facts → Within n goal → MeetsSolved v eqs → MeetsAll v facts → pos 1 ≤ℤ value v goal → item_base eqs facts goal fact back (start_row fact n) ≡ Some e → (row_value v e ≤ℤ pos 0) × (length e ≡ n)
base_law v eqs facts goal None true n e some we w wg ms m g h = absurd cc
base_law v eqs facts goal None false n e some we w wg ms m g h =
    let len : length (set (replicate n (pos 0)) 0 (pos 1)) ≡ n = length-set (replicate n (pos 0)) 0 (pos 1) ∙ length-replicate n (pos 0) in
    let r = form_law v (negsuc 0) goal (set (replicate n (pos 0)) 0 (pos 1)) e (rw len some) (rw len wg) h in
    (omega (arith, ints, r.0, start_value v n some, minus_one (value v goal)), r.1 ∙ len)
base_law v eqs facts goal (Some i) back n e some we w wg ms m g h =
    let len : length (replicate n (pos 0)) ≡ n = length-replicate n (pos 0) in
    let r = named_law v eqs facts i (slice_get facts i) back (replicate n (pos 0)) e refl (rw len some) (rw len w) ms m h in
    (omega (arith, ints, r.0, zeros_value (placed v) 0 n), r.1 ∙ len)

eq_law : (v : ℕ → ℤ) (i : ℕ) (eqs : List Solution) (times : ℤ) (d e : List ℤ) → 0 < length d → AllSolvedWithin (length d) eqs → MeetsSolved v eqs → eq_times (named i eqs) times d ≡ Some e → (row_value v e ≡ row_value v d) × (length e ≡ length d)
eq_law v i [] times d e some w m h = absurd cc
eq_law v i (s ∷ ss) times d e some w m h =
    (elim (nat_eq s.fact i) as (λ b. eq_times (cond b (Some s) (named i ss)) times d ≡ Some e → (row_value v e ≡ row_value v d) × (length e ≡ length d)) [
      | true ↦ λ q. let r = form_law v times s.form d e some (w 0 s (omega arith)) q in (omega (arith, ints, r.0, *ℤ-zero times, ap (λ z. times *ℤ z) (m 0 s (omega arith))), r.1)
      | false ↦ λ q. eq_law v i ss times d e some (λ k z lt. w (suc k) z (omega arith)) (λ k z lt. m (suc k) z (omega arith)) q
    ]) h

pub eqs_law : (v : ℕ → ℤ) (eqs : List Solution) (ts : List EqTerm) (d e : List ℤ) → 0 < length d → AllSolvedWithin (length d) eqs → MeetsSolved v eqs → add_eqs eqs ts d ≡ Some e → (row_value v e ≡ row_value v d) × (length e ≡ length d)
eqs_law v eqs [] d e some w m h = let s : d ≡ e = cc in (ap (row_value v) (sym s), ap length (sym s))
eqs_law v eqs (t ∷ ts) d e some w m h =
    let k = more_is (eq_times (named t.fact eqs) t.times d) (λ x. add_eqs eqs ts x) e h in
    let q = eq_law v t.fact eqs t.times d k.0 some w m k.1 in
    let r = eqs_law v eqs ts k.0 e (rw q.1 some) (rw q.1 w) m k.2 in
    (r.0 ∙ q.0, r.1 ∙ q.1)

tight_long : (d : List ℤ) → length (tight d) ≡ length d
tight_long d = elim (nat_lt 1 (gcd_from 0 (drop 1 d))) as (λ s. length (cond s (set (map (λ c. int_div c (pos (gcd_from 0 (drop 1 d)))) d) 0 (ceil_div (at d 0) (gcd_from 0 (drop 1 d)))) d) ≡ length d) [ true ↦ length-set (map (λ c. int_div c (pos (gcd_from 0 (drop 1 d)))) d) 0 (ceil_div (at d 0) (gcd_from 0 (drop 1 d))) ∙ length-map d (λ c. int_div c (pos (gcd_from 0 (drop 1 d)))) | false ↦ refl ]

tightened_is : (d e : List ℤ) → tightened d ≡ Some e → e ≡ tight d
tightened_is d e h = grind arith

row_law : (v : ℕ → ℤ) (eqs : List Solution) (facts : List Fact) (goal : Form) (it : CertItem) (n : ℕ) (e : List ℤ) → 0 < n → AllSolvedWithin n eqs → AllWithin n facts → Within n goal → MeetsSolved v eqs → MeetsAll v facts → pos 1 ≤ℤ value v goal → item_row eqs facts goal it (start_row it.fact n) ≡ Some e → (row_value v e ≤ℤ pos 0) × (length e ≡ n)
row_law v eqs facts goal it n e some we w wg ms m g h =
    let k = more_is (item_base eqs facts goal it.fact it.back (start_row it.fact n)) (λ x. finished eqs it.eqs x) e h in
    let b = base_law v eqs facts goal it.fact it.back n k.0 some we w wg ms m g k.1 in
    let l = more_is (add_eqs eqs it.eqs k.0) tightened e k.2 in
    let q = eqs_law v eqs it.eqs k.0 l.0 (rw b.1 some) (rw b.1 we) ms l.1 in
    rw (tightened_is l.0 e l.2) (tight_law v l.0 (omega (arith, ints, q.0, b.0)), tight_long l.0 ∙ q.1 ∙ b.1)

times_low : (t z : ℤ) → pos 1 ≤ℤ t → z ≤ℤ pos 0 → (t *ℤ z) ≤ℤ pos 0
times_low (pos zero) z h k = absurd (omega (arith, ints))
times_low (pos (suc zero)) z h k = omega (arith, ints, *ℤ_comm (pos 1) z, one_times z)
times_low (pos (suc (suc n))) z h k = omega (arith, ints, suc_ℤ-*ℤ (pos (suc n)) z, times_low (pos (suc n)) z (omega (arith, ints)) k)
times_low (negsuc n) z h k = absurd (omega (arith, ints))

one_more : (t : ℤ) (b : Bool) → int_lt t (pos 1) ≡ b → b ≡ false → pos 1 ≤ℤ t
one_more t b h e = grind (arith, ints)

lt_cases : (b : Bool) (o : Option (List ℤ)) (e : List ℤ) → cond b None o ≡ Some e → (b ≡ false) × (o ≡ Some e)
lt_cases true o e h = absurd cc
lt_cases false o e h = (refl, h)

add_law : (v : ℕ → ℤ) (eqs : List Solution) (facts : List Fact) (goal : Form) (it : CertItem) (d e : List ℤ) → 0 < length d → AllSolvedWithin (length d) eqs → AllWithin (length d) facts → Within (length d) goal → MeetsSolved v eqs → MeetsAll v facts → pos 1 ≤ℤ value v goal → add_one eqs facts goal it d ≡ Some e → (row_value v e ≤ℤ row_value v d) × (length e ≡ length d)
add_law v eqs facts goal it d e some we w wg ms m g h =
    let c = lt_cases (int_lt it.times (pos 1)) (then_more (item_row eqs facts goal it (start_row it.fact (length d))) (λ r. add_rows it.times 0 r d)) e h in
    let k = more_is (item_row eqs facts goal it (start_row it.fact (length d))) (λ r. add_rows it.times 0 r d) e c.1 in
    let low = row_law v eqs facts goal it (length d) k.0 some we w wg ms m g k.1 in
    let long = low.1 in
    let q = rows_law (placed v) it.times 0 k.0 d e (omega arith) k.2 in
    let t = times_low it.times (row_value v k.0) (one_more it.times (int_lt it.times (pos 1)) refl c.0) low.0 in
    (omega (arith, ints, q.0), q.1)

items_law : (v : ℕ → ℤ) (eqs : List Solution) (facts : List Fact) (goal : Form) (its : List CertItem) (d e : List ℤ) → 0 < length d → AllSolvedWithin (length d) eqs → AllWithin (length d) facts → Within (length d) goal → MeetsSolved v eqs → MeetsAll v facts → pos 1 ≤ℤ value v goal → add_items eqs facts goal its d ≡ Some e → row_value v e ≤ℤ row_value v d
items_law v eqs facts goal [] d e some we w wg ms m g h = let s : d ≡ e = cc in rw s (omega (arith, ints))
items_law v eqs facts goal (it ∷ its) d e some we w wg ms m g h =
    let k = more_is (add_one eqs facts goal it d) (λ x. add_items eqs facts goal its x) e h in
    let q = add_law v eqs facts goal it d k.0 some we w wg ms m g k.1 in
    let r = items_law v eqs facts goal its k.0 e (rw q.1 some) (rw q.1 we) (rw q.1 w) (rw q.1 wg) ms m g k.2 in
    omega (arith, ints, q.0)

is_nought : (c : ℤ) → int_eq c (pos 0) ≡ true → c ≡ pos 0
is_nought c h = grind (arith, ints)

if_both : (a b : Bool) → cond a b false ≡ true → (a ≡ true) × (b ≡ true)
if_both true b h = (refl, h)
if_both false b h = absurd cc

if_not : (a b : Bool) → cond a false b ≡ true → (a ≡ false) × (b ≡ true)
if_not true b h = absurd cc
if_not false b h = (refl, h)

pub zero_value : (v : ℕ → ℤ) (i : ℕ) (cs : List ℤ) → all_zero cs ≡ true → places_value v i cs ≡ pos 0
zero_value v i [] h = refl
zero_value v i (c ∷ cs) h =
    let k = if_both (int_eq c (pos 0)) (all_zero cs) h in
    omega (arith, ints, zero_value v (i + 1) cs k.1, ap (λ z. z *ℤ v i) (is_nought c k.0), zero-*ℤ (v i))

above : (k : ℤ) → int_le k (pos 0) ≡ false → pos 1 ≤ℤ k
above k h = grind (arith, ints)

closed_value : (v : ℕ → ℤ) (d : List ℤ) → is_closed d ≡ true → pos 1 ≤ℤ row_value v d
closed_value v [] h = absurd cc
closed_value v (k ∷ cs) h =
    let p = if_not (int_le k (pos 0)) (all_zero cs) h in
    let q = above k p.0 in
    omega (arith, ints, one_times k, zero_value (placed v) 1 cs p.1)

closing_law : (v : ℕ → ℤ) (eqs : List Solution) (facts : List Fact) (goal : Form) (its : List CertItem) (n : ℕ) (o : Option (List ℤ)) → o ≡ add_items eqs facts goal its (replicate n (pos 0)) → 0 < n → AllSolvedWithin n eqs → AllWithin n facts → Within n goal → MeetsSolved v eqs → MeetsAll v facts → pos 1 ≤ℤ value v goal → closing o ≡ true → ⊥
closing_law v eqs facts goal its n None q some we w wg ms m g h = absurd cc
closing_law v eqs facts goal its n (Some e) q some we w wg ms m g h =
    let len = length-replicate n (pos 0) in
    let a = items_law v eqs facts goal its (replicate n (pos 0)) e (rw len some) (rw len we) (rw len w) (rw len wg) ms m g (sym q) in
    absurd (omega (arith, ints, closed_value v e h, zeros_value (placed v) 0 n))

pub certificate_law : (eqs : List Solution) (facts : List Fact) (goal : Form) (its : List CertItem) (atoms : ℕ) → Follow eqs facts → AllSolvedWithin (atoms + 1) eqs → AllWithin (atoms + 1) facts → Within (atoms + 1) goal → is_certificate eqs facts goal its atoms ≡ true → (v : ℕ → ℤ) → MeetsAll v facts → value v goal ≤ℤ pos 0
certificate_law eqs facts goal its atoms fo we w wg h v m =
    by_lt_z (pos 0) (value v goal) (λ lt. absurd (closing_law v eqs facts goal its (atoms + 1) (add_items eqs facts goal its (replicate (atoms + 1) (pos 0))) refl (omega arith) we w wg (fo v m) m (omega (arith, ints)) h)) (λ le. le)

pub law_of : (eqs : List Solution) (facts : List Fact) (goal : Form) (its : List CertItem) (atoms : ℕ) → Follow eqs facts → AllSolvedWithin (atoms + 1) eqs → AllWithin (atoms + 1) facts → Within (atoms + 1) goal → (r : Result Bool Memory) → IfOk r (λ b. b ≡ is_certificate eqs facts goal its atoms) → IfOk r (λ b. b ≡ true → (v : ℕ → ℤ) → MeetsAll v facts → value v goal ≤ℤ pos 0)
law_of eqs facts goal its atoms fo we w wg (Ok b) h = λ e. certificate_law eqs facts goal its atoms fo we w wg (sym h ∙ e)
law_of eqs facts goal its atoms fo we w wg (Err e) h = tt

-- the first solution from place i on that is of this fact stands at i
pub named_at : (f : ℕ) (eqs : List Solution) (i : ℕ) (s : Solution) → slice_get eqs i ≡ Some s → nat_eq s.fact f ≡ true → named f (drop i eqs) ≡ Some s
named_at f [] i s h q = absurd cc
named_at f (t ∷ ts) zero s h q = let e : t ≡ s = cc in rw (e, q) refl
named_at f (t ∷ ts) (suc i) s h q = named_at f ts i s h q
