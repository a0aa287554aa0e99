-- The groups that were found are a witness.
use Rattle.std.proofs.Common.{◌≡◌, ℕ, zero, suc, ◌<◌, ◌+◌, ℤ, pos, negsuc, neg_ℤ, ◌+ℤ◌, ◌*ℤ◌, int_eq, nat_eq, not, ◌&&◌, Bool, true, false, cond, List, [], ◌∷◌, ◌++◌, map, length, replicate, slice_get, get_or, unsigned_abs, ◌≤◌, ◌⊎◌, inl, inr, ◌^◌, Some, None, Result, Ok, Err, IfOk, refl, ap, sym, subst, ◌∙◌, arith, All}
use Rattle.std.proofs.lemmas.Int.{ints}
use Rattle.std.proofs.lemmas.Bool.{eqb-true}
use Rattle.std.proofs.lemmas.List.Elements.{All-cons, All-nil}
use Rattle.std.proofs.lemmas.Option.{slice_get-get_or}
use lib.IntN.{pred_ℤ-*ℤ, zero-*ℤ, *ℤ_comm}
use Rattle.pl_forms.specs.declared.form.Part.{Part}
use Rattle.pl_forms.specs.declared.form.Form.{Form}
use Rattle.pl_forms.specs.declared.form.TermError.{TermError}
use Rattle.pl_forms.specs.declared.fact.Shape.TheVariants.{Zero, Below, Differs}
use Rattle.pl_forms.specs.declared.fact.Fact.{Fact}
use Rattle.pl_forms.specs.declared.fact.EqTerm.{EqTerm}
use Rattle.pl_forms.specs.declared.goal.Group.{Group}
use Rattle.pl_forms.specs.declared.goal.Group.TheVariants as g
use Rattle.pl_forms.specs.declared.equation.Solution.{Solution}
use Rattle.pl_forms.specs.Forms.{IsForm}
use Rattle.pl_forms.specs.Facts.{IsFact}
use Rattle.pl_forms.specs.Equations.{AreSolutions, AreNamed, coeff_of, reduced}
use Rattle.pl_forms.specs.Terms.{terms, between}
use Rattle.pl_forms.specs.Rows.{at, form_times}
use Rattle.pl_forms.specs.Places.{Within, AllWithin, AllSolvedWithin}
use Rattle.pl_forms.specs.Goals.{Goal, Truth, Plain, Both, Either, When}
use Rattle.pl_forms.specs.Assuming.{one_form, less_one, assumed, KeepsWithin}
use Rattle.pl_forms.specs.Solving.{solved}
use Rattle.pl_forms.proofs.AssumingLaws.{one_within}
use Rattle.pl_forms.proofs.RowValues.{one_times}
use Rattle.pl_linear.specs.declared.bounds.Bound.{Bound}
use Rattle.pl_linear.specs.declared.found.Found.{Found}
use Rattle.pl_linear.specs.declared.found.Found.TheVariants.{Cert, Point}
use Rattle.pl_linear.specs.declared.found.Decided.{Decided}
use Rattle.pl_linear.specs.declared.found.Decided.TheVariants as d
use Rattle.pl_linear.specs.declared.differing.Match.{Match}
use Rattle.pl_linear.specs.Certificates.{is_counted, all_zero}
use Rattle.pl_linear.specs.Duty.{zero_form, opposite_form}
use Rattle.pl_linear.specs.FormRow.{multiples, row_of}
use Rattle.pl_linear.specs.Nodes.{same_parts}
use Rattle.pl_linear.specs.Findings.{IfCert}
use Rattle.pl_linear.specs.Bounds.{no_bound, bound_at, AreGiven, IsCycleOf}
use Rattle.pl_linear.specs.Decisions.{is_nought, is_apart, same_form, sign_of, differing, with_zero, joined}
use Rattle.pl_linear.specs.Witnesses.{is_strict, all_strict, row_with, is_none, is_other, row_beside, shows_below, shows_zero, is_known, apart_by, absurd_by, IsWitness, IfDone, IsOfBelow, IsOfEqual, IsOfApart}
use Rattle.pl_linear.proofs.FormRows.{plus_row, terms_row}
use Rattle.pl_linear.proofs.ItemRows.{zero_row, zero_is, plus_zero, no_multiples, negated_size}
use Rattle.pl_linear.proofs.Multiples.{length-multiples}
use Rattle.pl_linear.proofs.CycleItems.{cycle_of, row_place}
use Rattle.pl_linear.proofs.Settling.{cycle_within}
use Rattle.pl_linear.proofs.Numbers.{parts_are}
use Rattle.pl_linear.proofs.Matching.{IsKnown, match_fact, match_within}
use Rattle.pl_linear.proofs.BackRows.{coeff_minus}
use Rattle.pl_linear.proofs.CertificateLaws.{got}
use Rattle.pl_linear.proofs.Strictness.{terms_strict, between_strict, items_strict}
use Rattle.pl_linear.proofs.WitnessLaws.{opposite_within, less_within}
use Rattle.pl_linear.proofs.BesideRows.{place, mixed, Beside, between_row, form_adds, place_zero, place_more, zero_by}
use Rattle.pl_linear.proofs.Moved.{both_witness}

-- the items of a cycle have their multiples in the order of solving
cycle_strict : (eqs : List Solution) (facts : List Fact) (goal : Form) (bs : List Bound) (places : List ℕ) → AreGiven eqs facts goal bs → All (λ i. i < length bs) places → All (λ it. is_strict eqs it.eqs ≡ true) (map (λ i. (bound_at bs i).item) places)
cycle_strict eqs facts goal bs [] g w = All-nil (λ it. is_strict eqs it.eqs ≡ true)
cycle_strict eqs facts goal bs (i ∷ places) g w = All-cons (λ it. is_strict eqs it.eqs ≡ true) (bound_at bs i).item (map (λ i. (bound_at bs i).item) places) ((g i no_bound (w 0 i (omega arith))).strict) (cycle_strict eqs facts goal bs places g (λ k z lt. w (suc k) z (omega arith)))

-- a certificate that was found shows its duty
pub cert_witness : (eqs : List Solution) (facts : List Fact) (goal : Form) (bs : List Bound) (f : Found) (c : _) → f ≡ Cert c → AreGiven eqs facts goal bs → IfCert f (IsCycleOf bs) → IsOfBelow eqs facts goal (g.Cert c ∷ [])
cert_witness eqs facts goal bs (Cert b) c e given h =
    let same : b ≡ c = cc in
    subst (λ x. IsOfBelow eqs facts goal (g.Cert x ∷ [])) same (record {
      group = g.Cert b;
      alone = refl;
      shows = λ atoms we w wg.
          let strict : all_strict eqs b.items ≡ true = rw h.are (items_strict eqs (map (λ i. (bound_at bs i).item) h.places) (cycle_strict eqs facts goal bs h.places given (cycle_within bs h.places h.cycle))) in
          rw strict (cycle_of eqs facts goal bs atoms b.items given h we w wg);
    })
cert_witness eqs facts goal bs (Point p) c e given h = absurd cc

-- the row of a reduced form
reduced_row : (n : ℕ) (eqs : List Solution) (t h : Form) → AreNamed eqs → AreSolutions eqs → AllSolvedWithin (n + 1) eqs → IsForm t → Within (n + 1) t → reduced eqs t ≡ Ok h → row_with eqs n t (terms eqs t) ≡ Some (row_of n h)
reduced_row n eqs t h m a x p w q =
    let base : form_times (pos 1) t (row_of n zero_form) ≡ Some (row_of n t) = plus_row n zero_form t t (pos 1) zero_is p w (λ q. absurd cc) (omega arith) (plus_zero t p) in
    rw (zero_row n, base) (terms_row n eqs eqs t h m a x p w q)

and_parts : (a b : Bool) → a && b ≡ true → (a ≡ true) × (b ≡ true)
and_parts true b h = (refl, h)
and_parts false b h = absurd cc

no_parts : (ps : List Part) → nat_eq (length ps) 0 ≡ true → ps ≡ []
no_parts [] h = refl
no_parts (p ∷ ps) h = let none : suc (length ps) ≡ 0 = eqb-true (suc (length ps)) 0 h in absurd (omega arith)

zeros : (n : ℕ) → all_zero (replicate n (pos 0)) ≡ true
zeros zero = refl
zeros (suc n) = zeros n

no_multiple : (n : ℕ) (ps : List Part) → nat_eq (length ps) 0 ≡ true → all_zero (multiples n 0 ps) ≡ true
no_multiple n ps h = rw (no_parts ps h, no_multiples n 0) (zeros n)

nought_row : (n : ℕ) (f : Form) → is_nought f ≡ true → all_zero (row_of n f) ≡ true
nought_row n f h =
    let p = and_parts (nat_eq (length f.parts) 0) (int_eq f.constant (pos 0)) h in
    rw p.1 (no_multiple n f.parts p.0)

not_of : (b : Bool) → not b ≡ true → b ≡ false
not_of true h = absurd cc
not_of false h = refl

apart_row : (n : ℕ) (f : Form) → is_apart f ≡ true → is_other (row_of n f) ≡ true
apart_row n f h =
    let p = and_parts (nat_eq (length f.parts) 0) (not (int_eq f.constant (pos 0))) h in
    rw (not_of (int_eq f.constant (pos 0)) p.1) (no_multiple n f.parts p.0)

-- a form that reduces to 0
pub eqs_witness : (eqs : List Solution) (facts : List Fact) (t h : Form) (ts : List EqTerm) → AreNamed eqs → AreSolutions eqs → IsForm t → reduced eqs t ≡ Ok h → ts ≡ terms eqs t → is_nought h ≡ true → IsOfEqual eqs facts t (g.Eqs ts ∷ [])
eqs_witness eqs facts t h ts m a p q e none = record {
  is = λ atoms we w wt.
      let strict : is_strict eqs ts ≡ true = rw e (terms_strict eqs t) in
      let row : row_with eqs atoms t ts ≡ Some (row_of atoms h) = rw e (reduced_row atoms eqs t h m a we p wt q) in
      let zero : is_none (row_with eqs atoms t ts) ≡ true = rw row (nought_row atoms h none) in
      rw (strict, zero) refl;
}

-- .. or to another constant
pub constant_witness : (eqs : List Solution) (facts : List Fact) (t h : Form) (ts : List EqTerm) → AreNamed eqs → AreSolutions eqs → IsForm t → reduced eqs t ≡ Ok h → ts ≡ terms eqs t → is_apart h ≡ true → IsOfApart eqs facts t (g.Constant ts ∷ [])
constant_witness eqs facts t h ts m a p q e other = record {
  is = λ atoms we w wt.
      let strict : is_strict eqs ts ≡ true = rw e (terms_strict eqs t) in
      let row : row_with eqs atoms t ts ≡ Some (row_of atoms h) = rw e (reduced_row atoms eqs t h m a we p wt q) in
      rw (strict, row, apart_row atoms h other) refl;
}

if_both : (a b : Bool) → cond a b false ≡ true → (a ≡ true) × (b ≡ true)
if_both true b h = (refl, h)
if_both false b h = absurd cc

int_is : (c d : ℤ) → int_eq c d ≡ true → c ≡ d
int_is c d h = grind (arith, ints)

place_same : (f h : Form) → same_form f h ≡ true → (i : ℕ) → place f i ≡ place h i
place_same f h q zero = int_is f.constant h.constant (if_both (int_eq f.constant h.constant) (same_parts f.parts h.parts) q).0
place_same f h q (suc a) = ap (coeff_of a) (parts_are f.parts h.parts (if_both (int_eq f.constant h.constant) (same_parts f.parts h.parts) q).1)

place_opposite : (h : Form) (i : ℕ) → place (opposite_form h) i ≡ neg_ℤ (place h i)
place_opposite h zero = refl
place_opposite h (suc a) = coeff_minus a h.parts

sign_true : (a b : Bool) → cond a (Some true) (cond b (Some false) None) ≡ Some true → a ≡ true
sign_true true b h = refl
sign_true false true h = absurd cc
sign_true false false h = absurd cc

sign_false : (a b : Bool) → cond a (Some true) (cond b (Some false) None) ≡ Some false → b ≡ true
sign_false true b h = absurd cc
sign_false false true h = refl
sign_false false false h = absurd cc

-- so often a number is added to itself, or to its opposite
abbrev turned : Bool → ℤ
turned true = negsuc 0
turned false = pos 1

-- a number is another, or its opposite
abbrev sign_place : Bool → ℤ → ℤ → Type 0
sign_place true x y = x ≡ y
sign_place false x y = x ≡ neg_ℤ y

mixed_same : (same : Bool) (x y z : ℤ) → sign_place same x y → (mixed same x y z +ℤ (turned same *ℤ z) ≡ pos 0) × ((mixed same x y z ≡ z) ⊎ (mixed same x y z ≡ neg_ℤ z))
mixed_same true x y z h = (omega (arith, ints, h, pred_ℤ-*ℤ (pos 0) z, zero-*ℤ z), inl (omega (arith, ints, h)))
mixed_same false x y z h = (omega (arith, ints, h, *ℤ_comm (pos 1) z, one_times z), inr (omega (arith, ints, h)))

sign_places : (same : Bool) (f h : Form) → sign_of f h ≡ Some same → (i : ℕ) → sign_place same (place f i) (place h i)
sign_places true f h q i = place_same f h (sign_true (same_form f h) (same_form f (opposite_form h)) q) i
sign_places false f h q i = place_same f (opposite_form h) (sign_false (same_form f h) (same_form f (opposite_form h)) q) i ∙ place_opposite h i

either_size : (x z : ℤ) (n : ℕ) → ((x ≡ z) ⊎ (x ≡ neg_ℤ z)) → unsigned_abs z ≤ n → unsigned_abs x ≤ n
either_size x z n (inl e) h = rw e h
either_size x z n (inr e) h = rw e (negated_size z n h)

turned_size : (same : Bool) → unsigned_abs (turned same) ≤ 1
turned_size true = omega arith
turned_size false = omega arith

row_start : (n : ℕ) (same : Bool) (t f : Form) → Within (n + 1) t → Beside n same t f f (row_of n t)
row_start n same t f w = record {
  long = omega (arith, length-multiples n 0 t.parts);
  places = λ i. at_row i ∙ sym (mixed_none same (place t i) (place f i));
}
  where
    at_row : (i : ℕ) → at (row_of n t) i ≡ place t i
    at_row zero = refl
    at_row (suc a) = row_place n a t w

    mixed_none : (same : Bool) (x y : ℤ) → mixed same x y y ≡ x
    mixed_none true x y = omega (arith, ints)
    mixed_none false x y = omega (arith, ints)

-- the multiples lead to the row of a disequality, up to sign
beside_row : (n : ℕ) (eqs : List Solution) (same : Bool) (t f h k : Form) (ts : List EqTerm) → AreNamed eqs → AreSolutions eqs → AllSolvedWithin (n + 1) eqs → IsForm t → Within (n + 1) t → IsForm f → Within (n + 1) f → reduced eqs t ≡ Ok h → reduced eqs f ≡ Ok k → sign_of h k ≡ Some same → ts ≡ between eqs same t f → is_none (row_beside eqs n t ts (turned same) f) ≡ true
beside_row n eqs same t f h k ts m a x p w pf wf q r sign e =
    let base : form_times (pos 1) t (row_of n zero_form) ≡ Some (row_of n t) = plus_row n zero_form t t (pos 1) zero_is p w (λ q. absurd cc) (omega arith) (plus_zero t p) in
    let b = between_row n eqs eqs same t f f h k (row_of n t) m a x p pf pf (row_start n same t f w) q r in
    let row : row_with eqs n t ts ≡ Some b.0 = rw (e, zero_row n, base) b.1 in
    let mix : (i : ℕ) → (at b.0 i +ℤ (turned same *ℤ place f i) ≡ pos 0) × ((at b.0 i ≡ place f i) ⊎ (at b.0 i ≡ neg_ℤ (place f i))) = λ i. rw (b.2.places i) (mixed_same same (place h i) (place k i) (place f i) (sign_places same h k sign i)) in
    let long = b.2.long in
    let s = form_adds (turned same) f b.0 1 (2 ^ 40) (2 ^ 80) (turned_size same) (omega arith) (omega arith) pf (omega (arith, long)) (rw long wf) (either_size (at b.0 0) (place f 0) (2 ^ 80) (mix 0).1 (place_zero f pf)) (λ c. either_size (at b.0 (suc c)) (place f (suc c)) (2 ^ 40) (mix (suc c)).1 (place_more f c pf)) in
    rw (row, s.1.made_of) (zero_by s.0 (λ i. s.1.places i ∙ (mix i).0))

either_true : (a b : Bool) → b ≡ true → cond a true b ≡ true
either_true true b h = refl
either_true false b h = h

first_true : (a b : Bool) → a ≡ true → cond a true b ≡ true
first_true true b h = refl
first_true false b h = absurd cc

known_by : (n : ℕ) (eqs : List Solution) (same : Bool) (t : Form) (f : Fact) (h : Form) (ts : List EqTerm) → AreNamed eqs → AreSolutions eqs → AllSolvedWithin (n + 1) eqs → IsForm t → Within (n + 1) t → IsForm f.form → Within (n + 1) f.form → reduced eqs t ≡ Ok h → IsKnown eqs h f same → ts ≡ between eqs same t f.form → is_known eqs n t ts f.shape f ≡ true
known_by n eqs true t f h ts m a x p w pf wf q k e =
    let counts : is_counted eqs f ≡ true = rw k.counts refl in
    rw (k.shape, counts) (first_true (is_none (row_beside eqs n t ts (negsuc 0) f.form)) (is_none (row_beside eqs n t ts (pos 1) f.form)) (beside_row n eqs true t f.form h k.form ts m a x p w pf wf q k.leads k.sign e))
known_by n eqs false t f h ts m a x p w pf wf q k e =
    let counts : is_counted eqs f ≡ true = rw k.counts refl in
    rw (k.shape, counts) (either_true (is_none (row_beside eqs n t ts (negsuc 0) f.form)) (is_none (row_beside eqs n t ts (pos 1) f.form)) (beside_row n eqs false t f.form h k.form ts m a x p w pf wf q k.leads k.sign e))

-- a disequality that was found
pub differs_witness : (eqs : List Solution) (facts : List Fact) (t h : Form) (m : Match) (f : Fact) (ts : List EqTerm) → AreNamed eqs → AreSolutions eqs → IsForm t → All IsFact facts → reduced eqs t ≡ Ok h → differing eqs h 0 facts ≡ Ok (Some m) → f ≡ get_or facts m.place f → ts ≡ between eqs m.same t f.form → IsOfApart eqs facts t (g.Differs m.place ts ∷ [])
differs_witness eqs facts t h m f ts n a p pf q found is e = record {
  is = λ atoms we w wt.
      let known = match_fact eqs h facts m f found is in
      let there : slice_get facts m.place ≡ Some f = slice_get-get_or facts m.place f (match_within eqs h facts m found) ∙ ap Some (sym is) in
      let strict : is_strict eqs ts ≡ true = rw e (between_strict eqs m.same t f.form) in
      let shows = known_by atoms eqs m.same t f h ts n a we p wt (got facts m.place f IsFact pf there).form (got facts m.place f (λ x. Within (atoms + 1) x.form) w there) q known e in
      rw (strict, there, shows) refl;
}

-- what shows `t <= 0` doesn't show `t == 0` by the equations alone
no_zero : (eqs : List Solution) (facts : List Fact) (atoms : ℕ) (t s : Form) (x : Group) → shows_below eqs facts atoms t x ≡ true → shows_zero eqs atoms s x ≡ false
no_zero eqs facts atoms t s (g.Cert c) h = refl
no_zero eqs facts atoms t s (g.Place n) h = refl
no_zero eqs facts atoms t s (g.Eqs ts) h = absurd cc
no_zero eqs facts atoms t s (g.Constant ts) h = refl
no_zero eqs facts atoms t s (g.Differs i ts) h = refl
no_zero eqs facts atoms t s (g.Part p o) h = refl
no_zero eqs facts atoms t s (g.Arm b) h = refl
no_zero eqs facts atoms t s g.Stay h = refl

two_witness : (eqs : List Solution) (facts : List Fact) (t : Form) (x y : Group) → ((atoms : ℕ) → AllSolvedWithin (atoms + 1) eqs → AllWithin (atoms + 1) facts → Within (atoms + 1) t → shows_below eqs facts atoms t x ≡ true) → ((atoms : ℕ) → AllSolvedWithin (atoms + 1) eqs → AllWithin (atoms + 1) facts → Within (atoms + 1) (opposite_form t) → shows_below eqs facts atoms (opposite_form t) y ≡ true) → IsOfEqual eqs facts t (x ∷ y ∷ [])
two_witness eqs facts t x y h k = record {
  is = λ atoms we w wt.
      let one = h atoms we w wt in
      let other = k atoms we w (opposite_within (atoms + 1) t (opposite_form t) wt refl) in
      rw (no_zero eqs facts atoms t t x one, one, other) refl;
}

-- two certificates
both_below : (eqs : List Solution) (facts : List Fact) (t : Form) (gs hs : List Group) → IsOfBelow eqs facts t gs → IsOfBelow eqs facts (opposite_form t) hs → IsOfEqual eqs facts t (gs ++ hs)
both_below eqs facts t gs hs h k =
    rw (h.alone, k.alone) (two_witness eqs facts t h.group k.group h.shows k.shows)

pub joined_below : (eqs : List Solution) (facts : List Fact) (t : Form) (gs : List Group) (rest : Decided) → IsOfBelow eqs facts t gs → IfDone rest (IsOfBelow eqs facts (opposite_form t)) → IfDone (joined gs rest) (IsOfEqual eqs facts t)
joined_below eqs facts t gs (d.Done hs) h k = both_below eqs facts t gs hs h k
joined_below eqs facts t gs (d.Undone p) h k = tt

pub joined_witness : (facts : List Fact) (a b : Goal) (gs : List Group) (rest : Decided) → IsWitness facts a gs → IfDone rest (IsWitness facts b) → IfDone (joined gs rest) (IsWitness facts (Both a b))
joined_witness facts a b gs (d.Done hs) h k = record { is = λ atoms w wg. both_witness facts atoms a b gs hs (h.is atoms w wg.0) (k.is atoms w wg.1) }
joined_witness facts a b gs (d.Undone p) h k = tt

-- only a certificate shows `1 <= 0`
cert_apart : (eqs qs : List Solution) (facts longer : List Fact) (atoms : ℕ) (t s : Form) (x : Group) → shows_below qs longer atoms s x ≡ true → apart_by eqs facts atoms t x 0 ≡ absurd_by (solved (with_zero facts t)) (with_zero facts t) atoms x 0
cert_apart eqs qs facts longer atoms t s (g.Cert c) h = refl
cert_apart eqs qs facts longer atoms t s (g.Place n) h = absurd cc
cert_apart eqs qs facts longer atoms t s (g.Eqs ts) h = absurd cc
cert_apart eqs qs facts longer atoms t s (g.Constant ts) h = absurd cc
cert_apart eqs qs facts longer atoms t s (g.Differs i ts) h = absurd cc
cert_apart eqs qs facts longer atoms t s (g.Part p o) h = absurd cc
cert_apart eqs qs facts longer atoms t s (g.Arm b) h = absurd cc
cert_apart eqs qs facts longer atoms t s g.Stay h = absurd cc

absurd_one : (eqs qs : List Solution) (facts longer : List Fact) (t : Form) (x : Group) → longer ≡ with_zero facts t → ((n : ℕ) → AllWithin n facts → Within n t → AllWithin n longer) → solved longer ≡ Ok qs → ((n : ℕ) → AllWithin n longer → AllSolvedWithin n qs) → ((atoms : ℕ) → AllSolvedWithin (atoms + 1) qs → AllWithin (atoms + 1) longer → Within (atoms + 1) one_form → shows_below qs longer atoms one_form x ≡ true) → IsOfApart eqs facts t (x ∷ [])
absurd_one eqs qs facts longer t x l wl s ws h = record {
  is = λ atoms we w wt.
      let inside = wl (atoms + 1) w wt in
      let shows = h atoms (ws (atoms + 1) inside) inside (one_within (atoms + 1)) in
      let by : absurd_by (solved longer) longer atoms x 0 ≡ Ok (Some 1) = rw (s, shows) refl in
      cert_apart eqs qs facts longer atoms t one_form x shows ∙ rw l at by;
}

absurd_groups : (qs : List Solution) (facts longer : List Fact) (t : Form) (gs : List Group) → longer ≡ with_zero facts t → ((n : ℕ) → AllWithin n facts → Within n t → AllWithin n longer) → solved longer ≡ Ok qs → ((n : ℕ) → AllWithin n longer → AllSolvedWithin n qs) → IsOfBelow qs longer one_form gs → (eqs : List Solution) → IsOfApart eqs facts t gs
absurd_groups qs facts longer t gs l wl s ws h eqs = rw h.alone (absurd_one eqs qs facts longer t h.group l wl s ws h.shows)

-- `1 <= 0` where `t == 0` is known too
pub absurd_witness : (qs : List Solution) (facts longer : List Fact) (t : Form) (r : Result Decided TermError) → longer ≡ with_zero facts t → ((n : ℕ) → AllWithin n facts → Within n t → AllWithin n longer) → solved longer ≡ Ok qs → ((n : ℕ) → AllWithin n longer → AllSolvedWithin n qs) → IfOk r (λ x. IfDone x (IsOfBelow qs longer one_form)) → IfOk r (λ x. IfDone x (λ gs. (eqs : List Solution) → IsOfApart eqs facts t gs))
absurd_witness qs facts longer t (Err e) l wl s ws h = tt
absurd_witness qs facts longer t (Ok (d.Undone p)) l wl s ws h = tt
absurd_witness qs facts longer t (Ok (d.Done gs)) l wl s ws h = absurd_groups qs facts longer t gs l wl s ws h

pub absurd_any : (eqs : List Solution) (facts : List Fact) (t : Form) (r : Result Decided TermError) → IfOk r (λ x. IfDone x (λ gs. (eqs : List Solution) → IsOfApart eqs facts t gs)) → IfOk r (λ x. IfDone x (IsOfApart eqs facts t))
absurd_any eqs facts t (Err e) h = tt
absurd_any eqs facts t (Ok (d.Undone p)) h = tt
absurd_any eqs facts t (Ok (d.Done gs)) h = h eqs

-- a comparison, by the facts' own equations
pub zero_plain : (eqs : List Solution) (facts : List Fact) (t : Form) (r : Result Decided TermError) → solved facts ≡ Ok eqs → ((n : ℕ) → AllWithin n facts → AllSolvedWithin n eqs) → IfOk r (λ x. IfDone x (IsOfEqual eqs facts t)) → IfOk r (λ x. IfDone x (IsWitness facts (Plain Zero t)))
zero_plain eqs facts t (Err e) s ws h = tt
zero_plain eqs facts t (Ok (d.Undone p)) s ws h = tt
zero_plain eqs facts t (Ok (d.Done gs)) s ws h = record { is = λ atoms w wt. rw (s, h.is atoms (ws (atoms + 1) w) w wt) refl }

pub apart_plain : (eqs : List Solution) (facts : List Fact) (t : Form) (r : Result Decided TermError) → solved facts ≡ Ok eqs → ((n : ℕ) → AllWithin n facts → AllSolvedWithin n eqs) → IfOk r (λ x. IfDone x (IsOfApart eqs facts t)) → IfOk r (λ x. IfDone x (IsWitness facts (Plain Differs t)))
apart_plain eqs facts t (Err e) s ws h = tt
apart_plain eqs facts t (Ok (d.Undone p)) s ws h = tt
apart_plain eqs facts t (Ok (d.Done gs)) s ws h = record { is = λ atoms w wt. rw s (h.is atoms (ws (atoms + 1) w) w wt) }

below_one : (eqs : List Solution) (facts : List Fact) (t : Form) (x : Group) → solved facts ≡ Ok eqs → ((n : ℕ) → AllWithin n facts → AllSolvedWithin n eqs) → ((atoms : ℕ) → AllSolvedWithin (atoms + 1) eqs → AllWithin (atoms + 1) facts → Within (atoms + 1) t → shows_below eqs facts atoms t x ≡ true) → IsWitness facts (Plain Below t) (x ∷ [])
below_one eqs facts t x s ws h = record { is = λ atoms w wt. rw (s, h atoms (ws (atoms + 1) w) w wt) refl }

below_groups : (eqs : List Solution) (facts : List Fact) (t : Form) (gs : List Group) → solved facts ≡ Ok eqs → ((n : ℕ) → AllWithin n facts → AllSolvedWithin n eqs) → IsOfBelow eqs facts t gs → IsWitness facts (Plain Below t) gs
below_groups eqs facts t gs s ws h = rw h.alone (below_one eqs facts t h.group s ws h.shows)

pub below_plain : (eqs : List Solution) (facts : List Fact) (t : Form) (r : Result Decided TermError) → solved facts ≡ Ok eqs → ((n : ℕ) → AllWithin n facts → AllSolvedWithin n eqs) → IfOk r (λ x. IfDone x (IsOfBelow eqs facts t)) → IfOk r (λ x. IfDone x (IsWitness facts (Plain Below t)))
below_plain eqs facts t (Err e) s ws h = tt
below_plain eqs facts t (Ok (d.Undone p)) s ws h = tt
below_plain eqs facts t (Ok (d.Done gs)) s ws h = below_groups eqs facts t gs s ws h

-- a boolean is 1, or 0
pub false_witness : (facts : List Fact) (b : Form) (r : Result Decided TermError) → IfOk r (λ x. IfDone x (IsWitness facts (Plain Zero b))) → IfOk r (λ x. IfDone x (IsWitness facts (Truth b false)))
false_witness facts b (Err e) h = tt
false_witness facts b (Ok (d.Undone p)) h = tt
false_witness facts b (Ok (d.Done gs)) h = record { is = λ atoms w wb. h.is atoms w wb }

pub true_witness : (facts : List Fact) (b less : Form) (r : Result Decided TermError) → less_one b ≡ Ok less → IfOk r (λ x. IfDone x (IsWitness facts (Plain Zero less))) → IfOk r (λ x. IfDone x (IsWitness facts (Truth b true)))
true_witness facts b less (Err e) q h = tt
true_witness facts b less (Ok (d.Undone p)) q h = tt
true_witness facts b less (Ok (d.Done gs)) q h = record { is = λ atoms w wb. rw q (h.is atoms w (less_within (atoms + 1) b less wb q)) }

-- one of two, and a guarded duty
pub either_witness : (facts longer : List Fact) (a b : Goal) (r : Result Decided TermError) → assumed facts None None a false ≡ Ok longer → KeepsWithin facts longer a → IfOk r (λ x. IfDone x (IsWitness longer b)) → IfOk r (λ x. IfDone x (IsWitness facts (Either a b)))
either_witness facts longer a b (Err e) q k h = tt
either_witness facts longer a b (Ok (d.Undone p)) q k h = tt
either_witness facts longer a b (Ok (d.Done gs)) q k h = record { is = λ atoms w wg. rw q (h.is atoms (k.kept (atoms + 1) w wg.0) wg.1) }

pub when_witness : (facts longer : List Fact) (c : Form) (e : Goal) (r : Result Decided TermError) → assumed facts None None (Truth c true) true ≡ Ok longer → KeepsWithin facts longer (Truth c true) → IfOk r (λ x. IfDone x (IsWitness longer e)) → IfOk r (λ x. IfDone x (IsWitness facts (When c e)))
when_witness facts longer c e (Err x) q k h = tt
when_witness facts longer c e (Ok (d.Undone p)) q k h = tt
when_witness facts longer c e (Ok (d.Done gs)) q k h = record { is = λ atoms w wg. rw q (h.is atoms (k.kept (atoms + 1) w wg.0) wg.1) }

pub done_is : (P : List Group → Type 0) (x : Decided) (gs : List Group) → x ≡ d.Done gs → IfDone x P → P gs
done_is P x gs e h = subst (λ y. IfDone y P) e h
