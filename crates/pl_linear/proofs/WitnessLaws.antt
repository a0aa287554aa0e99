-- What a witness shows.
use Rattle.std.proofs.Common.{◌≡◌, ◌≢◌, ℕ, zero, suc, ◌<◌, ◌≤◌, ◌+◌, ◌^◌, ℤ, pos, negsuc, ◌+ℤ◌, ◌*ℤ◌, ◌≤ℤ◌, int_eq, nat_eq, Bool, true, false, cond, List, [], ◌∷◌, map, drop, length, replicate, slice_get, Option, Some, None, Result, Ok, Err, IfOk, IfSome, refl, ap, sym, subst, ◌∙◌, arith, All}
use Rattle.std.proofs.lemmas.Int.{ints}
use Rattle.std.proofs.lemmas.Bool.Decides.{nat_tests}
use Rattle.std.proofs.lemmas.List.{length-replicate}
use Rattle.std.proofs.lemmas.List.Elements.{All-map}
use lib.IntN.{*ℤ_comm, pred_ℤ-*ℤ, zero-*ℤ}
use Rattle.pl_forms.specs.declared.form.Part.{Part}
use Rattle.pl_forms.specs.declared.form.Form.{Form}
use Rattle.pl_forms.specs.declared.form.TermError.{TermError}
use Rattle.pl_forms.specs.declared.fact.Shape.{Shape}
use Rattle.pl_forms.specs.declared.fact.Shape.TheVariants.{Zero, Below, Differs}
use Rattle.pl_forms.specs.declared.fact.Fact.{Fact}
use Rattle.pl_forms.specs.declared.fact.EqTerm.{EqTerm}
use Rattle.pl_forms.specs.declared.goal.Group.{Group}
use Rattle.pl_forms.specs.declared.goal.Group.TheVariants as g
use Rattle.pl_forms.specs.declared.equation.Solution.{Solution}
use Rattle.pl_forms.specs.declared.equation.Eqs.{Eqs}
use Rattle.pl_forms.specs.Forms.{value, parts_value}
use Rattle.pl_forms.specs.Facts.{MeetsShape, MeetsAll, Meets}
use Rattle.pl_forms.specs.Equations.{Follow, counted}
use Rattle.pl_forms.specs.Solving.{solved}
use Rattle.pl_forms.specs.Places.{Within, AllWithin, AllSolvedWithin}
use Rattle.pl_forms.specs.Rows.{form_times, row_value, placed}
use Rattle.pl_forms.specs.Steps.{plus}
use Rattle.pl_forms.specs.Goals.{Goal, Truth, Plain, Both, Either, When, Says, GoalWithin}
use Rattle.pl_forms.specs.Assuming.{one_form, less_one, assumed}
use Rattle.pl_forms.proofs.RowValues.{more_is, form_law, zeros_value, one_times}
use Rattle.pl_forms.proofs.Reducing.{counted_meets}
use Rattle.pl_forms.proofs.PlaceLaws.{plus_within}
use Rattle.pl_forms.proofs.SolvingLaws.{solved_follow, solved_within}
use Rattle.pl_forms.proofs.AssumingLaws.{assumed_met, assumes_within, less_value, one_within}
use Rattle.pl_linear.specs.Ends.{minus}
use Rattle.pl_linear.specs.Duty.{opposite_form}
use Rattle.pl_linear.specs.Certificates.{is_counted, add_eqs, all_zero, is_certificate}
use Rattle.pl_linear.specs.Decisions.{with_zero}
use Rattle.pl_linear.specs.Witnesses.{is_strict, all_strict, row_with, is_none, is_other, is_some_constant, row_beside, shows_below, shows_zero, is_known, known_at, shows_apart, behind, below_at, then_at, or_at, both_at, equal_at, absurd_by, apart_by, apart_at, shape_at, solved_at, plain_at, form_at, then_witness, where_known, witness, Confirms}
use Rattle.pl_linear.proofs.Splitting.{neg_mul}
use Rattle.pl_linear.proofs.CertificateLaws.{certificate_law, got, yes_is, eqs_law, zero_value}

if_both : (a b : Bool) → cond a b false ≡ true → (a ≡ true) × (b ≡ true)
if_both true b h = (refl, h)
if_both false b h = absurd cc

minus_parts : (v : ℕ → ℤ) (ps : List Part) → parts_value v (map minus ps) +ℤ parts_value v ps ≡ pos 0
minus_parts v [] = refl
minus_parts v (p ∷ ps) = omega (arith, ints, minus_parts v ps, neg_mul p.coeff (v p.atom))

opposite_value : (v : ℕ → ℤ) (f : Form) → value v (opposite_form f) +ℤ value v f ≡ pos 0
opposite_value v f = omega (arith, ints, minus_parts v f.parts)

-- what is known of the facts and their equations
record Stage (v : ℕ → ℤ) (eqs : List Solution) (facts : List Fact) (atoms : ℕ) : Type 0 where
  follow : Follow eqs facts
  solved_in : AllSolvedWithin (atoms + 1) eqs
  facts_in : AllWithin (atoms + 1) facts
  met : MeetsAll v facts

below_law : (v : ℕ → ℤ) (eqs : List Solution) (facts : List Fact) (atoms : ℕ) (t : Form) (x : Group) → Stage v eqs facts atoms → Within (atoms + 1) t → shows_below eqs facts atoms t x ≡ true → value v t ≤ℤ pos 0
below_law v eqs facts atoms t (g.Cert c) s w h = certificate_law eqs facts t c.items atoms s.follow s.solved_in s.facts_in w (if_both (all_strict eqs c.items) (is_certificate eqs facts t c.items atoms) h).1 v s.met
below_law v eqs facts atoms t (g.Place n) s w h = absurd cc
below_law v eqs facts atoms t (g.Eqs ts) s w h = absurd cc
below_law v eqs facts atoms t (g.Constant ts) s w h = absurd cc
below_law v eqs facts atoms t (g.Differs i ts) s w h = absurd cc
below_law v eqs facts atoms t (g.Part p o) s w h = absurd cc
below_law v eqs facts atoms t (g.Arm b) s w h = absurd cc
below_law v eqs facts atoms t g.Stay s w h = absurd cc

one_time : (z : ℤ) → pos 1 *ℤ z ≡ z
one_time z = *ℤ_comm (pos 1) z ∙ one_times z

minus_time : (z : ℤ) → (negsuc 0 *ℤ z) +ℤ z ≡ pos 0
minus_time z = omega (arith, ints, pred_ℤ-*ℤ (pos 0) z, zero-*ℤ z)

with_law : (v : ℕ → ℤ) (eqs : List Solution) (facts : List Fact) (atoms : ℕ) (t : Form) (ts : List EqTerm) (d : List ℤ) → Stage v eqs facts atoms → Within (atoms + 1) t → row_with eqs atoms t ts ≡ Some d → (row_value v d ≡ value v t) × (length d ≡ atoms + 1)
with_law v eqs facts atoms t ts d s w h =
    let zeros = replicate (atoms + 1) (pos 0) in
    let long : length (replicate (atoms + 1) (pos 0)) ≡ atoms + 1 = length-replicate (atoms + 1) (pos 0) in
    let some : 0 < length (replicate (atoms + 1) (pos 0)) = omega (arith, long) in
    let m = more_is (form_times (pos 1) t (replicate (atoms + 1) (pos 0))) (λ e. add_eqs eqs ts e) d h in
    let f = form_law v (pos 1) t (replicate (atoms + 1) (pos 0)) m.0 some (rw long w) m.1 in
    let there : length m.0 ≡ atoms + 1 = f.1 ∙ long in
    let e = eqs_law v eqs ts m.0 d (omega (arith, there)) (rw there s.solved_in) (s.follow v s.met) m.2 in
    (omega (arith, ints, e.0, f.0, zeros_value (placed v) 0 (atoms + 1), one_time (value v t)), e.1 ∙ there)

none_is : (o : Option (List ℤ)) → is_none o ≡ true → (d : List ℤ) × (o ≡ Some d) × (all_zero d ≡ true)
none_is None h = absurd cc
none_is (Some d) h = (d, refl, h)

zero_law : (v : ℕ → ℤ) (eqs : List Solution) (facts : List Fact) (atoms : ℕ) (t : Form) (x : Group) → Stage v eqs facts atoms → Within (atoms + 1) t → shows_zero eqs atoms t x ≡ true → value v t ≡ pos 0
zero_law v eqs facts atoms t (g.Eqs ts) s w h =
    let n = none_is (row_with eqs atoms t ts) (if_both (is_strict eqs ts) (is_none (row_with eqs atoms t ts)) h).1 in
    sym (with_law v eqs facts atoms t ts n.0 s w n.1).0 ∙ zero_value (placed v) 0 n.0 n.2
zero_law v eqs facts atoms t (g.Cert c) s w h = absurd cc
zero_law v eqs facts atoms t (g.Place n) s w h = absurd cc
zero_law v eqs facts atoms t (g.Constant ts) s w h = absurd cc
zero_law v eqs facts atoms t (g.Differs i ts) s w h = absurd cc
zero_law v eqs facts atoms t (g.Part p o) s w h = absurd cc
zero_law v eqs facts atoms t (g.Arm b) s w h = absurd cc
zero_law v eqs facts atoms t g.Stay s w h = absurd cc

not_nought : (k : ℤ) → int_eq k (pos 0) ≡ false → k ≢ pos 0
not_nought k h = grind (arith, ints)

if_not : (a b : Bool) → cond a false b ≡ true → (a ≡ false) × (b ≡ true)
if_not true b h = absurd cc
if_not false b h = (refl, h)

other_value : (v : ℕ → ℤ) (d : List ℤ) → is_other d ≡ true → row_value v d ≢ pos 0
other_value v [] h = absurd cc
other_value v (k ∷ cs) h =
    let p = if_not (int_eq k (pos 0)) (all_zero cs) h in
    λ e. not_nought k p.0 (omega (arith, ints, e, one_times k, zero_value (placed v) 1 cs p.1))

constant_is : (o : Option (List ℤ)) → is_some_constant o ≡ true → (d : List ℤ) × (o ≡ Some d) × (is_other d ≡ true)
constant_is None h = absurd cc
constant_is (Some d) h = (d, refl, h)

beside_law : (v : ℕ → ℤ) (eqs : List Solution) (facts : List Fact) (atoms : ℕ) (t : Form) (ts : List EqTerm) (k : ℤ) (f : Form) → Stage v eqs facts atoms → Within (atoms + 1) t → Within (atoms + 1) f → is_none (row_beside eqs atoms t ts k f) ≡ true → value v t +ℤ (k *ℤ value v f) ≡ pos 0
beside_law v eqs facts atoms t ts k f s w wf h =
    let n = none_is (row_beside eqs atoms t ts k f) h in
    let m = more_is (row_with eqs atoms t ts) (λ d. form_times k f d) n.0 n.1 in
    let l = with_law v eqs facts atoms t ts m.0 s w m.1 in
    let long = l.1 in
    let r = form_law v k f m.0 n.0 (omega (arith, long)) (rw long wf) m.2 in
    omega (arith, ints, r.0, l.0, zero_value (placed v) 0 n.0 n.2)

or_true : (a b : Bool) → cond a true b ≡ true → (a ≡ false → b ≡ true)
or_true true b h = λ e. absurd cc
or_true false b h = λ e. h

known_law : (v : ℕ → ℤ) (eqs : List Solution) (facts : List Fact) (atoms : ℕ) (t : Form) (ts : List EqTerm) (s : Shape) (f : Fact) → Stage v eqs facts atoms → Within (atoms + 1) t → Within (atoms + 1) f.form → Meets v f → f.shape ≡ s → is_known eqs atoms t ts s f ≡ true → value v t ≢ pos 0
known_law v eqs facts atoms t ts Zero f st w wf m q h = absurd cc
known_law v eqs facts atoms t ts Below f st w wf m q h = absurd cc
known_law v eqs facts atoms t ts Differs f st w wf m q h =
    let c = if_both (is_counted eqs f) (cond (is_none (row_beside eqs atoms t ts (negsuc 0) f.form)) true (is_none (row_beside eqs atoms t ts (pos 1) f.form))) h in
    let said : value v f.form ≢ pos 0 = subst (λ s. MeetsShape v s f.form) q (m.said (counted_meets v eqs f.guard (st.follow v st.met) (yes_is (counted eqs f.guard) c.0))) in
    λ e. said ((elim (is_none (row_beside eqs atoms t ts (negsuc 0) f.form)) as (λ b. is_none (row_beside eqs atoms t ts (negsuc 0) f.form) ≡ b → cond b true (is_none (row_beside eqs atoms t ts (pos 1) f.form)) ≡ true → value v f.form ≡ pos 0) [
      | true ↦ λ n k. omega (arith, ints, e, beside_law v eqs facts atoms t ts (negsuc 0) f.form st w wf n, minus_time (value v f.form))
      | false ↦ λ n k. omega (arith, ints, e, beside_law v eqs facts atoms t ts (pos 1) f.form st w wf k, one_time (value v f.form))
    ]) refl c.1)

known_at_law : (v : ℕ → ℤ) (eqs : List Solution) (facts : List Fact) (atoms : ℕ) (t : Form) (ts : List EqTerm) (i : ℕ) (o : Option Fact) → Stage v eqs facts atoms → Within (atoms + 1) t → slice_get facts i ≡ o → known_at eqs atoms t ts o ≡ true → value v t ≢ pos 0
known_at_law v eqs facts atoms t ts i None st w q h = absurd cc
known_at_law v eqs facts atoms t ts i (Some f) st w q h = known_law v eqs facts atoms t ts f.shape f st w (got facts i f (λ f. Within (atoms + 1) f.form) st.facts_in q) (got facts i f (Meets v) st.met q) refl h

apart_law : (v : ℕ → ℤ) (eqs : List Solution) (facts : List Fact) (atoms : ℕ) (t : Form) (x : Group) → Stage v eqs facts atoms → Within (atoms + 1) t → shows_apart eqs facts atoms t x ≡ true → value v t ≢ pos 0
apart_law v eqs facts atoms t (g.Constant ts) s w h =
    let n = constant_is (row_with eqs atoms t ts) (if_both (is_strict eqs ts) (is_some_constant (row_with eqs atoms t ts)) h).1 in
    λ e. other_value v n.0 n.2 ((with_law v eqs facts atoms t ts n.0 s w n.1).0 ∙ e)
apart_law v eqs facts atoms t (g.Differs i ts) s w h = known_at_law v eqs facts atoms t ts i (slice_get facts i) s w refl (if_both (is_strict eqs ts) (known_at eqs atoms t ts (slice_get facts i)) h).1
apart_law v eqs facts atoms t (g.Eqs ts) s w h = absurd cc
apart_law v eqs facts atoms t (g.Cert c) s w h = absurd cc
apart_law v eqs facts atoms t (g.Place n) s w h = absurd cc
apart_law v eqs facts atoms t (g.Part p o) s w h = absurd cc
apart_law v eqs facts atoms t (g.Arm b) s w h = absurd cc
apart_law v eqs facts atoms t g.Stay s w h = absurd cc

behind_is : (b : Bool) (i k : ℕ) → behind b i ≡ Some k → b ≡ true
behind_is true i k h = refl
behind_is false i k h = absurd cc

below_at_law : (v : ℕ → ℤ) (eqs : List Solution) (facts : List Fact) (atoms : ℕ) (t : Form) (o : Option Group) (i k : ℕ) → Stage v eqs facts atoms → Within (atoms + 1) t → below_at eqs facts atoms t o i ≡ Some k → value v t ≤ℤ pos 0
below_at_law v eqs facts atoms t None i k s w h = absurd cc
below_at_law v eqs facts atoms t (Some x) i k s w h = below_law v eqs facts atoms t x s w (behind_is (shows_below eqs facts atoms t x) i k h)

then_at_is : (o : Option ℕ) (f : ℕ → Option ℕ) (k : ℕ) → then_at o f ≡ Some k → (i : ℕ) × (o ≡ Some i) × (f i ≡ Some k)
then_at_is None f k h = absurd cc
then_at_is (Some i) f k h = (i, refl, h)

minus_within : (n : ℕ) (ps : List Part) → All (λ p. p.atom + 1 < n) ps → All (λ p. p.atom + 1 < n) (map minus ps)
minus_within n ps w = All-map (λ p. p.atom + 1 < n) minus ps w

both_law : (v : ℕ → ℤ) (eqs : List Solution) (facts : List Fact) (atoms : ℕ) (t : Form) (groups : List Group) (i k : ℕ) → Stage v eqs facts atoms → Within (atoms + 1) t → both_at eqs facts atoms t groups i ≡ Some k → value v t ≡ pos 0
both_law v eqs facts atoms t groups i k s w h =
    let n = then_at_is (below_at eqs facts atoms t (slice_get groups i) i) (λ k. below_at eqs facts atoms (opposite_form t) (slice_get groups k) k) k h in
    let low = below_at_law v eqs facts atoms t (slice_get groups i) i n.0 s w n.1 in
    let high = below_at_law v eqs facts atoms (opposite_form t) (slice_get groups n.0) n.0 k s (minus_within (atoms + 1) t.parts w) n.2 in
    omega (arith, ints, opposite_value v t, low, high)

equal_law : (v : ℕ → ℤ) (eqs : List Solution) (facts : List Fact) (atoms : ℕ) (t : Form) (groups : List Group) (o : Option Group) (i k : ℕ) → Stage v eqs facts atoms → Within (atoms + 1) t → equal_at eqs facts atoms t groups o i ≡ Some k → value v t ≡ pos 0
equal_law v eqs facts atoms t groups None i k s w h = absurd cc
equal_law v eqs facts atoms t groups (Some x) i k s w h =
    (elim (shows_zero eqs atoms t x) as (λ b. shows_zero eqs atoms t x ≡ b → or_at b i (both_at eqs facts atoms t groups i) ≡ Some k → value v t ≡ pos 0) [
      | true ↦ λ e q. zero_law v eqs facts atoms t x s w e
      | false ↦ λ e q. both_law v eqs facts atoms t groups i k s w q
    ]) refl h

stage : (v : ℕ → ℤ) (eqs : List Solution) (facts : List Fact) (atoms : ℕ) → solved facts ≡ Ok eqs → AllWithin (atoms + 1) facts → MeetsAll v facts → Stage v eqs facts atoms
stage v eqs facts atoms e w m =
    let r : Result Eqs TermError = Ok (record { solved = eqs }) in
    record { follow = solved_follow facts r e; solved_in = solved_within facts r e (atoms + 1) w; facts_in = w; met = m }

longer_within : (n : ℕ) (facts : List Fact) (t : Form) → AllWithin n facts → Within n t → AllWithin n (with_zero facts t)
longer_within n facts t w h = (assumes_within facts (with_zero facts t) None (Plain Zero t) true (Ok tt) refl).kept n w h

absurd_law : (v : ℕ → ℤ) (facts : List Fact) (atoms : ℕ) (t : Form) (r : Result (List Solution) TermError) (x : Group) (i k : ℕ) → solved (with_zero facts t) ≡ r → AllWithin (atoms + 1) facts → MeetsAll v facts → Within (atoms + 1) t → absurd_by r (with_zero facts t) atoms x i ≡ Ok (Some k) → value v t ≢ pos 0
absurd_law v facts atoms t (Err e) x i k q w m wt h = absurd cc
absurd_law v facts atoms t (Ok eqs) x i k q w m wt h = λ e.
    let met = assumed_met v facts None None (Plain Zero t) true (with_zero facts t) m (λ _. e) refl in
    let shows = behind_is (shows_below eqs (with_zero facts t) atoms one_form x) i k (some_of (behind (shows_below eqs (with_zero facts t) atoms one_form x) i) k h) in
    let low = below_law v eqs (with_zero facts t) atoms one_form x (stage v eqs (with_zero facts t) atoms q (longer_within (atoms + 1) facts t w wt) met) (one_within (atoms + 1)) shows in
    absurd (omega (arith, ints, low))
  where
    some_of : (o : Option ℕ) (k : ℕ) → ◌≡◌ {A = Result (Option ℕ) TermError} (Ok o) (Ok (Some k)) → o ≡ Some k
    some_of o k e = cc

apart_at_law : (v : ℕ → ℤ) (eqs : List Solution) (facts : List Fact) (atoms : ℕ) (t : Form) (o : Option Group) (i k : ℕ) → Stage v eqs facts atoms → Within (atoms + 1) t → apart_at eqs facts atoms t o i ≡ Ok (Some k) → value v t ≢ pos 0
apart_at_law v eqs facts atoms t None i k s w h = absurd cc
apart_at_law v eqs facts atoms t (Some x) i k s w h = by x h
  where
    kept : (x : Group) → ◌≡◌ {A = Result (Option ℕ) TermError} (Ok (behind (shows_apart eqs facts atoms t x) i)) (Ok (Some k)) → value v t ≢ pos 0
    kept x e = let same : behind (shows_apart eqs facts atoms t x) i ≡ Some k = cc in apart_law v eqs facts atoms t x s w (behind_is (shows_apart eqs facts atoms t x) i k same)

    by : (x : Group) → apart_by eqs facts atoms t x i ≡ Ok (Some k) → value v t ≢ pos 0
    by (g.Cert c) e = absurd_law v facts atoms t (solved (with_zero facts t)) (g.Cert c) i k refl s.facts_in s.met w e
    by (g.Place n) e = kept (g.Place n) e
    by (g.Eqs ts) e = kept (g.Eqs ts) e
    by (g.Constant ts) e = kept (g.Constant ts) e
    by (g.Differs j ts) e = kept (g.Differs j ts) e
    by (g.Part p o) e = kept (g.Part p o) e
    by (g.Arm b) e = kept (g.Arm b) e
    by g.Stay e = kept g.Stay e

shape_law : (v : ℕ → ℤ) (eqs : List Solution) (facts : List Fact) (atoms : ℕ) (q : Shape) (t : Form) (groups : List Group) (i k : ℕ) → Stage v eqs facts atoms → Within (atoms + 1) t → shape_at q eqs facts atoms t groups i ≡ Ok (Some k) → MeetsShape v q t
shape_law v eqs facts atoms Zero t groups i k s w h = let same : equal_at eqs facts atoms t groups (slice_get groups i) i ≡ Some k = cc in equal_law v eqs facts atoms t groups (slice_get groups i) i k s w same
shape_law v eqs facts atoms Below t groups i k s w h = let same : below_at eqs facts atoms t (slice_get groups i) i ≡ Some k = cc in below_at_law v eqs facts atoms t (slice_get groups i) i k s w same
shape_law v eqs facts atoms Differs t groups i k s w h = apart_at_law v eqs facts atoms t (slice_get groups i) i k s w h

solved_law : (v : ℕ → ℤ) (r : Result (List Solution) TermError) (facts : List Fact) (atoms : ℕ) (q : Shape) (t : Form) (groups : List Group) (i k : ℕ) → solved facts ≡ r → AllWithin (atoms + 1) facts → MeetsAll v facts → Within (atoms + 1) t → solved_at r q facts atoms t groups i ≡ Ok (Some k) → MeetsShape v q t
solved_law v (Err e) facts atoms q t groups i k is w m wt h = absurd cc
solved_law v (Ok eqs) facts atoms q t groups i k is w m wt h = shape_law v eqs facts atoms q t groups i k (stage v eqs facts atoms is w m) wt h

plain_law : (v : ℕ → ℤ) (facts : List Fact) (atoms : ℕ) (q : Shape) (t : Form) (groups : List Group) (i k : ℕ) → AllWithin (atoms + 1) facts → MeetsAll v facts → Within (atoms + 1) t → plain_at facts atoms q t groups i ≡ Ok (Some k) → MeetsShape v q t
plain_law v facts atoms q t groups i k w m wt h = solved_law v (solved facts) facts atoms q t groups i k refl w m wt h

less_law : (v : ℕ → ℤ) (facts : List Fact) (atoms : ℕ) (b : Form) (r : Result Form TermError) (groups : List Group) (i k : ℕ) → less_one b ≡ r → AllWithin (atoms + 1) facts → MeetsAll v facts → Within (atoms + 1) b → form_at r facts atoms groups i ≡ Ok (Some k) → value v b ≡ pos 1
less_law v facts atoms b (Err e) groups i k q w m wb h = absurd cc
less_law v facts atoms b (Ok t) groups i k q w m wb h =
    let none : value v t ≡ pos 0 = plain_law v facts atoms Zero t groups i k w m (plus_within (atoms + 1) b one_form t (negsuc 0) wb (one_within (atoms + 1)) q) h in
    omega (arith, ints, none, less_value v b t q)

then_is : (r : Result (Option ℕ) TermError) (f : ℕ → Result (Option ℕ) TermError) (k : ℕ) → then_witness r f ≡ Ok (Some k) → (i : ℕ) × (r ≡ Ok (Some i)) × (f i ≡ Ok (Some k))
then_is (Err e) f k h = absurd cc
then_is (Ok None) f k h = absurd cc
then_is (Ok (Some i)) f k h = (i, refl, h)

where_is : (r : Result (List Fact) TermError) (f : List Fact → Result (Option ℕ) TermError) (k : ℕ) → where_known r f ≡ Ok (Some k) → (more : List Fact) × (r ≡ Ok more) × (f more ≡ Ok (Some k))
where_is (Err e) f k h = absurd cc
where_is (Ok more) f k h = (more, refl, h)

more_within : (n : ℕ) (facts more : List Fact) (a : Goal) (h : Bool) → AllWithin n facts → GoalWithin n a → assumed facts None None a h ≡ Ok more → AllWithin n more
more_within n facts more a h w wa e = (assumes_within facts more None a h (Ok tt) e).kept n w wa

-- what has a witness is so wherever the facts are met
pub witness_law : (facts : List Fact) (atoms : ℕ) (goal : Goal) (groups : List Group) (i k : ℕ) → AllWithin (atoms + 1) facts → GoalWithin (atoms + 1) goal → witness facts atoms goal groups i ≡ Ok (Some k) → (v : ℕ → ℤ) → MeetsAll v facts → Says v goal true
witness_law facts atoms (Truth b true) groups i k w wg h v m = less_law v facts atoms b (less_one b) groups i k refl w m wg h
witness_law facts atoms (Truth b false) groups i k w wg h v m = plain_law v facts atoms Zero b groups i k w m wg h
witness_law facts atoms (Plain s t) groups i k w wg h v m = plain_law v facts atoms s t groups i k w m wg h
witness_law facts atoms (Both a b) groups i k w wg h v m =
    let t = then_is (witness facts atoms a groups i) (λ j. witness facts atoms b groups j) k h in
    (witness_law facts atoms a groups i t.0 w wg.0 t.1 v m, witness_law facts atoms b groups t.0 k w wg.1 t.2 v m)
witness_law facts atoms (Either a b) groups i k w wg h v m =
    let t = where_is (assumed facts None None a false) (λ more. witness more atoms b groups i) k h in
    λ s. witness_law t.0 atoms b groups i k (more_within (atoms + 1) facts t.0 a false w wg.0 t.1) wg.1 t.2 v (assumed_met v facts None None a false t.0 m (λ _. s) t.1)
witness_law facts atoms (When c e) groups i k w wg h v m =
    let t = where_is (assumed facts None None (Truth c true) true) (λ more. witness more atoms e groups i) k h in
    λ s. witness_law t.0 atoms e groups i k (more_within (atoms + 1) facts t.0 (Truth c true) true w wg.0 t.1) wg.1 t.2 v (assumed_met v facts None None (Truth c true) true t.0 m (λ _. s) t.1)

pub confirms_law : (facts : List Fact) (atoms : ℕ) (goal : Goal) (groups : List Group) (r : Result (Option ℕ) TermError) → AllWithin (atoms + 1) facts → GoalWithin (atoms + 1) goal → Confirms r (witness facts atoms goal groups 0) → IfOk r (λ n. IfSome n (λ _. (v : ℕ → ℤ) → MeetsAll v facts → Says v goal true))
confirms_law facts atoms goal groups (Err e) w wg h = tt
confirms_law facts atoms goal groups (Ok None) w wg h = tt
confirms_law facts atoms goal groups (Ok (Some k)) w wg h = witness_law facts atoms goal groups 0 k w wg h

got_group : (gs : List Group) (i : ℕ) (x : Group) → slice_get gs i ≡ Some x → i < length gs
got_group [] i x h = absurd cc
got_group (y ∷ ys) zero x h = omega arith
got_group (y ∷ ys) (suc i) x h = let r = got_group ys i x h in omega arith

pub group_within : (gs : List Group) (i : ℕ) (x : Group) → length gs < 2 ^ 32 → Some x ≡ slice_get gs i → i + 1 < 2 ^ 32
group_within gs i x few h = let r = got_group gs i x (sym h) in omega arith

-- the code's test at the end of the multiples
all_past : {A : Type 0} (xs : List A) (i : ℕ) → length xs ≤ i → drop i xs ≡ []
all_past [] zero h = refl
all_past [] (suc i) h = refl
all_past (x ∷ xs) zero h = absurd (omega arith)
all_past (x ∷ xs) (suc i) h = all_past xs i (omega arith)

more_terms : (n m : ℕ) → nat_eq (suc n) (suc m) ≡ nat_eq n m
more_terms n m = grind (arith, nat_tests)

no_more : (m : ℕ) → nat_eq 0 (suc m) ≡ false
no_more m = grind (arith, nat_tests)

end_strict : (n : ℕ) (ts : List EqTerm) → n ≤ length ts → nat_eq n (length ts) ≡ is_strict [] (drop n ts)
end_strict zero [] h = refl
end_strict zero (t ∷ ts) h = no_more (length ts)
end_strict (suc n) [] h = absurd (omega arith)
end_strict (suc n) (t ∷ ts) h = more_terms n (length ts) ∙ end_strict n ts (omega arith)

pub strict_end : (ss : List Solution) (ts : List EqTerm) (i n : ℕ) (b : Bool) → b ≡ is_strict (drop i ss) (drop n ts) → length ss ≤ i → n ≤ length ts → nat_eq n (length ts) ≡ b
strict_end ss ts i n b e h k = end_strict n ts k ∙ ap (λ l. is_strict l (drop n ts)) (sym (all_past ss i h)) ∙ sym e

pub opposite_within : (n : ℕ) (t f : Form) → Within n t → f ≡ opposite_form t → Within n f
opposite_within n t f w e = rw e (minus_within n t.parts w)

pub less_within : (n : ℕ) (b f : Form) → Within n b → plus b (negsuc 0) one_form ≡ Ok f → Within n f
less_within n b f w e = plus_within n b one_form f (negsuc 0) w (one_within n) e
