-- What is a witness is one among other groups too.
use Rattle.std.proofs.Common.{◌≡◌, ℕ, zero, suc, ◌+◌, Bool, true, false, List, [], ◌∷◌, ◌++◌, length, slice_get, Option, Some, None, Result, Ok, Err, refl, ap, sym, ◌∙◌, arith}
use Rattle.std.proofs.lemmas.List.{append-nil, length-append}
use Rattle.pl_forms.specs.declared.form.Form.{Form}
use Rattle.pl_forms.specs.declared.form.TermError.{TermError}
use Rattle.pl_forms.specs.declared.fact.Shape.{Shape}
use Rattle.pl_forms.specs.declared.fact.Shape.TheVariants.{Zero, Below, Differs}
use Rattle.pl_forms.specs.declared.fact.Fact.{Fact}
use Rattle.pl_forms.specs.declared.goal.Group.{Group}
use Rattle.pl_forms.specs.declared.goal.Group.TheVariants as g
use Rattle.pl_forms.specs.declared.equation.Solution.{Solution}
use Rattle.pl_forms.specs.Solving.{solved}
use Rattle.pl_forms.specs.Goals.{Goal, Truth, Plain, Both, Either, When}
use Rattle.pl_forms.specs.Assuming.{one_form, less_one, assumed}
use Rattle.pl_linear.specs.Duty.{opposite_form}
use Rattle.pl_linear.specs.Decisions.{with_zero}
use Rattle.pl_linear.specs.Witnesses.{shows_below, shows_zero, shows_apart, behind, below_at, then_at, or_at, both_at, equal_at, absurd_by, apart_by, apart_at, shape_at, solved_at, plain_at, form_at, then_witness, where_known, witness}

-- groups among others
abbrev pub among : List Group → List Group → List Group → List Group
among before gs after = before ++ (gs ++ after)

got_first : (gs after : List Group) (i : ℕ) (x : Group) → slice_get gs i ≡ Some x → slice_get (gs ++ after) i ≡ Some x
got_first [] after i x h = absurd cc
got_first (y ∷ ys) after zero x h = h
got_first (y ∷ ys) after (suc i) x h = got_first ys after i x h

got_behind : (before gs : List Group) (i j : ℕ) → j ≡ length before + i → slice_get (before ++ gs) j ≡ slice_get gs i
got_behind [] gs i j e = let same : j ≡ i = omega (arith, e) in ap (slice_get gs) same
got_behind (y ∷ ys) gs i zero e = absurd (omega (arith, e))
got_behind (y ∷ ys) gs i (suc j) e = got_behind ys gs i j (omega (arith, e))

got_among : (before gs after : List Group) (i : ℕ) (x : Group) → slice_get gs i ≡ Some x → slice_get (among before gs after) (length before + i) ≡ Some x
got_among before gs after i x h = got_behind before (gs ++ after) i (length before + i) refl ∙ got_first gs after i x h

behind_moved : (b : Bool) (n i k : ℕ) → behind b i ≡ Some k → behind b (n + i) ≡ Some (n + k)
behind_moved true n i k h = let e : i + 1 ≡ k = cc in let f : n + i + 1 ≡ n + k = omega (arith, e) in ap Some f
behind_moved false n i k h = absurd cc

below_by : (eqs : List Solution) (facts : List Fact) (atoms : ℕ) (t : Form) (before gs after : List Group) (o : Option Group) (i k : ℕ) → slice_get gs i ≡ o → below_at eqs facts atoms t o i ≡ Some k → below_at eqs facts atoms t (slice_get (among before gs after) (length before + i)) (length before + i) ≡ Some (length before + k)
below_by eqs facts atoms t before gs after None i k e h = absurd cc
below_by eqs facts atoms t before gs after (Some x) i k e h =
    ap (λ o. below_at eqs facts atoms t o (length before + i)) (got_among before gs after i x e)
    ∙ behind_moved (shows_below eqs facts atoms t x) (length before) i k h

below_moved : (eqs : List Solution) (facts : List Fact) (atoms : ℕ) (t : Form) (before gs after : List Group) (i k : ℕ) → below_at eqs facts atoms t (slice_get gs i) i ≡ Some k → below_at eqs facts atoms t (slice_get (among before gs after) (length before + i)) (length before + i) ≡ Some (length before + k)
below_moved eqs facts atoms t before gs after i k h = below_by eqs facts atoms t before gs after (slice_get gs i) i k refl h

then_at_is : (o : Option ℕ) (f : ℕ → Option ℕ) (k : ℕ) → then_at o f ≡ Some k → (i : ℕ) × (o ≡ Some i) × (f i ≡ Some k)
then_at_is None f k h = absurd cc
then_at_is (Some i) f k h = (i, refl, h)

both_moved : (eqs : List Solution) (facts : List Fact) (atoms : ℕ) (t : Form) (before gs after : List Group) (i k : ℕ) → both_at eqs facts atoms t gs i ≡ Some k → both_at eqs facts atoms t (among before gs after) (length before + i) ≡ Some (length before + k)
both_moved eqs facts atoms t before gs after i k h =
    let n = then_at_is (below_at eqs facts atoms t (slice_get gs i) i) (λ j. below_at eqs facts atoms (opposite_form t) (slice_get gs j) j) k h in
    ap (λ o. then_at o (λ j. below_at eqs facts atoms (opposite_form t) (slice_get (among before gs after) j) j)) (below_moved eqs facts atoms t before gs after i n.0 n.1)
    ∙ below_moved eqs facts atoms (opposite_form t) before gs after n.0 k n.2

or_moved : (b : Bool) (n i k : ℕ) (now later : Option ℕ) → (now ≡ Some k → later ≡ Some (n + k)) → or_at b i now ≡ Some k → or_at b (n + i) later ≡ Some (n + k)
or_moved true n i k now later m h = let e : i + 1 ≡ k = cc in let f : n + i + 1 ≡ n + k = omega (arith, e) in ap Some f
or_moved false n i k now later m h = m h

pub equal_by : (eqs : List Solution) (facts : List Fact) (atoms : ℕ) (t : Form) (before gs after : List Group) (o : Option Group) (i k : ℕ) → slice_get gs i ≡ o → equal_at eqs facts atoms t gs o i ≡ Some k → equal_at eqs facts atoms t (among before gs after) (slice_get (among before gs after) (length before + i)) (length before + i) ≡ Some (length before + k)
equal_by eqs facts atoms t before gs after None i k e h = absurd cc
equal_by eqs facts atoms t before gs after (Some x) i k e h =
    ap (λ o. equal_at eqs facts atoms t (among before gs after) o (length before + i)) (got_among before gs after i x e)
    ∙ or_moved (shows_zero eqs atoms t x) (length before) i k (both_at eqs facts atoms t gs i) (both_at eqs facts atoms t (among before gs after) (length before + i)) (λ q. both_moved eqs facts atoms t before gs after i k q) h

some_of : (o p : Option ℕ) → ◌≡◌ {A = Result (Option ℕ) TermError} (Ok o) (Ok p) → o ≡ p
some_of o p e = cc

absurd_moved : (r : Result (List Solution) TermError) (facts : List Fact) (atoms : ℕ) (x : Group) (n i k : ℕ) → absurd_by r facts atoms x i ≡ Ok (Some k) → absurd_by r facts atoms x (n + i) ≡ Ok (Some (n + k))
absurd_moved (Err e) facts atoms x n i k h = absurd cc
absurd_moved (Ok eqs) facts atoms x n i k h = ap Ok (behind_moved (shows_below eqs facts atoms one_form x) n i k (some_of (behind (shows_below eqs facts atoms one_form x) i) (Some k) h))

apart_moved : (eqs : List Solution) (facts : List Fact) (atoms : ℕ) (t : Form) (x : Group) (n i k : ℕ) → apart_by eqs facts atoms t x i ≡ Ok (Some k) → apart_by eqs facts atoms t x (n + i) ≡ Ok (Some (n + k))
apart_moved eqs facts atoms t x n i k h = by x h
  where
    kept : (x : Group) → ◌≡◌ {A = Result (Option ℕ) TermError} (Ok (behind (shows_apart eqs facts atoms t x) i)) (Ok (Some k)) → ◌≡◌ {A = Result (Option ℕ) TermError} (Ok (behind (shows_apart eqs facts atoms t x) (n + i))) (Ok (Some (n + k)))
    kept x e = ap Ok (behind_moved (shows_apart eqs facts atoms t x) n i k (some_of (behind (shows_apart eqs facts atoms t x) i) (Some k) e))

    by : (x : Group) → apart_by eqs facts atoms t x i ≡ Ok (Some k) → apart_by eqs facts atoms t x (n + i) ≡ Ok (Some (n + k))
    by (g.Cert c) e = absurd_moved (solved (with_zero facts t)) (with_zero facts t) atoms (g.Cert c) n i k e
    by (g.Place m) e = kept (g.Place m) e
    by (g.Eqs ts) e = kept (g.Eqs ts) e
    by (g.Constant ts) e = kept (g.Constant ts) e
    by (g.Differs j ts) e = kept (g.Differs j ts) e
    by (g.Part p o) e = kept (g.Part p o) e
    by (g.Arm b) e = kept (g.Arm b) e
    by g.Stay e = kept g.Stay e

apart_at_by : (eqs : List Solution) (facts : List Fact) (atoms : ℕ) (t : Form) (before gs after : List Group) (o : Option Group) (i k : ℕ) → slice_get gs i ≡ o → apart_at eqs facts atoms t o i ≡ Ok (Some k) → apart_at eqs facts atoms t (slice_get (among before gs after) (length before + i)) (length before + i) ≡ Ok (Some (length before + k))
apart_at_by eqs facts atoms t before gs after None i k e h = absurd cc
apart_at_by eqs facts atoms t before gs after (Some x) i k e h =
    ap (λ o. apart_at eqs facts atoms t o (length before + i)) (got_among before gs after i x e)
    ∙ apart_moved eqs facts atoms t x (length before) i k h

shape_moved : (q : Shape) (eqs : List Solution) (facts : List Fact) (atoms : ℕ) (t : Form) (before gs after : List Group) (i k : ℕ) → shape_at q eqs facts atoms t gs i ≡ Ok (Some k) → shape_at q eqs facts atoms t (among before gs after) (length before + i) ≡ Ok (Some (length before + k))
shape_moved Zero eqs facts atoms t before gs after i k h = ap Ok (equal_by eqs facts atoms t before gs after (slice_get gs i) i k refl (some_of (equal_at eqs facts atoms t gs (slice_get gs i) i) (Some k) h))
shape_moved Below eqs facts atoms t before gs after i k h = ap Ok (below_moved eqs facts atoms t before gs after i k (some_of (below_at eqs facts atoms t (slice_get gs i) i) (Some k) h))
shape_moved Differs eqs facts atoms t before gs after i k h = apart_at_by eqs facts atoms t before gs after (slice_get gs i) i k refl h

solved_moved : (r : Result (List Solution) TermError) (q : Shape) (facts : List Fact) (atoms : ℕ) (t : Form) (before gs after : List Group) (i k : ℕ) → solved_at r q facts atoms t gs i ≡ Ok (Some k) → solved_at r q facts atoms t (among before gs after) (length before + i) ≡ Ok (Some (length before + k))
solved_moved (Err e) q facts atoms t before gs after i k h = absurd cc
solved_moved (Ok eqs) q facts atoms t before gs after i k h = shape_moved q eqs facts atoms t before gs after i k h

plain_moved : (facts : List Fact) (atoms : ℕ) (q : Shape) (t : Form) (before gs after : List Group) (i k : ℕ) → plain_at facts atoms q t gs i ≡ Ok (Some k) → plain_at facts atoms q t (among before gs after) (length before + i) ≡ Ok (Some (length before + k))
plain_moved facts atoms q t before gs after i k h = solved_moved (solved facts) q facts atoms t before gs after i k h

form_moved : (r : Result Form TermError) (facts : List Fact) (atoms : ℕ) (before gs after : List Group) (i k : ℕ) → form_at r facts atoms gs i ≡ Ok (Some k) → form_at r facts atoms (among before gs after) (length before + i) ≡ Ok (Some (length before + k))
form_moved (Err e) facts atoms before gs after i k h = absurd cc
form_moved (Ok t) facts atoms before gs after i k h = plain_moved facts atoms Zero t before gs after i k h

then_is : (r : Result (Option ℕ) TermError) (f : ℕ → Result (Option ℕ) TermError) (k : ℕ) → then_witness r f ≡ Ok (Some k) → (i : ℕ) × (r ≡ Ok (Some i)) × (f i ≡ Ok (Some k))
then_is (Err e) f k h = absurd cc
then_is (Ok None) f k h = absurd cc
then_is (Ok (Some i)) f k h = (i, refl, h)

where_is : (r : Result (List Fact) TermError) (f : List Fact → Result (Option ℕ) TermError) (k : ℕ) → where_known r f ≡ Ok (Some k) → (more : List Fact) × (r ≡ Ok more) × (f more ≡ Ok (Some k))
where_is (Err e) f k h = absurd cc
where_is (Ok more) f k h = (more, refl, h)

pub witness_moved : (facts : List Fact) (atoms : ℕ) (goal : Goal) (before gs after : List Group) (i k : ℕ) → witness facts atoms goal gs i ≡ Ok (Some k) → witness facts atoms goal (among before gs after) (length before + i) ≡ Ok (Some (length before + k))
witness_moved facts atoms (Truth b true) before gs after i k h = form_moved (less_one b) facts atoms before gs after i k h
witness_moved facts atoms (Truth b false) before gs after i k h = plain_moved facts atoms Zero b before gs after i k h
witness_moved facts atoms (Plain s t) before gs after i k h = plain_moved facts atoms s t before gs after i k h
witness_moved facts atoms (Both a b) before gs after i k h =
    let t = then_is (witness facts atoms a gs i) (λ j. witness facts atoms b gs j) k h in
    ap (λ r. then_witness r (λ j. witness facts atoms b (among before gs after) j)) (witness_moved facts atoms a before gs after i t.0 t.1)
    ∙ witness_moved facts atoms b before gs after t.0 k t.2
witness_moved facts atoms (Either a b) before gs after i k h =
    let t = where_is (assumed facts None None a false) (λ more. witness more atoms b gs i) k h in
    ap (λ r. where_known r (λ more. witness more atoms b (among before gs after) (length before + i))) t.1
    ∙ witness_moved t.0 atoms b before gs after i k t.2
witness_moved facts atoms (When c e) before gs after i k h =
    let t = where_is (assumed facts None None (Truth c true) true) (λ more. witness more atoms e gs i) k h in
    ap (λ r. where_known r (λ more. witness more atoms e (among before gs after) (length before + i))) t.1
    ∙ witness_moved t.0 atoms e before gs after i k t.2

-- the groups of one duty, and behind them those of another
pub both_witness : (facts : List Fact) (atoms : ℕ) (a b : Goal) (gs hs : List Group) → witness facts atoms a gs 0 ≡ Ok (Some (length gs)) → witness facts atoms b hs 0 ≡ Ok (Some (length hs)) → witness facts atoms (Both a b) (gs ++ hs) 0 ≡ Ok (Some (length (gs ++ hs)))
both_witness facts atoms a b gs hs h k =
    let none : 0 + length gs ≡ length gs = omega arith in
    let first : witness facts atoms a (gs ++ hs) 0 ≡ Ok (Some (length gs)) = witness_moved facts atoms a [] gs hs 0 (length gs) h ∙ ap (λ (n : ℕ). Ok (Some n)) none in
    ap (λ r. then_witness r (λ j. witness facts atoms b (gs ++ hs) j)) first
    ∙ next_witness facts atoms b gs hs k
  where
    next_witness : (facts : List Fact) (atoms : ℕ) (b : Goal) (gs hs : List Group) → witness facts atoms b hs 0 ≡ Ok (Some (length hs)) → witness facts atoms b (gs ++ hs) (length gs) ≡ Ok (Some (length (gs ++ hs)))
    next_witness facts atoms b gs hs k =
        let moved = witness_moved facts atoms b gs hs [] 0 (length hs) k in
        let start : length gs ≡ length gs + 0 = omega arith in
        ap (λ (l : List Group). witness facts atoms b (gs ++ l) (length gs)) (sym (append-nil hs))
        ∙ ap (λ (n : ℕ). witness facts atoms b (gs ++ (hs ++ [])) n) start
        ∙ moved ∙ ap (λ (n : ℕ). Ok (Some n)) (sym (length-append gs hs))
