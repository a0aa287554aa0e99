-- A hint of at most 2^24 terms does what the rule of hints says.
use Rattle.std.proofs.Common.{◌≡◌, ℕ, zero, suc, ◌<◌, ◌≤◌, ◌+◌, ◌*◌, ◌^◌, ℤ, pos, negsuc, ◌*ℤ◌, int_lt, unsigned_abs, nat_eq, nat_lt, ◌&&◌, Bool, true, false, cond, List, [], ◌∷◌, ◌++◌, length, slice_get, Option, Some, None, Result, Ok, Err, refl, ap, subst, arith, All, le_trans, mul-le-mul}
use Rattle.std.proofs.lemmas.Int.{ints}
use Rattle.std.proofs.lemmas.Bool.Decides.{nat_tests}
use Rattle.std.proofs.lemmas.List.{length-append}
use Rattle.std.proofs.lemmas.List.Elements.{All-nil, All-push}
use Rattle.pl_forms.specs.declared.form.Form.{Form}
use Rattle.pl_forms.specs.declared.form.TermError.{TermError}
use Rattle.pl_forms.specs.declared.fact.Shape.{Shape}
use Rattle.pl_forms.specs.declared.fact.Shape.TheVariants.{Zero, Below, Differs}
use Rattle.pl_forms.specs.declared.fact.Fact.{Fact}
use Rattle.pl_forms.specs.declared.equation.Solution.{Solution}
use Rattle.pl_forms.specs.declared.equation.Eqs.{Eqs}
use Rattle.pl_forms.specs.Forms.{IsForm}
use Rattle.pl_forms.specs.Facts.{IsFact}
use Rattle.pl_forms.specs.Equations.{AreSolutions, AreNamed, reduced, counted}
use Rattle.pl_forms.specs.Steps.{plus}
use Rattle.pl_forms.specs.Terms.{terms}
use Rattle.pl_forms.specs.Tightening.{common, tight_form}
use Rattle.pl_forms.specs.Solving.{solved}
use Rattle.pl_forms.specs.Rows.{at, form_times}
use Rattle.pl_forms.specs.Places.{Within, AllWithin, AllSolvedWithin}
use Rattle.pl_forms.specs.Goals.{Goal, Truth, Plain, Both, Either, When, IsGoal, GoalWithin}
use Rattle.pl_forms.proofs.FormSteps.{plus_form, product_size}
use Rattle.pl_forms.proofs.PlaceLaws.{plus_within, reduced_within}
use Rattle.pl_forms.proofs.Reducing.{reduced_form}
use Rattle.pl_forms.proofs.NameLaws.{solved_named}
use Rattle.pl_forms.proofs.SolvingLaws.{solved_forms, solved_within}
use Rattle.pl_linear.specs.declared.hint.HintTerm.{HintTerm}
use Rattle.pl_linear.specs.declared.hint.Written.{Written}
use Rattle.pl_linear.specs.declared.hint.Hinted.{Hinted}
use Rattle.pl_linear.specs.Duty.{one_form}
use Rattle.pl_linear.specs.FormRow.{row_of}
use Rattle.pl_linear.specs.Certificates.{is_counted, is_certificate}
use Rattle.pl_linear.specs.Hints.{past, newest, are_known, then_written, fact_term, at_least_one, goal_term, with_reduced, with_counted, with_shape, with_fact, with_place, with_label, with_term, with_terms, writes_goal, with_goal, all_written, items_of, told, judged, by_reduced, by_negated, by_solved, by_labels, for_goal, unless_past, hinted, Hints}
use Rattle.pl_linear.specs.HintRule.{adds_up, of_written, of_reduced, of_negated, of_solved, of_labels, of_goal, by_rule}
use Rattle.pl_linear.proofs.CertificateLaws.{got}
use Rattle.pl_linear.proofs.Multiples.{length-multiples}
use Rattle.pl_linear.proofs.FormRows.{plus_row, terms_row}
use Rattle.pl_linear.proofs.ItemRows.{one_row, one_is}
use Rattle.pl_linear.proofs.TightRows.{tight_within}
use Rattle.pl_linear.proofs.CycleItems.{row_place}
use Rattle.pl_linear.proofs.Given.{forward_given, below_shape, goal_given}
use Rattle.pl_linear.proofs.BesideRows.{place, place_zero, place_more}
use Rattle.pl_linear.proofs.HintLaws.{past_small}
use Rattle.pl_linear.proofs.HintSums.{Pair, hint_closes, goal_rounded}

-- what is known of the duty, its negation, and the facts
record Env (n : ℕ) (eqs : List Solution) (facts : List Fact) (t h g : Form) : Type 0 where
  named : AreNamed eqs
  solved_are : AreSolutions eqs
  eqs_in : AllSolvedWithin (n + 1) eqs
  are : All IsFact facts
  facts_in : AllWithin (n + 1) facts
  goal : IsForm t
  goal_in : Within (n + 1) t
  negated : plus one_form (negsuc 0) t ≡ Ok h
  leads : reduced eqs h ≡ Ok g

row_at : (n : ℕ) (f : Form) → Within (n + 1) f → (i : ℕ) → at (row_of n f) i ≡ place f i
row_at n f w zero = refl
row_at n f w (suc a) = row_place n a f w

place_size : (f : Form) (i : ℕ) → IsForm f → unsigned_abs (place f i) ≤ 2 ^ 80
place_size f zero p = place_zero f p
place_size f (suc a) p = let h = place_more f a p in omega (arith, h)

multiple_size : (m n : ℕ) (f : Form) (i : ℕ) → m ≤ 2 ^ 20 → IsForm f → Within (n + 1) f → unsigned_abs (pos m *ℤ at (row_of n f) i) ≤ 2 ^ 101
multiple_size m n f i few p w = rw (row_at n f w i) (le_trans (product_size (pos m) (place f i) (2 ^ 20) (2 ^ 80) few (place_size f i p)) (omega arith))

long_row : (n : ℕ) (f : Form) → length (row_of n f) ≡ n + 1
long_row n f = omega (arith, length-multiples n 0 f.parts)

is_some : (m : ℕ) → 1 ≤ m → int_lt (pos m) (pos 1) ≡ false
is_some m h = grind (arith, ints)

fact_pair : (n : ℕ) (eqs : List Solution) (facts : List Fact) (t h g : Form) (m i : ℕ) (f : Fact) (k : Form) → Env n eqs facts t h g → m ≤ 2 ^ 20 → 1 ≤ m → slice_get facts i ≡ Some f → f.shape ≡ Below → counted eqs f.guard ≡ Ok true → reduced eqs f.form ≡ Ok k → Pair n eqs facts t (fact_term m i (terms eqs f.form))
fact_pair n eqs facts t h g m i f k v few some there shape c leads =
    let counts : is_counted eqs f ≡ true = rw c refl in
    let form : IsForm f.form = (got facts i f IsFact v.are there).form in
    let given = forward_given eqs facts t i f k (terms eqs f.form) (record { named = v.named; solved = v.solved_are; form = form; at_i = there; counts = counts; leads = leads; added = refl }) (below_shape f shape) in
    let row = given.row n v.eqs_in v.facts_in v.goal_in in
    let within = given.within (n + 1) v.eqs_in v.facts_in v.goal_in in
    let size : (j : ℕ) → unsigned_abs (pos m *ℤ at (row_of n (tight_form k)) j) ≤ 2 ^ 101 = λ j. multiple_size m n (tight_form k) j few given.form within in
    record { own = row_of n (tight_form k); cert = row_of n (tight_form k); own_is = row; cert_is = row; own_long = long_row n (tight_form k); cert_long = long_row n (tight_form k); some = is_some m some; own_size = size; cert_size = size; same = λ a. refl; no_less = omega (arith, ints) }

once_more : (m q : ℕ) → 1 ≤ m → 1 ≤ m * at_least_one q
once_more m q h = (elim (nat_lt 1 q) as (λ b. nat_lt 1 q ≡ b → 1 ≤ m * cond b q 1) [
  | true ↦ λ e. let big : 1 < q = grind (arith, nat_tests) in product m q h (omega (arith, big))
  | false ↦ λ e. omega (arith, h)
]) refl
  where
    product : (m q : ℕ) → 1 ≤ m → 1 ≤ q → 1 ≤ m * q
    product m q h k = let p : 1 * 1 ≤ m * q = mul-le-mul h k in omega (arith, p)

goal_pair : (n : ℕ) (eqs : List Solution) (facts : List Fact) (t h g : Form) (m : ℕ) → Env n eqs facts t h g → m ≤ 2 ^ 20 → 1 ≤ m → Pair n eqs facts t (goal_term m (common 0 g.parts) (terms eqs h))
goal_pair n eqs facts t h g m v few some =
    let is_h : IsForm h = plus_form one_form t (negsuc 0) (Ok h) (λ e. absurd cc) one_is v.goal v.negated in
    let h_in : Within (n + 1) h = plus_within (n + 1) one_form t h (negsuc 0) (All-nil (λ p. p.atom + 1 < n + 1)) v.goal_in v.negated in
    let is : IsForm g = reduced_form eqs h g v.solved_are is_h v.leads in
    let inside : Within (n + 1) g = reduced_within (n + 1) eqs h g v.eqs_in h_in v.leads in
    let tight_in : Within (n + 1) (tight_form g) = tight_within (n + 1) g inside in
    let base : form_times (negsuc 0) t (row_of n one_form) ≡ Some (row_of n h) = plus_row n one_form t h (negsuc 0) one_is v.goal v.goal_in (λ e. absurd cc) (omega arith) v.negated in
    let given = goal_given eqs t h g (terms eqs h) v.named v.solved_are v.goal v.negated v.leads refl facts in
    let r = goal_rounded m g few is in
    let own_at = row_at n g inside in
    let cert_at = row_at n (tight_form g) tight_in in
    let own_size : (i : ℕ) → unsigned_abs (pos m *ℤ at (row_of n g) i) ≤ 2 ^ 101 = λ i. multiple_size m n g i few is inside in
    let same : (a : ℕ) → pos (m * at_least_one (common 0 g.parts)) *ℤ at (row_of n (tight_form g)) (suc a) ≡ pos m *ℤ at (row_of n g) (suc a) = λ a. rw (own_at (suc a), cert_at (suc a)) (r.same a) in
    record {
      own = row_of n g;
      cert = row_of n (tight_form g);
      own_is = rw (one_row n, base) (terms_row n eqs eqs h g v.named v.solved_are v.eqs_in is_h h_in v.leads);
      cert_is = given.row n v.eqs_in v.facts_in v.goal_in;
      own_long = long_row n g;
      cert_long = long_row n (tight_form g);
      some = is_some (m * at_least_one (common 0 g.parts)) (once_more m (common 0 g.parts) some);
      own_size = own_size;
      cert_size = λ i. sizes (pos (m * at_least_one (common 0 g.parts))) (pos m) (row_of n (tight_form g)) (row_of n g) own_size same r.size i;
      same = same;
      no_less = r.no_less;
    }
  where
    sizes : (k l : ℤ) (cert own : List ℤ) → ((i : ℕ) → unsigned_abs (l *ℤ at own i) ≤ 2 ^ 101) → ((a : ℕ) → k *ℤ at cert (suc a) ≡ l *ℤ at own (suc a)) → unsigned_abs (k *ℤ at cert 0) ≤ 2 ^ 101 → (i : ℕ) → unsigned_abs (k *ℤ at cert i) ≤ 2 ^ 101
    sizes k l cert own h same first zero = first
    sizes k l cert own h same first (suc a) = rw (same a) (h (suc a))

-- one term more, of which this is known too
record Grown (n : ℕ) (eqs : List Solution) (facts : List Fact) (t : Form) (made now : List Written) : Type 0 where
  all : All (Pair n eqs facts t) now
  few : length now ≤ length made + 1

grown : (n : ℕ) (eqs : List Solution) (facts : List Fact) (t : Form) (made now : List Written) (w : Written) → All (Pair n eqs facts t) made → Pair n eqs facts t w → made ++ w ∷ [] ≡ now → Grown n eqs facts t made now
grown n eqs facts t made now w a p e = record {
  all = subst (λ l. All (Pair n eqs facts t) l) e (All-push (Pair n eqs facts t) made w a p);
  few = let s : length (made ++ w ∷ []) ≡ length made + 1 = length-append made (w ∷ []) in rw (← e) (omega (arith, s));
}

grown_reduced : (n : ℕ) (eqs : List Solution) (facts : List Fact) (t h g : Form) (made now : List Written) (m i : ℕ) (f : Fact) (r : Result Form TermError) → Env n eqs facts t h g → All (Pair n eqs facts t) made → m ≤ 2 ^ 20 → 1 ≤ m → slice_get facts i ≡ Some f → f.shape ≡ Below → counted eqs f.guard ≡ Ok true → reduced eqs f.form ≡ r → with_reduced made m i (terms eqs f.form) r ≡ Ok (Some now) → Grown n eqs facts t made now
grown_reduced n eqs facts t h g made now m i f (Err e) v a few some there s c q k = absurd cc
grown_reduced n eqs facts t h g made now m i f (Ok x) v a few some there s c q k = let same : made ++ fact_term m i (terms eqs f.form) ∷ [] ≡ now = cc in grown n eqs facts t made now (fact_term m i (terms eqs f.form)) a (fact_pair n eqs facts t h g m i f x v few some there s c q) same

grown_counted : (n : ℕ) (eqs : List Solution) (facts : List Fact) (t h g : Form) (made now : List Written) (m i : ℕ) (f : Fact) (r : Result Bool TermError) → Env n eqs facts t h g → All (Pair n eqs facts t) made → m ≤ 2 ^ 20 → 1 ≤ m → slice_get facts i ≡ Some f → f.shape ≡ Below → counted eqs f.guard ≡ r → with_counted eqs made m i f.form r ≡ Ok (Some now) → Grown n eqs facts t made now
grown_counted n eqs facts t h g made now m i f (Err e) v a few some there s c k = absurd cc
grown_counted n eqs facts t h g made now m i f (Ok false) v a few some there s c k = absurd cc
grown_counted n eqs facts t h g made now m i f (Ok true) v a few some there s c k = grown_reduced n eqs facts t h g made now m i f (reduced eqs f.form) v a few some there s c refl k

grown_shape : (n : ℕ) (eqs : List Solution) (facts : List Fact) (t h g : Form) (made now : List Written) (m i : ℕ) (f : Fact) (s : Shape) → Env n eqs facts t h g → All (Pair n eqs facts t) made → m ≤ 2 ^ 20 → 1 ≤ m → slice_get facts i ≡ Some f → f.shape ≡ s → with_shape s eqs made m i f ≡ Ok (Some now) → Grown n eqs facts t made now
grown_shape n eqs facts t h g made now m i f Zero v a few some there s k = absurd cc
grown_shape n eqs facts t h g made now m i f Below v a few some there s k = grown_counted n eqs facts t h g made now m i f (counted eqs f.guard) v a few some there s refl k
grown_shape n eqs facts t h g made now m i f Differs v a few some there s k = absurd cc

grown_fact : (n : ℕ) (eqs : List Solution) (facts : List Fact) (t h g : Form) (made now : List Written) (m i : ℕ) (o : Option Fact) → Env n eqs facts t h g → All (Pair n eqs facts t) made → m ≤ 2 ^ 20 → 1 ≤ m → slice_get facts i ≡ o → with_fact eqs made m i o ≡ Ok (Some now) → Grown n eqs facts t made now
grown_fact n eqs facts t h g made now m i None v a few some there k = absurd cc
grown_fact n eqs facts t h g made now m i (Some f) v a few some there k = grown_shape n eqs facts t h g made now m i f f.shape v a few some there refl k

grown_place : (n : ℕ) (eqs : List Solution) (facts : List Fact) (t h g : Form) (made now : List Written) (m : ℕ) (o : Option ℕ) → Env n eqs facts t h g → All (Pair n eqs facts t) made → m ≤ 2 ^ 20 → 1 ≤ m → with_place eqs facts made m o ≡ Ok (Some now) → Grown n eqs facts t made now
grown_place n eqs facts t h g made now m None v a few some k = absurd cc
grown_place n eqs facts t h g made now m (Some i) v a few some k = grown_fact n eqs facts t h g made now m i (slice_get facts i) v a few some refl k

grown_label : (n : ℕ) (eqs : List Solution) (facts : List Fact) (t h g : Form) (made now : List Written) (m : ℕ) (o : Option (List ℕ)) → Env n eqs facts t h g → All (Pair n eqs facts t) made → m ≤ 2 ^ 20 → 1 ≤ m → with_label eqs facts (common 0 g.parts) (terms eqs h) made m o ≡ Ok (Some now) → Grown n eqs facts t made now
grown_label n eqs facts t h g made now m None v a few some k = let same : made ++ goal_term m (common 0 g.parts) (terms eqs h) ∷ [] ≡ now = cc in grown n eqs facts t made now (goal_term m (common 0 g.parts) (terms eqs h)) a (goal_pair n eqs facts t h g m v few some) same
grown_label n eqs facts t h g made now m (Some name) v a few some k = grown_place n eqs facts t h g made now m (newest name 0 facts None) v a few some k

grown_term : (n : ℕ) (eqs : List Solution) (facts : List Fact) (t h g : Form) (made now : List Written) (x : HintTerm) → Env n eqs facts t h g → All (Pair n eqs facts t) made → x.times ≤ 2 ^ 20 → with_term eqs facts (common 0 g.parts) (terms eqs h) made x ≡ Ok (Some now) → Grown n eqs facts t made now
grown_term n eqs facts t h g made now x v a few k =
    (elim (nat_eq x.times 0) as (λ b. nat_eq x.times 0 ≡ b → cond b (Ok (Some made)) (with_label eqs facts (common 0 g.parts) (terms eqs h) made x.times x.label) ≡ Ok (Some now) → Grown n eqs facts t made now) [
      | true ↦ λ e q. let same : made ≡ now = cc in record { all = subst (λ l. All (Pair n eqs facts t) l) same a; few = rw (← same) (omega arith) }
      | false ↦ λ e q. grown_label n eqs facts t h g made now x.times x.label v a few (grind (arith, nat_tests)) q
    ]) refl k

then_written_is : (r : Result (Option (List Written)) TermError) (f : List Written → Result (Option (List Written)) TermError) (ws : List Written) → then_written r f ≡ Ok (Some ws) → (made : List Written) × (r ≡ Ok (Some made)) × (f made ≡ Ok (Some ws))
then_written_is (Err e) f ws h = absurd cc
then_written_is (Ok None) f ws h = absurd cc
then_written_is (Ok (Some made)) f ws h = (made, refl, h)

-- all terms
record AllGrown (n : ℕ) (eqs : List Solution) (facts : List Fact) (t : Form) (k : ℕ) (now : List Written) : Type 0 where
  all : All (Pair n eqs facts t) now
  few : length now ≤ k

grown_terms : (n : ℕ) (eqs : List Solution) (facts : List Fact) (t h g : Form) (made now : List Written) (hint : List HintTerm) → Env n eqs facts t h g → All (Pair n eqs facts t) made → All (λ x. x.times ≤ 2 ^ 20) hint → with_terms eqs facts (common 0 g.parts) (terms eqs h) made hint ≡ Ok (Some now) → AllGrown n eqs facts t (length made + length hint) now
grown_terms n eqs facts t h g made now [] v a few k = let same : made ≡ now = cc in record { all = subst (λ l. All (Pair n eqs facts t) l) same a; few = rw (← same) (omega arith) }
grown_terms n eqs facts t h g made now (x ∷ rest) v a few k =
    let s = then_written_is (with_term eqs facts (common 0 g.parts) (terms eqs h) made x) (λ l. with_terms eqs facts (common 0 g.parts) (terms eqs h) l rest) now k in
    let one = grown_term n eqs facts t h g made s.0 x v a (few 0 x (omega arith)) s.1 in
    let more = grown_terms n eqs facts t h g s.0 now rest v one.all (λ j z lt. few (suc j) z (omega arith)) s.2 in
    record { all = more.all; few = omega (arith, more.few, one.few) }

grown_goal : (n : ℕ) (eqs : List Solution) (facts : List Fact) (t h g : Form) (made now : List Written) (b : Bool) (k : ℕ) → Env n eqs facts t h g → AllGrown n eqs facts t k made → ◌≡◌ {A = Result (Option (List Written)) TermError} (Ok (Some (with_goal b (common 0 g.parts) (terms eqs h) made))) (Ok (Some now)) → AllGrown n eqs facts t (k + 1) now
grown_goal n eqs facts t h g made now true k v a q = let same : made ≡ now = cc in let few = a.few in record { all = subst (λ l. All (Pair n eqs facts t) l) same a.all; few = rw (← same) (omega (arith, few)) }
grown_goal n eqs facts t h g made now false k v a q =
    let same : made ++ goal_term 1 (common 0 g.parts) (terms eqs h) ∷ [] ≡ now = cc in
    let x = grown n eqs facts t made now (goal_term 1 (common 0 g.parts) (terms eqs h)) a.all (goal_pair n eqs facts t h g 1 v (omega arith) (omega arith)) same in
    record { all = x.all; few = omega (arith, x.few, a.few) }

all_grown : (n : ℕ) (eqs : List Solution) (facts : List Fact) (t h g : Form) (now : List Written) (hint : List HintTerm) → Env n eqs facts t h g → All (λ x. x.times ≤ 2 ^ 20) hint → all_written eqs facts (common 0 g.parts) (terms eqs h) hint ≡ Ok (Some now) → AllGrown n eqs facts t (length hint + 1) now
all_grown n eqs facts t h g now hint v few k =
    let s = then_written_is (with_terms eqs facts (common 0 g.parts) (terms eqs h) [] hint) (λ ws. Ok (Some (with_goal (writes_goal hint) (common 0 g.parts) (terms eqs h) ws))) now k in
    let a = grown_terms n eqs facts t h g [] s.0 hint v (All-nil (Pair n eqs facts t)) few s.1 in
    let none : 0 + length hint ≡ length hint = omega arith in
    let b = subst (λ (j : ℕ). AllGrown n eqs facts t j s.0) none a in
    grown_goal n eqs facts t h g s.0 now (writes_goal hint) (length hint) v b s.2

first_is : (a b : Bool) → (a ≡ true → b ≡ true) → a && b ≡ a
first_is true b h = h refl
first_is false b h = refl

written_rule : (eqs : List Solution) (facts : List Fact) (atoms : ℕ) (t : Form) (r : Result (Option (List Written)) TermError) → ((ws : List Written) → r ≡ Ok (Some ws) → adds_up eqs facts atoms t ws ≡ true → is_certificate eqs facts t (items_of ws) atoms ≡ true) → judged eqs facts atoms t r ≡ of_written eqs facts atoms t r
written_rule eqs facts atoms t (Err e) h = refl
written_rule eqs facts atoms t (Ok None) h = refl
written_rule eqs facts atoms t (Ok (Some ws)) h = ap (λ b. Ok (told b (items_of ws))) (first_is (adds_up eqs facts atoms t ws) (is_certificate eqs facts t (items_of ws) atoms) (h ws refl))

-- what is known of the facts and the duty
record Asked (facts : List Fact) (atoms : ℕ) (t : Form) (hint : List HintTerm) : Type 0 where
  are : All IsFact facts
  facts_in : AllWithin (atoms + 1) facts
  goal : IsForm t
  goal_in : Within (atoms + 1) t
  times : All (λ x. x.times ≤ 2 ^ 20) hint
  few : length hint ≤ 2 ^ 24

env_of : (eqs : List Solution) (facts : List Fact) (atoms : ℕ) (t h g : Form) (hint : List HintTerm) → Asked facts atoms t hint → solved facts ≡ Ok eqs → plus one_form (negsuc 0) t ≡ Ok h → reduced eqs h ≡ Ok g → Env atoms eqs facts t h g
env_of eqs facts atoms t h g hint a s p q =
    let made : Result Eqs TermError = Ok (record { solved = eqs }) in
    record { named = solved_named facts made s; solved_are = solved_forms facts made a.are s; eqs_in = solved_within facts made s (atoms + 1) a.facts_in; are = a.are; facts_in = a.facts_in; goal = a.goal; goal_in = a.goal_in; negated = p; leads = q }

reduced_rule : (eqs : List Solution) (facts : List Fact) (atoms : ℕ) (t h : Form) (hint : List HintTerm) (r : Result Form TermError) → Asked facts atoms t hint → solved facts ≡ Ok eqs → plus one_form (negsuc 0) t ≡ Ok h → reduced eqs h ≡ r → by_reduced eqs facts atoms t hint (terms eqs h) r ≡ of_reduced eqs facts atoms t hint (terms eqs h) r
reduced_rule eqs facts atoms t h hint (Err e) a s p q = refl
reduced_rule eqs facts atoms t h hint (Ok g) a s p q =
    written_rule eqs facts atoms t (all_written eqs facts (common 0 g.parts) (terms eqs h) hint) (λ ws w c.
    let v = env_of eqs facts atoms t h g hint a s p q in
    let x = all_grown atoms eqs facts t h g ws hint v a.times w in
    hint_closes atoms eqs facts t ws x.all (omega (arith, x.few, a.few)) c)

negated_rule : (eqs : List Solution) (facts : List Fact) (atoms : ℕ) (t : Form) (hint : List HintTerm) (r : Result Form TermError) → Asked facts atoms t hint → solved facts ≡ Ok eqs → plus one_form (negsuc 0) t ≡ r → by_negated eqs facts atoms t hint r ≡ of_negated eqs facts atoms t hint r
negated_rule eqs facts atoms t hint (Err e) a s p = refl
negated_rule eqs facts atoms t hint (Ok h) a s p = reduced_rule eqs facts atoms t h hint (reduced eqs h) a s p refl

solved_rule : (facts : List Fact) (atoms : ℕ) (t : Form) (hint : List HintTerm) (r : Result (List Solution) TermError) → Asked facts atoms t hint → solved facts ≡ r → by_solved r facts atoms t hint ≡ of_solved r facts atoms t hint
solved_rule facts atoms t hint (Err e) a s = refl
solved_rule facts atoms t hint (Ok eqs) a s = negated_rule eqs facts atoms t hint (plus one_form (negsuc 0) t) a s refl

labels_rule : (facts : List Fact) (atoms : ℕ) (t : Form) (hint : List HintTerm) (b : Bool) → Asked facts atoms t hint → by_labels b facts atoms t hint ≡ of_labels b facts atoms t hint
labels_rule facts atoms t hint true a = solved_rule facts atoms t hint (solved facts) a refl
labels_rule facts atoms t hint false a = refl

goal_rule : (facts : List Fact) (atoms : ℕ) (goal : Goal) (hint : List HintTerm) → All IsFact facts → IsGoal goal → AllWithin (atoms + 1) facts → GoalWithin (atoms + 1) goal → All (λ x. x.times ≤ 2 ^ 20) hint → length hint ≤ 2 ^ 24 → for_goal facts atoms goal hint ≡ of_goal facts atoms goal hint
goal_rule facts atoms (Plain Zero t) hint p q w wg times few = refl
goal_rule facts atoms (Plain Below t) hint p q w wg times few = labels_rule facts atoms t hint (are_known facts hint) (record { are = p; facts_in = w; goal = q; goal_in = wg; times = times; few = few })
goal_rule facts atoms (Plain Differs t) hint p q w wg times few = refl
goal_rule facts atoms (Truth b t) hint p q w wg times few = refl
goal_rule facts atoms (Both a b) hint p q w wg times few = refl
goal_rule facts atoms (Either a b) hint p q w wg times few = refl
goal_rule facts atoms (When g e) hint p q w wg times few = refl

unless_rule : (facts : List Fact) (atoms : ℕ) (goal : Goal) (hint : List HintTerm) (o : Option Hinted) → past hint 0 ≡ o → All IsFact facts → IsGoal goal → AllWithin (atoms + 1) facts → GoalWithin (atoms + 1) goal → length hint ≤ 2 ^ 24 → unless_past o (for_goal facts atoms goal hint) ≡ unless_past o (of_goal facts atoms goal hint)
unless_rule facts atoms goal hint (Some x) e p q w wg few = refl
unless_rule facts atoms goal hint None e p q w wg few = goal_rule facts atoms goal hint p q w wg (past_small hint 0 e) few

pub hint_rule : (facts : List Fact) (atoms : ℕ) (goal : Goal) (hint : List HintTerm) (r : Result Hinted TermError) → All IsFact facts → IsGoal goal → AllWithin (atoms + 1) facts → GoalWithin (atoms + 1) goal → Hints r (hinted facts atoms goal hint) → length hint ≤ 2 ^ 24 → Hints r (by_rule facts atoms goal hint)
hint_rule facts atoms goal hint r p q w wg h few = subst (λ x. Hints r x) (unless_rule facts atoms goal hint (past hint 0) refl p q w wg few) h
