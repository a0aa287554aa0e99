-- What is assumed is met where the duty, or its negation, is so.
use Rattle.std.proofs.Common.{◌≡◌, ℕ, ◌≤◌, ◌<◌, ◌+◌, ◌^◌, All, unsigned_abs, ℤ, pos, negsuc, ◌+ℤ◌, ◌*ℤ◌, Bool, true, false, nat_lt, cond, List, [], ◌∷◌, ◌++◌, length, Option, Some, None, Result, Ok, Err, OnOk, refl, subst, arith}
use Rattle.std.proofs.lemmas.Int.{ints}
use Rattle.std.proofs.lemmas.List.{length-append}
use Rattle.std.proofs.lemmas.Bool.Decides.{nat_tests}
use Rattle.std.proofs.lemmas.List.Elements.{All-append, All-cons, All-nil}
use lib.IntN.{pred_ℤ-*ℤ, zero-*ℤ}
use Rattle.pl_forms.specs.declared.form.Form.{Form}
use Rattle.pl_forms.specs.declared.form.TermError.{TermError}
use Rattle.pl_forms.specs.declared.fact.Shape.{Shape}
use Rattle.pl_forms.specs.declared.fact.Shape.TheVariants.{Zero, Below, Differs}
use Rattle.pl_forms.specs.declared.fact.Fact.{Fact}
use Rattle.pl_forms.specs.Forms.{value, IsForm}
use Rattle.pl_forms.specs.Facts.{MeetsGuard, MeetsShape, Meets, MeetsAll, IsGuard, IsFact}
use Rattle.pl_forms.specs.Goals.{Goal, Truth, Plain, Both, Either, When, MissesShape, IsTruth, Says, EachForm, IsGoal, GoalWithin}
use Rattle.pl_forms.specs.Assuming.{one_form, less_one, one_less, with_fact, with_form, with_truth, with_opposite, then_facts, turned, assumed, Assumes, KeepsMet, KeepsWithin}
use Rattle.pl_forms.specs.Places.{Within, AllWithin}
use Rattle.pl_forms.proofs.FormSteps.{plus_value, plus_form}
use Rattle.pl_forms.proofs.PlaceLaws.{plus_within}

met_more : (v : ℕ → ℤ) (facts : List Fact) (f : Fact) → MeetsAll v facts → Meets v f → MeetsAll v (with_fact facts f)
met_more v facts f m h =
    elim (nat_lt (length facts) 1024) as (λ b. MeetsAll v (cond b (facts ++ f ∷ []) facts)) [ true ↦ All-append (Meets v) facts (f ∷ []) m (All-cons (Meets v) f [] h (All-nil (Meets v))) | false ↦ m ]

met_form : (v : ℕ → ℤ) (facts : List Fact) (l : Option (List ℕ)) (g : Option Form) (s : Shape) (r : Result Form TermError) (now : List Fact) → MeetsAll v facts → ((f : Form) → r ≡ Ok f → MeetsGuard v g → MeetsShape v s f) → with_form facts l g s r ≡ Ok now → MeetsAll v now
met_form v facts l g s (Err e) now m h q = absurd cc
met_form v facts l g s (Ok f) now m h q =
    let same : with_fact facts (record { label = l; guard = g; shape = s; form = f }) ≡ now = cc in
    subst (MeetsAll v) same (met_more v facts (record { label = l; guard = g; shape = s; form = f }) m (record { said = λ k. h f refl_of k }))
  where
    refl_of : ◌≡◌ {A = Result Form TermError} (Ok f) (Ok f)
    refl_of = refl

minus_time : (z : ℤ) → (negsuc 0 *ℤ z) +ℤ z ≡ pos 0
minus_time z = omega (arith, ints, pred_ℤ-*ℤ (pos 0) z, zero-*ℤ z)

pub less_value : (v : ℕ → ℤ) (b f : Form) → less_one b ≡ Ok f → value v f +ℤ pos 1 ≡ value v b
less_value v b f h = omega (arith, ints, plus_value b one_form (negsuc 0) (Ok f) h v, minus_time (value v one_form))

pub rest_value : (v : ℕ → ℤ) (b f : Form) → one_less b ≡ Ok f → value v f +ℤ value v b ≡ pos 1
rest_value v b f h = omega (arith, ints, plus_value one_form b (negsuc 0) (Ok f) h v, minus_time (value v b))

truth_met : (v : ℕ → ℤ) (facts : List Fact) (l : Option (List ℕ)) (g : Option Form) (b : Form) (t : Bool) (now : List Fact) → MeetsAll v facts → (MeetsGuard v g → IsTruth v b t) → with_truth facts l g b t ≡ Ok now → MeetsAll v now
truth_met v facts l g b true now m h q = met_form v facts l g Zero (less_one b) now m (λ f e k. omega (arith, ints, less_value v b f e, h k)) q
truth_met v facts l g b false now m h q = met_form v facts l g Zero (Ok b) now m (λ f e k. let same : b ≡ f = cc in subst (λ x. value v x ≡ pos 0) same (h k)) q

opposite_met : (v : ℕ → ℤ) (facts : List Fact) (l : Option (List ℕ)) (g : Option Form) (s : Shape) (f : Form) (now : List Fact) → MeetsAll v facts → (MeetsGuard v g → MissesShape v s f) → with_opposite facts l g s f ≡ Ok now → MeetsAll v now
opposite_met v facts l g Zero f now m h q = met_form v facts l g Differs (Ok f) now m (λ x e k. let same : f ≡ x = cc in subst (MeetsShape v Differs) same (h k)) q
opposite_met v facts l g Below f now m h q = met_form v facts l g Below (one_less f) now m (λ x e k. omega (arith, ints, rest_value v f x e, h k)) q
opposite_met v facts l g Differs f now m h q = met_form v facts l g Zero (Ok f) now m (λ x e k. let same : f ≡ x = cc in subst (MeetsShape v Zero) same (h k)) q

turned_truth : (v : ℕ → ℤ) (b : Form) (t h : Bool) → Says v (Truth b t) h → IsTruth v b (turned h t)
turned_truth v b true true s = s
turned_truth v b true false s = s
turned_truth v b false true s = s
turned_truth v b false false s = s

same_facts : (xs ys : List Fact) → ◌≡◌ {A = Result (List Fact) TermError} (Ok xs) (Ok ys) → xs ≡ ys
same_facts xs ys e = cc

then_facts_is : (r : Result (List Fact) TermError) (f : List Fact → Result (List Fact) TermError) (now : List Fact) → then_facts r f ≡ Ok now → (mid : List Fact) × (r ≡ Ok mid) × (f mid ≡ Ok now)
then_facts_is (Err e) f now h = absurd cc
then_facts_is (Ok mid) f now h = (mid, refl, h)

pub assumed_met : (v : ℕ → ℤ) (facts : List Fact) (l : Option (List ℕ)) (g : Option Form) (goal : Goal) (h : Bool) (now : List Fact) → MeetsAll v facts → (MeetsGuard v g → Says v goal h) → assumed facts l g goal h ≡ Ok now → MeetsAll v now
assumed_met v facts l g (Truth b t) h now m s q = truth_met v facts l g b (turned h t) now m (λ k. turned_truth v b t h (s k)) q
assumed_met v facts l g (Plain shape f) true now m s q = met_form v facts l g shape (Ok f) now m (λ x e k. let same : f ≡ x = cc in subst (MeetsShape v shape) same (s k)) q
assumed_met v facts l g (Plain shape f) false now m s q = opposite_met v facts l g shape f now m s q
assumed_met v facts l g (Both a b) true now m s q =
    let t = then_facts_is (assumed facts l g a true) (λ mid. assumed mid l g b true) now q in
    assumed_met v t.0 l g b true now (assumed_met v facts l g a true t.0 m (λ k. (s k).0) t.1) (λ k. (s k).1) t.2
assumed_met v facts l g (Both a b) false now m s q = subst (MeetsAll v) (same_facts facts now q) m
assumed_met v facts l g (Either a b) true now m s q = subst (MeetsAll v) (same_facts facts now q) m
assumed_met v facts l g (Either a b) false now m s q =
    let t = then_facts_is (assumed facts l g a false) (λ mid. assumed mid l g b false) now q in
    assumed_met v t.0 l g b false now (assumed_met v facts l g a false t.0 m (λ k. (s k).0) t.1) (λ k. (s k).1) t.2
assumed_met v facts l None (When k e) true now m s q = assumed_met v facts l (Some k) e true now m (λ met. s tt met) q
assumed_met v facts l (Some g) (When k e) true now m s q = subst (MeetsAll v) (same_facts facts now q) m
assumed_met v facts l None (When k e) false now m s q = subst (MeetsAll v) (same_facts facts now q) m
assumed_met v facts l (Some g) (When k e) false now m s q = subst (MeetsAll v) (same_facts facts now q) m

-- .. of the answer
pub assumes_met : (facts now : List Fact) (l : Option (List ℕ)) (goal : Goal) (h : Bool) (r : Result (Unit {0}) TermError) → Assumes r now (assumed facts l None goal h) → OnOk r (KeepsMet facts now goal h)
assumes_met facts now l goal h (Ok u) a = record { kept = λ v m s. assumed_met v facts l None goal h now m (λ k. s) a }
assumes_met facts now l goal h (Err e) a = tt

-- what is kept by each fact that may be added is kept
pub assumed_keeps :
    (P : List Fact → Type 0) (G : Form → Type 0) (H : Option Form → Type 0)
    → ((facts : List Fact) (f : Fact) → P facts → H f.guard → G f.form → P (with_fact facts f))
    → ((b f : Form) → G b → less_one b ≡ Ok f → G f) → ((b f : Form) → G b → one_less b ≡ Ok f → G f) → ((k : Form) → G k → H (Some k))
    → (facts : List Fact) (l : Option (List ℕ)) (g : Option Form) (goal : Goal) (h : Bool) (now : List Fact) → P facts → H g → EachForm G goal → assumed facts l g goal h ≡ Ok now → P now
assumed_keeps P G H more less rest under facts l g goal h now p k e q = go goal facts g h now p k e q
  where
    one : (facts : List Fact) (g : Option Form) (s : Shape) (r : Result Form TermError) (now : List Fact) → P facts → H g → ((f : Form) → r ≡ Ok f → G f) → with_form facts l g s r ≡ Ok now → P now
    one facts g s (Err e) now p k h q = absurd cc
    one facts g s (Ok f) now p k h q =
        let same : with_fact facts (record { label = l; guard = g; shape = s; form = f }) ≡ now = cc in
        subst P same (more facts (record { label = l; guard = g; shape = s; form = f }) p k (h f refl))

    itself : (b f : Form) → G b → ◌≡◌ {A = Result Form TermError} (Ok b) (Ok f) → G f
    itself b f p e = let same : b ≡ f = cc in subst G same p

    truth : (facts : List Fact) (g : Option Form) (b : Form) (t : Bool) (now : List Fact) → P facts → H g → G b → with_truth facts l g b t ≡ Ok now → P now
    truth facts g b true now p k e q = one facts g Zero (less_one b) now p k (λ f r. less b f e r) q
    truth facts g b false now p k e q = one facts g Zero (Ok b) now p k (λ f r. itself b f e r) q

    turned_over : (facts : List Fact) (g : Option Form) (s : Shape) (f : Form) (now : List Fact) → P facts → H g → G f → with_opposite facts l g s f ≡ Ok now → P now
    turned_over facts g Zero f now p k e q = one facts g Differs (Ok f) now p k (λ x r. itself f x e r) q
    turned_over facts g Below f now p k e q = one facts g Below (one_less f) now p k (λ x r. rest f x e r) q
    turned_over facts g Differs f now p k e q = one facts g Zero (Ok f) now p k (λ x r. itself f x e r) q

    go : (goal : Goal) (facts : List Fact) (g : Option Form) (h : Bool) (now : List Fact) → P facts → H g → EachForm G goal → assumed facts l g goal h ≡ Ok now → P now
    go (Truth b t) facts g h now p k e q = truth facts g b (turned h t) now p k e q
    go (Plain s f) facts g true now p k e q = one facts g s (Ok f) now p k (λ x r. itself f x e r) q
    go (Plain s f) facts g false now p k e q = turned_over facts g s f now p k e q
    go (Both a b) facts g true now p k e q =
        let t = then_facts_is (assumed facts l g a true) (λ mid. assumed mid l g b true) now q in
        go b t.0 g true now (go a facts g true t.0 p k e.0 t.1) k e.1 t.2
    go (Both a b) facts g false now p k e q = subst P (same_facts facts now q) p
    go (Either a b) facts g true now p k e q = subst P (same_facts facts now q) p
    go (Either a b) facts g false now p k e q =
        let t = then_facts_is (assumed facts l g a false) (λ mid. assumed mid l g b false) now q in
        go b t.0 g false now (go a facts g false t.0 p k e.0 t.1) k e.1 t.2
    go (When c e) facts None true now p k f q = go e facts (Some c) true now p (under c f.0) f.1 q
    go (When c e) facts (Some d) true now p k f q = subst P (same_facts facts now q) p
    go (When c e) facts None false now p k f q = subst P (same_facts facts now q) p
    go (When c e) facts (Some d) false now p k f q = subst P (same_facts facts now q) p

pub one_is : IsForm one_form
one_is = record { ascends = tt; small = All-nil (λ p. unsigned_abs p.coeff ≤ 2 ^ 40); bounded = omega arith }

pub less_form : (b f : Form) → IsForm b → less_one b ≡ Ok f → IsForm f
less_form b f p h = plus_form b one_form (negsuc 0) (Ok f) (λ e. absurd cc) p one_is h

pub rest_form : (b f : Form) → IsForm b → one_less b ≡ Ok f → IsForm f
rest_form b f p h = plus_form one_form b (negsuc 0) (Ok f) (λ e. absurd cc) one_is p h

pub fact_more : (facts : List Fact) (f : Fact) → All IsFact facts → IsGuard f.guard → IsForm f.form → All IsFact (with_fact facts f)
fact_more facts f p g h =
    elim (nat_lt (length facts) 1024) as (λ b. All IsFact (cond b (facts ++ f ∷ []) facts)) [ true ↦ All-append IsFact facts (f ∷ []) p (All-cons IsFact f [] (record { guard = g; form = h }) (All-nil IsFact)) | false ↦ p ]

pub assumed_forms : (facts : List Fact) (l : Option (List ℕ)) (g : Option Form) (goal : Goal) (h : Bool) (now : List Fact) → All IsFact facts → IsGuard g → IsGoal goal → assumed facts l g goal h ≡ Ok now → All IsFact now
assumed_forms facts l g goal h now p k e q = assumed_keeps (All IsFact) IsForm IsGuard fact_more less_form rest_form (λ k f. f) facts l g goal h now p k e q

pub few_more : (facts : List Fact) (f : Fact) → length facts ≤ 1024 → length (with_fact facts f) ≤ 1024
few_more facts f p =
    (elim (nat_lt (length facts) 1024) as (λ b. nat_lt (length facts) 1024 ≡ b → length (cond b (facts ++ f ∷ []) facts) ≤ 1024) [ true ↦ λ e. let lt : length facts < 1024 = grind (arith, nat_tests) in omega (arith, length-append facts (f ∷ [])) | false ↦ λ e. p ]) refl

pub assumed_few : (facts : List Fact) (l : Option (List ℕ)) (g : Option Form) (goal : Goal) (h : Bool) (now : List Fact) → length facts ≤ 1024 → assumed facts l g goal h ≡ Ok now → length now ≤ 1024
assumed_few facts l g goal h now p q = assumed_keeps (λ fs. length fs ≤ 1024) (λ f. Unit {0}) (λ g. Unit {0}) (λ fs f k g e. few_more fs f k) (λ b f p e. tt) (λ b f p e. tt) (λ k f. tt) facts l g goal h now p tt (no_forms goal) q
  where
    no_forms : (goal : Goal) → EachForm (λ f. Unit {0}) goal
    no_forms (Truth b t) = tt
    no_forms (Plain s f) = tt
    no_forms (Both a b) = (no_forms a, no_forms b)
    no_forms (Either a b) = (no_forms a, no_forms b)
    no_forms (When k e) = (tt, no_forms e)

pub one_within : (n : ℕ) → Within n one_form
one_within n = All-nil (λ p. p.atom + 1 < n)

within_more : (n : ℕ) (facts : List Fact) (f : Fact) → AllWithin n facts → Within n f.form → AllWithin n (with_fact facts f)
within_more n facts f p h =
    elim (nat_lt (length facts) 1024) as (λ b. AllWithin n (cond b (facts ++ f ∷ []) facts)) [ true ↦ All-append (λ f. Within n f.form) facts (f ∷ []) p (All-cons (λ f. Within n f.form) f [] h (All-nil (λ f. Within n f.form))) | false ↦ p ]

assumed_within : (n : ℕ) (facts : List Fact) (l : Option (List ℕ)) (goal : Goal) (h : Bool) (now : List Fact) → AllWithin n facts → GoalWithin n goal → assumed facts l None goal h ≡ Ok now → AllWithin n now
assumed_within n facts l goal h now p e q =
    assumed_keeps (AllWithin n) (Within n) (λ g. Unit {0}) (λ fs f k g w. within_more n fs f k w) (λ b f w e. plus_within n b one_form f (negsuc 0) w (one_within n) e) (λ b f w e. plus_within n one_form b f (negsuc 0) (one_within n) w e) (λ k f. tt) facts l None goal h now p tt e q

pub assumes_within : (facts now : List Fact) (l : Option (List ℕ)) (goal : Goal) (h : Bool) (r : Result (Unit {0}) TermError) → Assumes r now (assumed facts l None goal h) → OnOk r (KeepsWithin facts now goal)
assumes_within facts now l goal h (Ok u) a = record { kept = λ n w e. assumed_within n facts l goal h now w e a }
assumes_within facts now l goal h (Err e) a = tt

pub assumes_forms : (facts now : List Fact) (l : Option (List ℕ)) (g : Option Form) (goal : Goal) (h : Bool) (r : Result (Unit {0}) TermError) → All IsFact facts → IsGuard g → IsGoal goal → Assumes r now (assumed facts l g goal h) → OnOk r (All IsFact now)
assumes_forms facts now l g goal h (Ok u) p k e a = assumed_forms facts l g goal h now p k e a
assumes_forms facts now l g goal h (Err x) p k e a = tt

pub assumes_few : (facts now : List Fact) (l : Option (List ℕ)) (g : Option Form) (goal : Goal) (h : Bool) (r : Result (Unit {0}) TermError) → length facts ≤ 1024 → Assumes r now (assumed facts l g goal h) → OnOk r (length now ≤ 1024)
assumes_few facts now l g goal h (Ok u) p a = assumed_few facts l g goal h now p a
assumes_few facts now l g goal h (Err x) p a = tt
