-- What is done is so: whole numbers that meet the facts and the negation would give numbers for the nodes that meet all inequalities.
use Rattle.std.proofs.Common.{◌≡◌, ◌≢◌, ℕ, suc, ◌<◌, ℤ, pos, negsuc, ◌+ℤ◌, ◌*ℤ◌, ◌≤ℤ◌, int_div, int_eq, nat_eq, nat_lt, not, ◌&&◌, Bool, true, false, cond, List, [], ◌∷◌, ◌++◌, map, length, Option, Some, None, Result, Ok, Err, refl, ap, sym, subst, ◌∙◌, arith, All, inl, inr}
use Rattle.std.proofs.lemmas.Int.{ints, by_lt_z}
use Rattle.std.proofs.lemmas.Bool.{ltb-true, eqb-true}
use Rattle.std.proofs.lemmas.List.Elements.{All-cons, All-nil, All-append}
use lib.IntN.{pred_ℤ-*ℤ, zero-*ℤ, *ℤ-zero}
use Rattle.pl_forms.specs.declared.form.Part.{Part}
use Rattle.pl_forms.specs.declared.form.Form.{Form}
use Rattle.pl_forms.specs.declared.form.TermError.{TermError}
use Rattle.pl_forms.specs.declared.fact.Shape.{Shape}
use Rattle.pl_forms.specs.declared.fact.Shape.TheVariants.{Zero, Below, Differs}
use Rattle.pl_forms.specs.declared.fact.Fact.{Fact}
use Rattle.pl_forms.specs.declared.equation.Solution.{Solution}
use Rattle.pl_forms.specs.declared.equation.Eqs.{Eqs}
use Rattle.pl_forms.specs.Forms.{value, parts_value}
use Rattle.pl_forms.specs.Facts.{MeetsShape, Meets, MeetsAll}
use Rattle.pl_forms.specs.Steps.{plus}
use Rattle.pl_forms.specs.Equations.{MeetsSolved, then_form, reduced, counted}
use Rattle.pl_forms.specs.Rows.{ceil_div}
use Rattle.pl_forms.specs.Tightening.{common, divided, tight_form}
use Rattle.pl_forms.specs.Solving.{solved}
use Rattle.pl_forms.specs.Goals.{Goal, Truth, Plain, Both, Either, When, Says}
use Rattle.pl_forms.specs.Assuming.{less_one, assumed}
use Rattle.pl_forms.proofs.FormSteps.{plus_value}
use Rattle.pl_forms.proofs.Products.{mul-add, mul-assoc}
use Rattle.pl_forms.proofs.Divisors.{Each, more as divides, all_divided}
use Rattle.pl_forms.proofs.RowValues.{exact, ceil_law}
use Rattle.pl_forms.proofs.Tightness.{common_is}
use Rattle.pl_forms.proofs.Reducing.{then_is, reduced_value, counted_meets}
use Rattle.pl_forms.proofs.SolvingLaws.{solved_follow}
use Rattle.pl_forms.proofs.AssumingLaws.{assumed_met, less_value}
use Rattle.pl_linear.specs.Duty.{one_form, opposite_form, inequalities, with_inequalities, when_counted, look, then_forms, look_all, tightly, negation, with_negation, asked, asked_by, MeetsForm}
use Rattle.pl_linear.specs.Nodes.{same_parts}
use Rattle.pl_linear.specs.Decisions.{Outcome, done, Becomes, Then, is_nought, UnlessDone, EqualBy, is_apart, same_form, sign_of, differing, with_zero, Matched, DiffersBy, ByShape, BySolved, IsPlain, OfForm, Where, Leads}
use Rattle.pl_linear.specs.declared.differing.Match.{Match}
use Rattle.pl_linear.proofs.Splitting.{split_law, minus_value}
use Rattle.pl_linear.proofs.Numbers.{parts_are}
use Rattle.pl_linear.proofs.CertificateLaws.{got}
use Rattle.pl_linear.proofs.Matching.{match_is}

divided_value : (v : ℕ → ℤ) (g : ℕ) (ps : List Part) → 0 < g → Each g (map (λ p. p.coeff) ps) → pos g *ℤ parts_value v (map (divided g) ps) ≡ parts_value v ps
divided_value v g [] h e = *ℤ-zero (pos g)
divided_value v g (p ∷ ps) h (divides d e) =
    omega (arith, ints, mul-add (pos g) (int_div p.coeff (pos g) *ℤ v p.atom) (parts_value v (map (divided g) ps)), divided_value v g ps h e, sym (mul-assoc (pos g) (int_div p.coeff (pos g)) (v p.atom)) ∙ ap (λ z. z *ℤ v p.atom) (exact g p.coeff h d))

-- a form that is at most 0 is so once it is tightened
pub tight_low : (v : ℕ → ℤ) (f : Form) → value v f ≤ℤ pos 0 → value v (tight_form f) ≤ℤ pos 0
tight_low v f h =
    (elim (nat_lt 1 (common 0 f.parts)) as (λ b. nat_lt 1 (common 0 f.parts) ≡ b → value v (cond b (record { parts = map (divided (common 0 f.parts)) f.parts; constant = ceil_div f.constant (common 0 f.parts) }) f) ≤ℤ pos 0) [
      | true ↦ λ e.
          let g = common 0 f.parts in
          let big : 1 < common 0 f.parts = ltb-true 1 (common 0 f.parts) e in
          let each : Each (common 0 f.parts) (map (λ p. p.coeff) f.parts) = rw (common_is 0 f.parts) (all_divided 0 (map (λ p. p.coeff) f.parts)) in
          let q = divided_value v g f.parts (omega arith) each in
          ceil_law g (parts_value v (map (divided g) f.parts)) f.constant (omega arith) (omega (arith, ints, q))
      | false ↦ λ e. h
    ]) refl

pub opposite_value : (v : ℕ → ℤ) (f : Form) → value v (opposite_form f) +ℤ value v f ≡ pos 0
opposite_value v f = omega (arith, ints, minus_value v f.parts)

-- all are at most 0 at these whole numbers
abbrev Low : (ℕ → ℤ) → List Form → Type 0
Low v fs = All (λ f. value v f ≤ℤ pos 0) fs

low_by : (v : ℕ → ℤ) (s : Shape) (g : Form) → MeetsShape v s g → Low v (inequalities s g)
low_by v Zero g h = All-cons (λ f. value v f ≤ℤ pos 0) (tight_form g) (tight_form (opposite_form g) ∷ []) (tight_low v g (omega (arith, ints, h))) (All-cons (λ f. value v f ≤ℤ pos 0) (tight_form (opposite_form g)) [] (tight_low v (opposite_form g) (omega (arith, ints, h, opposite_value v g))) (All-nil (λ f. value v f ≤ℤ pos 0)))
low_by v Below g h = All-cons (λ f. value v f ≤ℤ pos 0) (tight_form g) [] (tight_low v g h) (All-nil (λ f. value v f ≤ℤ pos 0))
low_by v Differs g h = All-nil (λ f. value v f ≤ℤ pos 0)

-- what is said of a form is said of one with the same value
same_meets : (v : ℕ → ℤ) (s : Shape) (f g : Form) → value v g ≡ value v f → MeetsShape v s f → MeetsShape v s g
same_meets v Zero f g e h = e ∙ h
same_meets v Below f g e h = rw e h
same_meets v Differs f g e h = λ q. h (sym e ∙ q)

low_with : (v : ℕ → ℤ) (made now : List Form) (s : Shape) (f : Form) (r : Result Form TermError) → ((g : Form) → r ≡ Ok g → value v g ≡ value v f) → Low v made → MeetsShape v s f → with_inequalities made s r ≡ Ok now → Low v now
low_with v made now s f (Err e) same low h q = absurd cc
low_with v made now s f (Ok g) same low h q =
    let is : made ++ inequalities s g ≡ now = cc in
    rw (← is) (All-append (λ x. value v x ≤ℤ pos 0) made (inequalities s g) low (low_by v s g (same_meets v s f g (same g refl) h)))

low_counted : (v : ℕ → ℤ) (eqs : List Solution) (made now : List Form) (s : Shape) (f : Fact) (r : Result Bool TermError) → counted eqs f.guard ≡ r → f.shape ≡ s → MeetsSolved v eqs → Meets v f → Low v made → when_counted eqs made s f.form r ≡ Ok now → Low v now
low_counted v eqs made now s f (Err e) c k ms m low q = absurd cc
low_counted v eqs made now s f (Ok false) c k ms m low q = let is : made ≡ now = cc in rw (← is) low
low_counted v eqs made now s f (Ok true) c k ms m low q =
    let said : MeetsShape v s f.form = subst (λ x. MeetsShape v x f.form) k (m.said (counted_meets v eqs f.guard ms c)) in
    low_with v made now s f.form (reduced eqs f.form) (λ g e. reduced_value v eqs f.form g ms e) low said q

low_look : (v : ℕ → ℤ) (eqs : List Solution) (made now : List Form) (s : Shape) (f : Fact) → f.shape ≡ s → MeetsSolved v eqs → Meets v f → Low v made → look eqs made s f ≡ Ok now → Low v now
low_look v eqs made now Zero f k ms m low q = low_counted v eqs made now Zero f (counted eqs f.guard) refl k ms m low q
low_look v eqs made now Below f k ms m low q = low_counted v eqs made now Below f (counted eqs f.guard) refl k ms m low q
low_look v eqs made now Differs f k ms m low q = let is : made ≡ now = cc in rw (← is) low

pub then_forms_is : (r : Result (List Form) TermError) (f : List Form → Result (List Form) TermError) (now : List Form) → then_forms r f ≡ Ok now → (mid : List Form) × (r ≡ Ok mid) × (f mid ≡ Ok now)
then_forms_is (Err e) f now h = absurd cc
then_forms_is (Ok mid) f now h = (mid, refl, h)

low_all : (v : ℕ → ℤ) (eqs : List Solution) (made now : List Form) (facts : List Fact) → MeetsSolved v eqs → MeetsAll v facts → Low v made → look_all eqs made facts ≡ Ok now → Low v now
low_all v eqs made now [] ms m low q = let is : made ≡ now = cc in rw (← is) low
low_all v eqs made now (f ∷ fs) ms m low q =
    let t = then_forms_is (look eqs made f.shape f) (λ x. look_all eqs x fs) now q in
    low_all v eqs t.0 now fs ms (λ k z lt. m (suc k) z (omega arith)) (low_look v eqs made t.0 f.shape f refl ms (m 0 f (omega arith)) low t.1) t.2

minus_time : (z : ℤ) → (negsuc 0 *ℤ z) +ℤ z ≡ pos 0
minus_time z = omega (arith, ints, pred_ℤ-*ℤ (pos 0) z, zero-*ℤ z)

-- 1 less a form
pub negated_value : (v : ℕ → ℤ) (t h : Form) → plus one_form (negsuc 0) t ≡ Ok h → value v h +ℤ value v t ≡ pos 1
negated_value v t h q = omega (arith, ints, plus_value one_form t (negsuc 0) (Ok h) q v, minus_time (value v t))

tightly_is : (r : Result Form TermError) (g : Form) → tightly r ≡ Ok g → (h : Form) × (r ≡ Ok h) × (g ≡ tight_form h)
tightly_is (Err e) g h = absurd cc
tightly_is (Ok k) g h = (k, refl, cc)

low_negation : (v : ℕ → ℤ) (eqs : List Solution) (t g : Form) → MeetsSolved v eqs → pos 1 ≤ℤ value v t → negation eqs t ≡ Ok g → value v g ≤ℤ pos 0
low_negation v eqs t g ms high q =
    let k = tightly_is (then_form (plus one_form (negsuc 0) t) (λ f. reduced eqs f)) g q in
    let n = then_is (plus one_form (negsuc 0) t) (λ f. reduced eqs f) k.0 k.1 in
    let low : value v k.0 ≤ℤ pos 0 = omega (arith, ints, reduced_value v eqs n.0 k.0 ms n.2, negated_value v t n.0 n.1) in
    rw k.2 (tight_low v k.0 low)

low_asked : (v : ℕ → ℤ) (made fs : List Form) (r : Result Form TermError) → Low v made → ((g : Form) → r ≡ Ok g → value v g ≤ℤ pos 0) → with_negation made r ≡ Ok fs → Low v fs
low_asked v made fs (Err e) low h q = absurd cc
low_asked v made fs (Ok g) low h q =
    let is : made ++ g ∷ [] ≡ fs = cc in
    rw (← is) (All-append (λ x. value v x ≤ℤ pos 0) made (g ∷ []) low (All-cons (λ x. value v x ≤ℤ pos 0) g [] (h g refl) (All-nil (λ x. value v x ≤ℤ pos 0))))

-- numbers for the atoms give numbers for the nodes
node_low : (v : ℕ → ℤ) (f : Form) → value v f ≤ℤ pos 0 → MeetsForm (parts_value v) f
node_low v f h = omega (arith, ints, (split_law v f.parts).is)

nodes_low : (v : ℕ → ℤ) (fs : List Form) → Low v fs → All (MeetsForm (parts_value v)) fs
nodes_low v [] h = All-nil (MeetsForm (parts_value v))
nodes_low v (f ∷ fs) h = All-cons (MeetsForm (parts_value v)) f fs (node_low v f (h 0 f (omega arith))) (nodes_low v fs (λ k z lt. h (suc k) z (omega arith)))

below_done : (v : ℕ → ℤ) (eqs : List Solution) (facts : List Fact) (t : Form) (r : Result (List Form) TermError) → asked eqs facts t ≡ r → MeetsSolved v eqs → MeetsAll v facts → Becomes r done → value v t ≤ℤ pos 0
below_done v eqs facts t (Err e) a ms m h = absurd cc
below_done v eqs facts t (Ok fs) a ms m h =
    by_lt_z (pos 0) (value v t) (λ lt.
    let high : pos 1 ≤ℤ value v t = omega (arith, ints, lt) in
    let k = then_forms_is (look_all eqs [] facts) (λ made. with_negation made (negation eqs t)) fs a in
    let low = low_all v eqs [] k.0 facts ms m (All-nil (λ f. value v f ≤ℤ pos 0)) k.1 in
    let all = low_asked v k.0 fs (negation eqs t) low (λ g q. low_negation v eqs t g ms high q) k.2 in
    absurd (h (parts_value v) refl (nodes_low v fs all)))
    (λ le. le)

then_done : (P Q : Outcome → Type 0) → Then P Q done → P done × Q done
then_done P Q (inl x) = x
then_done P Q (inr x) = absurd x.1

and_parts : (a b : Bool) → a && b ≡ true → (a ≡ true) × (b ≡ true)
and_parts true b h = (refl, h)
and_parts false b h = absurd cc

no_parts : (v : ℕ → ℤ) (ps : List Part) → nat_eq (length ps) 0 ≡ true → parts_value v ps ≡ pos 0
no_parts v [] h = refl
no_parts v (p ∷ ps) h = let none : suc (length ps) ≡ 0 = eqb-true (suc (length ps)) 0 h in absurd (omega arith)

int_is : (c d : ℤ) → int_eq c d ≡ true → c ≡ d
int_is c d h = grind (arith, ints)

int_not : (c : ℤ) → not (int_eq c (pos 0)) ≡ true → c ≢ pos 0
int_not c h = grind (arith, ints)

nought_value : (v : ℕ → ℤ) (g : Form) → is_nought g ≡ true → value v g ≡ pos 0
nought_value v g h =
    let p = and_parts (nat_eq (length g.parts) 0) (int_eq g.constant (pos 0)) h in
    omega (arith, ints, no_parts v g.parts p.0, int_is g.constant (pos 0) p.1)

apart_value : (v : ℕ → ℤ) (g : Form) → is_apart g ≡ true → value v g ≢ pos 0
apart_value v g h =
    let p = and_parts (nat_eq (length g.parts) 0) (not (int_eq g.constant (pos 0))) h in
    λ e. int_not g.constant p.1 (omega (arith, ints, e, no_parts v g.parts p.0))

equal_done : (v : ℕ → ℤ) (eqs : List Solution) (facts : List Fact) (t : Form) (r : Result Form TermError) → reduced eqs t ≡ r → MeetsSolved v eqs → MeetsAll v facts → EqualBy r (Then (Becomes (asked eqs facts t)) (Becomes (asked eqs facts (opposite_form t)))) done → value v t ≡ pos 0
equal_done v eqs facts t (Err e) q ms m h = absurd cc
equal_done v eqs facts t (Ok g) q ms m h =
    (elim (is_nought g) as (λ b. is_nought g ≡ b → UnlessDone b (Then (Becomes (asked eqs facts t)) (Becomes (asked eqs facts (opposite_form t)))) done → value v t ≡ pos 0) [
      | true ↦ λ e k. sym (reduced_value v eqs t g ms q) ∙ nought_value v g e
      | false ↦ λ e k.
          let p = then_done (Becomes (asked eqs facts t)) (Becomes (asked eqs facts (opposite_form t))) k in
          let low = below_done v eqs facts t (asked eqs facts t) refl ms m p.0 in
          let high = below_done v eqs facts (opposite_form t) (asked eqs facts (opposite_form t)) refl ms m p.1 in
          omega (arith, ints, low, high, opposite_value v t)
    ]) refl h

same_value : (v : ℕ → ℤ) (f g : Form) → same_form f g ≡ true → value v f ≡ value v g
same_value v f g h =
    (elim (int_eq f.constant g.constant) as (λ b. int_eq f.constant g.constant ≡ b → cond b (same_parts f.parts g.parts) false ≡ true → value v f ≡ value v g) [
      | true ↦ λ e k. omega (arith, ints, int_is f.constant g.constant e, ap (parts_value v) (parts_are f.parts g.parts k))
      | false ↦ λ e k. absurd cc
    ]) refl h

-- the form is 0 only where the other is
sign_value : (v : ℕ → ℤ) (f g : Form) (b : Bool) → sign_of f g ≡ Some b → value v f ≡ pos 0 → value v g ≡ pos 0
sign_value v f g b h e =
    (elim (same_form f g) as (λ x. same_form f g ≡ x → cond x (Some true) (cond (same_form f (opposite_form g)) (Some false) None) ≡ Some b → value v g ≡ pos 0) [
      | true ↦ λ q k. sym (same_value v f g q) ∙ e
      | false ↦ λ q k. (elim (same_form f (opposite_form g)) as (λ y. same_form f (opposite_form g) ≡ y → cond y (Some false) None ≡ Some b → value v g ≡ pos 0) [
        | true ↦ λ r l. omega (arith, ints, same_value v f (opposite_form g) r, e, opposite_value v g)
        | false ↦ λ r l. absurd cc
      ]) refl k
    ]) refl h

match_done : (v : ℕ → ℤ) (eqs : List Solution) (facts : List Fact) (g : Form) (m : Match) → differing eqs g 0 facts ≡ Ok (Some m) → MeetsSolved v eqs → MeetsAll v facts → value v g ≢ pos 0
match_done v eqs facts g m h ms met =
    let t = match_is eqs g 0 facts m h in
    let k = t.known in
    let said : MeetsShape v Differs t.fact.form = subst (λ s. MeetsShape v s t.fact.form) k.shape ((got facts t.index t.fact (Meets v) met t.there).said (counted_meets v eqs t.fact.guard ms k.counts)) in
    λ e. said (sym (reduced_value v eqs t.fact.form k.form ms k.leads) ∙ sign_value v g k.form m.same k.sign e)

-- what follows where the form is 0 too is absurd
absurd_done : (v : ℕ → ℤ) (facts : List Fact) (t : Form) (r : Result (List Solution) TermError) → solved (with_zero facts t) ≡ r → MeetsAll v facts → Becomes (asked_by r (with_zero facts t) one_form) done → value v t ≢ pos 0
absurd_done v facts t (Err e) q m h = absurd cc
absurd_done v facts t (Ok eqs) q m h = λ e.
    let made : Result Eqs TermError = Ok (record { solved = eqs }) in
    let met : MeetsAll v (with_zero facts t) = assumed_met v facts None None (Plain Zero t) true (with_zero facts t) m (λ _. e) refl in
    let low = below_done v eqs (with_zero facts t) one_form (asked eqs (with_zero facts t) one_form) refl (solved_follow (with_zero facts t) made q v met) met h in
    absurd (omega (arith, ints, low))

matched_done : (v : ℕ → ℤ) (eqs : List Solution) (facts : List Fact) (t g : Form) (r : Result (Option Match) TermError) → differing eqs g 0 facts ≡ r → reduced eqs t ≡ Ok g → MeetsSolved v eqs → MeetsAll v facts → Matched r (Becomes (asked_by (solved (with_zero facts t)) (with_zero facts t) one_form)) done → value v t ≢ pos 0
matched_done v eqs facts t g (Err e) d q ms m h = absurd cc
matched_done v eqs facts t g (Ok (Some k)) d q ms m h = λ e. match_done v eqs facts g k d ms m (reduced_value v eqs t g ms q ∙ e)
matched_done v eqs facts t g (Ok None) d q ms m h = absurd_done v facts t (solved (with_zero facts t)) refl m h

apart_done : (v : ℕ → ℤ) (eqs : List Solution) (facts : List Fact) (t : Form) (r : Result Form TermError) → reduced eqs t ≡ r → MeetsSolved v eqs → MeetsAll v facts → DiffersBy r eqs facts (Becomes (asked_by (solved (with_zero facts t)) (with_zero facts t) one_form)) done → value v t ≢ pos 0
apart_done v eqs facts t (Err e) q ms m h = absurd cc
apart_done v eqs facts t (Ok g) q ms m h =
    (elim (is_apart g) as (λ b. is_apart g ≡ b → UnlessDone b (Matched (differing eqs g 0 facts) (Becomes (asked_by (solved (with_zero facts t)) (with_zero facts t) one_form))) done → value v t ≢ pos 0) [
      | true ↦ λ e k. λ z. apart_value v g e (reduced_value v eqs t g ms q ∙ z)
      | false ↦ λ e k. matched_done v eqs facts t g (differing eqs g 0 facts) refl q ms m k
    ]) refl h

shape_done : (v : ℕ → ℤ) (s : Shape) (eqs : List Solution) (facts : List Fact) (t : Form) → MeetsSolved v eqs → MeetsAll v facts → ByShape s eqs facts t done → MeetsShape v s t
shape_done v Zero eqs facts t ms m h = equal_done v eqs facts t (reduced eqs t) refl ms m h
shape_done v Below eqs facts t ms m h = below_done v eqs facts t (asked eqs facts t) refl ms m h
shape_done v Differs eqs facts t ms m h = apart_done v eqs facts t (reduced eqs t) refl ms m h

solved_done : (v : ℕ → ℤ) (r : Result (List Solution) TermError) (s : Shape) (facts : List Fact) (t : Form) → solved facts ≡ r → MeetsAll v facts → BySolved r s facts t done → MeetsShape v s t
solved_done v (Err e) s facts t q m h = absurd cc
solved_done v (Ok eqs) s facts t q m h =
    let made : Result Eqs TermError = Ok (record { solved = eqs }) in
    shape_done v s eqs facts t (solved_follow facts made q v m) m h

plain_done : (v : ℕ → ℤ) (facts : List Fact) (s : Shape) (t : Form) → MeetsAll v facts → IsPlain facts s t done → MeetsShape v s t
plain_done v facts s t m h = solved_done v (solved facts) s facts t refl m h

form_done : (v : ℕ → ℤ) (facts : List Fact) (b : Form) (r : Result Form TermError) → less_one b ≡ r → MeetsAll v facts → OfForm r facts done → value v b ≡ pos 1
form_done v facts b (Err e) q m h = absurd cc
form_done v facts b (Ok t) q m h = let none : value v t ≡ pos 0 = plain_done v facts Zero t m h in omega (arith, ints, none, less_value v b t q)

where_done : (r : Result (List Fact) TermError) (P : List Fact → Outcome → Type 0) → Where r P done → (more : List Fact) × (r ≡ Ok more) × P more done
where_done (Err e) P h = absurd cc
where_done (Ok more) P h = (more, refl, h)

-- a duty that is done is so at all whole numbers that meet the facts
pub duty_law : (facts : List Fact) (goal : Goal) → Leads facts goal done → (v : ℕ → ℤ) → MeetsAll v facts → Says v goal true
duty_law facts (Truth b true) h v m = form_done v facts b (less_one b) refl m h
duty_law facts (Truth b false) h v m = plain_done v facts Zero b m h
duty_law facts (Plain s t) h v m = plain_done v facts s t m h
duty_law facts (Both a b) h v m =
    let p = then_done (λ x. Leads facts a x) (λ x. Leads facts b x) h in
    (duty_law facts a p.0 v m, duty_law facts b p.1 v m)
duty_law facts (Either a b) h v m =
    let t = where_done (assumed facts None None a false) (λ more x. Leads more b x) h in
    λ s. duty_law t.0 b t.2 v (assumed_met v facts None None a false t.0 m (λ _. s) t.1)
duty_law facts (When k e) h v m =
    let t = where_done (assumed facts None None (Truth k true) true) (λ more x. Leads more e x) h in
    λ s. duty_law t.0 e t.2 v (assumed_met v facts None None (Truth k true) true t.0 m (λ _. s) t.1)
