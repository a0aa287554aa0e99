-- What a hint shows.
use Rattle.std.proofs.Common.{◌≡◌, ℕ, ◌≤◌, ◌+◌, ◌^◌, ℤ, pos, negsuc, nat_eq, nat_lt, ◌&&◌, Bool, true, false, cond, List, [], ◌∷◌, replicate, Option, Some, None, Result, Ok, Err, IfOk, refl, sym, subst, arith, All}
use Rattle.std.proofs.lemmas.Bool.Decides.{nat_tests}
use Rattle.std.proofs.lemmas.List.Elements.{All-cons, All-nil}
use Rattle.pl_forms.specs.declared.form.Form.{Form}
use Rattle.pl_forms.specs.declared.form.TermError.{TermError}
use Rattle.pl_forms.specs.declared.fact.Shape.TheVariants.{Zero, Below, Differs}
use Rattle.pl_forms.specs.declared.fact.Fact.{Fact}
use Rattle.pl_forms.specs.declared.fact.EqTerm.{EqTerm}
use Rattle.pl_forms.specs.declared.fact.CertItem.{CertItem}
use Rattle.pl_forms.specs.declared.equation.Solution.{Solution}
use Rattle.pl_forms.specs.declared.equation.Eqs.{Eqs}
use Rattle.pl_forms.specs.Forms.{IsForm}
use Rattle.pl_forms.specs.Facts.{MeetsAll}
use Rattle.pl_forms.specs.Equations.{reduced}
use Rattle.pl_forms.specs.Steps.{plus}
use Rattle.pl_forms.specs.Terms.{terms}
use Rattle.pl_forms.specs.Tightening.{common}
use Rattle.pl_forms.specs.Solving.{solved}
use Rattle.pl_forms.specs.Places.{AllWithin}
use Rattle.pl_forms.specs.Goals.{Goal, Truth, Plain, Both, Either, When, GoalWithin, Says}
use Rattle.pl_forms.proofs.Tightness.{common_le}
use Rattle.pl_forms.proofs.SolvingLaws.{solved_follow, solved_within}
use Rattle.pl_linear.specs.declared.hint.HintTerm.{HintTerm}
use Rattle.pl_linear.specs.declared.hint.Written.{Written}
use Rattle.pl_linear.specs.declared.hint.Hinted.{Hinted}
use Rattle.pl_linear.specs.declared.hint.Hinted.TheVariants.{Done, Undone, Multiplier, Terms}
use Rattle.pl_linear.specs.Duty.{one_form}
use Rattle.pl_linear.specs.Certificates.{closing, is_certificate}
use Rattle.pl_linear.specs.Hints.{is_goal, past, are_known, add_all_own, items_of, HintDone, told, judged, all_written, by_reduced, by_negated, by_solved, by_labels, for_goal, unless_past, hinted, Hints, IfShown, IsShownBy}
use Rattle.pl_linear.proofs.CertificateLaws.{certificate_law}

-- no limit is passed, so no multiplier is
small_first : (t : HintTerm) (ts : List HintTerm) (n : ℕ) (b : Bool) → nat_lt (2 ^ 20) t.times ≡ b → cond b (Some (Multiplier t.times)) (cond (is_goal t.label) (past ts n) (cond (nat_eq n 4096) (Some (Terms 4097)) (past ts (n + 1)))) ≡ None → (t.times ≤ 2 ^ 20) × (cond (is_goal t.label) (past ts n) (cond (nat_eq n 4096) (Some (Terms 4097)) (past ts (n + 1))) ≡ None)
small_first t ts n true e h = absurd cc
small_first t ts n false e h = (grind (arith, nat_tests), h)

pub past_small : (hint : List HintTerm) (n : ℕ) → past hint n ≡ None → All (λ t. t.times ≤ 2 ^ 20) hint
past_small [] n h = All-nil (λ t. t.times ≤ 2 ^ 20)
past_small (t ∷ ts) n h =
    let p = small_first t ts n (nat_lt (2 ^ 20) t.times) refl h in
    All-cons (λ t. t.times ≤ 2 ^ 20) t ts p.0 ((elim (is_goal t.label) as (λ b. cond b (past ts n) (cond (nat_eq n 4096) (Some (Terms 4097)) (past ts (n + 1))) ≡ None → All (λ t. t.times ≤ 2 ^ 20) ts) [
      | true ↦ λ q. past_small ts n q
      | false ↦ λ q. (elim (nat_eq n 4096) as (λ b. cond b (Some (Terms 4097)) (past ts (n + 1)) ≡ None → All (λ t. t.times ≤ 2 ^ 20) ts) [ true ↦ λ r. absurd cc | false ↦ λ r. past_small ts (n + 1) r ]) q
    ]) p.1)

pub divisor_small : (f : Form) → IsForm f → common 0 f.parts ≤ 2 ^ 40
divisor_small f p = common_le 0 (2 ^ 40) f.parts (omega arith) p.small

-- the items of what is told to be done
abbrev Shown : List Fact → ℕ → Goal → Result Hinted TermError → Type 0
Shown facts atoms goal r = (h : Hinted) → r ≡ Ok h → IfShown h (IsShownBy facts atoms goal)

if_both : (a b : Bool) → a && b ≡ true → (a ≡ true) × (b ≡ true)
if_both true b h = (refl, h)
if_both false b h = absurd cc

undone_shown : (facts : List Fact) (atoms : ℕ) (goal : Goal) (h : Hinted) → ◌≡◌ {A = Result Hinted TermError} (Ok Undone) (Ok h) → IfShown h (IsShownBy facts atoms goal)
undone_shown facts atoms goal h e = let same : Undone ≡ h = cc in subst (λ x. IfShown x (IsShownBy facts atoms goal)) same tt

told_shown : (eqs : List Solution) (facts : List Fact) (atoms : ℕ) (t : Form) (ws : List Written) (b : Bool) → solved facts ≡ Ok eqs → HintDone eqs facts atoms t ws ≡ b → IfShown (told b (items_of ws)) (IsShownBy facts atoms (Plain Below t))
told_shown eqs facts atoms t ws true q e =
    let p = if_both (closing (add_all_own eqs facts t ws (replicate (atoms + 1) (pos 0)))) (is_certificate eqs facts t (items_of ws) atoms) e in
    record { form = t; below = refl; eqs = eqs; by = q; is = p.1 }
told_shown eqs facts atoms t ws false q e = tt

judged_shown : (eqs : List Solution) (facts : List Fact) (atoms : ℕ) (t : Form) (r : Result (Option (List Written)) TermError) → solved facts ≡ Ok eqs → Shown facts atoms (Plain Below t) (judged eqs facts atoms t r)
judged_shown eqs facts atoms t (Err e) q h k = absurd cc
judged_shown eqs facts atoms t (Ok None) q h k = undone_shown facts atoms (Plain Below t) h k
judged_shown eqs facts atoms t (Ok (Some ws)) q h k =
    let same : told (HintDone eqs facts atoms t ws) (items_of ws) ≡ h = cc in
    subst (λ x. IfShown x (IsShownBy facts atoms (Plain Below t))) same (told_shown eqs facts atoms t ws (HintDone eqs facts atoms t ws) q refl)

reduced_shown : (eqs : List Solution) (facts : List Fact) (atoms : ℕ) (t : Form) (hint : List HintTerm) (ts : List EqTerm) (r : Result Form TermError) → solved facts ≡ Ok eqs → Shown facts atoms (Plain Below t) (by_reduced eqs facts atoms t hint ts r)
reduced_shown eqs facts atoms t hint ts (Err e) q h k = absurd cc
reduced_shown eqs facts atoms t hint ts (Ok g) q h k = judged_shown eqs facts atoms t (all_written eqs facts (common 0 g.parts) ts hint) q h k

negated_shown : (eqs : List Solution) (facts : List Fact) (atoms : ℕ) (t : Form) (hint : List HintTerm) (r : Result Form TermError) → solved facts ≡ Ok eqs → Shown facts atoms (Plain Below t) (by_negated eqs facts atoms t hint r)
negated_shown eqs facts atoms t hint (Err e) q h k = absurd cc
negated_shown eqs facts atoms t hint (Ok g) q h k = reduced_shown eqs facts atoms t hint (terms eqs g) (reduced eqs g) q h k

solved_shown : (facts : List Fact) (atoms : ℕ) (t : Form) (hint : List HintTerm) (r : Result (List Solution) TermError) → solved facts ≡ r → Shown facts atoms (Plain Below t) (by_solved r facts atoms t hint)
solved_shown facts atoms t hint (Err e) q h k = absurd cc
solved_shown facts atoms t hint (Ok eqs) q h k = negated_shown eqs facts atoms t hint (plus one_form (negsuc 0) t) q h k

labels_shown : (facts : List Fact) (atoms : ℕ) (t : Form) (hint : List HintTerm) (b : Bool) → Shown facts atoms (Plain Below t) (by_labels b facts atoms t hint)
labels_shown facts atoms t hint true h k = solved_shown facts atoms t hint (solved facts) refl h k
labels_shown facts atoms t hint false h k = undone_shown facts atoms (Plain Below t) h k

goal_shown : (facts : List Fact) (atoms : ℕ) (goal : Goal) (hint : List HintTerm) → Shown facts atoms goal (for_goal facts atoms goal hint)
goal_shown facts atoms (Plain Zero t) hint h k = undone_shown facts atoms (Plain Zero t) h k
goal_shown facts atoms (Plain Below t) hint h k = labels_shown facts atoms t hint (are_known facts hint) h k
goal_shown facts atoms (Plain Differs t) hint h k = undone_shown facts atoms (Plain Differs t) h k
goal_shown facts atoms (Truth b t) hint h k = undone_shown facts atoms (Truth b t) h k
goal_shown facts atoms (Both a b) hint h k = undone_shown facts atoms (Both a b) h k
goal_shown facts atoms (Either a b) hint h k = undone_shown facts atoms (Either a b) h k
goal_shown facts atoms (When g e) hint h k = undone_shown facts atoms (When g e) h k

limit_shown : (facts : List Fact) (atoms : ℕ) (goal : Goal) (h : Hinted) (hint : List HintTerm) (n : ℕ) → past hint n ≡ Some h → IfShown h (IsShownBy facts atoms goal)
limit_shown facts atoms goal h [] n e = absurd cc
limit_shown facts atoms goal h (t ∷ ts) n e =
    (elim (nat_lt (2 ^ 20) t.times) as (λ b. cond b (Some (Multiplier t.times)) (cond (is_goal t.label) (past ts n) (cond (nat_eq n 4096) (Some (Terms 4097)) (past ts (n + 1)))) ≡ Some h → IfShown h (IsShownBy facts atoms goal)) [
      | true ↦ λ q. let same : Multiplier t.times ≡ h = cc in subst (λ x. IfShown x (IsShownBy facts atoms goal)) same tt
      | false ↦ λ q. (elim (is_goal t.label) as (λ b. cond b (past ts n) (cond (nat_eq n 4096) (Some (Terms 4097)) (past ts (n + 1))) ≡ Some h → IfShown h (IsShownBy facts atoms goal)) [
        | true ↦ λ r. limit_shown facts atoms goal h ts n r
        | false ↦ λ r. (elim (nat_eq n 4096) as (λ b. cond b (Some (Terms 4097)) (past ts (n + 1)) ≡ Some h → IfShown h (IsShownBy facts atoms goal)) [
          | true ↦ λ s. let same : Terms 4097 ≡ h = cc in subst (λ x. IfShown x (IsShownBy facts atoms goal)) same tt
          | false ↦ λ s. limit_shown facts atoms goal h ts (n + 1) s
        ]) r
      ]) q
    ]) e

unless_shown : (facts : List Fact) (atoms : ℕ) (goal : Goal) (hint : List HintTerm) (o : Option Hinted) → past hint 0 ≡ o → Shown facts atoms goal (unless_past o (for_goal facts atoms goal hint))
unless_shown facts atoms goal hint (Some x) p h k = let same : x ≡ h = cc in subst (λ y. IfShown y (IsShownBy facts atoms goal)) same (limit_shown facts atoms goal x hint 0 p)
unless_shown facts atoms goal hint None p h k = goal_shown facts atoms goal hint h k

pub hint_shown : (facts : List Fact) (atoms : ℕ) (goal : Goal) (hint : List HintTerm) (r : Result Hinted TermError) → Hints r (hinted facts atoms goal hint) → IfOk r (λ h. IfShown h (IsShownBy facts atoms goal))
hint_shown facts atoms goal hint (Err e) h = tt
hint_shown facts atoms goal hint (Ok x) h = unless_shown facts atoms goal hint (past hint 0) refl x h

-- what a certificate shows of the goal
shown_so : (facts : List Fact) (atoms : ℕ) (goal : Goal) (items : List CertItem) → AllWithin (atoms + 1) facts → GoalWithin (atoms + 1) goal → IsShownBy facts atoms goal items → (v : ℕ → ℤ) → MeetsAll v facts → Says v goal true
shown_so facts atoms goal items w wg s v m =
    let made : Result Eqs TermError = Ok (record { solved = s.eqs }) in
    let within = subst (GoalWithin (atoms + 1)) s.below wg in
    subst (λ g. Says v g true) (sym s.below) (certificate_law s.eqs facts s.form items atoms (solved_follow facts made s.by) (solved_within facts made s.by (atoms + 1) w) w within s.is v m)

pub hint_law : (facts : List Fact) (atoms : ℕ) (goal : Goal) (r : Result Hinted TermError) → AllWithin (atoms + 1) facts → GoalWithin (atoms + 1) goal → IfOk r (λ h. IfShown h (IsShownBy facts atoms goal)) → IfOk r (λ h. IfShown h (λ _. (v : ℕ → ℤ) → MeetsAll v facts → Says v goal true))
hint_law facts atoms goal (Err e) w wg h = tt
hint_law facts atoms goal (Ok (Done c)) w wg h = shown_so facts atoms goal c.items w wg h
hint_law facts atoms goal (Ok Undone) w wg h = tt
hint_law facts atoms goal (Ok (Multiplier n)) w wg h = tt
hint_law facts atoms goal (Ok (Terms n)) w wg h = tt
