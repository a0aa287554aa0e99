-- Hints: multiples of named facts, and of the negated goal, that add to a positive constant.
use Rattle.std.specs.Prelude.{◌≡◌, ℕ, ◌+◌, ◌*◌, ◌^◌, ℤ, pos, negsuc, ◌&&◌, nat_eq, nat_lt, if◌then◌else◌, Bool, true, false, List, [], ◌∷◌, ◌++◌, map, length, replicate, slice_get, Option, Some, None, Result, Ok, Err, ⊤}
use Rattle.std.specs.Str.{bytes_eq}
use Rattle.std.specs.declared.vec.Vec.{Vec}
use Rattle.std.specs.declared.alloc.Global.{Global}
use Rattle.pl_forms.specs.declared.form.Form.{Form}
use Rattle.pl_forms.specs.declared.form.TermError.{TermError}
use Rattle.pl_forms.specs.declared.form.TermError.TheVariants.{TooLarge, Memory}
use Rattle.pl_forms.specs.declared.fact.Shape.{Shape}
use Rattle.pl_forms.specs.declared.fact.Shape.TheVariants.{Zero, Below, Differs}
use Rattle.pl_forms.specs.declared.fact.Fact.{Fact}
use Rattle.pl_forms.specs.declared.fact.EqTerm.{EqTerm}
use Rattle.pl_forms.specs.declared.fact.CertItem.{CertItem}
use Rattle.pl_forms.specs.declared.equation.Solution.{Solution}
use Rattle.pl_forms.specs.Steps.{plus}
use Rattle.pl_forms.specs.Equations.{reduced, counted}
use Rattle.pl_forms.specs.Terms.{terms}
use Rattle.pl_forms.specs.Tightening.{common}
use Rattle.pl_forms.specs.Rows.{then_more, form_times, add_rows}
use Rattle.pl_forms.specs.Solving.{solved}
use Rattle.pl_forms.specs.Goals.{Goal, Plain}
use Rattle.pl_linear.specs.declared.hint.HintTerm.{HintTerm}
use Rattle.pl_linear.specs.declared.hint.Written.{Written}
use Rattle.pl_linear.specs.declared.hint.Hinted.{Hinted}
use Rattle.pl_linear.specs.declared.hint.Hinted.TheVariants.{Done, Undone, Multiplier, Terms}
use Rattle.pl_linear.specs.Duty.{one_form}
use Rattle.pl_linear.specs.Certificates.{add_eqs, item_row, start_row, closing, is_certificate}

-- a term of the negated goal has no label
abbrev pub is_goal : Option (List ℕ) → Bool
is_goal None = true
is_goal (Some l) = false

-- the first limit that is passed, where n terms with a label came before: a multiplier of 2^20, 4,096 terms with a label
abbrev pub past : List HintTerm → ℕ → Option Hinted
past [] n = None
past (t ∷ ts) n =
    if nat_lt (2 ^ 20) t.times then Some (Multiplier t.times)
    else (if is_goal t.label then past ts n else (if nat_eq n 4096 then Some (Terms 4097) else past ts (n + 1)))

abbrev pub has_label : List ℕ → Option (List ℕ) → Bool
has_label name None = false
has_label name (Some l) = bytes_eq l name

-- the place of the newest fact with a label, of those from place i on
abbrev pub newest : List ℕ → ℕ → List Fact → Option ℕ → Option ℕ
newest name i [] best = best
newest name i (f ∷ fs) best = newest name (i + 1) fs (if has_label name f.label then Some i else best)

abbrev pub is_found : Option ℕ → Bool
is_found None = false
is_found (Some i) = true

abbrev pub is_known : List Fact → Option (List ℕ) → Bool
is_known facts None = true
is_known facts (Some name) = is_found (newest name 0 facts None)

-- each label is that of a fact
abbrev pub are_known : List Fact → List HintTerm → Bool
are_known facts [] = true
are_known facts (t ∷ ts) = if is_known facts t.label then are_known facts ts else false

-- what is written, each term with its item of a certificate; none where a fact isn't an inequality that counts
abbrev pub then_written : Result (Option (List Written)) TermError → (List Written → Result (Option (List Written)) TermError) → Result (Option (List Written)) TermError
then_written (Err e) f = Err e
then_written (Ok None) f = Ok None
then_written (Ok (Some ws)) f = f ws

abbrev pub fact_term : ℕ → ℕ → List EqTerm → Written
fact_term n i ts = record { times = pos n; item = record { times = pos n; fact = Some i; back = false; eqs = ts } }

-- a multiple of the negated goal; a certificate tightens it, and has it so many times more often
abbrev pub at_least_one : ℕ → ℕ
at_least_one g = if nat_lt 1 g then g else 1

abbrev pub goal_term : ℕ → ℕ → List EqTerm → Written
goal_term n g ts = record { times = pos n; item = record { times = pos (n * at_least_one g); fact = None; back = false; eqs = ts } }

abbrev pub with_reduced : List Written → ℕ → ℕ → List EqTerm → Result Form TermError → Result (Option (List Written)) TermError
with_reduced made n i ts (Err e) = Err e
with_reduced made n i ts (Ok g) = Ok (Some (made ++ fact_term n i ts ∷ []))

abbrev pub with_counted : List Solution → List Written → ℕ → ℕ → Form → Result Bool TermError → Result (Option (List Written)) TermError
with_counted eqs made n i f (Err e) = Err e
with_counted eqs made n i f (Ok false) = Ok None
with_counted eqs made n i f (Ok true) = with_reduced made n i (terms eqs f) (reduced eqs f)

abbrev pub with_shape : Shape → List Solution → List Written → ℕ → ℕ → Fact → Result (Option (List Written)) TermError
with_shape Zero eqs made n i f = Ok None
with_shape Below eqs made n i f = with_counted eqs made n i f.form (counted eqs f.guard)
with_shape Differs eqs made n i f = Ok None

abbrev pub with_fact : List Solution → List Written → ℕ → ℕ → Option Fact → Result (Option (List Written)) TermError
with_fact eqs made n i None = Ok None
with_fact eqs made n i (Some f) = with_shape f.shape eqs made n i f

abbrev pub with_place : List Solution → List Fact → List Written → ℕ → Option ℕ → Result (Option (List Written)) TermError
with_place eqs facts made n None = Ok None
with_place eqs facts made n (Some i) = with_fact eqs made n i (slice_get facts i)

abbrev pub with_label : List Solution → List Fact → ℕ → List EqTerm → List Written → ℕ → Option (List ℕ) → Result (Option (List Written)) TermError
with_label eqs facts g ts made n None = Ok (Some (made ++ goal_term n g ts ∷ []))
with_label eqs facts g ts made n (Some name) = with_place eqs facts made n (newest name 0 facts None)

-- a term with multiplier 0 adds nothing
abbrev pub with_term : List Solution → List Fact → ℕ → List EqTerm → List Written → HintTerm → Result (Option (List Written)) TermError
with_term eqs facts g ts made t = if nat_eq t.times 0 then Ok (Some made) else with_label eqs facts g ts made t.times t.label

abbrev pub with_terms : List Solution → List Fact → ℕ → List EqTerm → List Written → List HintTerm → Result (Option (List Written)) TermError
with_terms eqs facts g ts made [] = Ok (Some made)
with_terms eqs facts g ts made (t ∷ rest) = then_written (with_term eqs facts g ts made t) (λ now. with_terms eqs facts g ts now rest)

abbrev pub writes_goal : List HintTerm → Bool
writes_goal [] = false
writes_goal (t ∷ ts) = if is_goal t.label then true else writes_goal ts

-- where no term of the negated goal is written, one is added last
abbrev pub with_goal : Bool → ℕ → List EqTerm → List Written → List Written
with_goal true g ts ws = ws
with_goal false g ts ws = ws ++ goal_term 1 g ts ∷ []

abbrev pub all_written : List Solution → List Fact → ℕ → List EqTerm → List HintTerm → Result (Option (List Written)) TermError
all_written eqs facts g ts hint = then_written (with_terms eqs facts g ts [] hint) (λ ws. Ok (Some (with_goal (writes_goal hint) g ts ws)))

-- what is added: a fact reduced and tightened, and the negated goal reduced alone
abbrev pub own_row : List Solution → List Fact → Form → Option ℕ → CertItem → List ℤ → Option (List ℤ)
own_row eqs facts t None it d = then_more (form_times (negsuc 0) t d) (λ e. add_eqs eqs it.eqs e)
own_row eqs facts t (Some i) it d = item_row eqs facts t it d

abbrev pub add_own : List Solution → List Fact → Form → Written → List ℤ → Option (List ℤ)
add_own eqs facts t w total = then_more (own_row eqs facts t w.item.fact w.item (start_row w.item.fact (length total))) (λ r. add_rows w.times 0 r total)

abbrev pub add_all_own : List Solution → List Fact → Form → List Written → List ℤ → Option (List ℤ)
add_all_own eqs facts t [] total = Some total
add_all_own eqs facts t (w ∷ ws) total = then_more (add_own eqs facts t w total) (λ d. add_all_own eqs facts t ws d)

abbrev pub items_of : List Written → List CertItem
items_of ws = map (λ w. w.item) ws

-- the written multiples add to a positive constant, and their items are a certificate
abbrev pub HintDone : List Solution → List Fact → ℕ → Form → List Written → Bool
HintDone eqs facts atoms t ws = closing (add_all_own eqs facts t ws (replicate (atoms + 1) (pos 0))) && is_certificate eqs facts t (items_of ws) atoms

abbrev pub told : Bool → List CertItem → Hinted
told true items = Done (record { items = items })
told false items = Undone

abbrev pub judged : List Solution → List Fact → ℕ → Form → Result (Option (List Written)) TermError → Result Hinted TermError
judged eqs facts atoms t (Err e) = Err e
judged eqs facts atoms t (Ok None) = Ok Undone
judged eqs facts atoms t (Ok (Some ws)) = Ok (told (HintDone eqs facts atoms t ws) (items_of ws))

abbrev pub by_reduced : List Solution → List Fact → ℕ → Form → List HintTerm → List EqTerm → Result Form TermError → Result Hinted TermError
by_reduced eqs facts atoms t hint ts (Err e) = Err e
by_reduced eqs facts atoms t hint ts (Ok g) = judged eqs facts atoms t (all_written eqs facts (common 0 g.parts) ts hint)

-- by the negated goal `1 - t <= 0`, which is reduced
abbrev pub by_negated : List Solution → List Fact → ℕ → Form → List HintTerm → Result Form TermError → Result Hinted TermError
by_negated eqs facts atoms t hint (Err e) = Err e
by_negated eqs facts atoms t hint (Ok h) = by_reduced eqs facts atoms t hint (terms eqs h) (reduced eqs h)

abbrev pub by_solved : Result (List Solution) TermError → List Fact → ℕ → Form → List HintTerm → Result Hinted TermError
by_solved (Err e) facts atoms t hint = Err e
by_solved (Ok eqs) facts atoms t hint = by_negated eqs facts atoms t hint (plus one_form (negsuc 0) t)

abbrev pub by_labels : Bool → List Fact → ℕ → Form → List HintTerm → Result Hinted TermError
by_labels false facts atoms t hint = Ok Undone
by_labels true facts atoms t hint = by_solved (solved facts) facts atoms t hint

abbrev pub by_shape : Shape → List Fact → ℕ → Form → List HintTerm → Result Hinted TermError
by_shape Zero facts atoms t hint = Ok Undone
by_shape Below facts atoms t hint = by_labels (are_known facts hint) facts atoms t hint
by_shape Differs facts atoms t hint = Ok Undone

-- a hint serves a duty `t <= 0` alone
abbrev pub for_goal : List Fact → ℕ → Goal → List HintTerm → Result Hinted TermError
for_goal facts atoms (Plain s t) hint = by_shape s facts atoms t hint
for_goal facts atoms _ hint = Ok Undone

abbrev pub unless_past : Option Hinted → Result Hinted TermError → Result Hinted TermError
unless_past (Some h) r = Ok h
unless_past None r = r

-- what becomes of a duty by a hint, of which the limits come first
abbrev pub hinted : List Fact → ℕ → Goal → List HintTerm → Result Hinted TermError
hinted facts atoms goal hint = unless_past (past hint 0) (for_goal facts atoms goal hint)

-- exactly this, or want of memory
abbrev pub Hints : Result Hinted TermError → Result Hinted TermError → Type 0
Hints (Ok h) wanted = wanted ≡ Ok h
Hints (Err (TooLarge n)) wanted = wanted ≡ Err (TooLarge n)
Hints (Err Memory) wanted = Unit {0}

-- exactly these, or none, or want of memory
abbrev pub Listed : Result (Option (Vec Written Global)) TermError → Result (Option (List Written)) TermError → Type 0
Listed (Ok None) wanted = wanted ≡ Ok None
Listed (Ok (Some v)) wanted = wanted ≡ Ok (Some v.items)
Listed (Err (TooLarge n)) wanted = wanted ≡ Err (TooLarge n)
Listed (Err Memory) wanted = Unit {0}

-- .. behind what was there before
abbrev pub Writes : Result Bool TermError → List Written → Result (Option (List Written)) TermError → Type 0
Writes (Ok true) now wanted = wanted ≡ Ok (Some now)
Writes (Ok false) now wanted = wanted ≡ Ok None
Writes (Err (TooLarge n)) now wanted = wanted ≡ Err (TooLarge n)
Writes (Err Memory) now wanted = Unit {0}

-- a fact about the certificate, where there is one
abbrev pub IfShown : Hinted → (List CertItem → Type 0) → Type 0
IfShown (Done c) P = P c.items
IfShown Undone P = ⊤
IfShown (Multiplier n) P = ⊤
IfShown (Terms n) P = ⊤

-- the items are a certificate of the duty `t <= 0` that the goal is
pub record IsShownBy (facts : List Fact) (atoms : ℕ) (goal : Goal) (items : List CertItem) : Type 0 where
  pub form : Form
  pub below : goal ≡ Plain Below form
  pub eqs : List Solution
  pub by : solved facts ≡ Ok eqs
  pub is : is_certificate eqs facts form items atoms ≡ true
