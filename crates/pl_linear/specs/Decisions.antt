-- What becomes of a duty: it is done, or this is the point of its first part that isn't, or a form on the way is too large.
use Rattle.std.specs.Prelude.{◌≡◌, ◌⊎◌, ◌+◌, ◌&&◌, ℕ, pos, nat_eq, nat_lt, if◌then◌else◌, Bool, true, false, not, List, [], ◌∷◌, ◌++◌, map, length, Option, Some, None, Result, Ok, Err, ⊤}
use Rattle.std.specs.Ordering.{int_eq}
use Rattle.pl_forms.specs.declared.form.Part.{Part}
use Rattle.pl_forms.specs.declared.form.Form.{Form}
use Rattle.pl_forms.specs.declared.form.TermError.{TermError}
use Rattle.pl_forms.specs.declared.form.TermError.TheVariants.{TooLarge, Memory}
use Rattle.pl_forms.specs.declared.fact.Shape.{Shape}
use Rattle.pl_forms.specs.declared.fact.Shape.TheVariants.{Zero, Below, Differs}
use Rattle.pl_forms.specs.declared.fact.Fact.{Fact}
use Rattle.pl_forms.specs.declared.goal.Group.{Group}
use Rattle.pl_forms.specs.declared.equation.Solution.{Solution}
use Rattle.pl_forms.specs.Equations.{reduced, counted}
use Rattle.pl_forms.specs.Solving.{solved}
use Rattle.pl_forms.specs.Goals.{Goal, Truth, Plain, Both, Either, When}
use Rattle.pl_forms.specs.Assuming.{one_form, less_one, with_fact, assumed}
use Rattle.pl_linear.specs.declared.found.NodeValue.{NodeValue}
use Rattle.pl_linear.specs.declared.found.Decided.{Decided}
use Rattle.pl_linear.specs.declared.found.Decided.TheVariants as d
use Rattle.pl_linear.specs.declared.differing.Match.{Match}
use Rattle.pl_linear.specs.Ends.{split}
use Rattle.pl_linear.specs.Duty.{zero_form, opposite_form, asked, asked_by, Done}
use Rattle.pl_linear.specs.Nodes.{same_parts, node_form, value_at, IsLeastPoint}

pub data Outcome : Type 0 where
  done : Outcome
  undone : (point : List NodeValue) → Outcome
  refused : (e : TermError) → Outcome

-- the nodes of an inequality: none, one, or the two of a difference, the lower atom first
abbrev pub in_order : List Part → List Part → List (List Part)
in_order [] [] = []
in_order [] (q ∷ qs) = (q ∷ qs) ∷ []
in_order (p ∷ ps) [] = (p ∷ ps) ∷ []
in_order (p ∷ ps) (q ∷ qs) = if nat_lt p.atom q.atom then (p ∷ ps) ∷ (q ∷ qs) ∷ [] else (q ∷ qs) ∷ (p ∷ ps) ∷ []

abbrev pub own_nodes : Form → List (List Part)
own_nodes f = in_order (split f.parts).to (split f.parts).from

-- what a point gives these nodes
abbrev pub shown : List NodeValue → List (List Part) → List NodeValue
shown p nodes = map (λ x. record { node = node_form x; value = value_at p x }) nodes

-- the last inequality
abbrev pub last_form : List Form → Form
last_form [] = zero_form
last_form (f ∷ []) = f
last_form (f ∷ g ∷ rest) = last_form (g ∷ rest)

-- what the point of least distances, which meets all inequalities, gives the nodes of the last one, the negated goal
pub record IsGoalPoint (fs : List Form) (p : List NodeValue) : Type 0 where
  pub whole : List NodeValue
  pub least : IsLeastPoint fs whole
  pub goal : p ≡ shown whole (own_nodes (last_form fs))

-- a duty `t <= 0`, of which these inequalities are asked
abbrev pub Becomes : Result (List Form) TermError → Outcome → Type 0
Becomes (Err e) o = o ≡ refused e
Becomes (Ok fs) done = Done fs
Becomes (Ok fs) (undone p) = IsGoalPoint fs p
Becomes (Ok fs) (refused e) = ⊥

abbrev pub IsStop : Outcome → Type 0
IsStop done = ⊥
IsStop (undone p) = ⊤
IsStop (refused e) = ⊤

-- the first is done, and this becomes of the second; or this becomes of the first, which isn't done
abbrev pub Then : (Outcome → Type 0) → (Outcome → Type 0) → Outcome → Type 0
Then P Q o = (P done × Q o) ⊎ (P o × IsStop o)

-- `t == 0`: a form that reduces to 0 is done; else it is `t <= 0` and then `-t <= 0`
abbrev pub is_nought : Form → Bool
is_nought f = nat_eq (length f.parts) 0 && int_eq f.constant (pos 0)

abbrev pub UnlessDone : Bool → (Outcome → Type 0) → Outcome → Type 0
UnlessDone true P o = o ≡ done
UnlessDone false P o = P o

abbrev pub EqualBy : Result Form TermError → (Outcome → Type 0) → Outcome → Type 0
EqualBy (Err e) P o = o ≡ refused e
EqualBy (Ok g) P o = UnlessDone (is_nought g) P o

abbrev pub IsEqual : List Solution → List Fact → Form → Outcome → Type 0
IsEqual eqs facts t o = EqualBy (reduced eqs t) (Then (Becomes (asked eqs facts t)) (Becomes (asked eqs facts (opposite_form t)))) o

-- a constant other than 0
abbrev pub is_apart : Form → Bool
is_apart f = nat_eq (length f.parts) 0 && not (int_eq f.constant (pos 0))

abbrev pub same_form : Form → Form → Bool
same_form f g = if int_eq f.constant g.constant then same_parts f.parts g.parts else false

-- the first form is the second, or its opposite
abbrev pub sign_of : Form → Form → Option Bool
sign_of f g = if same_form f g then Some true else (if same_form f (opposite_form g) then Some false else None)

abbrev pub sign_by : Form → Result Form TermError → Result (Option Bool) TermError
sign_by g (Err e) = Err e
sign_by g (Ok h) = Ok (sign_of g h)

abbrev pub sign_counted : List Solution → Form → Form → Result Bool TermError → Result (Option Bool) TermError
sign_counted eqs g f (Err e) = Err e
sign_counted eqs g f (Ok false) = Ok None
sign_counted eqs g f (Ok true) = sign_by g (reduced eqs f)

-- a reduced form is, up to sign, the reduced form of a disequality that counts
abbrev pub sign_shape : Shape → List Solution → Form → Fact → Result (Option Bool) TermError
sign_shape Zero eqs g f = Ok None
sign_shape Below eqs g f = Ok None
sign_shape Differs eqs g f = sign_counted eqs g f.form (counted eqs f.guard)

abbrev pub or_later : ℕ → Result (Option Bool) TermError → Result (Option Match) TermError → Result (Option Match) TermError
or_later i (Err e) later = Err e
or_later i (Ok (Some same)) later = Ok (Some (record { place = i; same = same }))
or_later i (Ok None) later = later

-- the first such fact, from place i on
abbrev pub differing : List Solution → Form → ℕ → List Fact → Result (Option Match) TermError
differing eqs g i [] = Ok None
differing eqs g i (f ∷ fs) = or_later i (sign_shape f.shape eqs g f) (differing eqs g (i + 1) fs)

-- the facts, and that a form is 0
abbrev pub with_zero : List Fact → Form → List Fact
with_zero facts t = with_fact facts (record { label = None; guard = None; shape = Zero; form = t })

abbrev pub Matched : Result (Option Match) TermError → (Outcome → Type 0) → Outcome → Type 0
Matched (Err e) P o = o ≡ refused e
Matched (Ok (Some m)) P o = o ≡ done
Matched (Ok None) P o = P o

abbrev pub DiffersBy : Result Form TermError → List Solution → List Fact → (Outcome → Type 0) → Outcome → Type 0
DiffersBy (Err e) eqs facts P o = o ≡ refused e
DiffersBy (Ok g) eqs facts P o = UnlessDone (is_apart g) (Matched (differing eqs g 0 facts) P) o

-- `t != 0`: done where t reduces to a constant other than 0, or to the form of a disequality that counts; else it is the
-- duty `1 <= 0` where `t == 0` is known too
abbrev pub IsApart : List Solution → List Fact → Form → Outcome → Type 0
IsApart eqs facts t o = DiffersBy (reduced eqs t) eqs facts (Becomes (asked_by (solved (with_zero facts t)) (with_zero facts t) one_form)) o

abbrev pub ByShape : Shape → List Solution → List Fact → Form → Outcome → Type 0
ByShape Zero eqs facts t o = IsEqual eqs facts t o
ByShape Below eqs facts t o = Becomes (asked eqs facts t) o
ByShape Differs eqs facts t o = IsApart eqs facts t o

abbrev pub BySolved : Result (List Solution) TermError → Shape → List Fact → Form → Outcome → Type 0
BySolved (Err e) s facts t o = o ≡ refused e
BySolved (Ok eqs) s facts t o = ByShape s eqs facts t o

-- a comparison, by the facts' own equations
abbrev pub IsPlain : List Fact → Shape → Form → Outcome → Type 0
IsPlain facts s t o = BySolved (solved facts) s facts t o

abbrev pub OfForm : Result Form TermError → List Fact → Outcome → Type 0
OfForm (Err e) facts o = o ≡ refused e
OfForm (Ok t) facts o = IsPlain facts Zero t o

-- a boolean is 1, or 0
abbrev pub OfTruth : List Fact → Form → Bool → Outcome → Type 0
OfTruth facts b true o = OfForm (less_one b) facts o
OfTruth facts b false o = IsPlain facts Zero b o

abbrev pub Where : Result (List Fact) TermError → (List Fact → Outcome → Type 0) → Outcome → Type 0
Where (Err e) P o = o ≡ refused e
Where (Ok facts) P o = P facts o

-- this becomes of a duty: of both of two, of the first and then the second; of one of two, of the second where the negation of
-- the first is known too; under a guard, of the duty where the guard is known to be 1
abbrev pub Leads : List Fact → Goal → Outcome → Type 0
Leads facts (Truth b t) o = OfTruth facts b t o
Leads facts (Plain s t) o = IsPlain facts s t o
Leads facts (Both a b) o = Then (λ x. Leads facts a x) (λ x. Leads facts b x) o
Leads facts (Either a b) o = Where (assumed facts None None a false) (λ more x. Leads more b x) o
Leads facts (When k e) o = Where (assumed facts None None (Truth k true) true) (λ more x. Leads more e x) o

-- .. of what was decided
abbrev pub outcome_of : Decided → Outcome
outcome_of (d.Done groups) = done
outcome_of (d.Undone point) = undone point

-- exactly this becomes of the duty, or want of memory
abbrev pub Decides : Result Decided TermError → (Outcome → Type 0) → Type 0
Decides (Ok r) P = P (outcome_of r)
Decides (Err (TooLarge n)) P = P (refused (TooLarge n))
Decides (Err Memory) P = Unit {0}

-- groups before those of a duty that is done too
abbrev pub joined : List Group → Decided → Decided
joined groups (d.Done more) = d.Done (groups ++ more)
joined groups (d.Undone point) = d.Undone point
