-- Witnesses of duties: groups that show of each part of a duty, in its order, that it is done.
use Rattle.std.specs.Prelude.{◌≡◌, ℕ, ◌+◌, ℤ, pos, negsuc, nat_eq, if◌then◌else◌, Bool, true, false, List, [], ◌∷◌, replicate, length, slice_get, Option, Some, None, Result, Ok, Err, ⊤}
use Rattle.std.specs.Ordering.{int_eq}
use Rattle.pl_forms.specs.declared.form.Form.{Form}
use Rattle.pl_forms.specs.declared.form.TermError.{TermError}
use Rattle.pl_forms.specs.declared.form.TermError.TheVariants.{TooLarge, Memory}
use Rattle.pl_forms.specs.declared.fact.Shape.{Shape}
use Rattle.pl_forms.specs.declared.fact.Shape.TheVariants.{Zero, Below, Differs}
use Rattle.pl_forms.specs.declared.fact.Fact.{Fact}
use Rattle.pl_forms.specs.declared.fact.EqTerm.{EqTerm}
use Rattle.pl_forms.specs.declared.fact.CertItem.{CertItem}
use Rattle.pl_forms.specs.declared.goal.Group.{Group}
use Rattle.pl_forms.specs.declared.goal.Group.TheVariants as g
use Rattle.pl_forms.specs.declared.equation.Solution.{Solution}
use Rattle.pl_forms.specs.Rows.{then_more, form_times}
use Rattle.pl_forms.specs.Solving.{solved}
use Rattle.pl_forms.specs.Goals.{Goal, Truth, Plain, Both, Either, When, GoalWithin}
use Rattle.pl_forms.specs.Places.{Within, AllWithin, AllSolvedWithin}
use Rattle.pl_forms.specs.Assuming.{one_form, less_one, assumed}
use Rattle.pl_linear.specs.declared.found.Decided.{Decided}
use Rattle.pl_linear.specs.declared.found.Decided.TheVariants as d
use Rattle.pl_linear.specs.Certificates.{is_counted, add_eqs, all_zero, is_certificate}
use Rattle.pl_linear.specs.Duty.{opposite_form}
use Rattle.pl_linear.specs.Decisions.{with_zero}

-- multiples of solved equations in the order of solving, each equation at most once and never 0 times
abbrev pub is_strict : List Solution → List EqTerm → Bool
is_strict [] [] = true
is_strict [] (t ∷ ts) = false
is_strict (s ∷ ss) [] = true
is_strict (s ∷ ss) (t ∷ ts) =
    if nat_eq s.fact t.fact then (if int_eq t.times (pos 0) then false else is_strict ss ts) else is_strict ss (t ∷ ts)

abbrev pub all_strict : List Solution → List CertItem → Bool
all_strict eqs [] = true
all_strict eqs (it ∷ its) = if is_strict eqs it.eqs then all_strict eqs its else false

-- the row of a form, to which multiples of solved equations are added
abbrev pub row_with : List Solution → ℕ → Form → List EqTerm → Option (List ℤ)
row_with eqs atoms t ts = then_more (form_times (pos 1) t (replicate (atoms + 1) (pos 0))) (λ d. add_eqs eqs ts d)

-- the row of 0
abbrev pub is_none : Option (List ℤ) → Bool
is_none None = false
is_none (Some d) = all_zero d

-- the row of a constant other than 0
abbrev pub is_other : List ℤ → Bool
is_other [] = false
is_other (k ∷ cs) = if int_eq k (pos 0) then false else all_zero cs

abbrev pub is_some_constant : Option (List ℤ) → Bool
is_some_constant None = false
is_some_constant (Some d) = is_other d

-- .. less a form, or with it
abbrev pub row_beside : List Solution → ℕ → Form → List EqTerm → ℤ → Form → Option (List ℤ)
row_beside eqs atoms t ts k f = then_more (row_with eqs atoms t ts) (λ d. form_times k f d)

-- `t <= 0` by a certificate
abbrev pub shows_below : List Solution → List Fact → ℕ → Form → Group → Bool
shows_below eqs facts atoms t (g.Cert c) = if all_strict eqs c.items then is_certificate eqs facts t c.items atoms else false
shows_below eqs facts atoms t _ = false

-- `t == 0` by the equations alone
abbrev pub shows_zero : List Solution → ℕ → Form → Group → Bool
shows_zero eqs atoms t (g.Eqs ts) = if is_strict eqs ts then is_none (row_with eqs atoms t ts) else false
shows_zero eqs atoms t _ = false

-- a disequality that counts is t and these multiples, or its opposite is
abbrev pub is_known : List Solution → ℕ → Form → List EqTerm → Shape → Fact → Bool
is_known eqs atoms t ts Zero f = false
is_known eqs atoms t ts Below f = false
is_known eqs atoms t ts Differs f =
    if is_counted eqs f
    then (if is_none (row_beside eqs atoms t ts (negsuc 0) f.form) then true else is_none (row_beside eqs atoms t ts (pos 1) f.form))
    else false

abbrev pub known_at : List Solution → ℕ → Form → List EqTerm → Option Fact → Bool
known_at eqs atoms t ts None = false
known_at eqs atoms t ts (Some f) = is_known eqs atoms t ts f.shape f

-- `t != 0` by a constant or by a disequality
abbrev pub shows_apart : List Solution → List Fact → ℕ → Form → Group → Bool
shows_apart eqs facts atoms t (g.Constant ts) = if is_strict eqs ts then is_some_constant (row_with eqs atoms t ts) else false
shows_apart eqs facts atoms t (g.Differs i ts) = if is_strict eqs ts then known_at eqs atoms t ts (slice_get facts i) else false
shows_apart eqs facts atoms t _ = false

-- the place behind a group that shows a part
abbrev pub behind : Bool → ℕ → Option ℕ
behind true i = Some (i + 1)
behind false i = None

abbrev pub below_at : List Solution → List Fact → ℕ → Form → Option Group → ℕ → Option ℕ
below_at eqs facts atoms t None i = None
below_at eqs facts atoms t (Some x) i = behind (shows_below eqs facts atoms t x) i

abbrev pub then_at : Option ℕ → (ℕ → Option ℕ) → Option ℕ
then_at None f = None
then_at (Some i) f = f i

abbrev pub or_at : Bool → ℕ → Option ℕ → Option ℕ
or_at true i later = Some (i + 1)
or_at false i later = later

-- `t == 0` by one group or by two certificates
abbrev pub both_at : List Solution → List Fact → ℕ → Form → List Group → ℕ → Option ℕ
both_at eqs facts atoms t groups i =
    then_at (below_at eqs facts atoms t (slice_get groups i) i) (λ k. below_at eqs facts atoms (opposite_form t) (slice_get groups k) k)

abbrev pub equal_at : List Solution → List Fact → ℕ → Form → List Group → Option Group → ℕ → Option ℕ
equal_at eqs facts atoms t groups None i = None
equal_at eqs facts atoms t groups (Some x) i = or_at (shows_zero eqs atoms t x) i (both_at eqs facts atoms t groups i)

-- `1 <= 0` where t is known to be 0 too
abbrev pub absurd_by : Result (List Solution) TermError → List Fact → ℕ → Group → ℕ → Result (Option ℕ) TermError
absurd_by (Err e) facts atoms x i = Err e
absurd_by (Ok eqs) facts atoms x i = Ok (behind (shows_below eqs facts atoms one_form x) i)

abbrev pub apart_by : List Solution → List Fact → ℕ → Form → Group → ℕ → Result (Option ℕ) TermError
apart_by eqs facts atoms t (g.Cert c) i = absurd_by (solved (with_zero facts t)) (with_zero facts t) atoms (g.Cert c) i
apart_by eqs facts atoms t x i = Ok (behind (shows_apart eqs facts atoms t x) i)

abbrev pub apart_at : List Solution → List Fact → ℕ → Form → Option Group → ℕ → Result (Option ℕ) TermError
apart_at eqs facts atoms t None i = Ok None
apart_at eqs facts atoms t (Some x) i = apart_by eqs facts atoms t x i

abbrev pub shape_at : Shape → List Solution → List Fact → ℕ → Form → List Group → ℕ → Result (Option ℕ) TermError
shape_at Zero eqs facts atoms t groups i = Ok (equal_at eqs facts atoms t groups (slice_get groups i) i)
shape_at Below eqs facts atoms t groups i = Ok (below_at eqs facts atoms t (slice_get groups i) i)
shape_at Differs eqs facts atoms t groups i = apart_at eqs facts atoms t (slice_get groups i) i

abbrev pub solved_at : Result (List Solution) TermError → Shape → List Fact → ℕ → Form → List Group → ℕ → Result (Option ℕ) TermError
solved_at (Err e) s facts atoms t groups i = Err e
solved_at (Ok eqs) s facts atoms t groups i = shape_at s eqs facts atoms t groups i

-- a comparison, by the facts' own equations
abbrev pub plain_at : List Fact → ℕ → Shape → Form → List Group → ℕ → Result (Option ℕ) TermError
plain_at facts atoms s t groups i = solved_at (solved facts) s facts atoms t groups i

abbrev pub form_at : Result Form TermError → List Fact → ℕ → List Group → ℕ → Result (Option ℕ) TermError
form_at (Err e) facts atoms groups i = Err e
form_at (Ok t) facts atoms groups i = plain_at facts atoms Zero t groups i

-- a boolean is 1, or 0
abbrev pub truth_at : List Fact → ℕ → Form → Bool → List Group → ℕ → Result (Option ℕ) TermError
truth_at facts atoms b true groups i = form_at (less_one b) facts atoms groups i
truth_at facts atoms b false groups i = plain_at facts atoms Zero b groups i

abbrev pub then_witness : Result (Option ℕ) TermError → (ℕ → Result (Option ℕ) TermError) → Result (Option ℕ) TermError
then_witness (Err e) f = Err e
then_witness (Ok None) f = Ok None
then_witness (Ok (Some i)) f = f i

abbrev pub where_known : Result (List Fact) TermError → (List Fact → Result (Option ℕ) TermError) → Result (Option ℕ) TermError
where_known (Err e) f = Err e
where_known (Ok facts) f = f facts

-- the place behind the groups that, from place i on, are a witness of a duty; none where they aren't one
abbrev pub witness : List Fact → ℕ → Goal → List Group → ℕ → Result (Option ℕ) TermError
witness facts atoms (Truth b t) groups i = truth_at facts atoms b t groups i
witness facts atoms (Plain s t) groups i = plain_at facts atoms s t groups i
witness facts atoms (Both a b) groups i = then_witness (witness facts atoms a groups i) (λ k. witness facts atoms b groups k)
witness facts atoms (Either a b) groups i = where_known (assumed facts None None a false) (λ more. witness more atoms b groups i)
witness facts atoms (When k e) groups i = where_known (assumed facts None None (Truth k true) true) (λ more. witness more atoms e groups i)

-- exactly this place, or want of memory
abbrev pub Confirms : Result (Option ℕ) TermError → Result (Option ℕ) TermError → Type 0
Confirms (Ok o) wanted = wanted ≡ Ok o
Confirms (Err (TooLarge n)) wanted = wanted ≡ Err (TooLarge n)
Confirms (Err Memory) wanted = Unit {0}

-- the groups, and no more, are a witness of a duty, in rows with places for all atoms
pub record IsWitness (facts : List Fact) (goal : Goal) (groups : List Group) : Type 0 where
  pub is : (atoms : ℕ) → AllWithin (atoms + 1) facts → GoalWithin (atoms + 1) goal → witness facts atoms goal groups 0 ≡ Ok (Some (length groups))

-- a fact about the groups of a duty that is done
abbrev pub IfDone : Decided → (List Group → Type 0) → Type 0
IfDone (d.Done groups) P = P groups
IfDone (d.Undone point) P = ⊤

-- one group shows `t <= 0`
pub record IsOfBelow (eqs : List Solution) (facts : List Fact) (t : Form) (groups : List Group) : Type 0 where
  pub group : Group
  pub alone : groups ≡ group ∷ []
  pub shows : (atoms : ℕ) → AllSolvedWithin (atoms + 1) eqs → AllWithin (atoms + 1) facts → Within (atoms + 1) t → shows_below eqs facts atoms t group ≡ true

-- the groups show `t == 0`
pub record IsOfEqual (eqs : List Solution) (facts : List Fact) (t : Form) (groups : List Group) : Type 0 where
  pub is : (atoms : ℕ) → AllSolvedWithin (atoms + 1) eqs → AllWithin (atoms + 1) facts → Within (atoms + 1) t → equal_at eqs facts atoms t groups (slice_get groups 0) 0 ≡ Some (length groups)

-- .. `t != 0`
pub record IsOfApart (eqs : List Solution) (facts : List Fact) (t : Form) (groups : List Group) : Type 0 where
  pub is : (atoms : ℕ) → AllSolvedWithin (atoms + 1) eqs → AllWithin (atoms + 1) facts → Within (atoms + 1) t → apart_at eqs facts atoms t (slice_get groups 0) 0 ≡ Ok (Some (length groups))
