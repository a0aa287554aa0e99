-- The disequality that is found.
use Rattle.std.proofs.Common.{◌≡◌, ◌⊎◌, ℕ, zero, suc, ◌<◌, ◌+◌, Bool, true, false, List, [], ◌∷◌, length, get_or, slice_get, Option, Some, None, Result, Ok, Err, ap, sym, subst, ◌∙◌, arith, refl, inl, inr}
use Rattle.std.proofs.lemmas.Option.{slice_get-get_or}
use Rattle.pl_forms.specs.declared.form.Form.{Form}
use Rattle.pl_forms.specs.declared.form.TermError.{TermError}
use Rattle.pl_forms.specs.declared.form.TermError.TheVariants.{TooLarge, Memory}
use Rattle.pl_forms.specs.declared.fact.Shape.{Shape}
use Rattle.pl_forms.specs.declared.fact.Shape.TheVariants.{Zero, Below, Differs}
use Rattle.pl_forms.specs.declared.fact.Fact.{Fact}
use Rattle.pl_forms.specs.declared.fact.EqTerm.{EqTerm}
use Rattle.pl_forms.specs.declared.equation.Solution.{Solution}
use Rattle.pl_forms.specs.Equations.{reduced, counted}
use Rattle.pl_forms.specs.Terms.{Leads}
use Rattle.pl_linear.specs.declared.differing.Match.{Match}
use Rattle.pl_linear.specs.Decisions.{Outcome, Decides, sign_of, sign_by, sign_counted, sign_shape, or_later, differing}

-- a disequality that counts has this reduced form, up to sign
pub record IsKnown (eqs : List Solution) (g : Form) (f : Fact) (same : Bool) : Type 0 where
  pub shape : f.shape ≡ Differs
  pub counts : counted eqs f.guard ≡ Ok true
  pub form : Form
  pub leads : reduced eqs f.form ≡ Ok form
  pub sign : sign_of g form ≡ Some same

signed : (g : Form) (r : Result Form TermError) (b : Bool) → sign_by g r ≡ Ok (Some b) → (h : Form) × (r ≡ Ok h) × (sign_of g h ≡ Some b)
signed g (Err e) b h = absurd cc
signed g (Ok k) b h = (k, refl, cc)

counted_sign : (eqs : List Solution) (g : Form) (f : Fact) (r : Result Bool TermError) (b : Bool) → f.shape ≡ Differs → counted eqs f.guard ≡ r → sign_counted eqs g f.form r ≡ Ok (Some b) → IsKnown eqs g f b
counted_sign eqs g f (Err e) b s c h = absurd cc
counted_sign eqs g f (Ok false) b s c h = absurd cc
counted_sign eqs g f (Ok true) b s c h = let t = signed g (reduced eqs f.form) b h in record { shape = s; counts = c; form = t.0; leads = t.1; sign = t.2 }

known_by : (eqs : List Solution) (g : Form) (f : Fact) (s : Shape) (b : Bool) → f.shape ≡ s → sign_shape s eqs g f ≡ Ok (Some b) → IsKnown eqs g f b
known_by eqs g f Zero b s h = absurd cc
known_by eqs g f Below b s h = absurd cc
known_by eqs g f Differs b s h = counted_sign eqs g f (counted eqs f.guard) b s refl h

-- .. and stands at that place
pub record IsMatch (eqs : List Solution) (g : Form) (k : ℕ) (facts : List Fact) (m : Match) : Type 0 where
  pub index : ℕ
  pub place : m.place ≡ k + index
  pub fact : Fact
  pub there : slice_get facts index ≡ Some fact
  pub known : IsKnown eqs g fact m.same

found_here : (eqs : List Solution) (g : Form) (k : ℕ) (f : Fact) (fs : List Fact) (m : Match) (r : Result (Option Bool) TermError) → sign_shape f.shape eqs g f ≡ r → (differing eqs g (k + 1) fs ≡ Ok (Some m) → IsMatch eqs g (k + 1) fs m) → or_later k r (differing eqs g (k + 1) fs) ≡ Ok (Some m) → IsMatch eqs g k (f ∷ fs) m
found_here eqs g k f fs m (Err e) s later h = absurd cc
found_here eqs g k f fs m (Ok None) s later h =
    let t = later h in
    record { index = suc t.index; place = omega (arith, t.place); fact = t.fact; there = t.there; known = t.known }
found_here eqs g k f fs m (Ok (Some b)) s later h =
    let is : k ≡ m.place = cc in
    let same : b ≡ m.same = cc in
    record { index = 0; place = omega (arith, is); fact = f; there = refl; known = subst (IsKnown eqs g f) same (known_by eqs g f f.shape b refl s) }

pub match_is : (eqs : List Solution) (g : Form) (k : ℕ) (facts : List Fact) (m : Match) → differing eqs g k facts ≡ Ok (Some m) → IsMatch eqs g k facts m
match_is eqs g k [] m h = absurd cc
match_is eqs g k (f ∷ fs) m h = found_here eqs g k f fs m (sign_shape f.shape eqs g f) refl (λ q. match_is eqs g (k + 1) fs m q) h

got_within : (fs : List Fact) (i : ℕ) (f : Fact) → slice_get fs i ≡ Some f → i < length fs
got_within [] i f h = absurd cc
got_within (g ∷ gs) zero f h = omega arith
got_within (g ∷ gs) (suc i) f h = let r = got_within gs i f h in omega arith

pub match_within : (eqs : List Solution) (g : Form) (facts : List Fact) (m : Match) → differing eqs g 0 facts ≡ Ok (Some m) → m.place < length facts
match_within eqs g facts m h = let t = match_is eqs g 0 facts m h in omega (arith, t.place, got_within facts t.index t.fact t.there)

some_same : (f g : Fact) → ◌≡◌ {A = Option Fact} (Some f) (Some g) → f ≡ g
some_same f g e = cc

-- the fact that is read at the place
pub match_fact : (eqs : List Solution) (g : Form) (facts : List Fact) (m : Match) (f : Fact) → differing eqs g 0 facts ≡ Ok (Some m) → f ≡ get_or facts m.place f → IsKnown eqs g f m.same
match_fact eqs g facts m f h e =
    let t = match_is eqs g 0 facts m h in
    let at_place : m.place ≡ t.index = omega (arith, t.place) in
    let read : slice_get facts m.place ≡ Some (get_or facts m.place f) = slice_get-get_or facts m.place f (match_within eqs g facts m h) in
    let same : t.fact ≡ f = some_same t.fact f (sym t.there ∙ ap (slice_get facts) (sym at_place) ∙ read ∙ ap Some (sym e)) in
    subst (λ x. IsKnown eqs g x m.same) same t.known

-- both forms reduce, so nothing is refused
pub nothing_refused : (r q : Result Form TermError) (f g : Form) (ts : List EqTerm) (e : TermError) (P : Outcome → Type 0) → r ≡ Ok f → q ≡ Ok g → Leads (Err e) r q ts → Decides (Err e) P
nothing_refused r q f g ts (TooLarge n) P h k l = absurd (neither (rw (h, k) at l))
  where
    neither : ⊥ ⊎ ⊥ → ⊥
    neither (inl x) = x
    neither (inr x) = x
nothing_refused r q f g ts Memory P h k l = tt
