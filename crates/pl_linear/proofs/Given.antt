-- The items give their inequalities.
use Rattle.std.proofs.Common.{◌≡◌, ℕ, ◌<◌, ◌+◌, ℤ, pos, negsuc, true, false, List, [], ◌∷◌, ◌++◌, map, slice_get, Some, Ok, refl, ap, sym, ◌∙◌, arith}
use Rattle.std.proofs.lemmas.List.{map-append}
use Rattle.std.proofs.lemmas.List.Elements.{All-append, All-cons, All-nil, All-map}
use Rattle.pl_forms.specs.declared.form.Form.{Form}
use Rattle.pl_forms.specs.declared.fact.Shape.{Shape}
use Rattle.pl_forms.specs.declared.fact.Shape.TheVariants.{Zero, Below, Differs}
use Rattle.pl_forms.specs.declared.fact.Fact.{Fact}
use Rattle.pl_forms.specs.declared.fact.EqTerm.{EqTerm}
use Rattle.pl_forms.specs.declared.equation.Solution.{Solution}
use Rattle.pl_forms.specs.Forms.{IsForm}
use Rattle.pl_forms.specs.Steps.{plus}
use Rattle.pl_forms.specs.Facts.{IsFact}
use Rattle.pl_forms.specs.Equations.{AreSolutions, AreNamed, reduced, counted}
use Rattle.pl_forms.specs.Terms.{terms}
use Rattle.pl_forms.specs.Tightening.{tight_form}
use Rattle.pl_forms.specs.Rows.{form_times, tight}
use Rattle.pl_forms.specs.Places.{Within, AllWithin, AllSolvedWithin}
use Rattle.pl_forms.proofs.FormSteps.{plus_form}
use Rattle.pl_forms.proofs.Reducing.{reduced_form}
use Rattle.pl_forms.proofs.PlaceLaws.{plus_within, reduced_within}
use Rattle.pl_forms.proofs.Tightness.{tight_is_form}
use Rattle.pl_linear.specs.declared.bounds.Bound.{Bound}
use Rattle.pl_linear.specs.Certificates.{is_counted, add_shape, add_eqs, small, finished, item_row, start_row}
use Rattle.pl_linear.specs.Ends.{minus}
use Rattle.pl_linear.specs.Duty.{one_form, zero_form, opposite_form, inequalities}
use Rattle.pl_linear.specs.FormRow.{row_of}
use Rattle.pl_linear.specs.Bounds.{minus_term, fact_once, back_once, goal_once, bounds_of, forms_of, IsGiven, GivenBy, KeepsGiven}
use Rattle.pl_linear.specs.Witnesses.{is_strict}
use Rattle.pl_linear.proofs.CertificateLaws.{got}
use Rattle.pl_linear.proofs.Strictness.{terms_strict, minus_strict}
use Rattle.pl_linear.proofs.FormRows.{plus_row, terms_row}
use Rattle.pl_linear.proofs.ItemRows.{zero_row, one_row, zero_is, one_is, plus_opposite, small_from, row_small, finished_row, fact_item}
use Rattle.pl_linear.proofs.TightRows.{tight_row, tight_within}
use Rattle.pl_linear.proofs.BackRows.{eqs_neg, row_minus, opposite_is}

-- what is known of a fact that counts
pub record Counted (eqs : List Solution) (facts : List Fact) (i : ℕ) (f : Fact) (g : Form) (ts : List EqTerm) : Type 0 where
  pub named : AreNamed eqs
  pub solved : AreSolutions eqs
  pub form : IsForm f.form
  pub at_i : slice_get facts i ≡ Some f
  pub counts : is_counted eqs f ≡ true
  pub leads : reduced eqs f.form ≡ Ok g
  pub added : ts ≡ terms eqs f.form

reduced_is : (eqs : List Solution) (facts : List Fact) (i : ℕ) (f : Fact) (g : Form) (ts : List EqTerm) → Counted eqs facts i f g ts → IsForm g
reduced_is eqs facts i f g ts c = reduced_form eqs f.form g c.solved c.form c.leads

inside : (eqs : List Solution) (facts : List Fact) (i : ℕ) (f : Fact) (g : Form) (ts : List EqTerm) (n : ℕ) → Counted eqs facts i f g ts → AllSolvedWithin n eqs → AllWithin n facts → Within n g
inside eqs facts i f g ts n c a w = reduced_within n eqs f.form g a (got facts i f (λ f. Within n f.form) w c.at_i) c.leads

pub forward_given : (eqs : List Solution) (facts : List Fact) (goal : Form) (i : ℕ) (f : Fact) (g : Form) (ts : List EqTerm) → Counted eqs facts i f g ts → ((d : List ℤ) → add_shape f.shape false f.form d ≡ form_times (pos 1) f.form d) → IsGiven eqs facts goal (record { form = tight_form g; item = fact_once i ts })
forward_given eqs facts goal i f g ts c shape = record {
  once = refl;
  strict = ap (is_strict eqs) c.added ∙ terms_strict eqs f.form;
  form = tight_is_form g (reduced_is eqs facts i f g ts c);
  within = λ n a w wg. tight_within n g (inside eqs facts i f g ts n c a w);
  row = λ n a w wg.
      fact_item n eqs facts goal i f g (fact_once i ts) c.named c.solved a c.form (got facts i f (λ f. Within (n + 1) f.form) w c.at_i) c.at_i c.counts (shape (row_of n zero_form)) refl c.added c.leads
      ∙ ap Some (tight_row n g (reduced_is eqs facts i f g ts c) (inside eqs facts i f g ts (n + 1) c a w));
}

opposite_within : (n : ℕ) (g : Form) → Within n g → Within n (opposite_form g)
opposite_within n g w = All-map (λ p. p.atom + 1 < n) minus g.parts w

turned_row : (n : ℕ) (eqs : List Solution) (f g : Form) → AreNamed eqs → AreSolutions eqs → AllSolvedWithin (n + 1) eqs → IsForm f → Within (n + 1) f → reduced eqs f ≡ Ok g → finished eqs (map minus_term (terms eqs f)) (row_of n (opposite_form f)) ≡ Some (tight (row_of n (opposite_form g)))
turned_row n eqs f g m a x p w h =
    let there = eqs_neg eqs (terms eqs f) (row_of n f) (row_of n g) (terms_row n eqs eqs f g m a x p w h) in
    let led : add_eqs eqs (map minus_term (terms eqs f)) (row_of n (opposite_form f)) ≡ Some (row_of n (opposite_form g)) = rw (row_minus n f, row_minus n g) at there in
    let fits : small (row_of n (opposite_form g)) ≡ true = small_from (row_of n (opposite_form g)) (row_small n (opposite_form g) (opposite_is g (reduced_form eqs f g a p h))) in
    rw (led, fits) refl

turned_item : (n : ℕ) (eqs : List Solution) (facts : List Fact) (goal : Form) (i : ℕ) (f : Fact) (g : Form) (ts : List EqTerm) → Counted eqs facts i f g ts → f.shape ≡ Zero → AllSolvedWithin (n + 1) eqs → Within (n + 1) f.form → item_row eqs facts goal (back_once i ts) (start_row (Some i) (n + 1)) ≡ Some (tight (row_of n (opposite_form g)))
turned_item n eqs facts goal i f g ts c s x w =
    let base : form_times (negsuc 0) f.form (row_of n zero_form) ≡ Some (row_of n (opposite_form f.form)) = plus_row n zero_form f.form (opposite_form f.form) (negsuc 0) zero_is c.form w (λ q. absurd cc) (omega arith) (plus_opposite f.form c.form) in
    let at_i = c.at_i in
    let counts = c.counts in
    let added = c.added in
    rw (zero_row n, at_i, counts, s, base, added) (turned_row n eqs f.form g c.named c.solved x c.form w c.leads)

backward_given : (eqs : List Solution) (facts : List Fact) (goal : Form) (i : ℕ) (f : Fact) (g : Form) (ts : List EqTerm) → Counted eqs facts i f g ts → f.shape ≡ Zero → IsGiven eqs facts goal (record { form = tight_form (opposite_form g); item = back_once i ts })
backward_given eqs facts goal i f g ts c s = record {
  once = refl;
  strict = minus_strict eqs ts ∙ ap (is_strict eqs) c.added ∙ terms_strict eqs f.form;
  form = tight_is_form (opposite_form g) (opposite_is g (reduced_is eqs facts i f g ts c));
  within = λ n a w wg. tight_within n (opposite_form g) (opposite_within n g (inside eqs facts i f g ts n c a w));
  row = λ n a w wg.
      turned_item n eqs facts goal i f g ts c s a (got facts i f (λ f. Within (n + 1) f.form) w c.at_i)
      ∙ ap Some (tight_row n (opposite_form g) (opposite_is g (reduced_is eqs facts i f g ts c)) (opposite_within (n + 1) g (inside eqs facts i f g ts (n + 1) c a w)));
}

pub below_shape : (f : Fact) → f.shape ≡ Below → (d : List ℤ) → add_shape f.shape false f.form d ≡ form_times (pos 1) f.form d
below_shape f s d = rw s refl

zero_shape : (f : Fact) → f.shape ≡ Zero → (d : List ℤ) → add_shape f.shape false f.form d ≡ form_times (pos 1) f.form d
zero_shape f s d = rw s refl

by_shape : (eqs : List Solution) (facts : List Fact) (s : Shape) (i : ℕ) (f : Fact) (g : Form) (ts : List EqTerm) → f.shape ≡ s → Counted eqs facts i f g ts → GivenBy eqs facts (bounds_of s i g ts)
by_shape eqs facts Zero i f g ts s c =
    All-cons (λ b. (goal : Form) → IsGiven eqs facts goal b) (record { form = tight_form g; item = fact_once i ts }) (record { form = tight_form (opposite_form g); item = back_once i ts } ∷ []) (λ goal. forward_given eqs facts goal i f g ts c (zero_shape f s))
    (All-cons (λ b. (goal : Form) → IsGiven eqs facts goal b) (record { form = tight_form (opposite_form g); item = back_once i ts }) [] (λ goal. backward_given eqs facts goal i f g ts c s) (All-nil (λ b. (goal : Form) → IsGiven eqs facts goal b)))
by_shape eqs facts Below i f g ts s c = All-cons (λ b. (goal : Form) → IsGiven eqs facts goal b) (record { form = tight_form g; item = fact_once i ts }) [] (λ goal. forward_given eqs facts goal i f g ts c (below_shape f s)) (All-nil (λ b. (goal : Form) → IsGiven eqs facts goal b))
by_shape eqs facts Differs i f g ts s c = All-nil (λ b. (goal : Form) → IsGiven eqs facts goal b)

pub nothing_more : (eqs : List Solution) (i : ℕ) (f : Fact) (bs : List Bound) → KeepsGiven eqs i f bs bs
nothing_more eqs i f bs = record { keeps = λ facts at_i g. g }

-- the inequalities of a fact that counts are given
pub more_given : (eqs : List Solution) (i : ℕ) (f : Fact) (g : Form) (ts : List EqTerm) (before now : List Bound) → AreNamed eqs → AreSolutions eqs → IsFact f → counted eqs f.guard ≡ Ok true → reduced eqs f.form ≡ Ok g → terms eqs f.form ≡ ts → now ≡ before ++ bounds_of f.shape i g ts → KeepsGiven eqs i f before now
more_given eqs i f g ts before now m a p k r t e = record {
  keeps = λ facts at_i given.
      let counts : is_counted eqs f ≡ true = rw k refl in
      rw e (All-append (λ b. (goal : Form) → IsGiven eqs facts goal b) before (bounds_of f.shape i g ts) given (by_shape eqs facts f.shape i f g ts refl (record { named = m; solved = a; form = p.form; at_i = at_i; counts = counts; leads = r; added = sym t })));
}

pub goal_given : (eqs : List Solution) (goal h g : Form) (ts : List EqTerm) → AreNamed eqs → AreSolutions eqs → IsForm goal → plus one_form (negsuc 0) goal ≡ Ok h → reduced eqs h ≡ Ok g → terms eqs h ≡ ts → (facts : List Fact) → IsGiven eqs facts goal (record { form = tight_form g; item = goal_once ts })
goal_given eqs goal h g ts m a p q r t facts = record {
  once = refl;
  strict = ap (is_strict eqs) (sym t) ∙ terms_strict eqs h;
  form = tight_is_form g is;
  within = λ n x w wg. tight_within n g (reduced_within n eqs h g x (negated n wg) r);
  row = λ n x w wg.
      let base : form_times (negsuc 0) goal (row_of n one_form) ≡ Some (row_of n h) = plus_row n one_form goal h (negsuc 0) one_is p wg (λ e. absurd cc) (omega arith) q in
      let added = sym t in
      (rw (one_row n, base, added) (finished_row n eqs h g m a x is_h (negated (n + 1) wg) r))
      ∙ ap Some (tight_row n g is (reduced_within (n + 1) eqs h g x (negated (n + 1) wg) r));
}
  where
    is_h : IsForm h
    is_h = plus_form one_form goal (negsuc 0) (Ok h) (λ e. absurd cc) one_is p q

    is : IsForm g
    is = reduced_form eqs h g a is_h r

    negated : (n : ℕ) → Within n goal → Within n h
    negated n wg = plus_within n one_form goal h (negsuc 0) (All-nil (λ p. p.atom + 1 < n)) wg q

pub forms_more : (before : List Bound) (s : Shape) (i : ℕ) (g : Form) (ts : List EqTerm) → forms_of (before ++ bounds_of s i g ts) ≡ forms_of before ++ inequalities s g
forms_more before s i g ts = map-append (λ b. b.form) before (bounds_of s i g ts) ∙ ap (λ (l : List Form). forms_of before ++ l) (same s)
  where
    same : (s : Shape) → forms_of (bounds_of s i g ts) ≡ inequalities s g
    same Zero = refl
    same Below = refl
    same Differs = refl
