-- How many inequalities and nodes there are.
use Rattle.std.proofs.Common.{◌≡◌, ℕ, suc, ◌≤◌, ◌+◌, ◌*◌, Bool, true, false, List, [], ◌∷◌, ◌++◌, length, Result, Ok, Err, refl, ap, ◌∙◌, arith, All}
use Rattle.std.proofs.lemmas.List.{length-append}
use Rattle.pl_forms.specs.declared.form.Part.{Part}
use Rattle.pl_forms.specs.declared.form.Form.{Form}
use Rattle.pl_forms.specs.declared.form.TermError.{TermError}
use Rattle.pl_forms.specs.declared.fact.Shape.{Shape}
use Rattle.pl_forms.specs.declared.fact.Shape.TheVariants.{Zero, Below, Differs}
use Rattle.pl_forms.specs.declared.fact.Fact.{Fact}
use Rattle.pl_forms.specs.declared.equation.Solution.{Solution}
use Rattle.pl_forms.specs.Forms.{IsForm}
use Rattle.pl_forms.specs.Facts.{IsFact}
use Rattle.pl_forms.specs.Equations.{AreSolutions, reduced, counted}
use Rattle.pl_forms.specs.Tightening.{tight_form}
use Rattle.pl_forms.proofs.Reducing.{reduced_form}
use Rattle.pl_forms.proofs.Tightness.{tight_is_form}
use Rattle.pl_linear.specs.declared.ends.Ends.{Ends}
use Rattle.pl_linear.specs.Ends.{split}
use Rattle.pl_linear.specs.Duty.{opposite_form, inequalities, with_inequalities, when_counted, look, then_forms, look_all, with_negation, negation, asked}
use Rattle.pl_linear.specs.Nodes.{with_ends, with_all, nodes_of}
use Rattle.pl_linear.proofs.Opposites.{turned, opposite_tight, split_minus}
use Rattle.pl_linear.proofs.Numbers.{ends_count, both_there}

with_all-append : (nodes : List (List Part)) (xs ys : List Form) → with_all nodes (xs ++ ys) ≡ with_all (with_all nodes xs) ys
with_all-append nodes [] ys = refl
with_all-append nodes (f ∷ fs) ys = with_all-append (with_ends nodes f) fs ys

-- at most two inequalities and two nodes were added
record Grown (made now : List Form) (more : ℕ) : Type 0 where
  long : length now ≤ length made + more
  nodes : (n : List (List Part)) → length (with_all n now) ≤ length (with_all n made) + more

same_grown : (made : List Form) → Grown made made 2
same_grown made = record { long = omega arith; nodes = λ n. omega arith }

opposite_ends : (g : Form) → IsForm g → split (tight_form (opposite_form g)).parts ≡ turned (split (tight_form g).parts)
opposite_ends g p = ap split (opposite_tight g) ∙ split_minus 0 (tight_form g).parts ((tight_is_form g p).ascends)

one_more : (made : List Form) (f : Form) (n : List (List Part)) → length (with_all n (made ++ f ∷ [])) ≤ length (with_all n made) + 2
one_more made f n = rw (with_all-append n made (f ∷ [])) (ends_count (with_all n made) f).1

shape_grown : (made : List Form) (s : Shape) (g : Form) → IsForm g → Grown made (made ++ inequalities s g) 2
shape_grown made Zero g p =
    let e = opposite_ends g p in
    record {
      long = omega (arith, length-append made (inequalities Zero g));
      nodes = λ n.
          let still = both_there (with_all n made) (tight_form g) (tight_form (opposite_form g)) (ap (λ (x : Ends). x.to) e) (ap (λ (x : Ends). x.from) e) in
          rw (with_all-append n made (inequalities Zero g), still) (ends_count (with_all n made) (tight_form g)).1;
    }
shape_grown made Below g p = record { long = omega (arith, length-append made (inequalities Below g)); nodes = λ n. one_more made (tight_form g) n }
shape_grown made Differs g p = record { long = omega (arith, length-append made []); nodes = λ n. rw (with_all-append n made []) (omega arith) }

reduced_grown : (eqs : List Solution) (made now : List Form) (s : Shape) (f : Form) (r : Result Form TermError) → AreSolutions eqs → IsForm f → reduced eqs f ≡ r → with_inequalities made s r ≡ Ok now → Grown made now 2
reduced_grown eqs made now s f (Err e) a p q h = absurd cc
reduced_grown eqs made now s f (Ok g) a p q h = let same : made ++ inequalities s g ≡ now = cc in rw (← same) (shape_grown made s g (reduced_form eqs f g a p q))

counted_grown : (eqs : List Solution) (made now : List Form) (s : Shape) (f : Form) (r : Result Bool TermError) → AreSolutions eqs → IsForm f → when_counted eqs made s f r ≡ Ok now → Grown made now 2
counted_grown eqs made now s f (Err e) a p h = absurd cc
counted_grown eqs made now s f (Ok false) a p h = let same : made ≡ now = cc in rw (← same) (same_grown made)
counted_grown eqs made now s f (Ok true) a p h = reduced_grown eqs made now s f (reduced eqs f) a p refl h

look_grown : (eqs : List Solution) (made now : List Form) (s : Shape) (f : Fact) → AreSolutions eqs → IsFact f → look eqs made s f ≡ Ok now → Grown made now 2
look_grown eqs made now Zero f a p h = counted_grown eqs made now Zero f.form (counted eqs f.guard) a p.form h
look_grown eqs made now Below f a p h = counted_grown eqs made now Below f.form (counted eqs f.guard) a p.form h
look_grown eqs made now Differs f a p h = let same : made ≡ now = cc in rw (← same) (same_grown made)

forms_is : (r : Result (List Form) TermError) (f : List Form → Result (List Form) TermError) (now : List Form) → then_forms r f ≡ Ok now → (made : List Form) × (r ≡ Ok made) × (f made ≡ Ok now)
forms_is (Err e) f now h = absurd cc
forms_is (Ok made) f now h = (made, refl, h)

all_grown : (eqs : List Solution) (facts : List Fact) (made now : List Form) → AreSolutions eqs → All IsFact facts → look_all eqs made facts ≡ Ok now → Grown made now (2 * length facts)
all_grown eqs [] made now a p h = let same : made ≡ now = cc in rw (← same) (record { long = omega arith; nodes = λ n. omega arith })
all_grown eqs (f ∷ fs) made now a p h =
    let t = forms_is (look eqs made f.shape f) (λ x. look_all eqs x fs) now h in
    let one = look_grown eqs made t.0 f.shape f a (p 0 f (omega arith)) t.1 in
    let rest = all_grown eqs fs t.0 now a (λ k d lt. p (suc k) d (omega arith)) t.2 in
    let first = one.long in
    let later = rest.long in
    record {
      long = omega (arith, first, later);
      nodes = λ n. omega (arith, one.nodes n, rest.nodes n);
    }

negation_is : (made : List Form) (r : Result Form TermError) (fs : List Form) → with_negation made r ≡ Ok fs → (g : Form) × (fs ≡ made ++ g ∷ [])
negation_is made (Err e) fs h = absurd cc
negation_is made (Ok g) fs h = (g, cc)

pub record IsFew (facts : ℕ) (fs : List Form) : Type 0 where
  pub forms : length fs ≤ 2 * facts + 1
  pub nodes : length (nodes_of fs) ≤ 2 * facts + 3

pub asked_few : (eqs : List Solution) (facts : List Fact) (t : Form) (fs : List Form) → AreSolutions eqs → All IsFact facts → asked eqs facts t ≡ Ok fs → IsFew (length facts) fs
asked_few eqs facts t fs a p h =
    let m = forms_is (look_all eqs [] facts) (λ made. with_negation made (negation eqs t)) fs h in
    let g = all_grown eqs facts [] m.0 a p m.1 in
    let last = negation_is m.0 (negation eqs t) fs m.2 in
    let long : length m.0 ≤ 0 + 2 * length facts = g.long in
    let nodes : length (with_all ([] ∷ []) m.0) ≤ 1 + 2 * length facts = g.nodes ([] ∷ []) in
    let more : length (with_all ([] ∷ []) (m.0 ++ last.0 ∷ [])) ≤ length (with_all ([] ∷ []) m.0) + 2 = one_more m.0 last.0 ([] ∷ []) in
    rw last.1 (record { forms = omega (arith, length-append m.0 (last.0 ∷ []), long); nodes = omega (arith, more, nodes) })
