-- What is found from the inequalities.
use Rattle.std.proofs.Common.{◌≡◌, ℕ, zero, suc, ◌<◌, ◌≤◌, ◌+◌, true, List, [], ◌∷◌, length, slice_get, Some, Result, Ok, Err, IfOk, sym, subst, ◌∙◌, arith, All}
use Rattle.std.specs.List.{AllZip}
use Rattle.std.proofs.lemmas.List.{length-map}
use Rattle.std.proofs.lemmas.List.Elements.{All-cons, All-nil}
use Rattle.pl_forms.specs.declared.form.Form.{Form}
use Rattle.pl_forms.specs.declared.form.TermError.{TermError}
use Rattle.pl_forms.specs.declared.fact.Fact.{Fact}
use Rattle.pl_forms.specs.declared.equation.Solution.{Solution}
use Rattle.pl_forms.specs.Facts.{IsFact}
use Rattle.pl_forms.specs.Equations.{AreSolutions}
use Rattle.pl_forms.specs.Places.{AllWithin, AllSolvedWithin}
use Rattle.pl_diffs.specs.declared.Edge.{Edge}
use Rattle.pl_diffs.specs.Differences.{IsNegativeCycle}
use Rattle.pl_linear.specs.declared.bounds.Bound.{Bound}
use Rattle.pl_linear.specs.declared.found.Found.{Found}
use Rattle.pl_linear.specs.declared.found.Found.TheVariants.{Cert, Point}
use Rattle.pl_linear.specs.Certificates.{is_certificate}
use Rattle.pl_linear.specs.Duty.{asked}
use Rattle.pl_linear.specs.Nodes.{nodes_of, edges_of}
use Rattle.pl_linear.specs.Findings.{IfCert, IsCertificate, IsCertificateOf}
use Rattle.pl_forms.specs.Solving.{solved}
use Rattle.pl_linear.specs.Bounds.{forms_of, AreGiven, IsCycleOf}
use Rattle.pl_linear.proofs.Counts.{IsFew, asked_few}
use Rattle.pl_linear.proofs.CycleItems.{cycle_of}

got_within : (es : List Edge) (i : ℕ) (e : Edge) → slice_get es i ≡ Some e → i < length es
got_within [] i e h = absurd cc
got_within (x ∷ xs) zero e h = omega arith
got_within (x ∷ xs) (suc i) e h = let r = got_within xs i e h in omega arith

zip_within : (es : List Edge) (places : List ℕ) (path : List Edge) → AllZip (λ i e. slice_get es i ≡ Some e) places path → All (λ i. i < length es) places
zip_within es [] path z = All-nil (λ i. i < length es)
zip_within es (i ∷ places) [] z = absurd z
zip_within es (i ∷ places) (e ∷ path) z = All-cons (λ i. i < length es) i places (got_within es i e z.0) (zip_within es places path z.1)

-- the places of a cycle are places of inequalities
pub cycle_within : (bs : List Bound) (places : List ℕ) → IsNegativeCycle (edges_of (forms_of bs)) places → All (λ i. i < length bs) places
cycle_within bs places c =
    let long : length (edges_of (forms_of bs)) ≡ length bs = length-map (forms_of bs) _ ∙ length-map bs _ in
    rw (← long) (zip_within (edges_of (forms_of bs)) places c.path c.named)

few_bounds : (eqs : List Solution) (facts : List Fact) (goal : Form) (bs : List Bound) → AreSolutions eqs → All IsFact facts → asked eqs facts goal ≡ Ok (forms_of bs) → IsFew (length facts) (forms_of bs)
few_bounds eqs facts goal bs a p h = asked_few eqs facts goal (forms_of bs) a p h

pub few_forms : (eqs : List Solution) (facts : List Fact) (goal : Form) (bs : List Bound) → AreSolutions eqs → All IsFact facts → length facts ≤ 1024 → asked eqs facts goal ≡ Ok (forms_of bs) → length bs ≤ 4096
few_forms eqs facts goal bs a p few h = let f = (few_bounds eqs facts goal bs a p h).forms in omega (arith, length-map bs (λ (b : Bound). b.form))

pub few_nodes : (eqs : List Solution) (facts : List Fact) (goal : Form) (bs : List Bound) → AreSolutions eqs → All IsFact facts → length facts ≤ 1024 → asked eqs facts goal ≡ Ok (forms_of bs) → length (nodes_of (forms_of bs)) ≤ 4096
few_nodes eqs facts goal bs a p few h = let f = (few_bounds eqs facts goal bs a p h).nodes in omega arith

pub found_cert : (eqs : List Solution) (facts : List Fact) (goal : Form) (bs : List Bound) (f : Found) → AreGiven eqs facts goal bs → IfCert f (IsCycleOf bs) → IfCert f (IsCertificate eqs facts goal)
found_cert eqs facts goal bs (Cert c) g h = record { is = λ atoms we w wg. cycle_of eqs facts goal bs atoms c.items g h we w wg }
found_cert eqs facts goal bs (Point p) g h = tt

same_solved : (facts : List Fact) (ss ts : List Solution) → solved facts ≡ Ok ss → solved facts ≡ Ok ts → ss ≡ ts
same_solved facts ss ts a b = ok_same ss ts (sym a ∙ b)
  where
    ok_same : (ss ts : List Solution) → ◌≡◌ {A = Result (List Solution) TermError} (Ok ss) (Ok ts) → ss ≡ ts
    ok_same ss ts e = cc

-- the equations are those of the facts
whole_cert : (facts : List Fact) (goal : Form) (ss : List Solution) (f : Found) → solved facts ≡ Ok ss → ((n : ℕ) → AllWithin n facts → AllSolvedWithin n ss) → IfCert f (IsCertificate ss facts goal) → IfCert f (IsCertificateOf facts goal)
whole_cert facts goal ss (Cert c) e within h = record {
  is = λ ts q atoms w wg. subst (λ (x : List Solution). is_certificate x facts goal c.items atoms ≡ true) (same_solved facts ss ts e q) (h.is atoms (within (atoms + 1) w) w wg);
}
whole_cert facts goal ss (Point p) e within h = tt

pub whole_found : (facts : List Fact) (goal : Form) (ss : List Solution) (r : Result Found TermError) → solved facts ≡ Ok ss → ((n : ℕ) → AllWithin n facts → AllSolvedWithin n ss) → IfOk r (λ f. IfCert f (IsCertificate ss facts goal)) → IfOk r (λ f. IfCert f (IsCertificateOf facts goal))
whole_found facts goal ss (Err e) q within h = tt
whole_found facts goal ss (Ok f) q within h = whole_cert facts goal ss f q within h
