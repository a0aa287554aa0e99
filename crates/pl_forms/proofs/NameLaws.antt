-- No equation is solved twice.
use Rattle.std.proofs.Common.{◌≡◌, ℕ, nat_eq, Bool, true, false, cond, List, [], ◌∷◌, ◌++◌, Option, Some, None, option_to_list, Result, Ok, Err, IfOk, refl, sym, subst, get_or, append-nil, arith}
use Rattle.std.proofs.lemmas.Bool.{eq-eqb, cond-true}
use Rattle.std.proofs.lemmas.List.Elements.{All-cons, All-nil, All-append}
use Rattle.pl_forms.specs.declared.form.Part.{Part}
use Rattle.pl_forms.specs.declared.form.Form.{Form}
use Rattle.pl_forms.specs.declared.form.TermError.{TermError}
use Rattle.pl_forms.specs.declared.fact.Shape.{Shape}
use Rattle.pl_forms.specs.declared.fact.Shape.TheVariants.{Zero, Below, Differs}
use Rattle.pl_forms.specs.declared.fact.Fact.{Fact}
use Rattle.pl_forms.specs.declared.equation.Solution.{Solution}
use Rattle.pl_forms.specs.declared.equation.Eqs.{Eqs}
use Rattle.pl_forms.specs.Equations.{named, AreNamed, counted, reduced}
use Rattle.pl_forms.specs.Solving.{newest, solved_for, with_solved, when_counted, is_solved, look_shape, solved, Solves}
use Rattle.pl_forms.proofs.SolvingLaws.{solved_keep}

named-append : (i : ℕ) (ss ts : List Solution) (s : Solution) → named i ss ≡ Some s → named i (ss ++ ts) ≡ Some s
named-append i [] ts s h = absurd cc
named-append i (t ∷ ss) ts s h =
    (elim (nat_eq t.fact i) as (λ b. cond b (Some t) (named i ss) ≡ Some s → cond b (Some t) (named i (ss ++ ts)) ≡ Some s) [ true ↦ λ e. e | false ↦ λ e. named-append i ss ts s e ]) h

named_last : (i : ℕ) (ss : List Solution) (s : Solution) → is_solved i ss ≡ false → s.fact ≡ i → named i (ss ++ s ∷ []) ≡ Some s
named_last i [] s h e = cond-true (nat_eq s.fact i) (Some s) None (eq-eqb s.fact i e)
named_last i (t ∷ ss) s h e =
    (elim (nat_eq t.fact i) as (λ b. cond b true (is_solved i ss) ≡ false → cond b (Some t) (named i (ss ++ s ∷ [])) ≡ Some s) [ true ↦ λ q. absurd cc | false ↦ λ q. named_last i ss s q e ]) h

one_named : (ss : List Solution) (t : Solution) → is_solved t.fact ss ≡ false → AreNamed ss → AreNamed (ss ++ t ∷ [])
one_named ss t h a =
    All-append (λ s. named s.fact (ss ++ t ∷ []) ≡ Some s) ss (t ∷ [])
    (λ k d lt. named-append (get_or ss k d).fact ss (t ∷ []) (get_or ss k d) (a k d lt))
    (All-cons (λ s. named s.fact (ss ++ t ∷ []) ≡ Some s) t [] (named_last t.fact ss t h refl) (All-nil (λ s. named s.fact (ss ++ t ∷ []) ≡ Some s)))

more_named : (ss : List Solution) (i : ℕ) (f : Form) (o : Option Part) → is_solved i ss ≡ false → AreNamed ss → AreNamed (ss ++ option_to_list (solved_for i f o))
more_named ss i f None h a = subst AreNamed (sym (append-nil ss)) a
more_named ss i f (Some p) h a = one_named ss _ h a

with_named : (ss ts : List Solution) (i : ℕ) (r : Result Form TermError) → is_solved i ss ≡ false → AreNamed ss → with_solved ss i r ≡ Ok ts → AreNamed ts
with_named ss ts i (Err e) h a q = absurd cc
with_named ss ts i (Ok f) h a q =
    let same : ss ++ option_to_list (solved_for i f (newest None f.parts)) ≡ ts = cc in
    subst AreNamed same (more_named ss i f (newest None f.parts) h a)

when_named : (ss ts : List Solution) (i : ℕ) (f : Form) (r : Result Bool TermError) → is_solved i ss ≡ false → AreNamed ss → when_counted ss i f r ≡ Ok ts → AreNamed ts
when_named ss ts i f (Err e) h a q = absurd cc
when_named ss ts i f (Ok false) h a q = let same : ss ≡ ts = cc in subst AreNamed same a
when_named ss ts i f (Ok true) h a q = with_named ss ts i (reduced ss f) h a q

zero_named : (ss ts : List Solution) (i : ℕ) (f : Fact) (b : Bool) → is_solved i ss ≡ b → AreNamed ss → cond b (Ok ss) (when_counted ss i f.form (counted ss f.guard)) ≡ Ok ts → AreNamed ts
zero_named ss ts i f true h a q = let same : ss ≡ ts = cc in subst AreNamed same a
zero_named ss ts i f false h a q = when_named ss ts i f.form (counted ss f.guard) h a q

look_named : (s : Shape) (ss ts : List Solution) (i : ℕ) (f : Fact) → AreNamed ss → look_shape s ss i f ≡ Ok ts → AreNamed ts
look_named Zero ss ts i f a q = zero_named ss ts i f (is_solved i ss) refl a q
look_named Below ss ts i f a q = let same : ss ≡ ts = cc in subst AreNamed same a
look_named Differs ss ts i f a q = let same : ss ≡ ts = cc in subst AreNamed same a

pub solved_named : (fs : List Fact) (r : Result Eqs TermError) → Solves r (solved fs) → IfOk r (λ e. AreNamed e.solved)
solved_named fs (Err e) h = tt
solved_named fs (Ok e) h = solved_keep AreNamed fs e.solved (λ k d lt. λ i ss ts a q. look_named (get_or fs k d).shape ss ts i (get_or fs k d) a q) (λ k d lt. absurd (omega arith)) h
