-- What holds of all solved forms: they are met wherever the facts are, they are forms, and their atoms are those of facts.
use Rattle.std.proofs.Common.{◌≡◌, ℕ, zero, suc, ◌+◌, ◌-◌, ◌<◌, ℤ, pos, nat_eq, Bool, true, false, cond, List, [], ◌∷◌, ◌++◌, length, Option, Some, None, option_to_list, Result, Ok, Err, IfOk, refl, ap, sym, subst, ◌∙◌, arith, All, get_or}
use Rattle.std.proofs.lemmas.List.Elements.{All-cons, All-nil, All-append}
use Rattle.pl_forms.specs.declared.form.Part.{Part}
use Rattle.pl_forms.specs.declared.form.Form.{Form}
use Rattle.pl_forms.specs.declared.form.TermError.{TermError}
use Rattle.pl_forms.specs.declared.form.TermError.TheVariants.{TooLarge, Memory}
use Rattle.pl_forms.specs.declared.fact.Shape.{Shape}
use Rattle.pl_forms.specs.declared.fact.Shape.TheVariants.{Zero, Below, Differs}
use Rattle.pl_forms.specs.declared.fact.Fact.{Fact}
use Rattle.pl_forms.specs.declared.equation.Solution.{Solution}
use Rattle.pl_forms.specs.declared.equation.Eqs.{Eqs}
use Rattle.pl_forms.specs.Forms.{IsForm, value}
use Rattle.pl_forms.specs.Facts.{MeetsShape, Meets, IsFact}
use Rattle.pl_forms.specs.Equations.{AreSolutions, Follow, counted, reduced}
use Rattle.pl_forms.specs.Solving.{newest, solved_for, with_solved, when_counted, is_solved, look_shape, look, then_solved, pass, passes, solved, Solves, Lists, Looked}
use Rattle.pl_forms.specs.Places.{Within, AllWithin, AllSolvedWithin}
use Rattle.pl_forms.proofs.Reducing.{reduced_value, reduced_form, counted_meets}
use Rattle.pl_forms.proofs.PlaceLaws.{reduced_within}

-- all solved forms are so
abbrev Are : (Form → Type 0) → List Solution → Type 0
Are P ss = All (λ s. P s.form) ss

-- an equation that counts is so once it is reduced by others that are
abbrev Gives : (Form → Type 0) → Shape → Fact → Type 0
Gives P s f = (ss : List Solution) (g : Form) → s ≡ Zero → Are P ss → counted ss f.guard ≡ Ok true → reduced ss f.form ≡ Ok g → P g

one_is : (P : Form → Type 0) (i : ℕ) (f : Form) (o : Option Part) → P f → Are P (option_to_list (solved_for i f o))
one_is P i f None h = All-nil (λ s. P s.form)
one_is P i f (Some p) h = All-cons (λ s. P s.form) _ [] h (All-nil (λ s. P s.form))

with_are : (P : Form → Type 0) (ss ts : List Solution) (i : ℕ) (r : Result Form TermError) → Are P ss → ((f : Form) → r ≡ Ok f → P f) → with_solved ss i r ≡ Ok ts → Are P ts
with_are P ss ts i (Err e) a h q = absurd cc
with_are P ss ts i (Ok f) a h q =
    let same : ss ++ option_to_list (solved_for i f (newest None f.parts)) ≡ ts = cc in
    rw (← same) (All-append (λ s. P s.form) ss (option_to_list (solved_for i f (newest None f.parts))) a (one_is P i f (newest None f.parts) (h f refl)))

when_are : (P : Form → Type 0) (ss ts : List Solution) (i : ℕ) (f : Fact) (r : Result Bool TermError) → r ≡ counted ss f.guard → Are P ss → Gives P Zero f → when_counted ss i f.form r ≡ Ok ts → Are P ts
when_are P ss ts i f (Err e) c a h q = absurd cc
when_are P ss ts i f (Ok false) c a h q = let same : ss ≡ ts = cc in rw (← same) a
when_are P ss ts i f (Ok true) c a h q = with_are P ss ts i (reduced ss f.form) a (λ g e. h ss g refl a (sym c) e) q

zero_are : (P : Form → Type 0) (ss ts : List Solution) (i : ℕ) (f : Fact) (b : Bool) → Are P ss → Gives P Zero f → cond b (Ok ss) (when_counted ss i f.form (counted ss f.guard)) ≡ Ok ts → Are P ts
zero_are P ss ts i f true a h q = let same : ss ≡ ts = cc in rw (← same) a
zero_are P ss ts i f false a h q = when_are P ss ts i f (counted ss f.guard) refl a h q

look_are : (P : Form → Type 0) (s : Shape) (ss ts : List Solution) (i : ℕ) (f : Fact) → Are P ss → Gives P s f → look_shape s ss i f ≡ Ok ts → Are P ts
look_are P Zero ss ts i f a h q = zero_are P ss ts i f (is_solved i ss) a h q
look_are P Below ss ts i f a h q = let same : ss ≡ ts = cc in rw (← same) a
look_are P Differs ss ts i f a h q = let same : ss ≡ ts = cc in rw (← same) a

-- a look at the fact keeps what is so of a list of solved equations
abbrev pub Keeps : (List Solution → Type 0) → Fact → Type 0
Keeps Q f = (i : ℕ) (ss ts : List Solution) → Q ss → look ss i f ≡ Ok ts → Q ts

solved_is : (r : Result (List Solution) TermError) (f : List Solution → Result (List Solution) TermError) (ts : List Solution) → then_solved r f ≡ Ok ts → (us : List Solution) × (r ≡ Ok us) × (f us ≡ Ok ts)
solved_is (Err e) f ts h = absurd cc
solved_is (Ok us) f ts h = (us, refl, h)

pass_keeps : (Q : List Solution → Type 0) (i : ℕ) (fs : List Fact) (ss ts : List Solution) → All (Keeps Q) fs → Q ss → pass i fs ss ≡ Ok ts → Q ts
pass_keeps Q i [] ss ts h a q = let same : ss ≡ ts = cc in subst Q same a
pass_keeps Q i (f ∷ fs) ss ts h a q =
    let k = solved_is (look ss i f) (λ us. pass (i + 1) fs us) ts q in
    pass_keeps Q (i + 1) fs k.0 ts (λ n z lt. h (suc n) z (omega arith)) (h 0 f (omega arith) i ss k.0 a k.1) k.2

last_pass : (b : Bool) (us ts : List Solution) (r : Result (List Solution) TermError) (P : List Solution → Type 0) → P us → (r ≡ Ok ts → P ts) → cond b (Ok us) r ≡ Ok ts → P ts
last_pass true us ts r P h k q = let same : us ≡ ts = cc in rw (← same) h
last_pass false us ts r P h k q = k q

passes_keep : (Q : List Solution → Type 0) (n : ℕ) (fs : List Fact) (ss ts : List Solution) → All (Keeps Q) fs → Q ss → passes n fs ss ≡ Ok ts → Q ts
passes_keep Q zero fs ss ts h a q = let same : ss ≡ ts = cc in subst Q same a
passes_keep Q (suc n) fs ss ts h a q =
    let k = solved_is (pass 0 fs ss) (λ us. cond (nat_eq (length us) (length ss)) (Ok us) (passes n fs us)) ts q in
    let p = pass_keeps Q 0 fs ss k.0 h a k.1 in
    last_pass (nat_eq (length k.0) (length ss)) k.0 ts (passes n fs k.0) Q p (λ e. passes_keep Q n fs k.0 ts h p e) k.2

-- what looks keep is so of all that is solved
pub solved_keep : (Q : List Solution → Type 0) (fs : List Fact) (ts : List Solution) → All (Keeps Q) fs → Q [] → solved fs ≡ Ok ts → Q ts
solved_keep Q fs ts h a q = passes_keep Q (length fs + 1) fs [] ts h a q

all_are : (P : Form → Type 0) (fs : List Fact) (ts : List Solution) → All (λ f. Gives P f.shape f) fs → solved fs ≡ Ok ts → Are P ts
all_are P fs ts h q = solved_keep (Are P) fs ts (λ k d lt. λ i ss us a e. look_are P (get_or fs k d).shape ss us i (get_or fs k d) a (h k d lt) e) (All-nil (λ s. P s.form)) q

gives_met : (v : ℕ → ℤ) (f : Fact) → Meets v f → Gives (λ g. value v g ≡ pos 0) f.shape f
gives_met v f m = λ ss g z a c e. reduced_value v ss f.form g a e ∙ subst (λ s. MeetsShape v s f.form) z (m.said (counted_meets v ss f.guard a c))

gives_form : (f : Fact) → IsFact f → Gives IsForm f.shape f
gives_form f p = λ ss g z a c e. reduced_form ss f.form g a p.form e

gives_within : (n : ℕ) (f : Fact) → Within n f.form → Gives (Within n) f.shape f
gives_within n f w = λ ss g z a c e. reduced_within n ss f.form g a w e

-- what is solved is met wherever the facts are
pub solved_follow : (fs : List Fact) (r : Result Eqs TermError) → Solves r (solved fs) → IfOk r (λ e. Follow e.solved fs)
solved_follow fs (Err e) h = tt
solved_follow fs (Ok e) h = λ v m. all_are (λ g. value v g ≡ pos 0) fs e.solved (λ k d lt. gives_met v (get_or fs k d) (m k d lt)) h

pub solved_forms : (fs : List Fact) (r : Result Eqs TermError) → All IsFact fs → Solves r (solved fs) → IfOk r (λ e. AreSolutions e.solved)
solved_forms fs (Err e) a h = tt
solved_forms fs (Ok e) a h = all_are IsForm fs e.solved (λ k d lt. gives_form (get_or fs k d) (a k d lt)) h

pub solved_within : (fs : List Fact) (r : Result Eqs TermError) → Solves r (solved fs) → IfOk r (λ e. (n : ℕ) → AllWithin n fs → AllSolvedWithin n e.solved)
solved_within fs (Err e) h = tt
solved_within fs (Ok e) h = λ n w. all_are (Within n) fs e.solved (λ k d lt. gives_within n (get_or fs k d) (w k d lt)) h

-- a look at a fact, as code tells it
pub look_is_forms : (ss now : List Solution) (i : ℕ) (f : Fact) (r : Result (Unit {0}) TermError) → IsFact f → AreSolutions ss → Looked r now (look ss i f) → IfOk r (λ _. AreSolutions now)
look_is_forms ss now i f (Err e) p a h = tt
look_is_forms ss now i f (Ok u) p a h = look_are IsForm f.shape ss now i f a (gives_form f p) h

-- one pass of those that may still come
one_pass : (n : ℕ) (fs : List Fact) (ss : List Solution) → 0 < n → passes n fs ss ≡ then_solved (pass 0 fs ss) (λ ts. cond (nat_eq (length ts) (length ss)) (Ok ts) (passes (n - 1) fs ts))
one_pass zero fs ss h = absurd (omega arith)
one_pass (suc m) fs ss h = let e : suc m - 1 ≡ m = omega arith in rw e refl

passes_stop : (n : ℕ) (fs : List Fact) (ss : List Solution) (e : TermError) → 0 < n → pass 0 fs ss ≡ Err e → passes n fs ss ≡ Err e
passes_stop n fs ss e h q = one_pass n fs ss h ∙ ap (λ r. then_solved r (λ ts. cond (nat_eq (length ts) (length ss)) (Ok ts) (passes (n - 1) fs ts))) q

-- a pass that was refused refuses all that may still come
pub stopped : (e : TermError) (n : ℕ) (fs : List Fact) (ss now : List Solution) (wanted : Result (List Solution) TermError) → wanted ≡ passes n fs ss → 0 < n → Looked (Err e) now (pass 0 fs ss) → Lists (Err e) wanted
stopped (TooLarge k) n fs ss now wanted w h q = w ∙ passes_stop n fs ss (TooLarge k) h q
stopped Memory n fs ss now wanted w h q = tt
