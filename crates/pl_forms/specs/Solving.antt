-- How the equations among facts are solved.
use Rattle.std.specs.Prelude.{◌≡◌, ℕ, ◌+◌, suc, zero, ℤ, pos, negsuc, Bool, true, false, ◌||◌, nat_eq, if◌then◌else◌, List, [], ◌∷◌, ◌++◌, length, Option, Some, None, Result, Ok, Err}
use Rattle.std.specs.Option.{option_to_list}
use Rattle.std.specs.Ordering.{int_eq}
use Rattle.std.specs.declared.vec.Vec.{Vec}
use Rattle.std.specs.declared.alloc.Global.{Global}
use Rattle.pl_forms.specs.declared.form.Part.{Part}
use Rattle.pl_forms.specs.declared.form.Form.{Form}
use Rattle.pl_forms.specs.declared.form.TermError.{TermError}
use Rattle.pl_forms.specs.declared.form.TermError.TheVariants.{TooLarge, Memory}
use Rattle.pl_forms.specs.declared.fact.Shape.{Shape}
use Rattle.pl_forms.specs.declared.fact.Shape.TheVariants.{Zero, Below, Differs}
use Rattle.pl_forms.specs.declared.fact.Fact.{Fact}
use Rattle.pl_forms.specs.declared.equation.Solution.{Solution}
use Rattle.pl_forms.specs.declared.equation.Eqs.{Eqs}
use Rattle.pl_forms.specs.Equations.{counted, reduced}

-- the multiple is 1 or -1
abbrev pub is_unit : ℤ → Bool
is_unit c = int_eq c (pos 1) || int_eq c (negsuc 0)

-- the part with the newest atom of those whose multiple is 1 or -1
abbrev pub newest : Option Part → List Part → Option Part
newest best [] = best
newest best (p ∷ ps) = newest (if is_unit p.coeff then Some p else best) ps

-- the equation at place i, solved for that atom
abbrev pub solved_for : ℕ → Form → Option Part → Option Solution
solved_for i f None = None
solved_for i f (Some p) = Some (record { fact = i; atom = p.atom; form = f; minus = int_eq p.coeff (negsuc 0) })

abbrev pub with_solved : List Solution → ℕ → Result Form TermError → Result (List Solution) TermError
with_solved ss i (Err e) = Err e
with_solved ss i (Ok f) = Ok (ss ++ option_to_list (solved_for i f (newest None f.parts)))

abbrev pub when_counted : List Solution → ℕ → Form → Result Bool TermError → Result (List Solution) TermError
when_counted ss i f (Err e) = Err e
when_counted ss i f (Ok false) = Ok ss
when_counted ss i f (Ok true) = with_solved ss i (reduced ss f)

-- an equation was solved before
abbrev pub is_solved : ℕ → List Solution → Bool
is_solved i [] = false
is_solved i (s ∷ ss) = if nat_eq s.fact i then true else is_solved i ss

abbrev pub look_shape : Shape → List Solution → ℕ → Fact → Result (List Solution) TermError
look_shape Zero ss i f = if is_solved i ss then Ok ss else when_counted ss i f.form (counted ss f.guard)
look_shape Below ss i f = Ok ss
look_shape Differs ss i f = Ok ss

-- the fact at place i is looked at: an equation that counts is reduced, and solved where it has such an atom
abbrev pub look : List Solution → ℕ → Fact → Result (List Solution) TermError
look ss i f = look_shape f.shape ss i f

abbrev pub then_solved : Result (List Solution) TermError → (List Solution → Result (List Solution) TermError) → Result (List Solution) TermError
then_solved (Err e) f = Err e
then_solved (Ok ss) f = f ss

-- the facts from place i on are looked at in their order
abbrev pub pass : ℕ → List Fact → List Solution → Result (List Solution) TermError
pass i [] ss = Ok ss
pass i (f ∷ fs) ss = then_solved (look ss i f) (λ ts. pass (i + 1) fs ts)

-- .. again and again, until a pass solves none; each other pass solves one of the facts
abbrev pub passes : ℕ → List Fact → List Solution → Result (List Solution) TermError
passes zero facts ss = Ok ss
passes (suc n) facts ss = then_solved (pass 0 facts ss) (λ ts. if nat_eq (length ts) (length ss) then Ok ts else passes n facts ts)

-- the solved equations of a list of facts
abbrev pub solved : List Fact → Result (List Solution) TermError
solved facts = passes (length facts + 1) facts []

-- exactly these, or want of memory
abbrev pub Lists : Result (Vec Solution Global) TermError → Result (List Solution) TermError → Type 0
Lists (Ok v) wanted = wanted ≡ Ok v.items
Lists (Err (TooLarge n)) wanted = wanted ≡ Err (TooLarge n)
Lists (Err Memory) wanted = Unit {0}

abbrev pub Solves : Result Eqs TermError → Result (List Solution) TermError → Type 0
Solves (Ok e) wanted = wanted ≡ Ok e.solved
Solves (Err (TooLarge n)) wanted = wanted ≡ Err (TooLarge n)
Solves (Err Memory) wanted = Unit {0}

-- solutions were put behind those before, exactly as wanted
abbrev pub Looked : Result (Unit {0}) TermError → List Solution → Result (List Solution) TermError → Type 0
Looked (Ok u) now wanted = wanted ≡ Ok now
Looked (Err (TooLarge n)) now wanted = wanted ≡ Err (TooLarge n)
Looked (Err Memory) now wanted = Unit {0}
