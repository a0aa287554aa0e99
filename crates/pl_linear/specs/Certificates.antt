-- Certificates: items that add to a positive constant, where no whole numbers meet them all.
use Rattle.std.specs.Prelude.{ℕ, ◌^◌, ◌+◌, ℤ, pos, negsuc, int_lt, int_le, Bool, true, false, nat_lt, if◌then◌else◌, unsigned_abs, List, [], ◌∷◌, length, set, replicate, slice_get, Option, Some, None, Result, Ok, Err}
use Rattle.std.specs.Ordering.{int_eq}
use Rattle.pl_forms.specs.declared.form.Form.{Form}
use Rattle.pl_forms.specs.declared.form.TermError.{TermError}
use Rattle.pl_forms.specs.declared.fact.Shape.{Shape}
use Rattle.pl_forms.specs.declared.fact.Shape.TheVariants.{Zero, Below, Differs}
use Rattle.pl_forms.specs.declared.fact.Fact.{Fact}
use Rattle.pl_forms.specs.declared.fact.EqTerm.{EqTerm}
use Rattle.pl_forms.specs.declared.fact.CertItem.{CertItem}
use Rattle.pl_forms.specs.declared.equation.Solution.{Solution}
use Rattle.pl_forms.specs.Equations.{counted, named}
use Rattle.pl_forms.specs.Rows.{then_more, form_times, add_rows, tight}

abbrev pub is_yes : Result Bool TermError → Bool
is_yes (Ok b) = b
is_yes (Err e) = false

-- a fact counts: it has no guard, or one that reduces to 1
abbrev pub is_counted : List Solution → Fact → Bool
is_counted eqs f = is_yes (counted eqs f.guard)

-- an inequality, an equation, or the reverse of an equation is added
abbrev pub add_shape : Shape → Bool → Form → List ℤ → Option (List ℤ)
add_shape Zero back f d = form_times (if back then negsuc 0 else pos 1) f d
add_shape Below true f d = None
add_shape Below false f d = form_times (pos 1) f d
add_shape Differs back f d = None

-- .. of a fact that counts
abbrev pub add_fact : List Solution → Bool → Fact → List ℤ → Option (List ℤ)
add_fact eqs back f d = if is_counted eqs f then add_shape f.shape back f.form d else None

abbrev pub add_named : List Solution → Option Fact → Bool → List ℤ → Option (List ℤ)
add_named eqs None back d = None
add_named eqs (Some f) back d = add_fact eqs back f d

-- the fact of an item; without a number it is the negated goal, beside the 1 that its row begins with
abbrev pub item_base : List Solution → List Fact → Form → Option ℕ → Bool → List ℤ → Option (List ℤ)
item_base eqs facts goal None back d = if back then None else form_times (negsuc 0) goal d
item_base eqs facts goal (Some i) back d = add_named eqs (slice_get facts i) back d

-- a multiple of the solved form of an equation is added
abbrev pub eq_times : Option Solution → ℤ → List ℤ → Option (List ℤ)
eq_times None times d = None
eq_times (Some s) times d = form_times times s.form d

-- multiples of the solved equations are added
abbrev pub add_eqs : List Solution → List EqTerm → List ℤ → Option (List ℤ)
add_eqs eqs [] d = Some d
add_eqs eqs (t ∷ ts) d = then_more (eq_times (named t.fact eqs) t.times d) (λ e. add_eqs eqs ts e)

-- no number passes the limit
abbrev pub small : List ℤ → Bool
small [] = true
small (c ∷ cs) = if nat_lt (2 ^ 126) (unsigned_abs c) then false else small cs

abbrev pub tightened : List ℤ → Option (List ℤ)
tightened d = if small d then Some (tight d) else None

abbrev pub finished : List Solution → List EqTerm → List ℤ → Option (List ℤ)
finished eqs terms d = then_more (add_eqs eqs terms d) tightened

-- the row of an item
abbrev pub item_row : List Solution → List Fact → Form → CertItem → List ℤ → Option (List ℤ)
item_row eqs facts goal it d = then_more (item_base eqs facts goal it.fact it.back d) (λ e. finished eqs it.eqs e)

-- what it begins with: the negated goal is 1 less the goal
abbrev pub start_row : Option ℕ → ℕ → List ℤ
start_row None n = set (replicate n (pos 0)) 0 (pos 1)
start_row (Some i) n = replicate n (pos 0)

-- an item is added, as often as it says, at least once
abbrev pub add_one : List Solution → List Fact → Form → CertItem → List ℤ → Option (List ℤ)
add_one eqs facts goal it total =
    if int_lt it.times (pos 1) then None
    else then_more (item_row eqs facts goal it (start_row it.fact (length total))) (λ r. add_rows it.times 0 r total)

abbrev pub add_items : List Solution → List Fact → Form → List CertItem → List ℤ → Option (List ℤ)
add_items eqs facts goal [] total = Some total
add_items eqs facts goal (it ∷ its) total = then_more (add_one eqs facts goal it total) (λ t. add_items eqs facts goal its t)

abbrev pub all_zero : List ℤ → Bool
all_zero [] = true
all_zero (c ∷ cs) = if int_eq c (pos 0) then all_zero cs else false

-- a positive constant
abbrev pub is_closed : List ℤ → Bool
is_closed [] = false
is_closed (k ∷ cs) = if int_le k (pos 0) then false else all_zero cs

abbrev pub closing : Option (List ℤ) → Bool
closing None = false
closing (Some d) = is_closed d

-- the items add to a positive constant, and no number on the way passes its limit
abbrev pub is_certificate : List Solution → List Fact → Form → List CertItem → ℕ → Bool
is_certificate eqs facts goal its atoms = closing (add_items eqs facts goal its (replicate (atoms + 1) (pos 0)))
