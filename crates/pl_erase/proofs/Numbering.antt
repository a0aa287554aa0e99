-- The numbers of binders in the code.
use Rattle.std.proofs.Common.{◌≡◌, ℕ, Bool, true, false, cond, Option, Some, refl, ap, ◌∙◌}
use Rattle.std.specs.Str.{bytes_eq}
use mathlib.Core.Path.{fun_ext}
use Rattle.std.proofs.lemmas.Cmp.{nat_list_eq_equiv}
use Rattle.pl_syntax.specs.Tree.{Name}
use Rattle.pl_erase.specs.Emitted.{number}
use Rattle.pl_erase.specs.Built.{or_nobody}

pub or_old : (b : Bool) (n : ℕ) (o : Option ℕ) → or_nobody (cond b (Some n) o) ≡ cond b n (or_nobody o)
or_old true n o = refl
or_old false n o = refl

-- numbers that changed at one name alone
pub number_is : (x : Name) (n : ℕ) (old new : Name → Option ℕ) → ((y : Name) → new y ≡ cond (bytes_eq x y) (Some n) (old y)) → (λ y. or_nobody (new y)) ≡ number x n (λ y. or_nobody (old y))
number_is x n old new h = fun_ext (λ y. ap or_nobody (h y ∙ ap (λ b. cond b (Some n) (old y)) (nat_list_eq_equiv.symm x y)) ∙ or_old (bytes_eq y x) n (old y))
