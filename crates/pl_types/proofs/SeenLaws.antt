-- Laws of the names that were seen.
use Rattle.std.proofs.Common.{◌≡◌, ◌∙◌, ap, refl, Bool, true, false, cond, Option, Some, List, ℕ}
use mathlib.Core.Path.{fun_ext}
use Rattle.std.specs.Option.{is_some}
use Rattle.std.specs.Str.{bytes_eq}
use Rattle.pl_syntax.specs.Known.{put}

some_cond : {X : Type 0} (b : Bool) (x : X) (o : Option X) → is_some (cond b (Some x) o) ≡ cond b true (is_some o)
some_cond true x o = refl
some_cond false x o = refl

-- a look-up that changed at one name alone
pub put_is : {X : Type 0} (x : List ℕ) (v : X) (before after : List ℕ → Option X) → ((y : List ℕ) → after y ≡ cond (bytes_eq x y) (Some v) (before y)) →
    (λ y. is_some (after y)) ≡ put x (λ y. is_some (before y))
put_is x v before after h = fun_ext (λ y. ap is_some (h y) ∙ some_cond (bytes_eq x y) v (before y))
