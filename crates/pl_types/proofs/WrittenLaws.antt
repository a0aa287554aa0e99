-- Laws of the parameters that have written arguments.
use Rattle.std.proofs.Common.{◌≡◌, ◌∙◌, ap, true, false, cond, List, ◌∷◌}
use Rattle.pl_syntax.specs.declared.expr.Binder.{Binder}
use Rattle.pl_syntax.specs.Known.{is_written, written}

-- one that has, and one that has none
pub written_here : (list rest : List Binder) (b : Binder) → list ≡ b ∷ rest → is_written b.class ≡ true → written list ≡ b ∷ written rest
written_here list rest b e h = ap written e ∙ ap (λ t. cond t (b ∷ written rest) (written rest)) h

pub written_past : (list rest : List Binder) (b : Binder) → list ≡ b ∷ rest → is_written b.class ≡ false → written list ≡ written rest
written_past list rest b e h = ap written e ∙ ap (λ t. cond t (b ∷ written rest) (written rest)) h
