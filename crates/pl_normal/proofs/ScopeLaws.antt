-- The newest binder of a name.
use Rattle.std.proofs.Common.{◌≡◌, ℕ, zero, suc, ◌<◌, List, [], ◌∷◌, length, drop, get_or, Some, None, true, refl, ap, arith}
use Rattle.std.specs.Str.{bytes_eq}
use Rattle.pl_syntax.specs.Tree.{Name}
use Rattle.pl_normal.specs.declared.scope.Binding.{Binding}
use Rattle.pl_normal.specs.Scope.{form_of, or_older, if_named}

-- where no newer binder has the name, this one is it
pub newest : (i : ℕ) (bs : List Binding) (x : Name) (d e : Binding) → i < length bs → form_of (drop (suc i) bs) x ≡ None → bytes_eq x (get_or bs i d).name ≡ true → form_of bs x ≡ Some (get_or bs i e).form
newest i [] x d e within none same = absurd (omega arith)
newest zero (b ∷ bs) x d e within none same = rw (none, same) refl
newest (suc i) (b ∷ bs) x d e within none same = ap (λ o. or_older o (if_named x b)) (newest i bs x d e (omega arith) none same)
