-- A map from names as a partial map.
use Rattle.std.proofs.Common.{◌≡◌, ℕ, List, Some, cond, ap, ◌∙◌}
use mathlib.Core.Path.{fun_ext}
use Rattle.std.proofs.lemmas.Cmp.{nat_list_eq_equiv}
use Rattle.std.specs.Str.{bytes_eq}
use Rattle.std.specs.Prelude.{Result, Ok, Err, OnOk}
use Rattle.pl_terms.specs.declared.term.Term.{Term}
use Rattle.pl_terms.specs.Table.{Names, put}

-- a look-up that changed at one name alone
pub put_is : (x : List ℕ) (t : Term) (names names' : Names) → ((y : List ℕ) → names' y ≡ cond (bytes_eq x y) (Some t) (names y)) → names' ≡ put x t names
put_is x t names names' h = fun_ext (λ y. h y ∙ ap (λ b. cond b (Some t) (names y)) (nat_list_eq_equiv.symm x y))

-- what follows from what holds on Ok holds on Ok
pub on_ok_from : {T E : Type 0} (r : Result T E) (P Q : Type 0) → (P → Q) → OnOk r P → OnOk r Q
on_ok_from (Ok x) P Q f h = f h
on_ok_from (Err e) P Q f h = tt
