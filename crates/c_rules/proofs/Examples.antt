-- Small examples of breaches.
use Rattle.std.proofs.Common.{◌≡◌, refl, [], ◌∷◌, true}
use Rattle.std.specs.Prelude.{codes}
use Rattle.c_syntax.specs.declared.kind.CType.TheVariants as kind
use Rattle.c_syntax.specs.declared.expr.COp.TheVariants as op
use Rattle.c_forms.specs.declared.word.Local.{Local}
use Rattle.c_forms.specs.declared.word.Number.TheVariants.{Small}
use Rattle.c_forms.specs.Tree as w
use Rattle.c_rules.specs.Sorts.{wanted, fitting}

abbrev x : Local
x = record { name = codes "x"; number = Small 1 }

-- a truth value where a number is wanted
number_wanted : wanted [] kind.I64 10 (w.Truth true) ≡ 10 ∷ []
number_wanted = refl

-- a local that isn't in scope
not_bound : wanted [] kind.I64 10 (w.Not (w.Var x)) ≡ 12 ∷ []
not_bound = refl

-- a comparison of two NULL
two_null : wanted [] kind.Bool 10 (w.Bin op.Eq w.Null w.Null) ≡ 11 ∷ []
two_null = refl

-- NULL as an argument for a pointer, and for a lock
null_fits : fitting [] kind.PtrI64 10 w.Null ≡ []
null_fits = refl

null_of_lock : fitting [] kind.PtrLock 10 w.Null ≡ 10 ∷ []
null_of_lock = refl
