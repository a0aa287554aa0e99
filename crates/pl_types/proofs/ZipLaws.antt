-- Laws of two lists side by side.
use Rattle.std.proofs.Common.{◌≡◌, ◌∙◌, sym, ap, refl, ℕ, ◌+◌, ◌&&◌, not, Bool, true, false, Option, Some, None, List, [], ◌∷◌, map, drop}
use Rattle.std.specs.Borrow.{Bor}
use Rattle.std.specs.List.{slice_get}
use Rattle.std.specs.Option.{is_some}
use Rattle.pl_syntax.specs.declared.expr.Binder.{Binder}
use Rattle.pl_syntax.specs.declared.stmt.Init as init
use Rattle.pl_syntax.specs.Plain.{plain_init}
use Rattle.pl_types.specs.Held.{lent}
use Rattle.pl_syntax.specs.StmtRules.{is_field, same_fields}
use Rattle.pl_types.proofs.Drops.{slice_get_drop, drop-drop_one}

pub lent_some : {X : Type 0} (o : Option (Bor X)) → is_some (lent o) ≡ is_some o
lent_some None = refl
lent_some (Some b) = refl

-- one first value, and the rest
pub fields_step : (rest whole : List init.Init) (fields : List Binder) (i : ℕ) (x : init.Init) (b : Bool) → whole ≡ x ∷ rest → b ≡ is_field x.name (slice_get fields i) →
    same_fields (drop i fields) (map plain_init whole) ≡ (b && same_fields (drop (i + 1) fields) (map plain_init rest))
fields_step rest whole fields i x b w e =
    ap (λ xs. same_fields (drop i fields) (map plain_init xs)) w
    ∙ ap (λ o. is_field x.name o && same_fields (drop 1 (drop i fields)) (map plain_init rest)) (slice_get_drop fields i)
    ∙ ap (λ fs. is_field x.name (slice_get fields i) && same_fields fs (map plain_init rest)) (drop-drop_one fields i)
    ∙ ap (λ t. t && same_fields (drop (i + 1) fields) (map plain_init rest)) (sym e)

-- no first value is left
pub fields_end : (left : List init.Init) (fields : List Binder) (i : ℕ) → left ≡ [] →
    same_fields (drop i fields) (map plain_init left) ≡ not (is_some (slice_get fields i))
fields_end left fields i e = ap (λ xs. same_fields (drop i fields) (map plain_init xs)) e ∙ ap (λ o. not (is_some o)) (slice_get_drop fields i)

pub flip : (a b : Bool) → a ≡ not b → b ≡ not a
flip a true e = sym (ap not e)
flip a false e = sym (ap not e)
