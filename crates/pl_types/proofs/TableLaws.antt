-- Laws of the tables of a file.
use Rattle.std.proofs.Common.{◌≡◌, ◌∙◌, ap, refl, Bool, true, false, cond, Option, Some, List, ℕ}
use mathlib.Core.Path.{fun_ext}
use Rattle.std.specs.Borrow.{Bor}
use Rattle.std.specs.Str.{bytes_eq}
use Rattle.std.proofs.lemmas.Cmp.{nat_list_eq_equiv}
use Rattle.pl_syntax.specs.declared.expr.Binder.{Binder}
use Rattle.pl_types.specs.declared.tables.Callee.{Callee}
use Rattle.pl_types.specs.Held.{lent}
use Rattle.pl_syntax.specs.Known.{Placed}
use Rattle.pl_types.specs.Tables.{callee, placed}

lent_cond : (b : Bool) (v : Bor (List Binder)) (o : Option (Bor (List Binder))) → lent (cond b (Some v) o) ≡ cond b (Some v.now) (lent o)
lent_cond true v o = refl
lent_cond false v o = refl

placed_cond : (b : Bool) (v : Callee) (o : Option Callee) → placed (cond b (Some v) o) ≡ cond b (Some (callee v)) (placed o)
placed_cond true v o = refl
placed_cond false v o = refl

-- one list of binders more
pub list_put : (x : List ℕ) (list : List Binder) (v : Bor (List Binder)) (before after : List ℕ → Option (Bor (List Binder))) → v.now ≡ list →
    ((q : List ℕ) → after q ≡ cond (bytes_eq x q) (Some v) (before q)) →
    ◌≡◌ {A = List ℕ → Option (List Binder)} (λ q. lent (after q)) (λ q. cond (bytes_eq q x) (Some list) (lent (before q)))
list_put x list v before after m h = fun_ext (λ q.
    ap lent (h q) ∙ lent_cond (bytes_eq x q) v (before q)
    ∙ ap (λ b. cond b (Some v.now) (lent (before q))) (nat_list_eq_equiv.symm x q)
    ∙ ap (λ l. cond (bytes_eq q x) (Some l) (lent (before q))) m)

-- one function more
pub fun_put : (x : List ℕ) (f : Placed) (v : Callee) (before after : List ℕ → Option Callee) → callee v ≡ f →
    ((q : List ℕ) → after q ≡ cond (bytes_eq x q) (Some v) (before q)) →
    ◌≡◌ {A = List ℕ → Option Placed} (λ q. placed (after q)) (λ q. cond (bytes_eq q x) (Some f) (placed (before q)))
fun_put x f v before after m h = fun_ext (λ q.
    ap placed (h q) ∙ placed_cond (bytes_eq x q) v (before q)
    ∙ ap (λ b. cond b (Some (callee v)) (placed (before q))) (nat_list_eq_equiv.symm x q)
    ∙ ap (λ g. cond (bytes_eq q x) (Some g) (placed (before q))) m)
