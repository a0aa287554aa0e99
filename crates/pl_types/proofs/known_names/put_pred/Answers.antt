use Rattle.std.proofs.Common.{◌≡◌, ◌∙◌, sym, ap, List, ℕ, Some, Option, cond, subst}
use Rattle.std.specs.Borrow.{Bor}
use Rattle.std.specs.HashMap.{get_by}
use Rattle.std.specs.Str.{bytes_eq}
use Rattle.std.proofs.lemmas.Map.Text.{hash_map_updates_str}
use Rattle.pl_syntax.specs.declared.expr.Binder.{Binder}
use Rattle.pl_syntax.specs.Plain.{plain_decl}
use Rattle.pl_syntax.specs.Known.{with_pred}
use Rattle.pl_types.specs.Tables.{lists_in}
use Rattle.pl_types.proofs.TableLaws.{list_put}
use Rattle.pl_types.proofs.known_names.put_pred.Goals as goal

pub returns-in_ok-insert-in-Pred : goal.returns-in_ok-insert-in-Pred
returns-in_ok-insert-in-Pred c =
    let before : List ℕ → Option (Bor (List Binder)) = λ y. get_by (λ k. bytes_eq y k.now) c.args.table.now in
    let after : List ℕ → Option (Bor (List Binder)) = λ y. get_by (λ k. bytes_eq y k.now) c.insert.new.self in
    let P : List ℕ → Type 0 = λ x. (y : List ℕ) → after y ≡ cond (bytes_eq x y) (Some c.as_slice.result) (before y) in
    let at = subst P c.text.ensures (hash_map_updates_str c.text.result.now c.args.table.now c.insert.new.self (Some c.as_slice.result) c.in_ok-insert-in-Pred.ensures.updates) in
    list_put c.in-Pred.p.name c.in-Pred.p.params c.as_slice.result before after c.as_slice.ensures at
    ∙ ap (λ d. with_pred d (lists_in c.args.table.now)) (sym (ap plain_decl c.in-Pred.is))
