use Rattle.std.proofs.Common.{◌≡◌, List, ℕ, Option, Some, cond, subst}
use Rattle.std.specs.HashMap.{get_by}
use Rattle.std.specs.Str.{bytes_eq}
use Rattle.std.proofs.lemmas.Map.Text.{hash_map_updates_str}
use Rattle.pl_erase.proofs.Numbering.{number_is}
use Rattle.pl_erase.proofs.rows.Binders.bind.Goals as goal

pub returns-clause-numbers : goal.returns-clause-numbers
returns-clause-numbers c =
    let old : List ℕ → Option ℕ = λ y. get_by (λ k. bytes_eq y k.now) c.args.self.now.numbers in
    let new : List ℕ → Option ℕ = λ y. get_by (λ k. bytes_eq y k.now) c.insert.new.self in
    let P : List ℕ → Type 0 = λ x. (y : List ℕ) → new y ≡ cond (bytes_eq x y) (Some c.args.self.now.next) (old y) in
    let at = subst P c.text.ensures (hash_map_updates_str c.text.result.now c.args.self.now.numbers c.insert.new.self (Some c.args.self.now.next) c.in_ok-insert.ensures.updates) in
    number_is c.args.name.now c.args.self.now.next old new at
