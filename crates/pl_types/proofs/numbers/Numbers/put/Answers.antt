use Rattle.std.proofs.Common.{◌≡◌, List, ℕ, Some, cond, subst}
use Rattle.std.specs.Str.{bytes_eq}
use Rattle.std.proofs.lemmas.Map.Text.{hash_map_updates_str}
use Rattle.pl_types.specs.Slots.{Table, numbers_in}
use Rattle.pl_types.proofs.SlotLaws.{changed}
use Rattle.pl_types.proofs.numbers.Numbers.put.Goals as goal

pub returns-clause-put : goal.returns-clause-put
returns-clause-put c =
    let before : Table = numbers_in c.args.self.now in
    let after : Table = numbers_in (record { newest = c.insert.new.self }) in
    let P : List ℕ → Type 0 = λ x. (q : List ℕ) → after q ≡ cond (bytes_eq x q) (Some c.args.number) (before q) in
    let at = subst P c.text.ensures (hash_map_updates_str c.text.result.now c.args.self.now.newest c.insert.new.self (Some c.args.number) c.in_ok-insert.ensures.updates) in
    changed c.args.name.now (Some c.args.number) before after at
