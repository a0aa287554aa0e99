use Rattle.std.proofs.Common.{rules, ◌≡◌, ◌∙◌, sym, ap, List, ℕ, Some, None, Option, cond, subst}
use Rattle.std.specs.Str.{bytes_eq}
use Rattle.std.proofs.lemmas.Map.Text.{hash_map_updates_str}
use Rattle.pl_types.specs.Slots.{Table, numbers_in, set}
use Rattle.pl_types.proofs.SlotLaws.{changed}
use Rattle.pl_types.proofs.numbers.Numbers.restore.Goals as goal

pub returns-in-None : goal.returns-in-None
returns-in-None c =
    let before : Table = numbers_in c.args.self.now in
    let after : Table = numbers_in (record { newest = c.remove.new.self }) in
    let P : List ℕ → Type 0 = λ x. (q : List ℕ) → after q ≡ cond (bytes_eq x q) None (before q) in
    let at = subst P c.text.ensures (hash_map_updates_str c.text.result.now c.args.self.now.newest c.remove.new.self None c.remove.ensures.updates) in
    changed c.args.name.now None before after at ∙ ap (λ (number : Option ℕ). set c.args.name.now number before) (sym c.in-None.is)

pub returns-in-Some-get_mut : goal.returns-in-Some-get_mut
returns-in-Some-get_mut c =
    let before : Table = numbers_in c.args.self.now in
    let after : Table = numbers_in (record { newest = c.get_mut.follows.lender c.in-Some.number }) in
    let P : List ℕ → Type 0 = λ x. (q : List ℕ) → after q ≡ cond (bytes_eq x q) (Some c.in-Some.number) (before q) in
    let at = subst P c.text-in-Some.ensures (hash_map_updates_str c.text-in-Some.result.now c.args.self.now.newest (c.get_mut.follows.lender c.in-Some.number) (Some c.in-Some.number) ((c.get_mut.follows.holds c.in-Some.number).3 (search rules))) in
    changed c.args.name.now (Some c.in-Some.number) before after at ∙ ap (λ (number : Option ℕ). set c.args.name.now number before) (sym c.in-Some.is)
