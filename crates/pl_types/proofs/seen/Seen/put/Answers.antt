use Rattle.std.proofs.Common.{◌≡◌, List, ℕ, Some, Option, cond, subst}
use Rattle.std.specs.HashMap.{get_by}
use Rattle.std.specs.Str.{bytes_eq}
use Rattle.std.proofs.lemmas.Map.Text.{hash_map_updates_str}
use Rattle.pl_types.proofs.SeenLaws.{put_is}
use Rattle.pl_types.proofs.seen.Seen.put.Goals as goal

pub returns : goal.returns
returns c =
    let before : List ℕ → Option (Unit {0}) = λ y. get_by (λ k. bytes_eq y k.now) c.args.self.now.names in
    let after : List ℕ → Option (Unit {0}) = λ y. get_by (λ k. bytes_eq y k.now) c.insert.new.self in
    let P : List ℕ → Type 0 = λ x. (y : List ℕ) → after y ≡ cond (bytes_eq x y) (Some tt) (before y) in
    let at = subst P c.text.ensures (hash_map_updates_str c.text.result.now c.args.self.now.names c.insert.new.self (Some tt) c.in_ok-insert.ensures.updates) in
    put_is c.args.name.now tt before after at
