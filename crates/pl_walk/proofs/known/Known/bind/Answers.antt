use Rattle.std.proofs.Common.{◌≡◌, ap, List, ℕ, Some, map, cond, subst}
use Rattle.std.specs.HashMap.{get_by}
use Rattle.std.specs.Str.{bytes_eq}
use Rattle.std.proofs.lemmas.Map.Text.{hash_map_updates_str}
use Rattle.pl_walk.specs.declared.known.Block.{Block}
use Rattle.pl_terms.specs.Table.{Names}
use Rattle.pl_walk.specs.Shown.{atoms_from}
use Rattle.pl_walk.proofs.BlockLaws.{made}
use Rattle.pl_walk.proofs.NameLaws.{put_is}
use Rattle.pl_walk.proofs.known.Known.bind.Goals as goal

pub returns : goal.returns
returns c =
    let names : Names = λ y. get_by (λ k. bytes_eq y k.now) c.args.self.now.names in
    let changed : Names = λ y. get_by (λ k. bytes_eq y k.now) c.insert.new.self in
    let P : List ℕ → Type 0 = λ x. (y : List ℕ) → changed y ≡ cond (bytes_eq x y) (Some c.args.term) (names y) in
    let at = subst P c.text.ensures (hash_map_updates_str c.text.result.now c.args.self.now.names c.insert.new.self (Some c.args.term) c.in_ok-insert.ensures.updates) in
    let bs = c.args.self.now.blocks.items in
    record { ok = ap (λ (n : Names). made (map (λ (b : Block). b.name.now) bs) n (atoms_from 0 bs)) (put_is c.args.name.now c.args.term names changed at) }
