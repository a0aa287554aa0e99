use Rattle.std.proofs.Common.{◌≡◌, ◌∙◌, ◌+◌, ◌-◌, ◌<◌, ◌≤◌, ◌∷◌, ℕ, List, Option, Some, cond, refl, sym, ap, subst, length, map, drop, arith}
use Rattle.std.specs.Borrow.{Bor}
use Rattle.std.specs.HashMap.{get_by}
use Rattle.std.specs.Str.{bytes_eq}
use Rattle.std.proofs.lemmas.Map.Text.{hash_map_updates_str}
use Rattle.c_forms.specs.Plain.{plain_fun}
use Rattle.c_forms.specs.declared.source.Head.{Head}
use Rattle.c_rules.specs.Groups.{head_of}
use Rattle.c_rules.proofs.Drops.{dropped}
use Rattle.c_rules.proofs.TableLaws.{head_put}
use Rattle.c_rules.proofs.declared_names.head_table.Goals as goal

pub loop-i-preserved : goal.loop-i-preserved
loop-i-preserved c =
    let list = c.args.list.now in
    let i = c.loop-i.i in
    let x = c.index-list-i.result in
    let positive : 0 < i = c.loop-i-test.true in
    let inside : i ≤ length list = c.loop-i.invariant.place in
    let lt : i - 1 < length list = omega arith in
    let back : i - 1 + 1 ≡ i = omega arith in
    let le : i - 1 ≤ length list = omega arith in
    let parts : drop (i - 1) list ≡ x ∷ drop i list = dropped list (i - 1) x lt c.index-list-i.is ∙ ap (λ k. x ∷ drop k list) back in
    let before : List ℕ → Option (Bor Head) = λ q. get_by (λ k. bytes_eq q k.now) c.loop-i.table in
    let after : List ℕ → Option (Bor Head) = λ q. get_by (λ k. bytes_eq q k.now) c.insert.new.self in
    let P : List ℕ → Type 0 = λ name. (q : List ℕ) → after q ≡ cond (bytes_eq name q) (Some c.its_head.result) (before q) in
    let at = subst P c.text.ensures (hash_map_updates_str c.text.result.now c.loop-i.table c.insert.new.self (Some c.its_head.result) c.in_ok-insert.ensures.updates) in
    record {
      place = le;
      table = head_put x.head (map (λ f. f.head) (map plain_fun (drop i list))) c.its_head.result before after c.its_head.ensures at c.loop-i.invariant.table
          ∙ ap (λ xs. head_of (map (λ f. f.head) (map plain_fun xs))) (sym parts);
    }
