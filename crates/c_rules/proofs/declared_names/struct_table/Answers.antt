use Rattle.std.proofs.Common.{◌≡◌, ◌∙◌, ◌+◌, ◌-◌, ◌<◌, ◌≤◌, ◌∷◌, ℕ, List, Option, Some, cond, sym, ap, subst, length, map, drop, arith}
use Rattle.std.specs.Borrow.{Bor}
use Rattle.std.specs.HashMap.{get_by}
use Rattle.std.specs.Str.{bytes_eq}
use Rattle.std.proofs.lemmas.Map.Text.{hash_map_updates_str}
use Rattle.c_syntax.specs.Rules.{members_of}
use Rattle.c_forms.specs.declared.source.Member.{Member}
use Rattle.c_rules.specs.Groups.{struct_of}
use Rattle.c_rules.specs.Tables.{members_lent}
use Rattle.c_rules.proofs.Drops.{dropped}
use Rattle.c_rules.proofs.TableLaws.{struct_put}
use Rattle.c_rules.proofs.declared_names.struct_table.Goals as goal

pub loop-i-preserved : goal.loop-i-preserved
loop-i-preserved c =
    let list = c.args.list.now in
    let i = c.loop-i.i in
    let x = c.index-list-i.result in
    let positive : 0 < i = c.loop-i-test.true in
    let inside : i ≤ length list = c.loop-i.invariant.place in
    let lt : i - 1 < length list = omega arith in
    let back : i - 1 + 1 ≡ i = omega arith in
    let le : i - 1 ≤ length list = omega arith in
    let parts : drop (i - 1) list ≡ x ∷ drop i list = dropped list (i - 1) x lt c.index-list-i.is ∙ ap (λ k. x ∷ drop k list) back in
    let before : List ℕ → Option (Bor (List Member)) = λ q. get_by (λ k. bytes_eq q k.now) c.loop-i.table in
    let after : List ℕ → Option (Bor (List Member)) = λ q. get_by (λ k. bytes_eq q k.now) c.insert.new.self in
    let P : List ℕ → Type 0 = λ name. (q : List ℕ) → after q ≡ cond (bytes_eq name q) (Some c.as_slice.result) (before q) in
    let at = subst P c.text.ensures (hash_map_updates_str c.text.result.now c.loop-i.table c.insert.new.self (Some c.as_slice.result) c.in_ok-insert.ensures.updates) in
    record {
      place = le;
      table = struct_put (struct_of x) (map struct_of (drop i list)) c.as_slice.result before after
          (ap (λ ms. members_lent (Some (record c.as_slice.result { now = ms }))) c.as_slice.ensures) at c.loop-i.invariant.table
          ∙ ap (λ xs. members_of (map struct_of xs)) (sym parts);
    }
