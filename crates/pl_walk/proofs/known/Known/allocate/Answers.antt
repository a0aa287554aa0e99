use Rattle.std.proofs.Common.{◌≡◌, ◌∙◌, sym, ℕ, List, ◌∷◌, ◌++◌, [], length, Some, subst, refl, arith}
use Rattle.std.specs.HashMap.{get_by}
use Rattle.std.specs.Str.{bytes_eq}
use Rattle.pl_walk.specs.declared.known.Block.{Block}
use Rattle.pl_terms.specs.declared.term.Term.TheVariants.{Variable}
use Rattle.pl_terms.specs.Table.{Known, Names, put, allocated}
use Rattle.pl_walk.proofs.BlockLaws.{state, made_is}
use Rattle.pl_walk.proofs.NameLaws.{on_ok_from}
use Rattle.pl_walk.proofs.known.Known.allocate.Goals as goal

pub returns : goal.returns
returns c =
    let names : Names = λ y. get_by (λ k. bytes_eq y k.now) c.args.self.now.names in
    let bs = c.args.self.now.blocks.items in
    let b : Block = record { name = c.args.name; value = Some c.args.value } in
    let old : Known = state names bs in
    let P : List Block → Type 0 = λ l. state (put c.args.name.now (Variable c.in-Ok.number) names) l ≡ allocated old c.args.name.now c.args.value in
    let Q : ℕ → Type 0 = λ n. state (put c.args.name.now (Variable n) names) (bs ++ b ∷ []) ≡ allocated old c.args.name.now c.args.value in
    let number : length bs ≡ c.in-Ok.number = omega (arith, c.len.ensures, c.in-Ok.ensures) in
    let is = subst P (sym c.in_ok-push.ensures.items) (subst Q number (made_is names bs b c.args.value refl)) in
    record { ok = on_ok_from c.bind.result _ _ (λ h. h ∙ is) c.bind.ensures.ok }
