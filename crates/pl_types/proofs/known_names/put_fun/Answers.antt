use Rattle.std.proofs.Common.{◌≡◌, ◌∙◌, sym, ap, List, ℕ, Some, Option, cond, subst}
use Rattle.std.specs.HashMap.{get_by}
use Rattle.std.specs.Str.{bytes_eq}
use Rattle.std.proofs.lemmas.Map.Text.{hash_map_updates_str}
use Rattle.pl_syntax.specs.declared.program.FunDecl as code
use Rattle.pl_syntax.specs.Plain.{plain_decl, plain_fun}
use Rattle.pl_types.specs.declared.tables.Callee.{Callee}
use Rattle.pl_syntax.specs.Known.{Placed, with_fun}
use Rattle.pl_types.specs.Tables.{callee, funs_in}
use Rattle.pl_types.proofs.TableLaws.{fun_put}
use Rattle.pl_types.proofs.known_names.put_fun.Goals as goal

pub returns-in_ok-insert-in-Fun : goal.returns-in_ok-insert-in-Fun
returns-in_ok-insert-in-Fun c =
    let before : List ℕ → Option Callee = λ y. get_by (λ k. bytes_eq y k.now) c.args.table.now in
    let after : List ℕ → Option Callee = λ y. get_by (λ k. bytes_eq y k.now) c.insert.new.self in
    let P : List ℕ → Type 0 = λ x. (y : List ℕ) → after y ≡ cond (bytes_eq x y) (Some c.place_at.result) (before y) in
    let at = subst P c.text.ensures (hash_map_updates_str c.text.result.now c.args.table.now c.insert.new.self (Some c.place_at.result) c.in_ok-insert-in-Fun.ensures.updates) in
    let made : ℕ → code.FunDecl → Placed = λ place f. record { place = place; fun = plain_fun f } in
    let same : callee c.place_at.result ≡ made c.args.place c.in-Fun.f =
    ap (λ n. made n c.place_at.result.decl.now) c.place_at.ensures.place ∙ ap (made c.args.place) c.place_at.ensures.decl in
    fun_put c.in-Fun.f.name (made c.args.place c.in-Fun.f) c.place_at.result before after same at
    ∙ ap (λ d. with_fun c.args.place d (funs_in c.args.table.now)) (sym (ap plain_decl c.in-Fun.is))
