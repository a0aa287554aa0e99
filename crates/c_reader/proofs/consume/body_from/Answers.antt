use Rattle.std.proofs.Common.{◌≡◌, ◌∙◌, [], ap, sym, List}
use Rattle.std.proofs.lemmas.List.{nil_from_length}
use Rattle.std.specs.Vec.Iter.{into_iter_items}
use Rattle.c_forms.specs.Plain as written
use Rattle.c_forms.specs.declared.stmt.Stmt.{Stmt}
use Rattle.c_rules.specs.ByName.{structs_in}
use Rattle.c_syntax.specs.Plain.{plain_stmts}
use Rattle.c_reader.specs.Gathers.{gathering}
use Rattle.c_reader.specs.Standing as spec
use Rattle.c_reader.proofs.FollowLaws.{stmts_end}
use Rattle.c_reader.proofs.consume.body_from.Goals as goal

pub returns : goal.returns
returns c =
    let structs = structs_in c.args.structs.now.table in
    let left = into_iter_items c.loop-s.s-iterator in
    let none : left ≡ [] = nil_from_length left (sym c.loop-s.s-iterator.rest.ok.0 ∙ c.in-None.ensures.steps.0) in
    let ended = ap (λ (list : List Stmt). spec.stmts_of structs (written.plain_stmts list) (gathering c.loop-s.gathered)) none in
    ap plain_stmts (c.of.ensures ∙ c.shrink_to_fit.ensures.items) ∙ stmts_end c.loop-s.out.items _ _ ended c.loop-s.invariant
