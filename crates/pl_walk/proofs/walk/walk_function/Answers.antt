use Rattle.std.proofs.Common.{◌≡◌, ◌<◌, refl, sym, ap, subst, length, map, Some, slice_get, arith}
use Rattle.std.proofs.lemmas.List.{length-map}
use Rattle.std.proofs.lemmas.Option.{slice_get_read}
use Rattle.pl_syntax.specs.declared.program.Program.{Program}
use Rattle.pl_syntax.specs.Plain.{plain_decl, plain_program}
use Rattle.pl_walk.proofs.BodyLaws.{fun_sorted}
use Rattle.pl_walk.proofs.walk.walk_function.Goals as goal

pub walk_body-requires : goal.walk_body-requires
walk_body-requires c =
    let p = c.program.result.now in
    let decls = c.as_slice.result.now in
    let same : length decls ≡ length p.decls = ap length c.as_slice.ensures in
    let kept : length p.decls ≡ length c.args.straight.now.decls = ap (λ (q : Program). length q.decls) c.program.ensures.same in
    let plain = length-map c.args.straight.now.decls plain_decl in
    let within : c.args.k < length decls = omega (arith, c.requires, same, kept, plain) in
    let at : slice_get decls c.args.k ≡ Some c.index-as_slice-k.result = slice_get_read decls (length decls) c.args.k c.index-as_slice-k.result refl within c.index-as_slice-k.is in
    fun_sorted p c.args.k c.index-as_slice-k.result c.in-Fun.fun (rw c.program.ensures.same c.program.ensures.straight) (subst (λ l. slice_get l c.args.k ≡ Some c.index-as_slice-k.result) c.as_slice.ensures at) c.in-Fun.is
