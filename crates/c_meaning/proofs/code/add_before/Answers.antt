use Rattle.std.proofs.Common.{◌≡◌, ◌∷◌, ◌++◌, [], sym, ap, ◌∙◌, subst, map, None}
use Rattle.c_meaning.specs.declared.code.Op.TheVariants as op
use Rattle.c_meaning.specs.declared.term.Basic.TheVariants as b
use Rattle.c_syntax.specs.Tree as tree
use Rattle.c_syntax.specs.Plain.{plain_stmt, plain_expr}
use Rattle.c_meaning.specs.Resolve.{term_of}
use Rattle.c_meaning.specs.Compiled.{names_with, Added}
use Rattle.c_meaning.proofs.Tables.{added_par}
use Rattle.c_meaning.proofs.Folds.{plain_par}
use Rattle.c_meaning.proofs.code.add_before.Goals as goal

pub returns-in_ok-push-in-Par-2 : goal.returns-in_ok-push-in-Par-2
returns-in_ok-push-in-Par-2 c =
    let N = names_with c.args.structs.now c.args.funs.now c.args.pointers.now in
    let q : plain_stmt c.args.s.now ≡ tree.Par c.in-Par.f (map plain_expr c.in-Par.args) c.in-Par.g (map plain_expr c.in-Par.others) = ap plain_stmt c.in-Par.is ∙ plain_par _ _ _ _ in
    let x = ap (λ z. map term_of (map plain_expr z)) c.as_slice.ensures in
    let y = ap (λ z. map term_of (map plain_expr z)) c.as_slice-in-Par.ensures in
    subst (λ z. Added N z c.args.ops.now.items c.push-in-Par.new.self.items) (sym q)
    (added_par c.args.ops.now.items c.push-in-Par.new.self.items _ _ _ _ (c.in_ok-push-in-Par-2.ensures.items ∙ ap (λ z. z ++ op.Do (b.Call None c.in_ok-function_place-in-Par-2.field-0 c.in_ok-resolve_all-in-Par-2.field-0) ∷ []) c.in_ok-push-in-Par.ensures.items) (cc (c.in_ok-function_place-in-Par.ensures, c.in_ok-resolve_all-in-Par.ensures, x)) (cc (c.in_ok-function_place-in-Par-2.ensures, c.in_ok-resolve_all-in-Par-2.ensures, y)))
