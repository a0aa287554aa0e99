use Rattle.std.proofs.Common.{◌∙◌, sym, ap, map}
use Rattle.std.proofs.lemmas.Result.{err_from_is_err_and}
use Rattle.pl_syntax.specs.Plain.{plain_stmt, plain_fun}
use Rattle.pl_syntax.proofs.TreeLaws.{block_list, block_close}
use Rattle.pl_walk.specs.Shown.{known_of}
use Rattle.pl_walk.proofs.BodyLaws.{list_says, end_says}
use Rattle.pl_walk.proofs.walk.walk_body.Goals as goal

pub returns-in_err-known : goal.returns-in_err-known
returns-in_err-known c =
    let p = err_from_is_err_and c.from_residual.result c.from_residual.ensures.1 in
    rw (p.1, p.2)
    (list_says (plain_fun c.args.fun.now) (map plain_stmt c.as_slice.result.now) (block_list c.args.fun.now.body ∙ ap (map plain_stmt) (sym c.as_slice.ensures)) _ c.in_err-known.ensures)

pub returns : goal.returns
returns c =
    end_says (plain_fun c.args.fun.now) (map plain_stmt c.as_slice.result.now) c.args.fun.now.body.close (block_list c.args.fun.now.body ∙ ap (map plain_stmt) (sym c.as_slice.ensures)) (block_close c.args.fun.now.body)
    (known_of c.in_ok-known.known) c.in_ok-known.ensures c.walk_end.result c.walk_end.ensures
