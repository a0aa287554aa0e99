use Rattle.std.proofs.lemmas.Result.{err_from_is_err_and}
use Rattle.c_forms.proofs.Ended.{code_goes, code_fails}
use Rattle.c_forms.proofs.starters.starter_code.Goals as goal

pub returns-in_err-call : goal.returns-in_err-call
returns-in_err-call c =
    let p = err_from_is_err_and c.from_residual-in_err-call.result c.from_residual-in_err-call.ensures.1 in
    rw (p.1, p.2) (code_fails _ c.args.bytes.now _ _ _ _ _ _ c.in_ok-rest.ensures c.in_ok-name.ensures c.in_ok-rest-2.ensures c.in_ok-copies.ensures c.in_err-call.ensures)

pub returns : goal.returns
returns c = code_goes c.args.bytes.now _ _ _ _ _ _ _ _ c.in_ok-rest.ensures c.in_ok-name.ensures c.in_ok-rest-2.ensures c.in_ok-copies.ensures c.in_ok-call.ensures
