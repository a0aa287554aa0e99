use Rattle.pl_print.proofs.Texts.{five}
use Rattle.pl_print.proofs.decls.put_fun.Goals as goal

pub returns : goal.returns
returns c =
    let gap = rw c.has_clauses.ensures at c.in_ok-put_gap.ensures in
    five c.put.result _ _ _ _ _ _ _ _ _ _ _ c.in_ok-put_head.ensures c.in_ok-put_clauses.ensures gap c.in_ok-put_block.ensures c.put.ensures
