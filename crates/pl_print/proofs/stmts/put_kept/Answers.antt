use Rattle.pl_print.specs.StmtText.{kept_text}
use Rattle.pl_print.proofs.Texts.{four}
use Rattle.pl_print.proofs.stmts.put_kept.Goals as goal

pub returns : goal.returns
unfolding kept_text
returns c = four c.put-2.result _ _ _ _ _ _ _ _ _ c.in_ok-put_value.ensures c.in_ok-put.ensures c.in_ok-put_whole_prop.ensures c.put-2.ensures
