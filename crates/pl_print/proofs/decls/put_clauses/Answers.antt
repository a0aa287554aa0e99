use Rattle.pl_print.proofs.Texts.{four}
use Rattle.pl_print.proofs.decls.put_clauses.Goals as goal

pub returns : goal.returns
returns c =
    four c.put_measure.result _ _ _ _ _ _ _ _ _ c.in_ok-put_prop_clause.ensures c.in_ok-put_result.ensures c.in_ok-put_prop_clause-2.ensures c.put_measure.ensures
