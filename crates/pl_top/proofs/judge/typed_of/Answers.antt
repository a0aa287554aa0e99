use Rattle.pl_top.proofs.Judged.{unread_refused}
use Rattle.pl_top.proofs.judge.typed_of.Goals as goal

pub returns-in-Err-clause-refused : goal.returns-in-Err-clause-refused
returns-in-Err-clause-refused c = unread_refused c.args.bytes.now c.in-Err.error c.unread.result c.in-Err.ensures.refusal c.in-Err.ensures.all_files c.unread.ensures
