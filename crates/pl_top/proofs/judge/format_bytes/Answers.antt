use Rattle.pl_syntax.specs.Plain.{plain_program}
use Rattle.pl_top.proofs.Judged.{file_formatted, unparsed_refused}
use Rattle.pl_top.proofs.judge.format_bytes.Goals as goal

pub returns-in_ok-text-in-Ok-clause-formatted : goal.returns-in_ok-text-in-Ok-clause-formatted
returns-in_ok-text-in-Ok-clause-formatted c = file_formatted c.args.bytes.now (plain_program c.in-Ok.program) c.in_ok-text-in-Ok.text.items c.in-Ok.ensures.program c.in_ok-text-in-Ok.ensures

pub returns-in-Err-clause-refused : goal.returns-in-Err-clause-refused
returns-in-Err-clause-refused c = unparsed_refused c.args.bytes.now c.in-Err.error c.unread.result c.in-Err.ensures.refusal c.in-Err.ensures.all_files c.unread.ensures
