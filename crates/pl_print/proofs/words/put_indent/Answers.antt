use Rattle.std.proofs.Common.{append_assoc}
use Rattle.std.specs.Prelude.{codes}
use Rattle.pl_print.specs.Lists.{indent}
use Rattle.pl_print.proofs.Texts.{indent-add_one}
use Rattle.pl_print.proofs.words.put_indent.Goals as goal

pub loop-preserved : goal.loop-preserved
loop-preserved c =
    rw (c.in_ok-put.ensures, c.loop.invariant, indent-add_one c.loop.counter) (append_assoc c.args.out.now.items (indent c.loop.counter) (codes "  "))
