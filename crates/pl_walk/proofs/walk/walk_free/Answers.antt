use Rattle.pl_terms.specs.declared.term.Term.TheVariants.{Variable}
use Rattle.pl_walk.proofs.BlockLaws.{none_whole}
use Rattle.pl_walk.proofs.walk.walk_free.Goals as goal

pub returns-in-Some : goal.returns-in-Some
returns-in-Some c =
    let gone = c.in-Some.ensures in
    record {
      rule = record {
        base = Variable c.pointer-variable.result;
        base_is = c.pointer-variable.ensures;
        front = gone.front;
        value = c.in-Some.field-0;
        back = gone.back;
        cell_at = gone.cell_at;
        front' = gone.front';
        back' = gone.back';
        block_at = gone.block_at;
        is = gone.is;
      };
      first_cell = none_whole (Variable c.pointer-variable.result) gone.front gone.first_cell;
      first_block = gone.first_block;
    }
