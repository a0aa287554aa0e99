use Rattle.std.proofs.Common.{◌≡◌, map, length, arith}
use Rattle.std.proofs.lemmas.Grind.{common_steps}
use Rattle.pl_normal.specs.Scope.{plain_atom}
use Rattle.pl_normal.proofs.PuttingLaws.{all_forms}
use Rattle.pl_normal.proofs.PutOrder.{put_in_order}
use Rattle.pl_normal.proofs.putting.put_in.Goals as goal

pub put_form-requires-clause-operands : goal.put_form-requires-clause-operands
put_form-requires-clause-operands c = all_forms 0 c.args.scope.now.atoms.items c.requires.operands

pub returns-clause-order : goal.returns-clause-order
returns-clause-order c =
    let deep : c.len-depth.result ≡ length (map plain_atom c.args.scope.now.atoms.items) = grind (arith, common_steps) in
    put_in_order c.args.scope.now.bound c.args.fresh.now c.args.solved.now c.args.form.now (map plain_atom c.args.scope.now.atoms.items) (map plain_atom c.put_form.new.atoms.items) c.put_form.result c.requires.solved c.requires.form (rw deep at c.put_form.ensures.exact)
