use Rattle.std.proofs.Common.{ℕ, arith, rules, length-take, length-drop}
use Rattle.pl_top.proofs.Pieces.{one_more_piece}
use Rattle.pl_top.proofs.fetch.write_text.Goals as goal

pub pieces-preserved : goal.pieces-preserved
pieces-preserved g c = record {
  written = one_more_piece _ _ _ c.args.text.now c.pieces.at c.in-Ok.count c.pieces.invariant.written c.in-Ok.ensures.written;
  within = omega (arith, c.in-Ok.ensures.bound.1, length-take {A = ℕ}, length-drop {A = ℕ});
  files = search rules;
  input = search rules;
  in_faults = search rules;
  out_faults = search rules;
}
