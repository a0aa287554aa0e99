use Rattle.std.proofs.Common.{◌∙◌, sym, arith}
use Rattle.c_forms.proofs.HexLaws.{pass_by}
use Rattle.c_forms.proofs.names.some_fits.Goals as goal

pub codes-preserved : goal.codes-preserved
codes-preserved c = record {
  same = pass_by c.args.in_front c.codes.at c.codes.left c.codes-test.true (sym c.if-fits.false ∙ c.fits.ensures) ∙ c.codes.invariant.same;
  room = omega (arith, c.codes.invariant.room, c.codes-test.true);
}
