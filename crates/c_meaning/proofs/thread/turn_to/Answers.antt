use Rattle.std.proofs.Common.{sym, subst}
use Rattle.c_meaning.specs.Machine.{AllFit}
use Rattle.c_meaning.proofs.Threads.{fit_snoc}
use Rattle.c_meaning.proofs.thread.turn_to.Goals as goal

pub returns-in-Call-clause-fits : goal.returns-in-Call-clause-fits
returns-in-Call-clause-fits c = subst (AllFit c.args.code.now) (sym c.push_reserved.ensures.items) (fit_snoc c.args.code.now c.args.frames.now.items c.begin_called.result c.requires.fits c.begin_called.ensures.fits)
