use Rattle.std.proofs.Common.{subst}
use Rattle.c_meaning.specs.Machine.{AllFit}
use Rattle.c_meaning.proofs.Threads.{fit_front}
use Rattle.c_meaning.proofs.thread.give_back.Goals as goal

pub resume-requires-clause-fits : goal.resume-requires-clause-fits
resume-requires-clause-fits c = (fit_front c.args.code.now c.pop.new.self.items c.in-Some.frame (subst (AllFit c.args.code.now) c.in-Some.ensures.items c.requires.fits)).0
