use Rattle.std.proofs.Common.{sym, subst}
use Rattle.c_meaning.specs.States.{ThreadsFit}
use Rattle.c_meaning.proofs.state.prepare_thread.Goals as goal

pub returns-in_err-frame_room-clause-fits : goal.returns-in_err-frame_room-clause-fits
returns-in_err-frame_room-clause-fits c = c.frame_room.ensures.fits c.args.code.now

pub returns-in_err-reserve_one-clause-fits : goal.returns-in_err-reserve_one-clause-fits
returns-in_err-reserve_one-clause-fits c = λ h. subst (ThreadsFit c.args.code.now) (sym c.reserve_one.ensures.items) (c.frame_room.ensures.fits c.args.code.now h)

pub returns-in_err-reserve_one-2-clause-fits : goal.returns-in_err-reserve_one-2-clause-fits
returns-in_err-reserve_one-2-clause-fits c = λ h. subst (ThreadsFit c.args.code.now) (sym c.reserve_one.ensures.items) (c.frame_room.ensures.fits c.args.code.now h)

pub returns-clause-fits : goal.returns-clause-fits
returns-clause-fits c = λ h. subst (ThreadsFit c.args.code.now) (sym c.reserve_one.ensures.items) (c.frame_room.ensures.fits c.args.code.now h)
