use Rattle.c_history.proofs.LineLaws.{far_first, far_more, far_shorter}
use Rattle.c_history.proofs.reading.events.Goals as goal

pub lines-init : goal.lines-init
lines-init c = far_first c.args.bytes.now c.new-events.result.items c.new-events.ensures.items

pub lines-smaller : goal.lines-smaller
lines-smaller c = far_shorter c.lines.rest.now c.in-Ok.after.now c.in-Ok.event c.in-Ok.ensures

pub lines-preserved : goal.lines-preserved
lines-preserved c = far_more c.args.bytes.now c.lines.events.items c.push.new.self.items c.lines.rest.now c.in-Ok.after.now c.in-Ok.event c.lines.invariant c.in-Ok.ensures c.in_ok-push-in-Ok.ensures.items
