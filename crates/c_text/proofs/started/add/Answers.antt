use Rattle.c_text.proofs.NameSets.{adds_one}
use Rattle.c_text.proofs.started.add.Goals as goal

pub returns : goal.returns
returns c = rw (← c.text.ensures) (adds_one (λ k. k.now) c.args.names.now c.insert.new.self c.text.result c.in_ok-insert.ensures.updates.0)
