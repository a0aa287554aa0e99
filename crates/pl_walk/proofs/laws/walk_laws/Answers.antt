use Rattle.pl_walk.proofs.WalkLaws.{all_done_derives, not_both, undone_once}
use Rattle.pl_walk.proofs.laws.walk_laws.Goals as goal

pub returns-clause-derives : goal.returns-clause-derives
returns-clause-derives c = all_done_derives

pub returns-clause-exclusive : goal.returns-clause-exclusive
returns-clause-exclusive c = not_both

pub returns-clause-once : goal.returns-clause-once
returns-clause-once c = undone_once
