use Rattle.c_history.proofs.ReplayLaws.{one_state, one_answer}
use Rattle.c_history.proofs.laws.one_replay.Goals as goal

pub returns : goal.returns
returns c = record { state = one_state; answer = one_answer }
