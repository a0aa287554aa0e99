use Rattle.c_history.proofs.LineLaws.{one_history, one_refused, never_refused}
use Rattle.c_history.proofs.laws.one_reading.Goals as goal

pub returns : goal.returns
returns c = record {
  history = λ bytes one two s t. one_history one two bytes s t;
  line = one_refused;
  apart = λ bytes h n t r. never_refused bytes n h r t;
}
