use Rattle.law_tp4_history.proofs.StepMoves.{moved, stays}
use Rattle.law_tp4_history.proofs.laws.moved.Goals as goal

pub returns : goal.returns
returns c = record { going = moved; frozen = stays }
