use Rattle.law_tp4_pair.proofs.Meeting.{back_met, forth_met}
use Rattle.law_tp4_pair.proofs.laws.meets.Goals as goal

pub returns : goal.returns
returns c = record { forth = forth_met; back = back_met }
