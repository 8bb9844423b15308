use Rattle.tpdu.proofs.Fronts.{apart, front_or}
use Rattle.tpdu.proofs.laws.front_or_fault.Goals as goal

pub returns : goal.returns
returns c = record { apart = apart; all = front_or }
