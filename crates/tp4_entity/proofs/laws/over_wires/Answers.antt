use Rattle.tp4_entity.proofs.Wires.{calling_on, connecting_on, met_on, taking_on, ticking_on}
use Rattle.tp4_entity.proofs.laws.over_wires.Goals as goal

pub returns : goal.returns
returns c = record { connecting = connecting_on; calling = calling_on; met = met_on; ticking = ticking_on; hearing = taking_on }
