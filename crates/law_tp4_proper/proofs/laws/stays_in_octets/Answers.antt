use Rattle.law_tp4_proper.proofs.Heards.{restarting_in, taken_in}
use Rattle.law_tp4_proper.proofs.OctetEnds.{calling_in, connecting_in, met_in, ticking_in}
use Rattle.law_tp4_proper.proofs.laws.stays_in_octets.Goals as goal

pub returns : goal.returns
returns c = record { connecting = connecting_in; calling = calling_in; met = met_in; heard = taken_in; restarting = restarting_in; ticking = ticking_in }
