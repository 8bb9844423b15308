use Rattle.law_tp4_proper.proofs.Ends.{calling_rests, connecting_rests, met_rests, new_rests}
use Rattle.std.proofs.Common.{length, refl}
use Rattle.tp4_entity.specs.Step.{restarted}
use Rattle.law_tp4_proper.proofs.Heards.{taken_rests}
use Rattle.law_tp4_proper.proofs.laws.rests.Goals as goal

pub returns : goal.returns
returns c = record { new = new_rests; restarting = λ now e timed least. new_rests now (length e.ends) (restarted now e) refl timed least; connecting = connecting_rests; calling = calling_rests; met = met_rests; heard = taken_rests }
