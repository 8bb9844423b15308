use Rattle.tp4_relay.proofs.Refusals.{refusals_told}
use Rattle.tp4_relay.proofs.laws.refusals_are_told.Goals as goal

pub returns : goal.returns
returns g c = refusals_told g.S.Service.connects g.S.Service.calls
