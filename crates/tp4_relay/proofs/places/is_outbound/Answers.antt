use Rattle.std.proofs.Common.{◌∙◌}
use Rattle.tp4_relay.proofs.Placed.{is_outbound}
use Rattle.tp4_relay.proofs.places.is_outbound.Goals as goal

pub returns : goal.returns
returns c = c.is_some.ensures ∙ is_outbound c.args.pairs.now c.args.end c.outbound_place.result c.outbound_place.ensures.some c.outbound_place.ensures.none
