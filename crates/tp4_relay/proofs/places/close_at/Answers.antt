use Rattle.std.proofs.Common.{Some}
use Rattle.tp4_relay.specs.Pairs.{Closes}
use Rattle.tp4_relay.proofs.Placed.{outbounds_still}
use Rattle.tp4_relay.proofs.places.close_at.Goals as goal

pub close_outbound-requires-clause-outbound : goal.close_outbound-requires-clause-outbound
close_outbound-requires-clause-outbound c = outbounds_still (Some (c.args.end, Closes)) c.args.pairs.now c.close_inbound.new.pairs c.close_inbound.ensures.pairs c.requires.outbound
