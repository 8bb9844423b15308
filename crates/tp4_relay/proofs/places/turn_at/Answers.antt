use Rattle.std.proofs.Common.{Some}
use Rattle.tp4_relay.specs.declared.pair.Heading.TheVariants.{On}
use Rattle.tp4_relay.specs.Pairs.{Turns}
use Rattle.tp4_relay.proofs.Placed.{outbounds_still}
use Rattle.tp4_relay.proofs.places.turn_at.Goals as goal

pub turn_back-requires : goal.turn_back-requires
turn_back-requires c = outbounds_still (Some (c.args.end, Turns On)) c.args.pairs.now c.turn_on.new.pairs c.turn_on.ensures c.requires.outbound
