use Rattle.std.proofs.Common.{Some}
use Rattle.tp4_relay.specs.declared.pair.Heading.TheVariants.{Back}
use Rattle.tp4_relay.specs.Pairs.{Gives}
use Rattle.tp4_relay.proofs.Placed.{outbounds_still}
use Rattle.tp4_relay.proofs.places.give_at.Goals as goal

pub give_on-requires : goal.give_on-requires
give_on-requires c = outbounds_still (Some (c.args.end, Gives Back)) c.args.pairs.now c.give_back.new.pairs c.give_back.ensures c.requires.outbound
