use Rattle.std.proofs.Common.{set, ◌∙◌, ap}
use Rattle.tp4_relay.specs.declared.pair.Heading.TheVariants.{On}
use Rattle.tp4_relay.specs.Pairs.{Gives}
use Rattle.tp4_relay.proofs.Placed.{missed_outbound, set_outbound}
use Rattle.tp4_relay.proofs.places.give_on.Goals as goal

pub returns-in-Some : goal.returns-in-Some
returns-in-Some c =
    ap (set c.args.pairs.now c.in-Some.place) c.give.ensures ∙ set_outbound c.args.pairs.now c.args.end c.in-Some.place (Gives On) c.requires c.in-Some.ensures.some c.index-pairs-place.result

pub returns-in_default : goal.returns-in_default
returns-in_default c = missed_outbound c.args.pairs.now c.args.end (Gives On) c.in_default.ensures.none
