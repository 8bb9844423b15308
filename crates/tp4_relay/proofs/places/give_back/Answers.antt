use Rattle.std.proofs.Common.{set, ◌∙◌, ap}
use Rattle.tp4_relay.specs.declared.pair.Heading.TheVariants.{Back}
use Rattle.tp4_relay.specs.Pairs.{Gives}
use Rattle.tp4_relay.proofs.Placed.{missed_inbound, set_inbound}
use Rattle.tp4_relay.proofs.places.give_back.Goals as goal

pub returns-in-Some : goal.returns-in-Some
returns-in-Some c =
    ap (set c.args.pairs.now c.in-Some.place) c.give.ensures ∙ set_inbound c.args.pairs.now c.args.end c.in-Some.place (Gives Back) c.requires c.in-Some.ensures.some c.index-pairs-place.result

pub returns-in_default : goal.returns-in_default
returns-in_default c = missed_inbound c.args.pairs.now c.args.end (Gives Back) c.in_default.ensures.none
