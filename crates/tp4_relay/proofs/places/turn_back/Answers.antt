use Rattle.std.proofs.Common.{set, ◌∙◌, ap}
use Rattle.tp4_relay.specs.declared.pair.Heading.TheVariants.{Back}
use Rattle.tp4_relay.specs.Pairs.{Turns}
use Rattle.tp4_relay.proofs.Placed.{missed_outbound, set_outbound}
use Rattle.tp4_relay.proofs.places.turn_back.Goals as goal

pub returns-in-Some : goal.returns-in-Some
returns-in-Some c =
    ap (set c.args.pairs.now c.in-Some.place) c.turn.ensures ∙ set_outbound c.args.pairs.now c.args.end c.in-Some.place (Turns Back) c.requires c.in-Some.ensures.some c.index-pairs-place.result

pub returns-in_default : goal.returns-in_default
returns-in_default c = missed_outbound c.args.pairs.now c.args.end (Turns Back) c.in_default.ensures.none
