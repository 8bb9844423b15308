use Rattle.std.proofs.Common.{◌∙◌}
use Rattle.tp4_relay.specs.Pairs.{Closes}
use Rattle.tp4_relay.proofs.Placed.{missed_inbound, set_inbound, some_pair}
use Rattle.tp4_relay.proofs.places.close_inbound.Goals as goal

pub returns-in-Some-clause-pairs : goal.returns-in-Some-clause-pairs
returns-in-Some-clause-pairs c =
    c.close_place.ensures.pairs some_pair ∙ set_inbound c.args.pairs.now c.args.end c.in-Some.place Closes c.requires.inbound c.in-Some.ensures.some some_pair

pub returns-in_default-clause-pairs : goal.returns-in_default-clause-pairs
returns-in_default-clause-pairs c = missed_inbound c.args.pairs.now c.args.end Closes c.in_default.ensures.none
