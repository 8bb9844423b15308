use Rattle.std.proofs.Common.{◌∙◌}
use Rattle.tp4_relay.specs.Pairs.{Opens}
use Rattle.tp4_relay.proofs.Placed.{missed_outbound, set_outbound, some_pair}
use Rattle.tp4_relay.proofs.places.open_at.Goals as goal

pub returns-in_ok-open_place-clause-pairs : goal.returns-in_ok-open_place-clause-pairs
returns-in_ok-open_place-clause-pairs c =
    c.in_ok-open_place.ensures.pairs some_pair ∙ set_outbound c.args.pairs.now c.args.end c.in-Some.place Opens c.requires.outbound c.in-Some.ensures.some some_pair

pub returns-in_default-clause-pairs : goal.returns-in_default-clause-pairs
returns-in_default-clause-pairs c = missed_outbound c.args.pairs.now c.args.end Opens c.in_default.ensures.none
