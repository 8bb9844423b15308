use Rattle.std.proofs.Common.{sym, ◌∙◌, ap}
use Rattle.tp4_relay.specs.declared.pair.Heading.TheVariants.{On, Back}
use Rattle.tp4_relay.specs.Pairs.{Gives, open_places}
use Rattle.tp4_relay.proofs.Noted.{pairs_none}
use Rattle.tp4_relay.proofs.OpenPlaces.{places_both}
use Rattle.tp4_relay.proofs.table.change_pairs.Goals as goal

pub returns-in-Data-clause-places : goal.returns-in-Data-clause-places
returns-in-Data-clause-places c = c.requires.places ∙ places_both c.args.pairs.now c.in-Data.end (Gives Back) (Gives On) tt tt ∙ ap open_places (sym c.give_at.ensures)

pub returns-in_default-clause-pairs : goal.returns-in_default-clause-pairs
returns-in_default-clause-pairs c = pairs_none c.args.pairs.now c.args.event.now c.in_default.not-End c.in_default.not-Data c.in_default.not-Expedite c.in_default.not-Disconnect
