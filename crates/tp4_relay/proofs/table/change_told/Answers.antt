use Rattle.std.proofs.Common.{sym, ◌∙◌, ap}
use Rattle.tp4_relay.specs.declared.pair.Heading.TheVariants.{On, Back}
use Rattle.tp4_relay.specs.declared.unit.MarkedUnit.TheVariants.{Normal, Expedited}
use Rattle.tp4_relay.specs.Pairs.{Accepts, Turns, open_places}
use Rattle.tp4_relay.proofs.Noted.{waits_part, waits_places}
use Rattle.tp4_relay.proofs.OpenPlaces.{places_both, places_inbound}
use Rattle.tp4_relay.proofs.table.change_told.Goals as goal

pub returns-in-Accept-clause-places : goal.returns-in-Accept-clause-places
returns-in-Accept-clause-places c = c.requires.places ∙ places_inbound c.args.pairs.now c.args.end Accepts tt ∙ ap open_places (sym c.accept_at.ensures)

pub returns-in-Got-clause-part : goal.returns-in-Got-clause-part
returns-in-Got-clause-part c = waits_part c.wait_at.result c.args.pairs.now c.wait_at.new.pairs c.args.end (Normal c.in-Got.octets) c.wait_at.ensures.err

pub returns-in-Got-clause-places : goal.returns-in-Got-clause-places
returns-in-Got-clause-places c =
    c.requires.places ∙ waits_places c.wait_at.result c.args.pairs.now c.wait_at.new.pairs c.args.end (Normal c.in-Got.octets) c.wait_at.ensures.err c.wait_at.ensures.ok

pub returns-in-Urgent-clause-part : goal.returns-in-Urgent-clause-part
returns-in-Urgent-clause-part c =
    waits_part c.wait_at-in-Urgent.result c.args.pairs.now c.wait_at-in-Urgent.new.pairs c.args.end (Expedited c.in-Urgent.octets) c.wait_at-in-Urgent.ensures.err

pub returns-in-Urgent-clause-places : goal.returns-in-Urgent-clause-places
returns-in-Urgent-clause-places c =
    c.requires.places
    ∙ waits_places c.wait_at-in-Urgent.result c.args.pairs.now c.wait_at-in-Urgent.new.pairs c.args.end (Expedited c.in-Urgent.octets) c.wait_at-in-Urgent.ensures.err c.wait_at-in-Urgent.ensures.ok

pub returns-in-Window-clause-places : goal.returns-in-Window-clause-places
returns-in-Window-clause-places c = c.requires.places ∙ places_both c.args.pairs.now c.args.end (Turns On) (Turns Back) tt tt ∙ ap open_places (sym c.turn_at.ensures)
