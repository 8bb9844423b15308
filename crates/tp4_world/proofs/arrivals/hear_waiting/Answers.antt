use Rattle.tp4_number.specs.Number.{wire}
use Rattle.tp4_world.proofs.Heard.{heard_waiting}
use Rattle.tp4_world.proofs.arrivals.hear_waiting.Goals as goal

pub returns-clause-hears : goal.returns-clause-hears
returns-clause-hears g c = let taken = c.in_ok-take_units.ensures in
    heard_waiting g.C.Carrier.link g.C.Carrier.steps wire c.args.carrier.now c.take_units.new.carrier c.hear_all.new.carrier c.args.transport.now.entities.items c.hear_all.new.transport.entities.items
    c.args.transport.now.ends c.hear_all.new.transport.ends taken.ups c.take_units.new.units.items c.args.events.now.items c.take_units.new.events.items c.hear_all.new.events.items
    taken.gathers taken.units_are taken.told_are c.in_ok-hear_all.ensures.hears
