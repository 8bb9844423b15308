use Rattle.tp4_world.proofs.Heard.{taking_none, taking_next, taken_all}
use Rattle.tp4_world.proofs.arrivals.take_units.Goals as goal

pub loop-up-init : goal.loop-up-init
loop-up-init g c = taking_none g.C.Carrier.link g.C.Carrier.steps c.args.carrier.now c.args.events.now.items c.args.units.now.items c.requires.none

pub loop-up-preserved : goal.loop-up-preserved
loop-up-preserved g c =
    taking_next g.C.Carrier.link g.C.Carrier.steps c.args.carrier.now c.args.events.now.items c.loop-up.carrier c.next_up.new.self c.loop-up.units.items c.sort.new.units.items
    c.loop-up.events.items c.sort.new.events.items c.in-Some.up c.loop-up.invariant c.in-Some.ensures.steps c.in-Some.ensures.link c.in_ok-sort.ensures.units c.in_ok-sort.ensures.told

pub returns : goal.returns
returns g c =
    taken_all g.C.Carrier.link g.C.Carrier.steps c.args.carrier.now c.args.events.now.items c.loop-up.carrier c.next_up.new.self c.loop-up.units.items c.loop-up.events.items
    c.loop-up.invariant c.in_default.ensures.steps c.in_default.ensures.link
