use Rattle.tp4_world.specs.steps.Parts.{world_of}
use Rattle.tp4_world.proofs.Housed.{connects_housed, still_sound}
use Rattle.tp4_world.proofs.world.TpWorld.connect.Goals as goal

pub returns : goal.returns
returns g c = rw (← c.self.view_is) c.in_ok-begin.ensures.connects

pub invariant_of-self-2 : goal.invariant_of-self-2
invariant_of-self-2 g c = λ _.
    let sound = c.self.invariant c.in_ok-go_on.ensures in
    let done = c.in_ok-begin.ensures in
    still_sound g.C.Carrier.link g.C.Carrier.steps c.self.inside.carrier c.begin.new.carrier c.begin.new.transport.entities.items c.begin.new.transport.ends c.now-now.result sound.low c.now-now.ensures done.clock
    done.behind done.later (connects_housed g.C.Carrier.link g.C.Carrier.steps (world_of c.self.inside.carrier c.self.inside.transport.entities.items c.self.inside.transport.ends) c.args.system c.args.request c.begin.new.events.items (world_of c.begin.new.carrier c.begin.new.transport.entities.items c.begin.new.transport.ends) done.connects sound.housed)
