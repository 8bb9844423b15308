use Rattle.tp4_number.specs.Number.{wire}
use Rattle.tp4_world.specs.steps.Parts.{world_of}
use Rattle.tp4_world.proofs.Housed.{arrives_housed, still_sound}
use Rattle.tp4_world.proofs.world.TpWorld.deliver.Goals as goal

pub invariant_of-self-2 : goal.invariant_of-self-2
invariant_of-self-2 g c = λ _.
    let sound = c.self.invariant c.in_ok-go_on.ensures in
    let done = c.in_ok-deliver.ensures in
    still_sound g.C.Carrier.link g.C.Carrier.steps c.self.inside.carrier c.deliver.new.carrier c.deliver.new.transport.entities.items c.deliver.new.transport.ends c.now-now.result sound.low c.now-now.ensures done.clock
    done.behind done.later (arrives_housed g.C.Carrier.link g.C.Carrier.steps wire (world_of c.self.inside.carrier c.self.inside.transport.entities.items c.self.inside.transport.ends) _ _ done.delivers.made (world_of c.deliver.new.carrier c.deliver.new.transport.entities.items c.deliver.new.transport.ends) done.delivers.are sound.housed)
