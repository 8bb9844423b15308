use Rattle.tp4_number.specs.Number.{wire}
use Rattle.tp4_world.specs.steps.Parts.{world_of}
use Rattle.tp4_world.proofs.Housed.{settles_housed, still_sound}
use Rattle.tp4_world.proofs.world.TpWorld.settle.Goals as goal

pub invariant_of-self-2 : goal.invariant_of-self-2
invariant_of-self-2 g c = λ _.
    let sound = c.self.invariant c.in_ok-go_on.ensures in
    let done = c.in_ok-answer.ensures in
    still_sound g.C.Carrier.link g.C.Carrier.steps c.self.inside.carrier c.settle.new.carrier c.settle.new.transport.entities.items c.settle.new.transport.ends c.now-now.result sound.low c.now-now.ensures done.clock
    done.behind done.later (settles_housed g.C.Carrier.link g.C.Carrier.steps wire 0 (world_of c.self.inside.carrier c.self.inside.transport.entities.items c.self.inside.transport.ends) _ (world_of c.settle.new.carrier c.settle.new.transport.entities.items c.settle.new.transport.ends) done.settles.are sound.housed)
