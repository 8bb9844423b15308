use Rattle.tp4_number.specs.Number.{wire}
use Rattle.tp4_world.specs.steps.Parts.{world_of}
use Rattle.tp4_world.proofs.Housed.{calls_housed, still_sound}
use Rattle.tp4_world.proofs.world.TpWorld.call.Goals as goal

pub invariant_of-self-2 : goal.invariant_of-self-2
invariant_of-self-2 g c = λ _.
    let sound = c.self.invariant c.in_ok-go_on.ensures in
    let done = c.in_ok-ask.ensures in
    still_sound g.C.Carrier.link g.C.Carrier.steps c.self.inside.carrier c.ask.new.carrier c.ask.new.transport.entities.items c.ask.new.transport.ends c.now-now.result sound.low c.now-now.ensures done.clock
    done.behind done.later (calls_housed g.C.Carrier.link g.C.Carrier.steps wire (world_of c.self.inside.carrier c.self.inside.transport.entities.items c.self.inside.transport.ends) c.args.end c.args.call c.ask.new.events.items (world_of c.ask.new.carrier c.ask.new.transport.entities.items c.ask.new.transport.ends) done.calls sound.housed)
