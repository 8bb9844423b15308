use Rattle.law_relay.proofs.Ordering.{settle_order}
use Rattle.script_relays.proofs.service.WorldService.settle.Goals as goal

pub invariant_of-self-2 : goal.invariant_of-self-2
invariant_of-self-2 g c = λ _.
    settle_order g.N.Carrier.link g.N.Carrier.steps c.self.inside.ends c.settle.new.self c.settle.new.events.items c.in_ok-settle.ensures (c.self.invariant c.in_ok-go_on.ensures)
