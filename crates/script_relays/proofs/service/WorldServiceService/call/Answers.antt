use Rattle.law_relay.proofs.Ordering.{call_order}
use Rattle.script_relays.proofs.service.WorldServiceService.call.Goals as goal

pub invariant_of-self-2 : goal.invariant_of-self-2
invariant_of-self-2 g c = λ _.
    call_order g.C.Carrier.link g.C.Carrier.steps c.self.inside.ends c.call.new.self c.args.end c.args.call c.call.new.events.items c.in_ok-call.ensures (c.self.invariant c.in_ok-go_on.ensures)
