use Rattle.clnp_net.proofs.Waiting.{some_wait}
use Rattle.clnp_net.proofs.net.handle_waiting.Goals as goal

pub returns : goal.returns
returns g c =
    some_wait g.C.Carrier.link g.C.Carrier.steps c.args.now c.args.link.now c.next_up.new.self c.gather.new.carrier c.args.systems.now c.args.waiting.now.items
    c.in-Some.up c.in_ok-others.others.items c.handle_up.new.link c.handle_up.new.systems c.handle_up.new.waiting.items c.handle_any.new.link c.handle_any.new.systems c.handle_any.new.waiting.items
    c.in-Some.ensures.steps c.in-Some.ensures.link c.in_ok-others.ensures c.in_ok-handle_up.ensures.handled c.in_ok-handle_any.ensures
