use Rattle.clnp_system.specs.Node.{reaction_in}
use Rattle.clnp_net.proofs.Parts.{met}
use Rattle.clnp_net.proofs.net.meet.Goals as goal

pub returns-clause-handled : goal.returns-clause-handled
returns-clause-handled g c =
    met g.C.Carrier.link g.C.Carrier.steps c.args.now c.args.link.now c.args.systems.now c.args.arrival.now (reaction_in c.in_ok-received.received) c.receive.new.self _
    c.args.waiting.now.items c.react_to.new.waiting.items c.in_ok-received.ensures.received c.in_ok-react_to.ensures
