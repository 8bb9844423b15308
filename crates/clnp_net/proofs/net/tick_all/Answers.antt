use Rattle.clnp_system.specs.Node.{reaction_of}
use Rattle.clnp_net.proofs.Parts.{ticking_next}
use Rattle.clnp_net.proofs.net.tick_all.Goals as goal

pub loop-place-preserved : goal.loop-place-preserved
loop-place-preserved g c = (
  ticking_next g.C.Carrier.link g.C.Carrier.steps c.args.now c.loop-place.place c.in_ok-system.system c.args.link.now c.args.systems.now c.args.waiting.now.items
      c.loop-place.link c.loop-place.systems c.loop-place.waiting.items (reaction_of c.in_ok-system.handled) c.tick.new.self c.react_if_any.new.link c.react_if_any.new.waiting.items
      c.loop-place.invariant.0 c.in_ok-system.ensures.ticked c.in_ok-system.ensures.behind c.in_ok-react_if_any.ensures,
  c.count-place-end.ensures,
)
