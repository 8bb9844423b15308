use Rattle.script_relays.proofs.Turning.{TurnsSo}
use Rattle.script_relays.proofs.play.settle.Given as goal

abbrev pub invariant-loop : goal.invariant-loop
invariant-loop g l = TurnsSo g.N.Carrier.link g.N.Carrier.steps g.met.N.Carrier.keeps l.initial.service l.initial.relay l.counter l.service l.relay l.events.items
