use Rattle.cltp.proofs.Arrivals.{Delivered}
use Rattle.cltp.proofs.world.ClWorld.deliver_all.Given as goal

abbrev pub invariant-loop-count : goal.invariant-loop-count
invariant-loop-count g l = Delivered g.C.Carrier.link g.C.Carrier.steps l.initial.self l.initial.events.items l.count l.self l.events.items
