use Rattle.law_clnp_net.proofs.HelloSteps.{begins_by_hellos, steps_by_hellos}
use Rattle.law_clnp_net.proofs.laws.steps_by_hellos.Goals as goal

pub returns-clause-steps : goal.returns-clause-steps
returns-clause-steps g c = steps_by_hellos g.C.Carrier.link g.C.Carrier.steps g.met.C.Carrier.keeps g.met.C.Carrier.given

pub returns-clause-begins : goal.returns-clause-begins
returns-clause-begins g c = begins_by_hellos g.C.Carrier.link g.C.Carrier.steps g.met.C.Carrier.keeps g.met.C.Carrier.given
