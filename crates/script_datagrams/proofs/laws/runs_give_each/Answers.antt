use Rattle.script_datagrams.proofs.Each.{gives_each}
use Rattle.script_datagrams.proofs.laws.runs_give_each.Goals as goal

pub returns : goal.returns
returns g c = λ ends. gives_each g.N.Carrier.link g.N.Carrier.steps g.met.N.Carrier.keeps g.N.Network.makes g.met.N.Network.laws ends
