use Rattle.script_datagrams.proofs.Heard.{hears_each}
use Rattle.script_datagrams.proofs.laws.each_unit_is_heard.Goals as goal

pub returns : goal.returns
returns g c = hears_each g.N.Carrier.link g.N.Carrier.steps g.N.Network.makes g.met.N.Network.laws
