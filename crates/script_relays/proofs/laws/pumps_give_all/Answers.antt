use Rattle.script_relays.proofs.Given.{pumps_give_all}
use Rattle.script_relays.proofs.laws.pumps_give_all.Goals as goal

pub returns : goal.returns
returns g c = pumps_give_all g.N.Carrier.link g.N.Carrier.steps g.met.N.Carrier.keeps g.N.Network.makes
