use Rattle.script_relays.proofs.Lawfully.{relays_lawfully}
use Rattle.script_relays.proofs.laws.relays_lawfully.Goals as goal

pub returns : goal.returns
returns g c = relays_lawfully g.N.Carrier.link g.N.Carrier.steps g.met.N.Carrier.keeps g.N.Network.makes g.met.N.Network.laws c.lawful.ensures
