use Rattle.script_datagrams.proofs.Sent.{shows_sent}
use Rattle.script_datagrams.proofs.laws.shows_sent.Goals as goal

pub returns : goal.returns
returns g c = shows_sent g.N.Carrier.link g.N.Carrier.steps g.met.N.Carrier.keeps g.N.Network.makes g.met.N.Network.laws
