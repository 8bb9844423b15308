use Rattle.tp4_world.proofs.Shown.{sent_where_honest}
use Rattle.tp4_world.proofs.laws.shows_sent_where_honest.Goals as goal

pub returns : goal.returns
returns g c = sent_where_honest g.C.Carrier.link g.C.Carrier.steps g.met.C.Carrier.keeps
