use Rattle.law_relay.proofs.Noting.{noted}
use Rattle.law_relay.proofs.laws.noted.Goals as goal

pub returns : goal.returns
returns c = noted
