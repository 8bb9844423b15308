use Rattle.law_relay.proofs.Chained.{goes_through}
use Rattle.law_relay.proofs.laws.goes_through.Goals as goal

pub returns : goal.returns
returns c = goes_through
