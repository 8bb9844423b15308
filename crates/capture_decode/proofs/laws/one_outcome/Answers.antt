use Rattle.capture_decode.proofs.OneAnswer.{asks_once}
use Rattle.capture_decode.proofs.laws.one_outcome.Goals as goal

pub returns : goal.returns
returns c = asks_once c.one_show.ensures
