-- What stands at the front is what is read.
use Rattle.esis_pdu.proofs.Grammar.{one_front}
use Rattle.esis_pdu.proofs.laws.one_front.Goals as goal

pub returns : goal.returns
returns c = one_front
