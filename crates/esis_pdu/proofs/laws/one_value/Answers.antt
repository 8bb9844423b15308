-- The whole list is a front of itself.
use Rattle.esis_pdu.proofs.Grammar.{one_value}
use Rattle.esis_pdu.proofs.laws.one_value.Goals as goal

pub returns : goal.returns
returns c = one_value
