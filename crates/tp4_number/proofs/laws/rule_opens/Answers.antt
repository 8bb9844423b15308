use Rattle.tp4_number.proofs.Openings.{opens}
use Rattle.tp4_number.proofs.laws.rule_opens.Goals as goal

pub returns : goal.returns
returns c = opens
