use Rattle.tp4_sending.proofs.Joins.{all_units}
use Rattle.tp4_sending.proofs.laws.joins_what_was_cut.Goals as goal

pub returns : goal.returns
returns c = all_units
