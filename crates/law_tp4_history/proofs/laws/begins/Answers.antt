use Rattle.law_tp4_history.proofs.Beginnings.{begun_seen, begins}
use Rattle.law_tp4_history.proofs.laws.begins.Goals as goal

pub returns : goal.returns
returns c = record { seen = begun_seen; may = begins }
