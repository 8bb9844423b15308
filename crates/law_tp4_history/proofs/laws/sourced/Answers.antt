use Rattle.law_tp4_history.proofs.Sources.{requests_sourced, read_sourced}
use Rattle.law_tp4_history.proofs.laws.sourced.Goals as goal

pub returns : goal.returns
returns c = record { requests = requests_sourced; read = read_sourced }
