use Rattle.osi_storm.proofs.Summaries.{one_summary}
use Rattle.osi_storm.proofs.laws.one_summary.Goals as goal

pub returns : goal.returns
returns c = one_summary
