use Rattle.osi_storm.proofs.Courses.{some_summary}
use Rattle.osi_storm.proofs.laws.some_summary.Goals as goal

pub returns : goal.returns
returns c = some_summary
