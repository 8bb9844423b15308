use Rattle.script_bench.proofs.Courses.{script_asks}
use Rattle.script_bench.proofs.laws.some_outcome.Goals as goal

pub returns : goal.returns
returns g c = script_asks g.W.Stage.acts g.W.Stage.keeping g.met.W.Stage.laws
