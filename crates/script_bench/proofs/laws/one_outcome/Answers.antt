use Rattle.line_loop.proofs.Exclusion.{asks_once, one_course}
use Rattle.script_bench.specs.Bench.{bench_meaning}
use Rattle.script_bench.specs.steps.BenchLaws.{bench_laws}
use Rattle.script_bench.proofs.laws.one_outcome.Goals as goal

pub returns-clause-course : goal.returns-clause-course
returns-clause-course g c = one_course (bench_meaning g.W.Stage.acts) (bench_laws g.W.Stage.acts g.W.Stage.keeping g.met.W.Stage.laws)

pub returns-clause-asks : goal.returns-clause-asks
returns-clause-asks g c = asks_once (bench_meaning g.W.Stage.acts) (bench_laws g.W.Stage.acts g.W.Stage.keeping g.met.W.Stage.laws)
