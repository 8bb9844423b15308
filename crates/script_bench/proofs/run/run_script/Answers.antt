use Rattle.std.proofs.Common.{rules}
use Rattle.script_bench.proofs.Given.{gives_complete, gives_exact}
use Rattle.script_bench.proofs.run.run_script.Goals as goal

pub returns-clause-exact : goal.returns-clause-exact
returns-clause-exact g c all text asked tells asks =
    gives_exact g.W.Stage.acts g.W.Stage.keeping g.met.W.Stage.laws g.S.Source.left g.K.Sink.held
    c.args.source.now c.args.sink.now c.new.result c.drive.new.source c.drive.new.sink c.drive.result c.new.ensures c.drive.ensures.outcome all text asked tells asks _ (search rules)

pub returns-clause-complete : goal.returns-clause-complete
returns-clause-complete g c all tells accepted no_read no_write =
    gives_complete g.W.Stage.acts g.W.Stage.keeping g.met.W.Stage.laws g.S.Source.left g.K.Sink.held
    c.args.source.now c.args.sink.now c.new.result c.drive.new.source c.drive.new.sink c.drive.result c.new.ensures c.drive.ensures.outcome all tells accepted
    (g.S.Source.faults c.args.source.now) (g.S.Source.faults c.drive.new.source) (g.K.Sink.faults c.args.sink.now) (g.K.Sink.faults c.drive.new.sink)
    c.drive.ensures.read_fault c.drive.ensures.write_fault no_read no_write _ (search rules)
