use Rattle.octet_loop.proofs.Exact.{ran_exact, complete}
use Rattle.capture_decode.specs.Course.{capture_course}
use Rattle.capture_decode.proofs.OneAnswer.{asks_once, ran_accepted, ran_refused, ran_past}
use Rattle.capture_decode.proofs.decoding.decode.Goals as goal

pub returns-clause-exact : goal.returns-clause-exact
returns-clause-exact g c all text asked tells asks =
    ran_exact capture_course (asks_once c.one_show.ensures) g.S.Source.left g.K.Sink.held c.args.source.now c.args.sink.now c.drive.new.source c.drive.new.sink c.drive.result c.drive.ensures.outcome all text asked tells asks

pub returns-clause-complete : goal.returns-clause-complete
returns-clause-complete g c all tells accepted no_read no_write =
    complete c.drive.result (g.S.Source.faults c.args.source.now) (g.S.Source.faults c.drive.new.source) (g.K.Sink.faults c.args.sink.now) (g.K.Sink.faults c.drive.new.sink)
    (ran_accepted c.one_show.ensures g.S.Source.left g.K.Sink.held c.args.source.now c.args.sink.now c.drive.new.source c.drive.new.sink c.drive.result c.drive.ensures.outcome all tells accepted)
    c.drive.ensures.read_fault c.drive.ensures.write_fault no_read no_write

pub returns-clause-refused : goal.returns-clause-refused
returns-clause-refused g c all offset cause tells fault =
    ran_refused c.one_show.ensures g.S.Source.left g.K.Sink.held c.args.source.now c.args.sink.now c.drive.new.source c.drive.new.sink c.drive.result c.drive.ensures.outcome all offset cause tells fault

pub returns-clause-past : goal.returns-clause-past
returns-clause-past g c all tells past =
    ran_past c.one_show.ensures g.S.Source.left g.K.Sink.held c.args.source.now c.args.sink.now c.drive.new.source c.drive.new.sink c.drive.result c.drive.ensures.outcome all tells past
