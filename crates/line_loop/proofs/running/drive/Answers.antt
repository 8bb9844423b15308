use Rattle.line_loop.proofs.Driving.{first_counted, first_led, ran_lines}
use Rattle.line_loop.proofs.Exclusion.{ran_exact}
use Rattle.line_loop.proofs.running.drive.Goals as goal

pub drive-requires-clause-ready : goal.drive-requires-clause-ready
drive-requires-clause-ready g c = first_counted g.M.Machine.meaning c.args.machine c.new.result c.new.ensures c.requires

pub drive-requires-clause-none : goal.drive-requires-clause-none
drive-requires-clause-none g c = first_led g.M.Machine.meaning g.met.M.Machine.laws c.args.machine c.new.result c.new.ensures

pub returns-clause-outcome : goal.returns-clause-outcome
returns-clause-outcome g c =
    ran_lines g.M.Machine.meaning g.S.Source.left g.K.Sink.held c.args.source.now c.args.sink.now c.args.machine c.new.result c.drive.new.source c.drive.new.sink c.drive.result c.new.ensures c.drive.ensures.outcome

pub returns-clause-exact : goal.returns-clause-exact
returns-clause-exact g c =
    ran_exact g.M.Machine.meaning g.met.M.Machine.laws g.S.Source.left g.K.Sink.held c.args.source.now c.args.sink.now c.args.machine c.drive.new.source c.drive.new.sink c.drive.result
    (ran_lines g.M.Machine.meaning g.S.Source.left g.K.Sink.held c.args.source.now c.args.sink.now c.args.machine c.new.result c.drive.new.source c.drive.new.sink c.drive.result c.new.ensures c.drive.ensures.outcome)
