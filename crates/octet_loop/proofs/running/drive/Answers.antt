use Rattle.std.proofs.Common.{rules, ◌<◌, length, take}
use Rattle.octet_loop.proofs.Driving.{run_passed, passed_never_read, run_closed}
use Rattle.octet_loop.proofs.running.drive.Goals as goal

pub returns-then-count-eq0-clause-outcome : goal.returns-then-count-eq0-clause-outcome
returns-then-count-eq0-clause-outcome g c =
    let some : 0 < length c.loop-count.buffer = search rules in
    run_closed g.T.Intake.course g.T.Intake.progress g.met.T.Intake.laws g.S.Source.left g.K.Sink.held c.args.source.now c.args.sink.now c.args.intake c.loop-count.source c.read.new.self c.loop-count.sink c.close.new.sink c.loop-count.intake c.read.new.into c.in-Ok.count c.close.result
    c.loop-count.invariant.so_far c.in-Ok.ensures.moved c.if-count-eq0.true (c.in-Ok.ensures.end c.if-count-eq0.true some) c.close.ensures.closes

pub returns-in_default-pass_on : goal.returns-in_default-pass_on
returns-in_default-pass_on g c = record {
  outcome = run_passed g.T.Intake.course g.T.Intake.progress g.met.T.Intake.laws g.S.Source.left g.K.Sink.held c.args.source.now c.args.sink.now c.args.intake c.loop-count.source c.read.new.self c.loop-count.sink c.pass_on.new.sink c.loop-count.intake c.pass_on.new.intake c.read.new.into c.in-Ok.count c.pass_on.result
      c.in_default-pass_on.not-Done (search rules) (search rules) c.loop-count.invariant.so_far c.in-Ok.ensures.moved c.pass_on.ensures.passes;
  read_fault = λ is. absurd (passed_never_read g.T.Intake.course g.T.Intake.progress g.met.T.Intake.laws g.S.Source.left g.K.Sink.held c.args.source.now c.args.sink.now c.args.intake c.loop-count.source c.loop-count.sink c.pass_on.new.sink c.loop-count.intake c.pass_on.new.intake (take c.in-Ok.count c.read.new.into) c.pass_on.result
      c.loop-count.invariant.so_far c.pass_on.ensures.passes is);
  write_fault = λ is. search rules;
  asked = search rules;
  no_read_fault = λ other. search rules;
  one_read_fault = search rules;
  no_write_fault = λ other. search rules;
  one_write_fault = search rules;
}
