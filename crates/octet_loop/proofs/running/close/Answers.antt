use Rattle.octet_loop.proofs.Driving.{end_told, end_write_fault, risen_of}
use Rattle.octet_loop.proofs.running.close.Goals as goal

pub returns-clause-closes : goal.returns-clause-closes
returns-clause-closes g c =
    end_told g.T.Intake.course g.T.Intake.progress g.met.T.Intake.laws g.K.Sink.held c.args.intake.now c.clear.new.self.items c.finish-status.new.out.items c.deref.result.now c.args.sink.now c.write_closed.new.sink c.finish-status.result c.write_closed.result
    c.clear.ensures.items c.deref.ensures.value c.finish-status.ensures c.write_closed.ensures.written

pub returns-clause-write_fault : goal.returns-clause-write_fault
returns-clause-write_fault g c is =
    risen_of (c.write_closed.ensures.write_fault is) (end_write_fault g.T.Intake.course g.T.Intake.progress c.args.intake.now c.clear.new.self.items c.finish-status.new.out.items c.finish-status.result c.finish-status.ensures)
