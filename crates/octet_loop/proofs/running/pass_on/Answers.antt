use Rattle.std.proofs.Common.{refl, sym, [], arith}
use Rattle.std.proofs.lemmas.List.{append-nil}
use Rattle.octet_loop.proofs.Driving.{piece_taken, piece_stopped, piece_write_fault, piece_not_done, risen_of}
use Rattle.octet_loop.proofs.running.pass_on.Goals as goal

pub returns-in-Ok-clause-passes : goal.returns-in-Ok-clause-passes
returns-in-Ok-clause-passes g c =
    piece_taken g.T.Intake.course g.T.Intake.progress g.met.T.Intake.laws g.K.Sink.held c.args.octets.now c.args.intake.now c.take.new.self c.clear.new.self.items c.take.new.out.items c.deref.result.now c.args.sink.now c.write_all.new.sink c.write_all.result
    (omega arith) c.clear.ensures.items c.deref.ensures.value c.in-Ok.ensures.ok c.write_all.ensures.written

pub returns-in-Err : goal.returns-in-Err
returns-in-Err g c =
    let stopped = c.in-Err.ensures.stopped c.in-Err.status refl in
    let never = piece_not_done g.T.Intake.course g.T.Intake.progress g.K.Sink.held c.args.octets.now c.args.intake.now c.clear.new.self.items c.take.new.out.items c.deref-in-Err.result.now c.args.sink.now c.write_closed.new.sink c.in-Err.status c.write_closed.result stopped c.write_closed.ensures.written in
    record {
      passes = piece_stopped g.T.Intake.course g.T.Intake.progress g.met.T.Intake.laws g.K.Sink.held c.args.octets.now c.args.octets.now [] c.args.intake.now c.take.new.self c.clear.new.self.items c.take.new.out.items c.deref-in-Err.result.now c.args.sink.now c.write_closed.new.sink c.in-Err.status c.write_closed.result
          (sym (append-nil c.args.octets.now)) (omega arith) c.clear.ensures.items c.deref-in-Err.ensures.value stopped c.write_closed.ensures.written;
      ready = λ is. absurd (never is);
      octets = λ is. absurd (never is);
      within = λ is. absurd (never is);
      faults_stay = c.write_closed.ensures.faults_stay;
      no_write_fault = c.write_closed.ensures.no_write_fault;
      one_write_fault = c.write_closed.ensures.one_write_fault;
      write_fault = λ is. risen_of (c.write_closed.ensures.write_fault is) (piece_write_fault g.T.Intake.course g.T.Intake.progress c.args.octets.now c.args.intake.now c.clear.new.self.items c.take.new.out.items c.in-Err.status stopped);
    }
