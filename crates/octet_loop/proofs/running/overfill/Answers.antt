use Rattle.std.proofs.Common.{◌+◌, ◌≤◌, refl, sym, take, drop, length, arith}
use Rattle.std.proofs.lemmas.List.{take-append-drop, length-take-le}
use Rattle.octet_loop.specs.Limits.{most_octets}
use Rattle.octet_loop.proofs.Driving.{piece_over, piece_stopped, piece_write_fault, piece_not_done, over_not_done, risen_of}
use Rattle.octet_loop.proofs.running.overfill.Goals as goal

pub returns-in-Ok-clause-passes : goal.returns-in-Ok-clause-passes
returns-in-Ok-clause-passes g c =
    piece_over g.T.Intake.course g.T.Intake.progress g.met.T.Intake.laws g.K.Sink.held c.args.octets.now c.args.room c.args.intake.now c.take.new.self c.args.out.now.items c.take.new.out.items c.args.sink.now c.overflow.new.sink c.overflow.result
    c.requires.more c.requires.full c.requires.empty c.in-Ok.ensures.ok c.overflow.ensures.written

pub returns-in-Ok-clause-stopped : goal.returns-in-Ok-clause-stopped
returns-in-Ok-clause-stopped g c =
    over_not_done g.T.Intake.course g.T.Intake.progress g.K.Sink.held c.take.new.self c.take.new.out.items c.args.sink.now c.overflow.new.sink c.overflow.result c.overflow.ensures.written

pub returns-in-Err : goal.returns-in-Err
returns-in-Err g c =
    let stopped = c.in-Err.ensures.stopped c.in-Err.status refl in
    let room : g.T.Intake.progress.octets c.args.intake.now + length (take c.args.room c.args.octets.now) ≤ most_octets = omega (arith, length-take-le c.args.room c.args.octets.now (omega (arith, c.requires.more))) in
    record {
      passes = piece_stopped g.T.Intake.course g.T.Intake.progress g.met.T.Intake.laws g.K.Sink.held (take c.args.room c.args.octets.now) c.args.octets.now (drop c.args.room c.args.octets.now) c.args.intake.now c.take.new.self c.args.out.now.items c.take.new.out.items c.deref.result.now c.args.sink.now c.write_closed.new.sink c.in-Err.status c.write_closed.result
          (sym (take-append-drop c.args.room c.args.octets.now)) room c.requires.empty c.deref.ensures.value stopped c.write_closed.ensures.written;
      stopped = piece_not_done g.T.Intake.course g.T.Intake.progress g.K.Sink.held (take c.args.room c.args.octets.now) c.args.intake.now c.args.out.now.items c.take.new.out.items c.deref.result.now c.args.sink.now c.write_closed.new.sink c.in-Err.status c.write_closed.result stopped c.write_closed.ensures.written;
      faults_stay = c.write_closed.ensures.faults_stay;
      no_write_fault = c.write_closed.ensures.no_write_fault;
      one_write_fault = c.write_closed.ensures.one_write_fault;
      write_fault = λ is. risen_of (c.write_closed.ensures.write_fault is) (piece_write_fault g.T.Intake.course g.T.Intake.progress (take c.args.room c.args.octets.now) c.args.intake.now c.args.out.now.items c.take.new.out.items c.in-Err.status stopped);
    }
