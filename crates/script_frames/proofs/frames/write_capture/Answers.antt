use Rattle.std.proofs.Common.{inr, refl, arith}
use Rattle.capture_write.specs.Written.{header_octets}
use Rattle.script_frames.proofs.Capturing.{broken_fails, framed, framed_accepted, framed_exact, header_broken, header_put, not_framed, reads_nothing}
use Rattle.law_run.proofs.Handled.{shows_silence, shows_submitted}
use Rattle.script_frames.proofs.frames.write_capture.Goals as goal

pub returns-in-Done-clause-frames : goal.returns-in-Done-clause-frames
returns-in-Done-clause-frames g c =
    framed g.S.Source.left g.K.Sink.held c.args.source.now c.args.sink.now c.write_header.new.sink c.new.result c.drive.new.source c.drive.new.sink c.drive.result
    (shows_submitted c.ends_are_lawful.ensures) (shows_silence c.systems_are_silent.ensures) c.new.ensures
    (header_put g.K.Sink.held c.args.sink.now c.write_header.new.sink header_octets c.write_header.result c.write_header.ensures.written c.in-Done.is) c.drive.ensures.outcome

pub returns-in-Done-clause-exact : goal.returns-in-Done-clause-exact
returns-in-Done-clause-exact g c =
    framed_exact g.S.Source.left g.K.Sink.held c.args.source.now c.args.sink.now c.write_header.new.sink c.new.result c.drive.new.source c.drive.new.sink c.drive.result c.new.ensures
    (header_put g.K.Sink.held c.args.sink.now c.write_header.new.sink header_octets c.write_header.result c.write_header.ensures.written c.in-Done.is) c.drive.ensures.outcome

pub returns-in-Done-clause-accepted : goal.returns-in-Done-clause-accepted
returns-in-Done-clause-accepted g c =
    framed_accepted g.S.Source.left g.K.Sink.held c.args.source.now c.args.sink.now c.write_header.new.sink c.new.result c.drive.new.source c.drive.new.sink c.drive.result c.new.ensures
    (header_put g.K.Sink.held c.args.sink.now c.write_header.new.sink header_octets c.write_header.result c.write_header.ensures.written c.in-Done.is) c.drive.ensures.outcome

pub returns-in_default : goal.returns-in_default
returns-in_default g c =
    let held = g.K.Sink.held in
    let status = c.write_header.result in
    let h = header_broken held c.args.sink.now c.write_header.new.sink header_octets status c.write_header.ensures.written c.in_default.not-Done in
    record {
      frames = not_framed g.S.Source.left held c.args.source.now c.args.sink.now c.write_header.new.sink status (shows_submitted c.ends_are_lawful.ensures) (shows_silence c.systems_are_silent.ensures) h;
      exact = λ all capture asked tells asks. inr (broken_fails held c.args.sink.now c.write_header.new.sink header_octets status h);
      accepted = λ all tells accepted. inr (broken_fails held c.args.sink.now c.write_header.new.sink header_octets status h);
      asked = omega arith;
      no_read_fault = λ not. refl;
      one_read_fault = omega arith;
      no_write_fault = c.write_header.ensures.no_write_fault;
      one_write_fault = c.write_header.ensures.one_write_fault;
      read_fault = λ is. absurd (reads_nothing held c.args.sink.now c.write_header.new.sink header_octets status h is);
      write_fault = c.write_header.ensures.write_fault;
    }
