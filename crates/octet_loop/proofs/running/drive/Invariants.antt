use Rattle.std.proofs.Common.{◌≡◌, ◌≤◌, ◌-◌, max}
use Rattle.octet_loop.specs.Limits.{most_octets, most_read}
use Rattle.octet_loop.proofs.Driving.{Running}
use Rattle.octet_loop.proofs.running.drive.Given as goal

abbrev pub invariant-loop-count : goal.invariant-loop-count
invariant-loop-count g l = record {
  so_far : Running g.T.Intake.course g.T.Intake.progress g.met.T.Intake.laws g.S.Source.left g.K.Sink.held l.initial.source l.initial.sink l.fn.intake l.source l.sink l.intake;
  ready : g.T.Intake.progress.ready l.intake;
  within : g.T.Intake.progress.octets l.intake ≤ most_octets;
  no_read_fault : g.S.Source.faults l.source ≡ g.S.Source.faults l.initial.source;
  asked : g.S.Source.asked l.source ≤ max (g.S.Source.asked l.initial.source) most_read;
  no_write_fault : g.K.Sink.faults l.sink ≡ g.K.Sink.faults l.initial.sink;
}

abbrev pub decreases-loop-count : goal.decreases-loop-count
decreases-loop-count g l = 16777217 - g.T.Intake.progress.octets l.intake
