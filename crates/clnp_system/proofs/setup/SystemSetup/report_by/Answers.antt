use Rattle.std.proofs.Common.{arith}
use Rattle.clnp_system.specs.Reporting.{discarded_of}
use Rattle.clnp_system.proofs.Lans.{lan_of}
use Rattle.clnp_system.proofs.Writable.{report_written}
use Rattle.clnp_system.proofs.setup.SystemSetup.report_by.Goals as goal

pub frame-requires-clause-written : goal.frame-requires-clause-written
frame-requires-clause-written c =
    let lan = lan_of c.args.self.now c.args.hop.now.port.lan c.requires.setting c.requires.hop in
    report_written c.args.self.now c.in_ok-report.report (discarded_of c.args.discarded.now) c.room.result c.in_ok-report.ensures.value c.report_pdu.ensures.short
    (omega (arith, c.pdu_length.ensures)) (omega (arith, c.room.ensures))
