use Rattle.std.proofs.Common.{take}
use Rattle.clnp_system.specs.Written.{AreFrames}
use Rattle.clnp_system.proofs.setup.SystemSetup.frames.Given as goal

abbrev pub invariant-loop-pdu : goal.invariant-loop-pdu
invariant-loop-pdu l = AreFrames l.self l.to (take l.pdu-index l.pdus) l.frames.items
