use Rattle.std.proofs.Common.{take}
use Rattle.clnp_system.specs.Hellos.{AreHellos}
use Rattle.clnp_system.proofs.setup.SystemSetup.hellos_on.Given as goal

abbrev pub invariant-loop-port : goal.invariant-loop-port
invariant-loop-port l = AreHellos l.self (take l.port-index l.ports) l.frames.items
