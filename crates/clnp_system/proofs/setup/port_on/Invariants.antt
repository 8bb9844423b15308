use Rattle.std.proofs.Common.{◌≡◌, ◌==◌, find, drop}
use Rattle.clnp_system.proofs.setup.port_on.Given as goal

abbrev pub invariant-loop-port : goal.invariant-loop-port
invariant-loop-port l = find (λ port. port.lan == l.lan) (drop l.port-index l.ports) ≡ find (λ port. port.lan == l.lan) l.ports
