use Rattle.std.proofs.Common.{◌≡◌, drop}
use Rattle.script_setup.specs.SetUp.{port_on}
use Rattle.script_setup.proofs.shared.port_on.Given as goal

-- the rows that are left have the port
abbrev pub invariant-loop-row : goal.invariant-loop-row
invariant-loop-row l = port_on l.ports l.system l.lan ≡ port_on (drop l.row-index l.ports) l.system l.lan
