use Rattle.std.proofs.Common.{◌≡◌, take}
use Rattle.script_setup.specs.SetUp.{ports_at}
use Rattle.script_setup.proofs.shared.Shared.ports_of.Given as goal

abbrev pub invariant-loop-row : goal.invariant-loop-row
invariant-loop-row l = l.ports.items ≡ ports_at (take l.row-index l.self.ports) l.number
