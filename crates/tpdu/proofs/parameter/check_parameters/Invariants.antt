use Rattle.std.proofs.Common.{◌≡◌, ◌≤◌, ◌+◌, length}
use Rattle.tpdu.specs.steps.Reading.{checked}
use Rattle.tpdu.proofs.Checks.{goes_on}
use Rattle.tpdu.proofs.parameter.check_parameters.Given as goal

abbrev pub invariant-loop-left : goal.invariant-loop-left
invariant-loop-left l = (goes_on l.kind l.sum l.place l.left ≡ checked l.kind l.first l.octets) × (l.place + length l.left ≤ l.first + length l.octets)

abbrev pub decreases-loop-left : goal.decreases-loop-left
decreases-loop-left l = length l.left
