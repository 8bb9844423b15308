use Rattle.std.proofs.Common.{◌≡◌, ◌≤◌, ◌+◌, length}
use Rattle.cltp.specs.steps.Reading.{checked, values_view}
use Rattle.cltp.proofs.Checks.{goes_on}
use Rattle.cltp.proofs.parameter.check_parameters.Given as goal

abbrev pub invariant-loop-left : goal.invariant-loop-left
invariant-loop-left l = (goes_on (values_view l.values) l.place l.left ≡ checked 3 l.octets) × (l.place + length l.left ≤ 3 + length l.octets)

abbrev pub decreases-loop-left : goal.decreases-loop-left
decreases-loop-left l = length l.left
