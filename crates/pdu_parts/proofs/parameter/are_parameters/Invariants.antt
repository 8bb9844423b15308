-- What is left behind the parameters is the same from each of them on.
use Rattle.std.proofs.Common.{◌≡◌, length}
use Rattle.pdu_parts.specs.Parameter.{left_in}
use Rattle.pdu_parts.proofs.parameter.are_parameters.Given as goal

abbrev pub invariant-loop-after : goal.invariant-loop-after
invariant-loop-after l = left_in l.rest ≡ left_in l.octets

abbrev pub decreases-loop-after : goal.decreases-loop-after
decreases-loop-after l = length l.rest
