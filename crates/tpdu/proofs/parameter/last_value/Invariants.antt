use Rattle.std.proofs.Common.{◌≡◌, length}
use Rattle.std.specs.Prelude.{option_map}
use Rattle.pdu_parts.specs.Parameter.{parameters_in}
use Rattle.tpdu.specs.Parameters.{last_value}
use Rattle.tpdu.proofs.Checks.{last_on}
use Rattle.tpdu.proofs.parameter.last_value.Given as goal

abbrev pub invariant-loop-parameter : goal.invariant-loop-parameter
invariant-loop-parameter l = last_on l.code l.left (option_map (λ value. value.now) l.found) ≡ last_value l.code (parameters_in l.fn.octets)

abbrev pub decreases-loop-parameter : goal.decreases-loop-parameter
decreases-loop-parameter l = length l.left
