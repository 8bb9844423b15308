use Rattle.std.proofs.Common.{◌≡◌, length}
use Rattle.pdu_parts.specs.Parameter.{parameters_in}
use Rattle.clnp_options.specs.Options.{value_of}
use Rattle.clnp_options.proofs.option.get.Given as goal

abbrev pub invariant-loop-option : goal.invariant-loop-option
invariant-loop-option l = value_of l.code (parameters_in l.rest) ≡ value_of l.code (parameters_in l.options.octets.now)

abbrev pub decreases-loop-option : goal.decreases-loop-option
decreases-loop-option l = length l.rest
