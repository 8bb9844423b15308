use Rattle.std.proofs.Common.{◌≡◌, ◌++◌, drop}
use Rattle.pdu_parts.specs.Parameter.{spelled}
use Rattle.clnp_header.specs.Values.{parameters}
use Rattle.clnp_header.proofs.writing.push_options.Given as goal

abbrev pub invariant-loop-option : goal.invariant-loop-option
invariant-loop-option l = l.octets.items ++ spelled (parameters (drop l.option-index l.options)) ≡ l.initial.octets.items ++ spelled (parameters l.options)
