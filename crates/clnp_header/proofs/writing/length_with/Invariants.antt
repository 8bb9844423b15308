use Rattle.std.proofs.Common.{◌≡◌, ◌+◌, ◌≤◌, length, drop}
use Rattle.pdu_parts.specs.Parameter.{spelled}
use Rattle.clnp_header.specs.Values.{parameters}
use Rattle.clnp_header.proofs.writing.length_with.Given as goal

abbrev pub invariant-loop-option : goal.invariant-loop-option
invariant-loop-option l =
    (l.count + length (spelled (parameters (drop l.option-index l.options))) ≡ l.before + length (spelled (parameters l.options)))
    × (l.count ≤ 254)
