use Rattle.std.proofs.Common.{◌≡◌, ◌-◌, slice_get}
use Rattle.pdu_parts.specs.Parameter.{parameters_in}
use Rattle.clnp_options.proofs.option.nth.Given as goal

abbrev pub invariant-loop : goal.invariant-loop
invariant-loop l = slice_get (parameters_in l.rest) (l.index - l.counter) ≡ slice_get (parameters_in l.options.octets.now) l.index
