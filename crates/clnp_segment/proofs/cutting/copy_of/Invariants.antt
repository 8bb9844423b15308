use Rattle.std.proofs.Common.{◌≡◌, ◌++◌, drop}
use Rattle.clnp_segment.proofs.cutting.copy_of.Given as goal

abbrev pub invariant-loop-option : goal.invariant-loop-option
invariant-loop-option l = l.options ≡ l.copy.items ++ drop l.option-index l.options
