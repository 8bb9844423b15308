use Rattle.std.proofs.Common.{◌≡◌, ◌++◌}
use Rattle.clnp_net.proofs.net.react.Given as goal

abbrev pub invariant-loop-up : goal.invariant-loop-up
invariant-loop-up g l = (l.yielded ++ l.up-iterator.rest.items ≡ l.fn.handled.ups.items) × (l.waiting.items ≡ l.initial.waiting.items ++ l.yielded)
