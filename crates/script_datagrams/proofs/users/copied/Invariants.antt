use Rattle.std.proofs.Common.{◌≡◌, take}
use Rattle.script_datagrams.proofs.users.copied.Given as goal

abbrev pub invariant-loop-selector : goal.invariant-loop-selector
invariant-loop-selector l = l.copy.items ≡ take l.selector-index l.fn.selectors
