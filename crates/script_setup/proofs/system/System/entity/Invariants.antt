use Rattle.std.proofs.Common.{◌≡◌, take}
use Rattle.script_setup.specs.SetUp.{entity_with}
use Rattle.script_setup.proofs.system.System.entity.Given as goal

-- the selectors so far are registered
abbrev pub invariant-loop-selector : goal.invariant-loop-selector
invariant-loop-selector l = l.entity ≡ record (entity_with l.fn.references l.fn.timers l.fn.self) { selectors = take l.selector-index l.fn.self.selectors }
