use Rattle.std.proofs.Common.{◌≡◌, map, take}
use Rattle.script_setup.proofs.setup.SetUp.titles.Given as goal

abbrev pub invariant-loop-system : goal.invariant-loop-system
invariant-loop-system l = l.titles.items ≡ map (λ system. system.title) (take l.system-index l.self.systems)
