use Rattle.std.proofs.Common.{◌≡◌, map, take}
use Rattle.script_setup.specs.SetUp.{title_at}
use Rattle.script_setup.proofs.setup.SetUp.titles_of.Given as goal

abbrev pub invariant-loop-system : goal.invariant-loop-system
invariant-loop-system l = l.titles.items ≡ map (title_at l.self.systems) (take l.system-index l.systems)
