use Rattle.std.proofs.Common.{◌≡◌, take}
use Rattle.script_setup.proofs.shared.Shared.copied_paths.Given as goal

abbrev pub invariant-loop-path : goal.invariant-loop-path
invariant-loop-path l = l.paths.items ≡ take l.path-index l.self.paths
