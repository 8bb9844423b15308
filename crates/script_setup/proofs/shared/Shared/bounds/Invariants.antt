use Rattle.std.proofs.Common.{◌≡◌, map, take}
use Rattle.script_setup.proofs.shared.Shared.bounds.Given as goal

abbrev pub invariant-loop-lan : goal.invariant-loop-lan
invariant-loop-lan l = l.bounds.items ≡ map (λ lan. lan.bound) (take l.lan-index l.self.lans)
