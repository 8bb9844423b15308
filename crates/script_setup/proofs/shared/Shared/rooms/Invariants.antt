use Rattle.std.proofs.Common.{◌≡◌, map, take}
use Rattle.script_setup.proofs.shared.Shared.rooms.Given as goal

abbrev pub invariant-loop-lan : goal.invariant-loop-lan
invariant-loop-lan l = l.rooms.items ≡ map (λ lan. lan.room) (take l.lan-index l.self.lans)
