use Rattle.std.proofs.Common.{◌≡◌, map, take}
use Rattle.clnp_system.specs.Ticking.{expiry_note}
use Rattle.clnp_entity.proofs.entity.NetEntity.notes.Given as goal

abbrev pub invariant-loop-unit : goal.invariant-loop-unit
invariant-loop-unit l = l.ups.items ≡ map (expiry_note l.self.setup.system) (take l.unit-index l.expired)
