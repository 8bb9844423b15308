use Rattle.std.proofs.Common.{refl}
use Rattle.tp4_world.proofs.world.TpWorld.unit.Goals as goal

pub returns : goal.returns
returns g c = rw (← c.self.view_is) (c.send_unit.new.carrier, c.in_ok-send_unit.ensures, refl)
