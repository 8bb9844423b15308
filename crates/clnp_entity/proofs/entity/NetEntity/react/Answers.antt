use Rattle.std.proofs.Common.{refl}
use Rattle.clnp_entity.proofs.entity.NetEntity.react.Goals as goal

pub returns-in_ok-passed-in-Onward : goal.returns-in_ok-passed-in-Onward
returns-in_ok-passed-in-Onward c = rw c.in-Onward.is (c.in_ok-passed-in-Onward.ensures, refl)
