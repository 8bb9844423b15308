use Rattle.std.proofs.Common.{List, ℕ, subst}
use Rattle.clnp_system.specs.Forwarding.{Recorded, Records}
use Rattle.clnp_system.proofs.setup.SystemSetup.change.Goals as goal

pub returns-in-203 : goal.returns-in-203
returns-in-203 c =
    Recorded c.in-203.is c.in-203.is (subst (λ (title : List ℕ). Records title c.args.value.now c.record_title.new.value) c.own_title.ensures c.record_title.ensures)
