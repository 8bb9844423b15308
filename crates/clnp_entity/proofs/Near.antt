-- A hop that was found in a system whose parts are those of another is near to the other one, too.
use Rattle.std.proofs.Common.{◌≡◌, Option, sym, subst}
use Rattle.std.specs.Prelude.{IfSome}
use Rattle.nsap.specs.declared.port.Hop.{Hop}
use Rattle.esis_tables.specs.Rows.{Rows}
use Rattle.clnp_system.specs.Node.{Node}
use Rattle.clnp_entity.specs.Kept.{IsNear}

pub near_of : (mid node : Node Rows) (found result : Option Hop) → mid ≡ node → result ≡ found → IfSome found (IsNear mid.setup) → IfSome result (IsNear node.setup)
near_of mid node found result same is near =
    subst (λ (n : Node Rows). IfSome result (IsNear n.setup)) same (subst (λ (hop : Option Hop). IfSome hop (IsNear mid.setup)) (sym is) near)
