-- What is always so of a system.
use Rattle.std.specs.Prelude.{◌≡◌, ◌≤◌, List, IsSome}
use Rattle.std.specs.List.{AllByRecursion}
use Rattle.nsap.specs.declared.port.Hop.{Hop}
use Rattle.esis_tables.specs.declared.holding_time.Row.{Row}
use Rattle.esis_tables.specs.Rows.{Rows}
use Rattle.clnp_system.specs.Setting.{IsSetting, Setting, port_on}
use Rattle.clnp_system.specs.Node.{Node}

-- the hop is on the LAN of a port
abbrev pub IsNear : Setting → Hop → Type 0
IsNear setting hop = IsSome (port_on setting hop.port.lan)

abbrev pub AreNear : Setting → List Row → Type 0
AreNear setting rows = AllByRecursion (λ row. IsNear setting row.heard.hop) rows

-- the setup is one that may be; no part was called later than the system; the store has its limits; each hop that was heard can be reached
pub record IsKept (node : Node Rows) : Type 0 where
  pub setting : IsSetting node.setup
  pub store : node.store.clock ≤ node.clock
  pub neighbours : node.neighbours.clock ≤ node.clock
  pub redirects : node.redirects.clock ≤ node.clock
  pub units : node.store.units ≡ 32
  pub octets : node.store.octets ≡ 262144
  pub heard : AreNear node.setup node.neighbours.rows
  pub better : AreNear node.setup node.redirects.rows
