-- How a network over LANs begins.
use Rattle.std.specs.Prelude.{ℕ, List, map}
use Rattle.std.specs.List.{AllByRecursion}
use Rattle.lan_step.specs.Bag.{Bag, BagStep, link_of, new_bag}
use Rattle.lan_step.specs.declared.row.Lan.{Lan}
use Rattle.lan_step.specs.declared.row.PortRow.{PortRow}
use Rattle.esis_tables.specs.Rows.{Rows, no_rows}
use Rattle.clnp_system.specs.Node.{Node, fresh_node}
use Rattle.clnp_system.specs.Setting.{Setting}
use Rattle.clnp_system.specs.Tables.{rows_tables}
use Rattle.law_clnp_step.specs.Network.{Network}
use Rattle.law_clnp_step.specs.Sound.{IsPeopled}
use Rattle.law_clnp_step.specs.Step.{Begins}
use Rattle.law_clnp_net.specs.Standing.{IsSetUp}

-- a system that knows nothing yet
abbrev pub first_node : Setting → Node Rows
first_node setting = fresh_node setting no_rows

-- of these set-ups a network begins over LANs without frames
abbrev pub BeginsAs : List Lan → List PortRow → List Setting → ℕ → Network Bag Rows → Type 0
BeginsAs lans rows settings life new = Begins link_of BagStep rows_tables (new_bag lans rows) (map first_node settings) life new

-- set-ups in octets, of different systems, within the bounds of the LANs
pub record MayBegin (lans : List Lan) (rows : List PortRow) (settings : List Setting) (life : ℕ) : Type 0 where
  pub set : AllByRecursion IsSetUp settings
  pub peopled : IsPeopled (link_of (new_bag lans rows)).bound life settings
