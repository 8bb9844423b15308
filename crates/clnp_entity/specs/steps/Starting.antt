-- A unit that is sent, but for its length on the LAN of the hop: the hop, or the first cause against it.
use Rattle.std.specs.Prelude.{ℕ, ◌&&◌, nat_lt, if◌then◌else◌, List, length, Option, Some, None, Result, Ok, Err}
use Rattle.nsap.specs.declared.port.Hop.{Hop}
use Rattle.osi_base.specs.declared.unit.DropCause.{DropCause}
use Rattle.osi_base.specs.declared.unit.DropCause.TheVariants as causes
use Rattle.osi_base.specs.declared.unit.Unit.{Unit as CarriedUnit}
use Rattle.osi_base.specs.declared.unit.Wish.{Wish}
use Rattle.esis_tables.specs.Rows.{Rows}
use Rattle.clnp_system.specs.Identifiers.{is_spent}
use Rattle.clnp_system.specs.Node.{Node}
use Rattle.clnp_system.specs.Sending.{way}
use Rattle.clnp_system.specs.Tables.{Tables}

abbrev pub identified : Node Rows → ℕ → Wish → Option Hop → Result Hop DropCause
identified node now wish None = Err causes.NoRoute
identified node now wish (Some hop) = if wish.cut && is_spent node now then Err causes.IdsSpent else Ok hop

abbrev pub starting : Tables Rows → Node Rows → ℕ → CarriedUnit (List ℕ) → Wish → Result Hop DropCause
starting tables node now unit wish =
    if nat_lt 16384 (length unit.octets) then Err causes.TooLong
    else identified node now wish (way tables node now unit.to wish.path)
