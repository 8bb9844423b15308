-- What the network answers to an offer over LANs (X.233, Inactive Network Layer Protocol subset).
use Rattle.std.specs.Prelude.{◌≡◌, ℕ, ◌+◌, Bool, ◌||◌, nat_le, nat_lt, if◌then◌else◌, List, length, Option, Some, None}
use Rattle.std.specs.List.{AllByRecursion}
use Rattle.osi_base.specs.declared.unit.DropCause.TheVariants.{Full, NoRoute, TooLong}
use Rattle.osi_base.specs.declared.unit.Offered.{Offered}
use Rattle.osi_base.specs.declared.unit.Offered.TheVariants.{Taken as WasTaken, Dropped}
use Rattle.osi_base.specs.declared.unit.Unit.{Unit as CarriedUnit}
use Rattle.lan_step.specs.Bag.{Bag}
use Rattle.lan_step.specs.Offers.{live_count}
use Rattle.lan_step.specs.Rows.{sender_of}
use Rattle.lan_step.specs.declared.row.PortRow.{PortRow}
use Rattle.inactive_step.specs.declared.row.InactiveRow.{InactiveRow}
use Rattle.inactive_step.specs.declared.row.Way.{Way}

-- each port is that of its system on the LANs
abbrev pub ArePorts : List PortRow → List InactiveRow → Type 0
ArePorts ports rows = AllByRecursion (λ row. sender_of ports row.port ≡ Some row.system) rows

-- the LANs keep as many frames as they may, or have numbered as many
abbrev pub are_full : Bag → Bool
are_full bag = nat_le 16384 (live_count bag.frames) || nat_le 4294967295 (length bag.frames)

-- the answer to an offer on a way: the first that applies
abbrev pub offered_on : Bag → CarriedUnit (List ℕ) → Option Way → Offered
offered_on bag unit None = Dropped NoRoute
offered_on bag unit (Some way) =
    if nat_lt way.goal.room (length unit.octets + 1) then Dropped TooLong
    else if are_full bag then Dropped Full
    else WasTaken
