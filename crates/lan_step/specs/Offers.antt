-- Which frames a LAN takes, and why it drops the others (IEEE 802.3).
use Rattle.std.specs.Prelude.{ℕ, not, ◌||◌, ◌==◌, nat_lt, nat_le, is_some, if◌then◌else◌, List, length, count_by, Option}
use Rattle.osi_base.specs.declared.unit.Unit.{Unit as CarriedUnit}
use Rattle.osi_base.specs.declared.unit.Offered.{Offered}
use Rattle.osi_base.specs.declared.unit.Offered.TheVariants.{Taken as WasTaken, Dropped}
use Rattle.osi_base.specs.declared.unit.DropCause.TheVariants.{TooLong, NoRoute, Full}
use Rattle.nsap.specs.declared.port.Port.{Port}
use Rattle.lan_step.specs.declared.row.Lan.{Lan}
use Rattle.lan_step.specs.declared.row.PortRow.{PortRow}
use Rattle.lan_step.specs.Rows.{room_on, sender_of}
use Rattle.lan_step.specs.Frames.{Frame}

-- how many frames there are that are not late
abbrev pub live_count : List (Option Frame) → ℕ
live_count frames = count_by is_some frames

-- the answer to an offer: the first that applies
abbrev pub offered : List Lan → List PortRow → List (Option Frame) → CarriedUnit Port → Offered
offered lans rows frames unit =
    if not (is_some (sender_of rows unit.from)) || not (unit.from.lan == unit.to.lan) then Dropped NoRoute
    else if nat_lt (room_on lans unit.to.lan) (length unit.octets) then Dropped TooLong
    else if nat_le 16384 (live_count frames) || nat_le 4294967295 (length frames) then Dropped Full
    else WasTaken
