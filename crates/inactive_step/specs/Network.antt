-- The network as a value, and what those above see of it (X.233, Inactive Network Layer Protocol subset).
use Rattle.std.specs.Prelude.{ℕ, if◌then◌else◌, List, []}
use Rattle.nsap.specs.declared.port.Port.{Port}
use Rattle.osi_base.specs.declared.unit.Unit.{Unit as CarriedUnit}
use Rattle.osi_base.specs.declared.unit.Up.{Up}
use Rattle.osi_base.specs.Link.{Link}
use Rattle.inactive_step.specs.declared.row.InactiveRow.{InactiveRow}
use Rattle.inactive_step.specs.Rows.{bound_in, is_system_in, room_in, row_at}

pub record Inactive (C : Type 0) : Type 0 where
  -- the carrier of frames below
  pub link : C
  -- the end systems
  pub rows : List InactiveRow
  -- the units that were taken and may still arrive, with their ticks
  pub floating : List (ℕ × CarriedUnit (List ℕ))
  -- what is handed up next
  pub waiting : List (Up (List ℕ))
  -- how many arrivals equalled no unit afloat
  pub strays : ℕ

-- the network as it is made
abbrev pub new_inactive : {C : Type 0} → C → List InactiveRow → Inactive C
new_inactive link rows = record { link = link; rows = rows; floating = []; waiting = []; strays = 0 }

-- what those above see: a unit floats for the bound of its frame, has the room of its frame less one octet, and goes to the end system
-- of its destination; to an address that no end system has, both are 1
abbrev pub inactive_link : {C : Type 0} → (C → Link Port) → Inactive C → Link (List ℕ)
inactive_link link net = record {
  clock = (link net.link).clock;
  floating = net.floating;
  waiting = net.waiting;
  honest = (link net.link).honest;
  strays = if (link net.link).honest then 0 else net.strays;
  bound = λ to. bound_in (row_at net.rows to);
  room = λ to. room_in (row_at net.rows to);
  belongs = λ to system. is_system_in (row_at net.rows to) system;
  given = (link net.link).given;
  takes = (link net.link).takes;
  took = (link net.link).took;
}
