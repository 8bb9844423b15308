-- The end systems of a script as those of a network by the inactive subset (X.233, Inactive Network Layer Protocol subset, subnetwork
-- addresses).
use Rattle.std.specs.Prelude.{ℕ, ◌+◌, ◌==◌, if◌then◌else◌, List, [], ◌∷◌, ◌++◌, find, Option, Some, None}
use Rattle.inactive_step.specs.declared.row.InactiveRow.{InactiveRow}
use Rattle.nsap.specs.Address.{system_part}
use Rattle.lan_step.specs.declared.row.Lan.{Lan}
use Rattle.lan_step.specs.declared.row.PortRow.{PortRow}
use Rattle.lan_step.specs.Rows.{bound_on, room_on}
use Rattle.script_setup.specs.SetUp.{System, SetUp}

-- the port of a system; an end system has one at most
abbrev pub port_of : List PortRow → ℕ → Option PortRow
port_of ports number = find (λ row. row.system == number) ports

-- an end system with its port: its address is its title with the selector of transport, its bound and its room are those of its LAN
abbrev pub row_of : List Lan → ℕ → System → PortRow → InactiveRow
row_of lans number system row = record {
  system = number;
  address = system_part system.title ++ 1 ∷ [];
  port = row.port;
  bound = bound_on lans row.port.lan;
  room = room_on lans row.port.lan;
}

-- an end system without a port has no row, nor has an intermediate system
abbrev pub inactive_at : List Lan → ℕ → System → Option PortRow → List InactiveRow
inactive_at lans number system None = []
inactive_at lans number system (Some row) = if system.end then row_of lans number system row ∷ [] else []

-- the rows of the systems from that number on
abbrev pub inactive_from : List Lan → List PortRow → ℕ → List System → List InactiveRow
inactive_from lans ports number [] = []
inactive_from lans ports number (system ∷ systems) = inactive_at lans number system (port_of ports number) ++ inactive_from lans ports (number + 1) systems

-- the end systems with a port, in the order of their lines
abbrev pub inactive_rows : SetUp → List InactiveRow
inactive_rows setup = inactive_from setup.lans setup.ports 0 setup.systems
