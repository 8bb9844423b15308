-- Which system has which port, and which systems a frame goes to (IEEE 802.3; ISO 9542, multicast addresses).
use Rattle.std.specs.Prelude.{◌≡◌, ℕ, ◌<◌, ◌≤◌, Bool, false, ◌&&◌, ◌==◌, nat_eq, if◌then◌else◌, List, [], ◌∷◌, length, Option, Some, None, slice_get}
use Rattle.std.specs.Cmp.Lexicographic.{pointwise}
use Rattle.std.specs.List.{list_any, All}
use Rattle.nsap.specs.declared.port.Port.{Port}
use Rattle.lan_step.specs.declared.row.Lan.{Lan}
use Rattle.lan_step.specs.declared.row.PortRow.{PortRow}

-- the bound and the room of a LAN, also where it is not listed
abbrev pub bound_in : Option Lan → ℕ
bound_in None = 1
bound_in (Some lan) = lan.bound

abbrev pub room_in : Option Lan → ℕ
room_in None = 264
room_in (Some lan) = lan.room

abbrev pub bound_on : List Lan → ℕ → ℕ
bound_on lans lan = bound_in (slice_get lans lan)

abbrev pub room_on : List Lan → ℕ → ℕ
room_on lans lan = room_in (slice_get lans lan)

abbrev pub same_snpa : List ℕ → List ℕ → Bool
same_snpa first second = pointwise nat_eq first second

abbrev pub same_port : Port → Port → Bool
same_port first second = first.lan == second.lan && same_snpa first.snpa second.snpa

-- the system has a port on that LAN
abbrev pub is_on : List PortRow → ℕ → ℕ → Bool
is_on rows system lan = list_any (λ row. row.system == system && row.port.lan == lan) rows

-- the port is one of that system
abbrev pub has_sent : List PortRow → ℕ → Port → Bool
has_sent rows system from = list_any (λ row. row.system == system && same_port row.port from) rows

-- the system that has a port
abbrev pub sender_of : List PortRow → Port → Option ℕ
sender_of [] port = None
sender_of (row ∷ rows) port = if same_port row.port port then Some row.system else sender_of rows port

-- bounds are 1 to 16 ticks, rooms 264 to 1,497 octets
abbrev pub IsLan : Lan → Type 0
IsLan lan = (1 ≤ lan.bound) × (lan.bound ≤ 16) × (264 ≤ lan.room) × (lan.room ≤ 1497)

-- two rows have two SNPAs, and are of two systems or LANs; a system is of one kind
abbrev pub AreApart : PortRow → PortRow → Type 0
AreApart first second =
    (same_snpa first.port.snpa second.port.snpa ≡ false)
    × ((first.system ≡ second.system) → (first.port.lan ≡ second.port.lan → ⊥) × (first.end ≡ second.end))

abbrev pub AreAllApart : List PortRow → Type 0
AreAllApart [] = Unit {0}
AreAllApart (row ∷ rows) = All (AreApart row) rows × AreAllApart rows

-- the LANs and the ports fit each other
pub record IsSetUp (lans : List Lan) (rows : List PortRow) : Type 0 where
  pub lans_fit : All IsLan lans
  pub listed : All (λ row. row.port.lan < length lans) rows
  pub apart : AreAllApart rows
