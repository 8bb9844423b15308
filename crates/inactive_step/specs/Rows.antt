-- The end systems of a network: each has one address and one port (X.233, Inactive Network Layer Protocol subset, subnetwork addresses).
use Rattle.std.specs.Prelude.{◌≡◌, ◌≢◌, ℕ, ◌-◌, ◌≤◌, ◌==◌, max, Bool, false, ◌&&◌, nat_eq, List, [], ◌∷◌, find, Option, Some, None}
use Rattle.std.specs.Cmp.Lexicographic.{pointwise}
use Rattle.std.specs.List.{AllByRecursion}
use Rattle.nsap.specs.declared.port.Port.{Port}
use Rattle.osi_base.specs.Link.{Link}
use Rattle.inactive_step.specs.declared.row.InactiveRow.{InactiveRow}

-- one port
abbrev pub same_port : Port → Port → Bool
same_port one other = one.lan == other.lan && pointwise nat_eq one.snpa other.snpa

-- the row of an address, and that of a port
abbrev pub row_at : List InactiveRow → List ℕ → Option InactiveRow
row_at rows address = find (λ row. pointwise nat_eq row.address address) rows

abbrev pub row_on : List InactiveRow → Port → Option InactiveRow
row_on rows port = find (λ row. same_port row.port port) rows

-- the bound of a row and the room that it leaves for a unit, also where there is no row
abbrev pub bound_in : Option InactiveRow → ℕ
bound_in None = 1
bound_in (Some row) = row.bound

abbrev pub room_in : Option InactiveRow → ℕ
room_in None = 1
room_in (Some row) = row.room - 1

abbrev pub is_system_in : Option InactiveRow → ℕ → Bool
is_system_in None system = false
is_system_in (Some row) system = row.system == system

-- the greatest bound
abbrev pub longest : List InactiveRow → ℕ
longest [] = 1
longest (row ∷ rows) = max row.bound (longest rows)

-- two rows are of two systems, addresses and ports
pub record AreApart (one other : InactiveRow) : Type 0 where
  pub systems : one.system ≢ other.system
  pub addresses : pointwise nat_eq one.address other.address ≡ false
  pub ports : same_port one.port other.port ≡ false

abbrev pub AreAllApart : List InactiveRow → Type 0
AreAllApart [] = Unit {0}
AreAllApart (row ∷ rows) = AllByRecursion (AreApart row) rows × AreAllApart rows

-- the row says what the carrier of frames promises for its port: a frame for it goes to its system and to no other
pub record IsPromised (link : Link Port) (row : InactiveRow) : Type 0 where
  pub bound : link.bound row.port ≡ row.bound
  pub room : link.room row.port ≡ row.room
  pub some_room : 1 ≤ row.room
  pub belongs : (system : ℕ) → link.belongs row.port system ≡ (row.system == system)

-- different end systems, as the carrier of their frames has them
pub record AreServed (link : Link Port) (rows : List InactiveRow) : Type 0 where
  pub apart : AreAllApart rows
  pub promised : AllByRecursion (IsPromised link) rows
