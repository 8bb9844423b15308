-- What a system is set up with (X.233, network entity title, route PDU; ISO 9542, holding time).
use Rattle.std.specs.Prelude.{◌≢◌, ℕ, ◌-◌, ◌==◌, ◌%◌, ◌≤◌, Bool, nat_eq, if◌then◌else◌, List, [], ◌∷◌, ◌++◌, find, length, slice_get, slice_index, Option, None, IsSome, unwrap_or}
use Rattle.std.specs.Cmp.Lexicographic.{pointwise}
use Rattle.std.specs.List.{AllByRecursion}
use Rattle.nsap.specs.Address.{system_part, is_same_system}
use Rattle.nsap.specs.declared.port.Port.{Port}
use Rattle.pdu_parts.specs.Field.{IsAddress}
use Rattle.clnp_route.specs.declared.table.RouteRow.{RouteRow}
use Rattle.clnp_system.specs.declared.setup.Path.{Path}

-- bounds and rooms are by LAN
pub record Setting : Type 0 where
  pub system : ℕ
  pub end : Bool
  pub title : List ℕ
  pub ports : List Port
  pub rows : List RouteRow
  pub bounds : List ℕ
  pub rooms : List ℕ
  pub life : ℕ
  pub hello : ℕ
  pub hold : ℕ
  pub paths : List Path

-- of a LAN: its bound, its room, and the own port there
abbrev pub bound_of : Setting → ℕ → ℕ
bound_of setting lan = unwrap_or (slice_get setting.bounds lan) 0

abbrev pub room_of : Setting → ℕ → ℕ
room_of setting lan = unwrap_or (slice_get setting.rooms lan) 0

abbrev pub port_on : Setting → ℕ → Option Port
port_on setting lan = find (λ port. port.lan == lan) setting.ports

-- the source route of that number, from 1
abbrev pub path_of : Setting → ℕ → Option Path
path_of setting number = if number == 0 then None else slice_get setting.paths (number - 1)

-- the own address of a selector; an address of the own system; the own title
abbrev pub own_address : Setting → ℕ → List ℕ
own_address setting selector = system_part setting.title ++ selector ∷ []

abbrev pub is_own_system : Setting → List ℕ → Bool
is_own_system setting address = is_same_system address setting.title

abbrev pub is_own_title : Setting → List ℕ → Bool
is_own_title setting title = pointwise nat_eq title setting.title

-- the SNPAs of all end systems and of all intermediate systems; whether an SNPA is one of a group
abbrev pub all_ends : List ℕ
all_ends = 0x09 ∷ 0x00 ∷ 0x2b ∷ 0x00 ∷ 0x00 ∷ 0x04 ∷ []

abbrev pub all_intermediates : List ℕ
all_intermediates = 0x09 ∷ 0x00 ∷ 0x2b ∷ 0x00 ∷ 0x00 ∷ 0x05 ∷ []

abbrev pub is_group : List ℕ → Bool
is_group snpa = slice_index snpa 0 % 2 == 1

-- ---- what a set-up must be

-- a LAN has a bound of 1 to 16 ticks, and a room of 264 to 1,497 octets
pub record HasLan (setting : Setting) (lan : ℕ) : Type 0 where
  pub least_bound : 1 ≤ bound_of setting lan
  pub most_bound : bound_of setting lan ≤ 16
  pub least_room : 264 ≤ room_of setting lan
  pub most_room : room_of setting lan ≤ 1497

-- no two ports are on one LAN
abbrev pub AreApart : List Port → Type 0
AreApart [] = Unit {0}
AreApart (port ∷ ports) = AllByRecursion (λ other. other.lan ≢ port.lan) ports × AreApart ports

-- a source route has 1 to 4 titles
abbrev pub IsPath : Path → Type 0
IsPath path = (1 ≤ length path.titles) × (length path.titles ≤ 4)

-- its titles are addresses, as the type of a title has it
abbrev pub IsAddressed : Path → Type 0
IsAddressed path = AllByRecursion IsAddress path.titles

-- times in ticks but for the holding time, which is in seconds; an end system has one port at most, and an intermediate system eight
pub record IsSetting (setting : Setting) : Type 0 where
  pub few_ports : length setting.ports ≤ (if setting.end then 1 else 8)
  pub lans : AllByRecursion (λ port. HasLan setting port.lan) setting.ports
  pub apart : AreApart setting.ports
  pub hops : AllByRecursion (λ row. IsSome (port_on setting row.hop.port.lan)) setting.rows
  pub least_life : 1 ≤ setting.life
  pub most_life : setting.life ≤ 255
  pub most_hello : setting.hello ≤ 255
  pub least_hold : 1 ≤ setting.hold
  pub most_hold : setting.hold ≤ 255
  pub paths : AllByRecursion IsPath setting.paths
