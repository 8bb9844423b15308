-- Which hop a PDU takes by the rows of a system (X.233, route PDU function).
use Rattle.std.specs.Prelude.{◌≡◌, ℕ, ◌≤◌, Bool, true, false, not, ◌&&◌, nat_eq, nat_lt, List, [], ◌∷◌, length, find, Option, Some, None, option_map}
use Rattle.std.specs.List.{All, Contains, list_any}
use Rattle.std.specs.Cmp.Lexicographic.{pointwise}
use Rattle.nsap.specs.Address.{covers}
use Rattle.nsap.specs.declared.port.Hop.{Hop}
use Rattle.clnp_route.specs.declared.table.RouteRow.{RouteRow}

-- a row has that prefix
abbrev pub has_prefix : List RouteRow → List ℕ → Bool
has_prefix rows prefix = list_any (λ row. pointwise nat_eq row.prefix prefix) rows

-- no two rows have one prefix
abbrev pub AreDistinct : List RouteRow → Type 0
AreDistinct [] = Unit {0}
AreDistinct (row ∷ rows) = (has_prefix rows row.prefix ≡ false) × AreDistinct rows

-- the rows of a system: at most 256, each prefix once
pub record IsTable (rows : List RouteRow) : Type 0 where
  pub distinct : AreDistinct rows
  pub few : length rows ≤ 256

-- the row covers the address, and no row that does has a longer prefix
pub record IsLongest (rows : List RouteRow) (address : List ℕ) (row : RouteRow) : Type 0 where
  pub stands : Contains rows row
  pub covering : covers row.prefix address ≡ true
  pub longest : All (λ other. covers other.prefix address ≡ true → length other.prefix ≤ length row.prefix) rows

-- the hop of the longest prefix that covers the address, or none where no prefix does
abbrev pub IsNext : List RouteRow → List ℕ → Option Hop → Type 0
IsNext rows address None = All (λ row. covers row.prefix address ≡ false) rows
IsNext rows address (Some hop) = (row : RouteRow) × IsLongest rows address row × (hop ≡ row.hop)

-- the row covers the address with a longer prefix than this one
abbrev pub surpasses : List ℕ → RouteRow → RouteRow → Bool
surpasses address row other = covers other.prefix address && nat_lt (length row.prefix) (length other.prefix)

-- the row covers the address, and no row surpasses it
abbrev pub is_longest : List RouteRow → List ℕ → RouteRow → Bool
is_longest rows address row = covers row.prefix address && not (list_any (surpasses address row) rows)

-- the next hop that the rows give
abbrev pub next_hop : List RouteRow → List ℕ → Option Hop
next_hop rows address = option_map (λ row. row.hop) (find (is_longest rows address) rows)
