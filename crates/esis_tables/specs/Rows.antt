-- The rows of a table, and what each call makes of them (ISO 9542, record and flush of configuration and of redirects).
use Rattle.std.specs.Prelude.{◌≡◌, ℕ, ◌+◌, ◌≤◌, Bool, false, not, ◌&&◌, nat_eq, nat_lt, if◌then◌else◌}
use Rattle.std.specs.Prelude.{List, [], ◌∷◌, ◌++◌, length, map, find, Option, Some, None, option_map}
use Rattle.std.specs.List.{filter, list_any}
use Rattle.std.specs.Ordering.{is_lt, nat_cmp}
use Rattle.std.specs.Cmp.Lexicographic.{pointwise, slice_cmp}
use Rattle.nsap.specs.declared.port.Hop.{Hop}
use Rattle.esis_tables.specs.declared.holding_time.Heard.{Heard}
use Rattle.esis_tables.specs.declared.holding_time.Row.{Row}
use Rattle.esis_tables.specs.Told.{Told, is_among}

-- a table: the latest tick of a call that changed it, and its rows in the order in which their addresses were first named
pub record Rows : Type 0 where
  pub clock : ℕ
  pub rows : List Row

abbrev pub no_rows : Rows
no_rows = record { clock = 0; rows = [] }

abbrev pub addresses : List Row → List (List ℕ)
addresses rows = map (λ row. row.address) rows

abbrev pub has_row : List Row → List ℕ → Bool
has_row rows address = is_among (addresses rows) address

-- no address stands twice
abbrev pub AreDistinct : List (List ℕ) → Type 0
AreDistinct [] = Unit {0}
AreDistinct (address ∷ others) = (is_among others address ≡ false) × AreDistinct others

-- at most 256 rows, of each address one
pub record IsTable (rows : List Row) : Type 0 where
  pub distinct : AreDistinct (addresses rows)
  pub few : length rows ≤ 256

-- the row of an address
abbrev pub row_at : List Row → List ℕ → Option Row
row_at rows address = find (λ row. pointwise nat_eq row.address address) rows

-- a row is known while its holding time lasts
abbrev pub is_row_known : ℕ → Row → Bool
is_row_known now row = nat_lt now (row.heard.tick + row.heard.ticks)

abbrev pub hop_known : ℕ → Option Row → Option Hop
hop_known now None = None
hop_known now (Some row) = if is_row_known now row then Some row.heard.hop else None

-- the hop to an address, where it has a row that is known
abbrev pub find_row : List Row → ℕ → List ℕ → Option Hop
find_row rows now address = hop_known now (row_at rows address)

-- what a row holds of a hello
abbrev pub heard_of : Told → Heard
heard_of told = record { tick = told.tick; ticks = told.ticks; hop = told.hop }

abbrev pub row_of : Told → List ℕ → Row
row_of told address = record { address = address; heard = heard_of told }

-- the row as the hello tells, where it names the address
abbrev pub renewed : Told → Row → Row
renewed told row = if is_among told.names row.address then record row { heard = heard_of told } else row

-- the names that are not there, each once
abbrev pub new_names : List (List ℕ) → List (List ℕ) → List (List ℕ)
new_names there [] = []
new_names there (name ∷ names) = if is_among there name then new_names there names else name ∷ new_names (there ++ name ∷ []) names

-- the rows with one for each address that the hello names
abbrev pub rows_with : List Row → Told → List Row
rows_with rows told = rows ++ map (row_of told) (new_names (addresses rows) told.names)

-- the table once it heard a hello
abbrev pub heard_table : Rows → Told → Rows
heard_table table told = record { clock = told.tick; rows = map (renewed told) (rows_with table.rows told) }

-- the table after a tick
abbrev pub swept_table : Rows → ℕ → Rows
swept_table table now = record { clock = now; rows = filter (is_row_known now) table.rows }

-- the title of a hop is that address
abbrev pub is_title : Option (List ℕ) → List ℕ → Bool
is_title None address = false
is_title (Some title) address = pointwise nat_eq title address

-- the row of a known intermediate system, whose address is its title
abbrev pub is_router : ℕ → Row → Bool
is_router now row = is_row_known now row && is_title row.heard.hop.title row.address

-- the other is the row of a known intermediate system of lesser title
abbrev pub precedes : ℕ → Row → Row → Bool
precedes now row other = is_router now other && is_lt (slice_cmp nat_cmp other.address row.address)

abbrev pub is_least : List Row → ℕ → Row → Bool
is_least rows now row = is_router now row && not (list_any (precedes now row) rows)

-- the hop to the known intermediate system of least title
abbrev pub router_in : List Row → ℕ → Option Hop
router_in rows now = option_map (λ row. row.heard.hop) (find (is_least rows now) rows)
