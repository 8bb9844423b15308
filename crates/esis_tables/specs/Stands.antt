-- What the rows of a table mean: the hellos heard so far (ISO 9542, record and flush of configuration and of redirects).
use Rattle.std.specs.Prelude.{◌≡◌, ℕ, ◌≤◌, false, List, [], ◌∷◌, ◌++◌, Option, Some, None}
use Rattle.std.specs.List.{All}
use Rattle.esis_tables.specs.declared.holding_time.Row.{Row}
use Rattle.esis_tables.specs.Told.{Told, known_hop, latest}
use Rattle.esis_tables.specs.Rows.{Rows, has_row, heard_of}

-- the row holds what that hello tells
abbrev pub IsRowOf : Row → Option Told → Type 0
IsRowOf row None = ⊥
IsRowOf row (Some told) = row.heard ≡ heard_of told

-- each row holds the latest hello that names its address, and no address without a row is known at that tick or later
pub record Stands (table : Rows) (hellos : List Told) (now : ℕ) : Type 0 where
  pub rows : All (λ row. IsRowOf row (latest hellos row.address)) table.rows
  pub others : (address : List ℕ) → has_row table.rows address ≡ false → (later : ℕ) → now ≤ later → known_hop hellos later address ≡ None

-- for each list of hellos for which the old table stands, the new one stands for that list and this hello behind it
abbrev pub StandsWith : Rows → Told → Rows → Type 0
StandsWith old told new = (hellos : List Told) → Stands old hellos old.clock → Stands new (hellos ++ told ∷ []) new.clock

-- the new table stands for the same lists
abbrev pub StandsStill : Rows → Rows → Type 0
StandsStill old new = (hellos : List Told) → Stands old hellos old.clock → Stands new hellos new.clock
