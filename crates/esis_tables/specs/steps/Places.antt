-- A hello is heard in two steps: rows are put and their places noted, and then the rows at these places hold it.
use Rattle.std.specs.Prelude.{◌≡◌, ◌==◌, ℕ, ◌<◌, Bool, if◌then◌else◌, List, [], ◌∷◌, ◌++◌, length, slice_index_or}
use Rattle.std.specs.List.{All, list_any}
use Rattle.esis_tables.specs.declared.holding_time.Heard.{Heard}
use Rattle.esis_tables.specs.declared.holding_time.Row.{Row}
use Rattle.esis_tables.specs.Told.{Told, is_among}
use Rattle.esis_tables.specs.Rows.{addresses, has_row}

-- a hello that named these addresses
abbrev pub told_by : List (List ℕ) → Heard → Told
told_by names heard = record { tick = heard.tick; ticks = heard.ticks; names = names; hop = heard.hop }

-- the rows with one for that address
abbrev pub row_added : List Row → List ℕ → Heard → List Row
row_added rows name heard = if has_row rows name then rows else rows ++ record { address = name; heard = heard } ∷ []

-- the row of that address stands at that place
pub record IsPlace (rows : List Row) (name : List ℕ) (place : ℕ) : Type 0 where
  pub within : place < length rows
  pub is : slice_index_or (addresses rows) place [] ≡ name

-- the place is one of these
abbrev pub is_noted : List ℕ → ℕ → Bool
is_noted places place = list_any (λ noted. noted == place) places

-- the places of the rows of these names are noted, and no others
pub record ArePlaces (names : List (List ℕ)) (rows : List Row) (places : List ℕ) : Type 0 where
  pub within : All (λ place. place < length rows) places
  pub noted : (place : ℕ) → place < length rows → is_noted places place ≡ is_among names (slice_index_or (addresses rows) place [])

-- a row, as it was heard where its place is noted
abbrev pub renewed_if : Bool → Heard → Row → Row
renewed_if noted heard row = if noted then record row { heard = heard } else row

-- each row whose place is noted holds what was heard, and the others stay
pub record IsRenewed (heard : Heard) (places : List ℕ) (old new : List Row) : Type 0 where
  pub long : length new ≡ length old
  pub rows : (place : ℕ) (other : Row) → place < length old
      → slice_index_or new place other ≡ renewed_if (is_noted places place) heard (slice_index_or old place other)
