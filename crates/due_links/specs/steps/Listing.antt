-- The ids of the entries of a list: they rise, and an entry keeps its own while others go.
use Rattle.std.specs.Prelude.{◌≡◌, ◌<◌, ◌≤◌, ℕ, List, length, map, Option, Some, slice_index_or}
use Rattle.due_links.specs.Ticks.{tick_at}

-- the ticks of the entries
abbrev pub ticks_by : List (Option ℕ) → List ℕ → List (Option ℕ)
ticks_by due ids = map (tick_at due) ids

-- an entry has that id
pub record IsId (ids : List ℕ) (id : ℕ) : Type 0 where
  pub place : ℕ
  pub within : place < length ids
  pub is : slice_index_or ids place 0 ≡ id

-- the ids rise
abbrev pub AreRising : List ℕ → Type 0
AreRising ids = (one other : ℕ) → one < other → other < length ids → slice_index_or ids one 0 < slice_index_or ids other 0

-- the ids rise, are below the next one, and are all that is due
pub record AreListed (due : List (Option ℕ)) (ids : List ℕ) (next : ℕ) : Type 0 where
  pub rising : AreRising ids
  pub below : (place : ℕ) → place < length ids → slice_index_or ids place 0 < next
  pub known : (id at : ℕ) → tick_at due id ≡ Some at → IsId ids id
  pub low : next ≤ length due

-- the ids of the entries before that place are their places, and each entry is due as it was
pub record IsRenumbered (old : List (Option ℕ)) (before : List ℕ) (place : ℕ) (due : List (Option ℕ)) (ids : List ℕ) : Type 0 where
  pub long : length due ≡ length old
  pub count : length ids ≡ length before
  pub ticks : ticks_by due ids ≡ ticks_by old before
  pub listed : AreListed due ids (length due)
  pub own : (k : ℕ) → k < place → k < length ids → slice_index_or ids k 0 ≡ k
