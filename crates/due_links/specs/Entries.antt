-- The entries of a list, each due at one tick or at none.
use Rattle.std.specs.Prelude.{◌≡◌, ◌<◌, ◌≤◌, ℕ, List, length, Option, Some, None}
use Rattle.std.specs.List.{remove}
use Rattle.due_links.specs.Ticks.{IsLeast, tick_at}

-- the most entries, and the tick of each
pub record Entries : Type 0 where
  pub most : ℕ
  pub ticks : List (Option ℕ)

-- the entry of the least tick goes, and of these the first, where that tick has come; else every tick is still to come
abbrev pub TakesDue : Entries → ℕ → Option ℕ → Entries → Type 0
TakesDue old now None new = (new ≡ old) × ((place at : ℕ) → tick_at old.ticks place ≡ Some at → now < at)
TakesDue old now (Some place) new =
    (place < length old.ticks) × (new ≡ record old { ticks = remove old.ticks place }) × (at : ℕ) × IsLeast old.ticks place at × (at ≤ now)
