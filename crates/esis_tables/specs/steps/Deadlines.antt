-- The deadlines of the rows, listed in their order: a tick looks at no row, but takes out those that are due.
use Rattle.std.specs.Prelude.{◌≡◌, ℕ, ◌+◌, ◌<◌, ◌≤◌, nat_lt, if◌then◌else◌, List, [], length, map, Option, Some, None}
use Rattle.due_links.specs.Entries.{Entries}
use Rattle.due_links.specs.Ticks.{tick_at}
use Rattle.esis_tables.specs.declared.holding_time.Row.{Row}
use Rattle.esis_tables.specs.steps.Places.{is_noted}

-- the tick from which on a row is known no longer; none where that passes the last tick
abbrev pub deadline_of : Row → Option ℕ
deadline_of row = if nat_lt (row.heard.tick + row.heard.ticks) 4294967296 then Some (row.heard.tick + row.heard.ticks) else None

-- that of the row at a place; none where no row stands there
abbrev pub deadline_at : List Row → ℕ → Option ℕ
deadline_at rows place = tick_at (map deadline_of rows) place

-- exactly the deadlines of the rows, in their order
abbrev pub AreDeadlines : List Row → List (Option ℕ) → Type 0
AreDeadlines rows ticks = ticks ≡ map deadline_of rows

-- a table that has made no list yet keeps no row; else it holds exactly the deadlines of its rows
abbrev pub IsDue : Option Entries → List Row → Type 0
IsDue None rows = rows ≡ []
IsDue (Some due) rows = (due.most ≡ 256) × AreDeadlines rows due.ticks

-- the list is what was there, or made with nothing in it
abbrev pub IsMade : Option Entries → Entries → Type 0
IsMade None new = new ≡ record { most = 256; ticks = [] }
IsMade (Some due) new = new ≡ due

-- the rows from those that were listed up to that place are listed with their deadlines, and the others are as they were
pub record IsListed (rows : List Row) (count : ℕ) (old new : List (Option ℕ)) : Type 0 where
  pub long : length new ≡ count
  pub below : (place : ℕ) → place < length old → tick_at new place ≡ tick_at old place
  pub rest : (place : ℕ) → length old ≤ place → place < count → tick_at new place ≡ deadline_at rows place

-- the deadlines of the rows at these places are kept, and the others are as they were
pub record IsKept (rows : List Row) (places : List ℕ) (old new : List (Option ℕ)) : Type 0 where
  pub long : length new ≡ length old
  pub noted : (place : ℕ) → place < length old → tick_at new place ≡ (if is_noted places place then deadline_at rows place else tick_at old place)
