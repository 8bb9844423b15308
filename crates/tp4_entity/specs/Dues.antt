-- When the ends of an entity are due (X.224, class 4 procedures).
use Rattle.std.specs.Prelude.{ℕ, List, [], ◌∷◌, map, Option, Some, None}
use Rattle.tp4_conn.specs.Dues.{IsBefore}
use Rattle.tp4_conn.specs.End.{End}
use Rattle.tp4_conn.specs.Living.{IsInTime}
use Rattle.tp4_conn.specs.Table.{due}

-- the due tick of the end that stands there
abbrev pub due_at : Option End → Option ℕ
due_at None = None
due_at (Some end) = due end.base end.stage

-- the due tick of each place
abbrev pub dues_of : List (Option End) → List (Option ℕ)
dues_of ends = map due_at ends

-- no end has a due tick below now
abbrev pub AreFrom : ℕ → List (Option End) → Type 0
AreFrom now [] = Unit {0}
AreFrom now (end ∷ ends) = IsInTime (due_at end) now × AreFrom now ends

-- each end is due later, or never
abbrev pub AreLater : ℕ → List (Option End) → Type 0
AreLater now [] = Unit {0}
AreLater now (end ∷ ends) = IsBefore (due_at end) now × AreLater now ends
