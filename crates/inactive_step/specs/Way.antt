-- The way of a unit: between two end systems on one LAN (X.233, Inactive Network Layer Protocol subset).
use Rattle.std.specs.Prelude.{ℕ, ◌==◌, Bool, ◌&&◌, not, nat_eq, if◌then◌else◌, List, Option, Some, None}
use Rattle.std.specs.Cmp.Lexicographic.{pointwise}
use Rattle.inactive_step.specs.declared.row.InactiveRow.{InactiveRow}
use Rattle.inactive_step.specs.declared.row.Way.{Way}
use Rattle.inactive_step.specs.Rows.{row_at}

-- two end systems on one LAN
abbrev pub are_two_on_one_lan : InactiveRow → InactiveRow → Bool
are_two_on_one_lan source goal = source.port.lan == goal.port.lan && not (pointwise nat_eq source.address goal.address)

abbrev pub way_between : Option InactiveRow → Option InactiveRow → Option Way
way_between None goal = None
way_between (Some source) None = None
way_between (Some source) (Some goal) = if are_two_on_one_lan source goal then Some (record { source = source; goal = goal }) else None

-- the way between two addresses, where they are those of two end systems on one LAN
abbrev pub way_from : List InactiveRow → List ℕ → List ℕ → Option Way
way_from rows from to = way_between (row_at rows from) (row_at rows to)
