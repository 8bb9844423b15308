-- How many rows a table would have with a hello more.
use Rattle.std.specs.Prelude.{ℕ, ◌+◌}
use Rattle.std.specs.Prelude.{List, length}
use Rattle.esis_tables.specs.declared.holding_time.Row.{Row}
use Rattle.esis_tables.specs.Told.{Told}
use Rattle.esis_tables.specs.Rows.{addresses, new_names}

-- how many rows that are
abbrev pub count_with : List Row → Told → ℕ
count_with rows told = length rows + length (new_names (addresses rows) told.names)
