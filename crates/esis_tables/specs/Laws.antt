-- What holds of every table and of the hellos that it heard (ISO 9542, record configuration function, flush old configuration function).
use Rattle.std.specs.Prelude.{◌≡◌, ℕ, ◌<◌, ◌≤◌, List, [], ◌∷◌, ◌++◌}
use Rattle.esis_tables.specs.Told.{IsRouter, Told, known_hop}
use Rattle.esis_tables.specs.Rows.{IsTable, Rows, find_row, heard_table, router_in, swept_table}
use Rattle.esis_tables.specs.Room.{count_with}
use Rattle.esis_tables.specs.Stands.{Stands}
use Rattle.esis_tables.specs.Swept.{IsSwept, count_told}

-- a table that hears hellos, and is swept at each later tick, is swept
pub record StaysSwept : Type 0 where
  pub none : (now : ℕ) → IsSwept (record { clock = now; rows = [] }) [] now
  pub heard : (table : Rows) (hellos : List Told) (told : Told) → IsSwept table hellos told.tick
      → IsSwept (heard_table table told) (hellos ++ told ∷ []) told.tick
  pub ticked : (table : Rows) (hellos : List Told) (since now : ℕ) → since < now → IsSwept table hellos since → IsSwept (swept_table table now) hellos now

-- the rows with a hello more are as many as the hellos tell
abbrev pub CountIsTold : Type 0
CountIsTold = (table : Rows) (hellos : List Told) (now : ℕ) (told : Told) → IsTable table.rows → IsSwept table hellos now
    → count_with table.rows told ≡ count_told hellos now told

-- what is found in the rows is what the hellos make known
abbrev pub FindsWhatIsTold : Type 0
FindsWhatIsTold = (table : Rows) (hellos : List Told) (since now : ℕ) → since ≤ now → IsTable table.rows → Stands table hellos since
    → ((address : List ℕ) → find_row table.rows now address ≡ known_hop hellos now address) × IsRouter hellos now (router_in table.rows now)

-- a table that heard a hello, or was swept, is a table
pub record StaysTable : Type 0 where
  pub heard : (table : Rows) (told : Told) → IsTable table.rows → count_with table.rows told ≤ 256 → IsTable (heard_table table told).rows
  pub ticked : (table : Rows) (now : ℕ) → IsTable table.rows → IsTable (swept_table table now).rows
