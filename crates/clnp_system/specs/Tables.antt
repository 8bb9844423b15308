-- What a system knows of others (ISO 9542, record configuration, record redirect), in any form.
use Rattle.std.specs.Prelude.{ℕ, nat_lt, if◌then◌else◌, List, Option, None, Some}
use Rattle.nsap.specs.declared.port.Hop.{Hop}
use Rattle.esis_tables.specs.Told.{Told}
use Rattle.esis_tables.specs.Rows.{Rows, find_row, heard_table, router_in, swept_table}
use Rattle.esis_tables.specs.Room.{count_with}

-- the hop to an address, the hop to the known router of least title, what is known with one hello more (none where it is full), and after a tick
pub record Tables (N : Type 0) : Type 0 where
  pub find : N → ℕ → List ℕ → Option Hop
  pub router : N → ℕ → Option Hop
  pub hear : N → Told → Option N
  pub sweep : N → ℕ → N

-- a table with one hello more, none where there would be more than 256 rows
abbrev pub heard_rows : Rows → Told → Option Rows
heard_rows table told = if nat_lt 256 (count_with table.rows told) then None else Some (heard_table table told)

-- what is known as rows by address
abbrev pub rows_tables : Tables Rows
rows_tables = record {
  find = λ table now address. find_row table.rows now address;
  router = λ table now. router_in table.rows now;
  hear = heard_rows;
  sweep = swept_table;
}
