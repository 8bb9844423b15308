-- The rows by the hellos alone, where a table is swept at each tick (ISO 9542, flush old configuration function).
use Rattle.std.specs.Prelude.{◌≡◌, ℕ, ◌+◌, ◌≤◌, Bool, false, ◌==◌, ◌||◌, List, [], ◌∷◌, ◌++◌, length, Option, Some, None}
use Rattle.std.specs.List.{AllByRecursion, filter}
use Rattle.esis_tables.specs.Told.{Told, is_known, latest}
use Rattle.esis_tables.specs.Rows.{Rows, has_row, new_names}
use Rattle.esis_tables.specs.Stands.{Stands}

-- the latest hello that names the address is known, or came at this tick
abbrev pub is_standing : ℕ → Option Told → Bool
is_standing now None = false
is_standing now (Some told) = is_known told now || (told.tick == now)

abbrev pub has_standing : List Told → ℕ → List ℕ → Bool
has_standing hellos now address = is_standing now (latest hellos address)

-- no hello came later than that tick, the rows stand for the hellos, and they are exactly those of the addresses that stand
pub record IsSwept (table : Rows) (hellos : List Told) (now : ℕ) : Type 0 where
  pub so_far : AllByRecursion (λ told. told.tick ≤ now) hellos
  pub stands : Stands table hellos now
  pub exactly : (address : List ℕ) → has_row table.rows address ≡ has_standing hellos now address

-- the names of all the hellos
abbrev pub names_in : List Told → List (List ℕ)
names_in [] = []
names_in (told ∷ hellos) = told.names ++ names_in hellos

-- the addresses that stand, each once
abbrev pub standing : List Told → ℕ → List (List ℕ)
standing hellos now = filter (has_standing hellos now) (new_names [] (names_in hellos))

-- how many they are with those of a hello more
abbrev pub count_told : List Told → ℕ → Told → ℕ
count_told hellos now told = length (standing hellos now) + length (new_names (standing hellos now) told.names)
