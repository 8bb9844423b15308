-- The least title so far, row by row.
use Rattle.std.specs.Prelude.{◌≡◌, ℕ, Bool, true, false, ◌&&◌, List, Option, Some, None}
use Rattle.std.specs.List.{All, Contains}
use Rattle.std.specs.Ordering.{is_lt, nat_cmp}
use Rattle.std.specs.Cmp.Lexicographic.{slice_cmp}
use Rattle.nsap.specs.declared.port.Hop.{Hop}
use Rattle.esis_tables.specs.declared.holding_time.Row.{Row}
use Rattle.esis_tables.specs.Told.{is_upto}
use Rattle.esis_tables.specs.Rows.{is_router}

-- a known intermediate system's row, whose title comes before all others
pub record IsLeastOf (rows : List Row) (now : ℕ) (row : Row) : Type 0 where
  pub stands : Contains rows row
  pub router : is_router now row ≡ true
  pub least : All (λ other. is_router now other ≡ true → is_upto row.address other.address ≡ true) rows

abbrev pub IsLeastRouter : List Row → ℕ → Option Row → Type 0
IsLeastRouter rows now None = All (λ row. is_router now row ≡ false) rows
IsLeastRouter rows now (Some row) = IsLeastOf rows now row

-- its hop
abbrev pub IsRouterHop : List Row → ℕ → Option Hop → Type 0
IsRouterHop rows now None = All (λ row. is_router now row ≡ false) rows
IsRouterHop rows now (Some hop) = (row : Row) × IsLeastOf rows now row × (hop ≡ row.heard.hop)

-- the row's address comes before that of the least one so far
abbrev pub is_before : Row → Option Row → Bool
is_before row None = true
is_before row (Some least) = is_lt (slice_cmp nat_cmp row.address least.address)

-- and the row is that of a known intermediate system
abbrev pub is_lesser : Row → Option Row → ℕ → Bool
is_lesser row least now = is_before row least && is_router now row
