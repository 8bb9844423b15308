-- The longest prefix so far, row by row.
use Rattle.std.specs.Prelude.{◌≡◌, ℕ, Bool, true, false, ◌&&◌, nat_lt, List, length, Option, Some, None}
use Rattle.std.specs.List.{All}
use Rattle.nsap.specs.Address.{covers}
use Rattle.clnp_route.specs.declared.table.RouteRow.{RouteRow}
use Rattle.clnp_route.specs.Routes.{IsLongest}

-- the row of the longest prefix that covers the address, or none where no prefix does
abbrev pub IsBest : List RouteRow → List ℕ → Option RouteRow → Type 0
IsBest rows address None = All (λ row. covers row.prefix address ≡ false) rows
IsBest rows address (Some row) = IsLongest rows address row

-- the row has a longer prefix than the best one so far
abbrev pub is_longer : RouteRow → Option RouteRow → Bool
is_longer row None = true
is_longer row (Some best) = nat_lt (length best.prefix) (length row.prefix)

-- and covers the address
abbrev pub is_better : RouteRow → Option RouteRow → List ℕ → Bool
is_better row best address = is_longer row best && covers row.prefix address
