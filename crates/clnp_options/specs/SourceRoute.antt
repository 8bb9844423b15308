-- The value of the source routing option (X.233, source routing): kind, offset, and the entries of the route.
use Rattle.std.specs.Prelude.{◌≡◌, ℕ, ◌+◌, ◌-◌, ◌<◌, ◌≤◌, List, [], ◌∷◌, ◌++◌, length, take, drop, Bool, false, ◌&&◌, nat_lt, nat_le, All}
use Rattle.pdu_parts.specs.Field.{IsAddress}
use Rattle.clnp_options.specs.Titles.{entries, are_entries, are_entries_to}

-- a route: its kind (0 partial, 1 complete), the titles that were passed, and those ahead, none where the route has expired
pub record SourceRoute : Type 0 where
  pub kind : ℕ
  pub passed : List (List ℕ)
  pub ahead : List (List ℕ)

-- The value is that route. The offset counts from 1 over the value: 3 for the first entry, one past the value where none is ahead.
pub record IsSourceRoute (value : List ℕ) (route : SourceRoute) : Type 0 where
  pub kind : route.kind ≤ 1
  pub some : 0 < length (route.passed ++ route.ahead)
  pub titles : All IsAddress (route.passed ++ route.ahead)
  pub parts : value ≡ route.kind ∷ (3 + length (entries route.passed)) ∷ entries (route.passed ++ route.ahead)
  pub short : length value < 255

-- the route with one more title passed
abbrev pub moved : SourceRoute → SourceRoute
moved route = record route { passed = route.passed ++ take 1 route.ahead; ahead = drop 1 route.ahead }

-- the value is a route that has not expired
abbrev pub IsOnTheWay : List ℕ → Type 0
IsOnTheWay value = (route : SourceRoute) × IsSourceRoute value route × (0 < length route.ahead)

-- the value is a route
abbrev pub HasSourceRoute : List ℕ → Type 0
HasSourceRoute value = (route : SourceRoute) × IsSourceRoute value route

-- whether the value is a route: entries up to the offset, and entries from it on
abbrev pub is_source_route : List ℕ → Bool
is_source_route [] = false
is_source_route (kind ∷ []) = false
is_source_route (kind ∷ offset ∷ octets) =
    nat_le kind 1 && nat_lt (length octets) 253 && nat_lt 0 (length octets)
    && are_entries_to offset octets && are_entries (drop (offset - 3) octets)
