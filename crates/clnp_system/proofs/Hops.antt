-- What holds of the hop of each row holds of what is found among the rows, of rows that were swept, and of rows that heard a hello of
-- whose hop it holds.
use Rattle.std.proofs.Common.{ℕ, Bool, true, false, List, [], ◌∷◌, ◌++◌, map, Option, Some, None}
use Rattle.std.specs.Prelude.{cond, find, nat_eq, option_map, if◌then◌else◌, IfSome}
use Rattle.std.specs.List.{AllByRecursion, filter}
use Rattle.std.specs.Cmp.Lexicographic.{pointwise}
use Rattle.nsap.specs.declared.port.Hop.{Hop}
use Rattle.clnp_route.specs.declared.table.RouteRow.{RouteRow}
use Rattle.clnp_route.specs.Routes.{is_longest, next_hop}
use Rattle.esis_tables.specs.declared.holding_time.Row.{Row}
use Rattle.esis_tables.specs.Told.{Told, is_among}
use Rattle.esis_tables.specs.Rows.{Rows, find_row, heard_of, heard_table, hop_known, is_least, is_row_known, new_names, addresses, renewed, router_in, row_at, row_of, rows_with}

-- what holds of all holds of the one that is found
pub found : {X : Type 0} (P : X → Type 0) (test : X → Bool) (xs : List X) → AllByRecursion P xs → IfSome (find test xs) P
found P test [] all = tt
found P test (x ∷ xs) all = by (test x) (found P test xs all.1)
  where
    by : (b : Bool) → IfSome (find test xs) P → IfSome (cond b (Some x) (find test xs)) P
    by true rest = all.0
    by false rest = rest

-- a hop is one of these
module _ (P : Hop → Type 0) where
  abbrev pub Are : List Row → Type 0
  Are rows = AllByRecursion (λ row. P row.heard.hop) rows

  known : (now : ℕ) (row : Option Row) → IfSome row (λ row. P row.heard.hop) → IfSome (hop_known now row) P
  known now None h = tt
  known now (Some row) h = by (is_row_known now row)
    where
      by : (b : Bool) → IfSome (if b then Some row.heard.hop else None) P
      by true = h
      by false = tt

  pub found_is : (rows : List Row) (now : ℕ) (address : List ℕ) → Are rows → IfSome (find_row rows now address) P
  found_is rows now address all =
      known now (row_at rows address) (found (λ (row : Row). P row.heard.hop) (λ row. pointwise nat_eq row.address address) rows all)

  hop_in : (row : Option Row) → IfSome row (λ row. P row.heard.hop) → IfSome (option_map (λ row. row.heard.hop) row) P
  hop_in None h = tt
  hop_in (Some row) h = h

  pub router_is : (rows : List Row) (now : ℕ) → Are rows → IfSome (router_in rows now) P
  router_is rows now all = hop_in (find (is_least rows now) rows) (found (λ (row : Row). P row.heard.hop) (is_least rows now) rows all)

  routed : (row : Option RouteRow) → IfSome row (λ row. P row.hop) → IfSome (option_map (λ row. row.hop) row) P
  routed None h = tt
  routed (Some row) h = h

  pub next_is : (rows : List RouteRow) (address : List ℕ) → AllByRecursion (λ row. P row.hop) rows → IfSome (next_hop rows address) P
  next_is rows address all =
      routed (find (is_longest rows address) rows) (found (λ (row : RouteRow). P row.hop) (is_longest rows address) rows all)

  pub swept_are : (test : Row → Bool) (rows : List Row) → Are rows → Are (filter test rows)
  swept_are test [] all = tt
  swept_are test (row ∷ rows) all = by (test row) (swept_are test rows all.1)
    where
      by : (b : Bool) → Are (filter test rows) → Are (cond b (row ∷ filter test rows) (filter test rows))
      by true rest = (all.0, rest)
      by false rest = rest

  renewed_is : (told : Told) (row : Row) → P told.hop → P row.heard.hop → P (renewed told row).heard.hop
  renewed_is told row new old = by (is_among told.names row.address)
    where
      by : (b : Bool) → P (if b then record row { heard = heard_of told } else row).heard.hop
      by true = new
      by false = old

  renewed_are : (told : Told) (rows : List Row) → P told.hop → Are rows → Are (map (renewed told) rows)
  renewed_are told [] new all = tt
  renewed_are told (row ∷ rows) new all = (renewed_is told row new all.0, renewed_are told rows new all.1)

  rows_are : (told : Told) (names : List (List ℕ)) → P told.hop → Are (map (row_of told) names)
  rows_are told [] new = tt
  rows_are told (name ∷ names) new = (new, rows_are told names new)

  joined_are : (first second : List Row) → Are first → Are second → Are (first ++ second)
  joined_are [] second one two = two
  joined_are (row ∷ rows) second one two = (one.0, joined_are rows second one.1 two)

  pub heard_are : (table : Rows) (told : Told) → P told.hop → Are table.rows → Are (heard_table table told).rows
  heard_are table told new all = renewed_are told (rows_with table.rows told) new
      (joined_are table.rows (map (row_of told) (new_names (addresses table.rows) told.names)) all (rows_are told (new_names (addresses table.rows) told.names) new))
