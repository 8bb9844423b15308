-- A part of a table is a table.
use Rattle.std.proofs.Common.{◌≡◌, ℕ, ◌≤◌, Bool, true, false, List, [], ◌∷◌, length, refl, sym, subst, arith}
use Rattle.std.specs.Prelude.{cond, nat_eq}
use Rattle.std.specs.List.{filter}
use Rattle.std.specs.Cmp.Lexicographic.{pointwise}
use Rattle.std.proofs.lemmas.Bool.{or_from, or_parts}
use Rattle.esis_tables.specs.declared.holding_time.Row.{Row}
use Rattle.esis_tables.specs.Told.{is_among}
use Rattle.esis_tables.specs.Rows.{AreDistinct, IsTable, addresses}

module _ (p : Row → Bool) where
  among_by : (row : Row) (rows : List Row) (address : List ℕ) (passes : Bool) → is_among (addresses (row ∷ rows)) address ≡ false
      → is_among (addresses (filter p rows)) address ≡ false
      → is_among (addresses (cond passes (row ∷ filter p rows) (filter p rows))) address ≡ false
  among_by row rows address true none rest = or_from (pointwise nat_eq row.address address) (is_among (addresses (filter p rows)) address)
      (or_parts (pointwise nat_eq row.address address) (is_among (addresses rows) address) none).0 rest
  among_by row rows address false none rest = rest

  among_filter : (rows : List Row) (address : List ℕ) → is_among (addresses rows) address ≡ false → is_among (addresses (filter p rows)) address ≡ false
  among_filter [] address none = refl
  among_filter (row ∷ rows) address none = among_by row rows address (p row) none
      (among_filter rows address (or_parts (pointwise nat_eq row.address address) (is_among (addresses rows) address) none).1)

  distinct_by : (row : Row) (rows : List Row) (passes : Bool) → is_among (addresses (filter p rows)) row.address ≡ false
      → AreDistinct (addresses (filter p rows))
      → AreDistinct (addresses (cond passes (row ∷ filter p rows) (filter p rows)))
  distinct_by row rows true fresh rest = (fresh, rest)
  distinct_by row rows false fresh rest = rest

  distinct_filter : (rows : List Row) → AreDistinct (addresses rows) → AreDistinct (addresses (filter p rows))
  distinct_filter [] distinct = tt
  distinct_filter (row ∷ rows) distinct = distinct_by row rows (p row) (among_filter rows row.address distinct.0) (distinct_filter rows distinct.1)

  short_by : (row : Row) (rows : List Row) (passes : Bool) → length (filter p rows) ≤ length rows
      → length (cond passes (row ∷ filter p rows) (filter p rows)) ≤ length (row ∷ rows)
  short_by row rows true rest = omega arith
  short_by row rows false rest = omega arith

  pub short_filter : (rows : List Row) → length (filter p rows) ≤ length rows
  short_filter [] = omega arith
  short_filter (row ∷ rows) = short_by row rows (p row) (short_filter rows)

  pub table_filter : (rows kept : List Row) → kept ≡ filter p rows → IsTable rows → IsTable kept
  table_filter rows kept is table = subst IsTable (sym is) (record {
    distinct = distinct_filter rows table.distinct;
    few = omega (arith, table.few, short_filter rows);
  })
