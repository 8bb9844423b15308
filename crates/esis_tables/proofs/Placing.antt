-- Rows are put for the names that have none, and the places of those that are named are noted. A name has one row, since addresses
-- differ; so, once every name was seen, the rows whose places are noted are those that the hello names.
use Rattle.std.proofs.Common.{◌≡◌, ◌≢◌, ℕ, suc, ◌+◌, ◌-◌, ◌<◌, ◌≤◌, Bool, true, false, List, [], ◌∷◌, ◌++◌, length, get_or, take, drop, set, Some, None, refl, sym, ap, ◌∙◌, subst, arith, append_assoc, length-append, length-set, inl, inr}
use Rattle.std.specs.Prelude.{◌||◌, ◌==◌, ◌⊎◌, nat_eq, if◌then◌else◌, map, position}
use Rattle.std.specs.List.{list_any}
use Rattle.std.specs.Cmp.Lexicographic.{pointwise, same_text, nat_list_eq_equiv}
use Rattle.std.proofs.Math.Seq.{drop-cons, get_or-append_seam, take-append_seam}
use Rattle.std.proofs.lemmas.List.{append-nil, map-append, length-map, get_or-map, get_or_append_left, take_more, take-append-drop, get_or-set_same, get_or-set_other, get_or_default, same_lists}
use Rattle.std.proofs.Math.Bool.{or-false}
use Rattle.std.proofs.lemmas.Bool.{cases_eq, or_left, or_right}
use Rattle.std.proofs.lemmas.List.Folds.{list_any-append}
use Rattle.std.proofs.lemmas.List.Elements.{All-push, All-weaker}
use Rattle.std.proofs.lemmas.List.Quantifiers.{position-Some}
use Rattle.osi_base.proofs.Firsts.{none_there}
use Rattle.esis_tables.specs.declared.holding_time.Heard.{Heard}
use Rattle.esis_tables.specs.declared.holding_time.Row.{Row}
use Rattle.esis_tables.specs.Told.{Told, is_among}
use Rattle.esis_tables.specs.Rows.{AreDistinct, IsTable, Rows, addresses, has_row, heard_of, heard_table, new_names, renewed, row_of, rows_with}
use Rattle.esis_tables.specs.Room.{count_with}
use Rattle.esis_tables.specs.steps.Places.{ArePlaces, IsPlace, IsRenewed, is_noted, renewed_if, row_added, told_by}
use Rattle.esis_tables.proofs.Lists.{list_any-map}
use Rattle.esis_tables.proofs.Names.{among_at, distinct_push, new_names-append, new_names-push, one_place}

abbrev Name : Type 0
Name = List ℕ

abbrev address_of : Row → Name
address_of row = row.address

has_row-rows : (rows : List Row) (name : Name) → has_row rows name ≡ list_any (λ row. pointwise nat_eq row.address name) rows
has_row-rows rows name = list_any-map (λ x. pointwise nat_eq x name) address_of rows

-- where no place is found, there is no row
pub no_place : (rows : List Row) (name : Name) → position (λ row. pointwise nat_eq row.address name) rows ≡ None → has_row rows name ≡ false
no_place rows name is = has_row-rows rows name ∙ none_there (λ row. pointwise nat_eq row.address name) rows is

-- the place that is found is that of the address
pub some_place : (rows : List Row) (name : Name) (place : ℕ) (d : Row) → position (λ row. pointwise nat_eq row.address name) rows ≡ Some place
    → IsPlace rows name place
some_place rows name place d is =
    let found = position-Some (λ row. pointwise nat_eq row.address name) rows place d is in
    record { within = found.0; is = get_or-map address_of rows place d [] found.0 ∙ same_text (get_or rows place d).address name (sym found.1) }

long-addresses : (rows : List Row) → length (addresses rows) ≡ length rows
long-addresses rows = length-map rows address_of

pub there_already : (rows : List Row) (name : Name) (heard : Heard) (place : ℕ) → IsPlace rows name place → rows ≡ row_added rows name heard
there_already rows name heard place h =
    let low : place < length (addresses rows) = subst (λ (n : ℕ). place < n) (sym (long-addresses rows)) h.within in
    let there : has_row rows name ≡ true = ap (is_among (addresses rows)) (sym h.is) ∙ among_at (addresses rows) place [] low in
    ap (λ (b : Bool). if b then rows else rows ++ record { address = name; heard = heard } ∷ []) (sym there)

pub added : (rows new : List Row) (name : Name) (heard : Heard) → has_row rows name ≡ false → new ≡ rows ++ record { address = name; heard = heard } ∷ []
    → new ≡ row_added rows name heard
added rows new name heard fresh is = is ∙ ap (λ (b : Bool). if b then rows else rows ++ record { address = name; heard = heard } ∷ []) (sym fresh)

addresses-push : (rows : List Row) (row : Row) → addresses (rows ++ row ∷ []) ≡ addresses rows ++ row.address ∷ []
addresses-push rows row = map-append address_of rows (row ∷ [])

pub table_push : (rows new : List Row) (row : Row) → IsTable rows → has_row rows row.address ≡ false → length rows < 256 → new ≡ rows ++ row ∷ [] → IsTable new
table_push rows new row table fresh room is = subst IsTable (sym is) (record {
  distinct = subst AreDistinct (sym (addresses-push rows row)) (distinct_push (addresses rows) row.address table.distinct fresh);
  few = simp length-append (omega arith);
})

pub last_place : (rows new : List Row) (row : Row) (count : ℕ) → new ≡ rows ++ row ∷ [] → count ≡ length new → IsPlace new row.address (count - 1)
last_place rows new row count is counted =
    let long : length new ≡ length rows + 1 = ap length is ∙ length-append rows (row ∷ []) in
    let last : length rows ≡ count - 1 = omega arith in
    subst (λ (k : ℕ). IsPlace new row.address k) last (record {
      within = omega arith;
      is = ap (λ (xs : List Row). get_or (addresses xs) (length rows) []) is ∙ ap (λ (xs : List Name). get_or xs (length rows) []) (addresses-push rows row)
          ∙ ap (λ (n : ℕ). get_or (addresses rows ++ row.address ∷ []) n []) (sym (long-addresses rows))
          ∙ get_or-append_seam (addresses rows) row.address [] [];
    })

addresses-rows : (told : Told) (names : List Name) → addresses (map (row_of told) names) ≡ names
addresses-rows told [] = refl
addresses-rows told (name ∷ names) = ap (λ (xs : List Name). name ∷ xs) (addresses-rows told names)

pub addresses-with : (old : List Row) (told : Told) → addresses (rows_with old told) ≡ addresses old ++ new_names (addresses old) told.names
addresses-with old told = map-append address_of old (map (row_of told) (new_names (addresses old) told.names))
    ∙ ap (λ (xs : List Name). addresses old ++ xs) (addresses-rows told (new_names (addresses old) told.names))

pub long-with : (old : List Row) (told : Told) → length (rows_with old told) ≡ count_with old told
long-with old told = length-append old (map (row_of told) (new_names (addresses old) told.names))
    ∙ ap (λ (n : ℕ). length old + n) (length-map (new_names (addresses old) told.names) (row_of told))

-- the first names were seen: their rows were put, and their places are noted
pub record IsPlacing (old : List Row) (names : List Name) (heard : Heard) (rows : List Row) (places : List ℕ) : Type 0 where
  pub rows_is : rows ≡ rows_with old (told_by names heard)
  pub table : IsTable rows
  pub noted : ArePlaces names rows places

module _ (old : List Row) (names : List Name) (heard : Heard) where
  rows_step : (rows new : List Row) (name : Name) (there : Bool) → has_row rows name ≡ there → rows ≡ rows_with old (told_by names heard)
      → new ≡ (if there then rows else rows ++ record { address = name; heard = heard } ∷ []) → new ≡ rows_with old (told_by (names ++ name ∷ []) heard)
  rows_step rows new name there how rows_is is =
      let told = told_by names heard in
      let among : is_among (addresses old ++ new_names (addresses old) names) name ≡ there =
      ap (λ (xs : List Name). is_among xs name) (sym (addresses-with old told) ∙ ap addresses (sym rows_is)) ∙ how in
      let fresh : new_names (addresses old) (names ++ name ∷ []) ≡ new_names (addresses old) names ++ (if there then [] else name ∷ []) =
      new_names-push (addresses old) names name ∙ ap (λ (b : Bool). new_names (addresses old) names ++ (if b then [] else name ∷ [])) among in
      by there is ∙ ap (λ (xs : List Name). old ++ map (row_of told) xs) (sym fresh)
    where
      N : List Name
      N = new_names (addresses old) names

      by : (b : Bool) → new ≡ (if b then rows else rows ++ record { address = name; heard = heard } ∷ [])
          → new ≡ old ++ map (row_of (told_by names heard)) (new_names (addresses old) names ++ (if b then [] else name ∷ []))
      by true is = is ∙ rows_is ∙ ap (λ (xs : List Name). old ++ map (row_of (told_by names heard)) xs) (sym (append-nil (new_names (addresses old) names)))
      by false is = is ∙ ap (λ (xs : List Row). xs ++ record { address = name; heard = heard } ∷ []) rows_is
          ∙ append_assoc old (map (row_of (told_by names heard)) (new_names (addresses old) names)) (record { address = name; heard = heard } ∷ [])
          ∙ ap (λ (xs : List Row). old ++ xs) (sym (map-append (row_of (told_by names heard)) (new_names (addresses old) names) (name ∷ [])))

  old_places : (rows new : List Row) (name : Name) (places : List ℕ) (place : ℕ) (there : Bool) → ArePlaces names rows places
      → new ≡ (if there then rows else rows ++ record { address = name; heard = heard } ∷ []) → place < length new
      → (get_or (addresses new) place [] ≡ name → ⊥)
      → is_noted places place ≡ is_among names (get_or (addresses new) place [])
  old_places rows new name places place true h is low other =
      let same : addresses new ≡ addresses rows = ap addresses is in
      h.noted place (omega (arith, ap length is)) ∙ ap (λ (xs : List Name). is_among names (get_or xs place [])) (sym same)
  old_places rows new name places place false h is low other =
      let row : Row = record { address = name; heard = heard } in
      let split : addresses new ≡ addresses rows ++ name ∷ [] = ap addresses is ∙ addresses-push rows row in
      let long : length new ≡ length rows + 1 = ap length is ∙ length-append rows (row ∷ []) in
      let count : length (addresses rows) ≡ length rows = long-addresses rows in
      let last : get_or (addresses new) (length rows) [] ≡ name =
      ap (λ (xs : List Name). get_or xs (length rows) []) split ∙ ap (λ (n : ℕ). get_or (addresses rows ++ name ∷ []) n []) (sym count)
      ∙ get_or-append_seam (addresses rows) name [] [] in
      let apart : place ≢ length rows = λ at. other (ap (λ (n : ℕ). get_or (addresses new) n []) at ∙ last) in
      let within : place < length rows = omega arith in
      let inside : place < length (addresses rows) = omega arith in
      let here : get_or (addresses new) place [] ≡ get_or (addresses rows) place [] =
      ap (λ (xs : List Name). get_or xs place []) split ∙ get_or_append_left (addresses rows) (name ∷ []) [] place inside in
      h.noted place within ∙ ap (is_among names) (sym here)

  no_shorter : (rows new : List Row) (name : Name) (there : Bool) → new ≡ (if there then rows else rows ++ record { address = name; heard = heard } ∷ [])
      → length rows ≤ length new
  no_shorter rows new name true is = omega (arith, ap length is)
  no_shorter rows new name false is = omega (arith, ap length is, length-append rows (record { address = name; heard = heard } ∷ []))

  places_step : (rows new : List Row) (name : Name) (places : List ℕ) (place : ℕ) (there : Bool) → ArePlaces names rows places
      → new ≡ (if there then rows else rows ++ record { address = name; heard = heard } ∷ []) → IsTable new → IsPlace new name place
      → ArePlaces (names ++ name ∷ []) new (places ++ place ∷ [])
  places_step rows new name places place there h is table at = record {
    within = All-push (λ p. p < length new) places place
        (All-weaker (λ p. p < length rows) (λ p. p < length new) (λ p low. omega (arith, low, no_shorter rows new name there is)) places h.within) at.within;
    noted = λ k low. by k low (cases_eq k place);
  }
    where
      both : (k : ℕ) → is_among (names ++ name ∷ []) (get_or (addresses new) k [])
          ≡ (is_among names (get_or (addresses new) k []) || (pointwise nat_eq name (get_or (addresses new) k []) || false))
      both k = list_any-append (λ x. pointwise nat_eq x (get_or (addresses new) k [])) names (name ∷ [])

      more : (k : ℕ) → is_noted (places ++ place ∷ []) k ≡ (is_noted places k || ((place == k) || false))
      more k = list_any-append (λ noted. noted == k) places (place ∷ [])

      other : (k : ℕ) → k < length new → (k ≢ place) → get_or (addresses new) k [] ≡ name → ⊥
      other k low apart same =
          let count : length (addresses new) ≡ length new = long-addresses new in
          let within : k < length (addresses new) = omega arith in
          let high : place < length (addresses new) = omega (arith, at.within) in
          apart (one_place (addresses new) k place [] table.distinct within high (same ∙ sym at.is))

      unlike : (k : ℕ) → k < length new → (k ≢ place) → (b : Bool) → pointwise nat_eq name (get_or (addresses new) k []) ≡ b → b ≡ false
      unlike k low apart true same = absurd (other k low apart (sym (same_text name (get_or (addresses new) k []) (sym same))))
      unlike k low apart false same = refl

      by : (k : ℕ) → k < length new → (k ≡ place) ⊎ (k ≢ place) → is_noted (places ++ place ∷ []) k ≡ is_among (names ++ name ∷ []) (get_or (addresses new) k [])
      by k low (inl same) =
          let here : get_or (addresses new) k [] ≡ name = ap (λ (n : ℕ). get_or (addresses new) n []) same ∙ at.is in
          let passes : pointwise nat_eq name (get_or (addresses new) k []) ≡ true = ap (pointwise nat_eq name) here ∙ nat_list_eq_equiv.refl name in
          let found : (place == k) ≡ true = grind (arith, same) in
          more k ∙ or_right (is_noted places k) ((place == k) || false) (or_left (place == k) false found)
          ∙ sym (both k ∙ or_right (is_among names (get_or (addresses new) k [])) (pointwise nat_eq name (get_or (addresses new) k []) || false)
          (or_left (pointwise nat_eq name (get_or (addresses new) k [])) false passes))
      by k low (inr apart) =
          let missed : (place == k) ≡ false = grind (arith, apart) in
          more k ∙ ap (λ (b : Bool). is_noted places k || (b || false)) missed ∙ or-false (is_noted places k)
          ∙ old_places rows new name places k there h is low (other k low apart)
          ∙ sym (both k ∙ ap (λ (b : Bool). is_among names (get_or (addresses new) k []) || (b || false))
          (unlike k low apart (pointwise nat_eq name (get_or (addresses new) k [])) refl) ∙ or-false (is_among names (get_or (addresses new) k [])))

pub placing_more : (old : List Row) (names : List Name) (heard : Heard) (rows new : List Row) (places more_places : List ℕ) (i place : ℕ) (name : Name) → i < length names
    → name ≡ get_or names i name
    → IsPlacing old (take i names) heard rows places → new ≡ row_added rows name heard → IsTable new → IsPlace new name place → more_places ≡ places ++ place ∷ []
    → IsPlacing old (take (i + 1) names) heard new more_places
placing_more old names heard rows new places more_places i place name low is h added table at places_is =
    let more : take i names ++ name ∷ [] ≡ take (i + 1) names = ap (λ (x : Name). take i names ++ x ∷ []) is ∙ sym (take_more names i name low) in
    subst (λ (ps : List ℕ). IsPlacing old (take (i + 1) names) heard new ps) (sym places_is)
    (subst (λ (xs : List Name). IsPlacing old xs heard new (places ++ place ∷ [])) more (record {
      rows_is = rows_step old (take i names) heard rows new name (has_row rows name) refl h.rows_is added;
      table = table;
      noted = places_step old (take i names) heard rows new name places place (has_row rows name) h.noted added table at;
    }))

-- a name that has no row where there are 256: the names would pass them
pub placing_full : (old : List Row) (names : List Name) (heard : Heard) (rows : List Row) (places : List ℕ) (i : ℕ) (name : Name) → i < length names
    → name ≡ get_or names i name
    → IsPlacing old (take i names) heard rows places → 256 ≤ length rows → has_row rows name ≡ false → 256 < count_with old (told_by names heard)
placing_full old names heard rows places i name low is h full fresh =
    let there = addresses old in
    let among : is_among (there ++ new_names there (take i names)) name ≡ false =
    ap (λ (xs : List Name). is_among xs name) (sym (addresses-with old (told_by (take i names) heard)) ∙ ap addresses (sym h.rows_is)) ∙ fresh in
    let parts : take i names ++ name ∷ drop (i + 1) names ≡ names = ap (λ (x : Name). take i names ++ x ∷ drop (i + 1) names) is ∙ parted names i name low in
    let split : new_names there names ≡ new_names there (take i names) ++ new_names (there ++ new_names there (take i names)) (name ∷ drop (i + 1) names) =
    ap (new_names there) (sym parts) ∙ new_names-append there (take i names) (name ∷ drop (i + 1) names) in
    let counted : length (new_names there names) ≡ length (new_names there (take i names)) + length
    (new_names (there ++ new_names there (take i names)) (name ∷ drop (i + 1) names)) =
    ap length split ∙ length-append (new_names there (take i names)) (new_names (there ++ new_names there (take i names)) (name ∷ drop (i + 1) names)) in
    let some : 0 < length (new_names (there ++ new_names there (take i names)) (name ∷ drop (i + 1) names)) =
    some_new (there ++ new_names there (take i names)) name (drop (i + 1) names) (is_among (there ++ new_names there (take i names)) name) among in
    let long : length rows ≡ length old + length (new_names there (take i names)) = ap length h.rows_is ∙ long-with old (told_by (take i names) heard) in
    omega arith
  where
    some_new : (there : List Name) (name : Name) (rest : List Name) (known : Bool) → known ≡ false
        → 0 < length (if known then new_names there rest else name ∷ new_names (there ++ name ∷ []) rest)
    some_new there name rest true is = absurd cc
    some_new there name rest false is = omega arith

    parted : (xs : List Name) (i : ℕ) (d : Name) → i < length xs → take i xs ++ get_or xs i d ∷ drop (i + 1) xs ≡ xs
    parted xs i d low =
        let next : i + 1 ≡ suc i = omega arith in
        ap (λ (n : ℕ). take i xs ++ get_or xs i d ∷ drop n xs) next ∙ ap (λ (ys : List Name). take i xs ++ ys) (sym (drop-cons xs i d low))
        ∙ take-append-drop i xs

pub placing_kept : (old : List Row) (names : List Name) (heard : Heard) (rows : List Row) (places : List ℕ) → IsPlacing old names heard rows places
    → take (length old) rows ≡ old
placing_kept old names heard rows places h = ap (take (length old)) h.rows_is
    ∙ take-append_seam old (map (row_of (told_by names heard)) (new_names (addresses old) names))

-- once all names were seen, the rows whose places are noted are those that the hello names
pub renewed_all : (names : List Name) (heard : Heard) (places : List ℕ) (rows new : List Row) → ArePlaces names rows places → IsRenewed heard places rows new
    → new ≡ map (renewed (told_by names heard)) rows
renewed_all names heard places rows new at h =
    let told = told_by names heard in
    same_lists new (map (renewed told) rows) (h.long ∙ sym (length-map rows (renewed told))) (λ k d low.
    let within : k < length rows = omega (arith, h.long) in
    let noted : is_noted places k ≡ is_among names (get_or rows k d).address = at.noted k within
    ∙ ap (is_among names) (get_or-map address_of rows k d [] within) in
    h.rows k d within ∙ ap (λ (b : Bool). renewed_if b heard (get_or rows k d)) noted ∙ sym (get_or-map (renewed told) rows k d d within))

address-renewed : (told : Told) (row : Row) (named : Bool) → address_of (if named then record row { heard = heard_of told } else row) ≡ row.address
address-renewed told row true = refl
address-renewed told row false = refl

pub addresses-renewed : (told : Told) (rows : List Row) → addresses (map (renewed told) rows) ≡ addresses rows
addresses-renewed told [] = refl
addresses-renewed told (row ∷ rows) = λ i. address-renewed told row (is_among told.names row.address) i ∷ addresses-renewed told rows i

pub table_renewed : (told : Told) (rows : List Row) → IsTable rows → IsTable (map (renewed told) rows)
table_renewed told rows table = record {
  distinct = subst AreDistinct (sym (addresses-renewed told rows)) table.distinct;
  few = rw (length-map rows (renewed told)) table.few;
}

-- one place more
pub renewing_more : (heard : Heard) (all : List ℕ) (old rows new : List Row) (i place : ℕ) (d : Row) → i < length all → place ≡ get_or all i place → place < length old
    → new ≡ set rows place (record (get_or rows place d) { heard = heard }) → IsRenewed heard (take i all) old rows → IsRenewed heard (take (i + 1) all) old new
renewing_more heard all old rows new i place d low is within new_is h =
    let more : take i all ++ place ∷ [] ≡ take (i + 1) all = ap (λ (x : ℕ). take i all ++ x ∷ []) is ∙ sym (take_more all i place low) in
    subst (λ (ps : List ℕ). IsRenewed heard ps old new) more (record {
      long = ap length new_is ∙ length-set rows place (record (get_or rows place d) { heard = heard }) ∙ h.long;
      rows = λ k other inside. by k other inside (cases_eq k place);
    })
  where
    noted : (k : ℕ) → is_noted (take i all ++ place ∷ []) k ≡ (is_noted (take i all) k || ((place == k) || false))
    noted k = list_any-append (λ noted. noted == k) (take i all) (place ∷ [])

    twice : (b : Bool) (row : Row) → record (renewed_if b heard row) { heard = heard } ≡ record row { heard = heard }
    twice true row = refl
    twice false row = refl

    by : (k : ℕ) (other : Row) → k < length old → (k ≡ place) ⊎ (k ≢ place) → get_or new k other ≡ renewed_if (is_noted (take i all ++ place ∷ []) k) heard (get_or old k other)
    by k other inside (inl same) =
        let found : (place == k) ≡ true = grind (arith, same) in
        let all_noted : is_noted (take i all ++ place ∷ []) k ≡ true = noted k ∙ or_right (is_noted (take i all) k) ((place == k) || false) (or_left (place == k) false found) in
        let room : place < length rows = omega (arith, h.long, within) in
        let here : get_or rows place d ≡ renewed_if (is_noted (take i all) place) heard (get_or old place d) = h.rows place d within in
        let row : get_or old place d ≡ get_or old place other = get_or_default old place d other within in
        ap (λ (xs : List Row). get_or xs k other) new_is ∙ ap (λ (n : ℕ). get_or (set rows place (record (get_or rows place d) { heard = heard })) n other) same
        ∙ get_or-set_same rows place (record (get_or rows place d) { heard = heard }) other room
        ∙ ap (λ (r : Row). record r { heard = heard }) here ∙ twice (is_noted (take i all) place) (get_or old place d)
        ∙ ap (λ (r : Row). record r { heard = heard }) (row ∙ ap (λ (n : ℕ). get_or old n other) (sym same))
        ∙ ap (λ (b : Bool). renewed_if b heard (get_or old k other)) (sym all_noted)
    by k other inside (inr apart) =
        let missed : (place == k) ≡ false = grind (arith, apart) in
        ap (λ (xs : List Row). get_or xs k other) new_is ∙ get_or-set_other rows place k (record (get_or rows place d) { heard = heard }) other apart
        ∙ h.rows k other inside
        ∙ ap (λ (b : Bool). renewed_if b heard (get_or old k other)) (sym (noted k ∙ ap (λ (b : Bool). is_noted (take i all) k || (b || false)) missed ∙ or-false (is_noted (take i all) k)))

-- the table once the rows at these places hold what was heard
pub table_heard : (old : Rows) (names : List Name) (heard : Heard) (places : List ℕ) (rows new held : List Row) → held ≡ old.rows
    → rows ≡ rows_with held (told_by names heard)
    → ArePlaces names rows places → IsRenewed heard places rows new → record { clock = heard.tick; rows = new } ≡ heard_table old (told_by names heard)
table_heard old names heard places rows new held same is at h =
    let all : new ≡ map (renewed (told_by names heard)) (rows_with old.rows (told_by names heard)) =
    renewed_all names heard places rows new at h ∙ ap (map (renewed (told_by names heard))) (is
    ∙ ap (λ (xs : List Row). rows_with xs (told_by names heard)) same) in
    ap (λ (xs : List Row). record { clock = heard.tick; rows = xs }) all

pub table_all : (names : List Name) (heard : Heard) (places : List ℕ) (rows new : List Row) → IsTable rows → ArePlaces names rows places
    → IsRenewed heard places rows new → IsTable new
table_all names heard places rows new table at h =
    subst IsTable (sym (renewed_all names heard places rows new at h)) (table_renewed (told_by names heard) rows table)
