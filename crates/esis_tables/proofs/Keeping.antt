-- The list holds the deadline of each row: after a hello, since it changes only rows whose places are noted, and in a sweep, since a row goes
-- with its deadline. A row whose deadline has come is not known, and where none is due each is.
use Rattle.std.proofs.Common.{◌≡◌, ◌≢◌, ℕ, zero, suc, ◌+◌, ◌-◌, ◌<◌, ◌≤◌, Bool, true, false, nat_lt, List, [], ◌∷◌, ◌++◌, length, get_or, take, set, map, slice_get, Option, Some, None, refl, sym, ap, ◌∙◌, subst, arith, length-append, length-set, inl, inr}
use Rattle.std.specs.Prelude.{◌||◌, ◌==◌, ◌⊎◌, cond, if◌then◌else◌, IsSome, OnSome}
use Rattle.std.specs.List.{filter, remove}
use Rattle.std.proofs.Math.Bool.{or-false}
use Rattle.std.proofs.lemmas.Bool.{cases_eq, cases_lt, or_left, or_right, ltb-false, lt-ltb}
use Rattle.std.proofs.lemmas.List.{get_or-append_right, get_or-map, get_or-set_other, get_or-set_same, get_or_append_left, get_or_default, get_or_past, length-map, same_lists, take_more}
use Rattle.std.proofs.lemmas.List.Elements.{All-get_or}
use Rattle.std.proofs.lemmas.List.Folds.{list_any-append}
use Rattle.std.proofs.lemmas.Option.{slice_get_cases}
use Rattle.due_links.specs.Entries.{Entries, TakesDue}
use Rattle.due_links.specs.Ticks.{tick_at}
use Rattle.esis_tables.specs.declared.holding_time.Heard.{Heard}
use Rattle.esis_tables.specs.declared.holding_time.Row.{Row}
use Rattle.esis_tables.specs.Told.{is_among}
use Rattle.esis_tables.specs.Rows.{addresses, is_row_known, new_names, row_of, rows_with}
use Rattle.esis_tables.specs.steps.Deadlines.{AreDeadlines, IsDue, IsKept, IsListed, IsMade, deadline_at, deadline_of}
use Rattle.esis_tables.specs.steps.Places.{ArePlaces, IsRenewed, is_noted, renewed_if, told_by}
use Rattle.esis_tables.proofs.Names.{new_are_names}
use Rattle.esis_tables.proofs.Placing.{addresses-with}

abbrev Ticks : Type 0
Ticks = List (Option ℕ)

-- ---- the deadline at a place

pub deadline_in : (rows : List Row) (place : ℕ) (row : Row) → place < length rows → deadline_at rows place ≡ deadline_of (get_or rows place row)
deadline_in rows place row low = get_or-map deadline_of rows place row None low

pub deadline_past : (rows : List Row) (place : ℕ) → length rows ≤ place → deadline_at rows place ≡ None
deadline_past rows place high = get_or_past (map deadline_of rows) place None (omega (arith, length-map rows deadline_of, high))

pub deadline_some : (rows : List Row) (place : ℕ) (row : Row) → slice_get rows place ≡ Some row → deadline_of row ≡ deadline_at rows place
deadline_some rows place row is = elim ((slice_get_cases rows place).1) [
  | inl there ↦
      let same : there.0 ≡ row = cc in
      ap deadline_of (sym same ∙ sym there.3) ∙ sym (deadline_in rows place there.0 there.1)
  | inr past ↦ absurd cc
]

pub deadline_none : (rows : List Row) (place : ℕ) → slice_get rows place ≡ None → None ≡ deadline_at rows place
deadline_none rows place is = elim ((slice_get_cases rows place).1) [
  | inl there ↦ absurd cc
  | inr past ↦ sym (deadline_past rows place past.0)
]

-- ---- writing by place

pub keeping_more : (rows : List Row) (all : List ℕ) (i place : ℕ) (old due new : Ticks) (tick : Option ℕ) → i < length all → place ≡ get_or all i place
    → place < length old → tick ≡ deadline_at rows place → new ≡ set due place tick → IsKept rows (take i all) old due → IsKept rows (take (i + 1) all) old new
keeping_more rows all i place old due new tick low is within tick_is new_is h =
    let more : take i all ++ place ∷ [] ≡ take (i + 1) all = ap (λ (x : ℕ). take i all ++ x ∷ []) is ∙ sym (take_more all i place low) in
    subst (λ (ps : List ℕ). IsKept rows ps old new) more (record {
      long = ap length new_is ∙ length-set due place tick ∙ h.long;
      noted = λ k inside. by k inside (cases_eq k place);
    })
  where
    noted : (k : ℕ) → is_noted (take i all ++ place ∷ []) k ≡ (is_noted (take i all) k || ((place == k) || false))
    noted k = list_any-append (λ noted. noted == k) (take i all) (place ∷ [])

    by : (k : ℕ) → k < length old → (k ≡ place) ⊎ (k ≢ place)
        → tick_at new k ≡ (if is_noted (take i all ++ place ∷ []) k then deadline_at rows k else tick_at old k)
    by k inside (inl same) =
        let found : (place == k) ≡ true = grind (arith, same) in
        let all_noted : is_noted (take i all ++ place ∷ []) k ≡ true = noted k ∙ or_right (is_noted (take i all) k) ((place == k) || false) (or_left (place == k) false found) in
        let room : place < length due = omega (arith, h.long, within) in
        ap (λ (xs : Ticks). tick_at xs k) new_is ∙ ap (λ (n : ℕ). tick_at (set due place tick) n) same
        ∙ get_or-set_same due place tick None room ∙ tick_is ∙ ap (deadline_at rows) (sym same)
        ∙ ap (λ (b : Bool). if b then deadline_at rows k else tick_at old k) (sym all_noted)
    by k inside (inr apart) =
        let missed : (place == k) ≡ false = grind (arith, apart) in
        ap (λ (xs : Ticks). tick_at xs k) new_is ∙ get_or-set_other due place k tick None apart ∙ h.noted k inside
        ∙ ap (λ (b : Bool). if b then deadline_at rows k else tick_at old k)
        (sym (noted k ∙ ap (λ (b : Bool). is_noted (take i all) k || (b || false)) missed ∙ or-false (is_noted (take i all) k)))

pub listing_more : (rows : List Row) (place : ℕ) (old due new : Ticks) (tick : Option ℕ) → length old ≤ place → place < length rows → tick ≡ deadline_at rows place → new ≡ due ++ tick ∷ []
    → IsListed rows place old due → IsListed rows (place + 1) old new
listing_more rows place old due new tick order within tick_is new_is h = record {
  long = ap length new_is ∙ (length-append due (tick ∷ []) ∙ ap (λ (n : ℕ). n + 1) h.long);
  below = λ k low. front k (omega (arith, low, order, h.long)) ∙ h.below k low;
  rest = λ k high low. by k high low (cases_eq k place);
}
  where
    front : (k : ℕ) → k < length due → tick_at new k ≡ tick_at due k
    front k low = ap (λ (xs : Ticks). tick_at xs k) new_is ∙ get_or_append_left due (tick ∷ []) None k low

    by : (k : ℕ) → length old ≤ k → k < place + 1 → (k ≡ place) ⊎ (k ≢ place) → tick_at new k ≡ deadline_at rows k
    by k high low (inl same) =
        let last : k ≡ length due = same ∙ sym h.long in
        let first : k - length due ≡ 0 = omega (arith, last) in
        ap (λ (xs : Ticks). tick_at xs k) new_is ∙ (get_or-append_right due (tick ∷ []) (length due) k None refl (omega (arith, last))
        ∙ (ap (λ (n : ℕ). get_or (tick ∷ []) n None) first ∙ (tick_is ∙ ap (deadline_at rows) (sym same))))
    by k high low (inr apart) = front k (omega (arith, h.long, low, apart)) ∙ h.rest k high (omega (arith, low, apart))

-- ---- after a hello

pub made_due : (due : Option Entries) (made : Entries) (rows : List Row) → IsDue due rows → IsMade due made → (made.most ≡ 256) × AreDeadlines rows made.ticks
made_due None made rows none is =
    (ap (λ (e : Entries). e.most) is, ap (λ (e : Entries). e.ticks) is ∙ sym (ap (map deadline_of) none))
made_due (Some due) made rows h is = (ap (λ (e : Entries). e.most) is ∙ h.0, ap (λ (e : Entries). e.ticks) is ∙ h.1)

pub some_most : (due : Option Entries) (entries : Entries) (rows : List Row) → due ≡ Some entries → IsDue due rows → entries.most ≡ 256
some_most due entries rows is h = (subst (λ (d : Option Entries). IsDue d rows) is h).0

module _ (names : List (List ℕ)) (heard : Heard) (places : List ℕ) (old rows new : List Row) where
  -- a row that was put is named, so its place is noted
  put_noted : rows ≡ rows_with old (told_by names heard) → ArePlaces names rows places → (place : ℕ) → length old ≤ place → place < length rows
      → is_noted places place ≡ true
  put_noted is at place high low =
      let fresh : List (List ℕ) = new_names (addresses old) names in
      let split : addresses rows ≡ addresses old ++ fresh = ap addresses is ∙ addresses-with old (told_by names heard) in
      let count : length (addresses rows) ≡ length rows = length-map rows (λ row. row.address) in
      let before : length (addresses old) ≡ length old = length-map old (λ row. row.address) in
      let long : length (addresses rows) ≡ length (addresses old) + length fresh = ap length split ∙ length-append (addresses old) fresh in
      let here : get_or (addresses rows) place [] ≡ get_or fresh (place - length old) [] =
      ap (λ (xs : List (List ℕ)). get_or xs place []) split ∙ get_or-append_right (addresses old) fresh (length old) place [] before high in
      at.noted place low ∙ ap (is_among names) here
      ∙ All-get_or (λ (name : List ℕ). is_among names name ≡ true) fresh (place - length old) [] (omega arith) (new_are_names (addresses old) names)

  -- the row at a place that is not noted is the one that was there
  unnoted : rows ≡ rows_with old (told_by names heard) → ArePlaces names rows places → IsRenewed heard places rows new → (place : ℕ)
      → is_noted places place ≡ false → deadline_at old place ≡ deadline_at new place
  unnoted is at h place not = by (cases_lt place (length old)) (cases_lt place (length rows))
    where
      longer : length old ≤ length rows
      longer = omega (arith, ap length is, length-append old (map (row_of (told_by names heard)) (new_names (addresses old) names)))

      by : (place < length old) ⊎ (length old ≤ place) → (place < length rows) ⊎ (length rows ≤ place) → deadline_at old place ≡ deadline_at new place
      by (inl low) inside =
          let d : Row = record { address = []; heard = heard } in
          let behind : List Row = map (row_of (told_by names heard)) (new_names (addresses old) names) in
          let there : get_or rows place d ≡ get_or old place d = ap (λ (xs : List Row). get_or xs place d) is ∙ get_or_append_left old behind d place low in
          let kept : get_or new place d ≡ get_or rows place d = h.rows place d (omega (arith, longer, low))
          ∙ ap (λ (b : Bool). renewed_if b heard (get_or rows place d)) not in
          deadline_in old place d low ∙ ap deadline_of (sym there ∙ sym kept) ∙ sym (deadline_in new place d (omega (arith, h.long, longer, low)))
      by (inr high) (inl low) = let clash : true ≡ false = sym (put_noted is at place high low) ∙ not in absurd cc
      by (inr high) (inr past) = deadline_past old place high ∙ sym (deadline_past new place (omega (arith, h.long, past)))

  pub heard_due : (due listed kept : Ticks) → rows ≡ rows_with old (told_by names heard) → ArePlaces names rows places → IsRenewed heard places rows new
      → AreDeadlines old due → IsListed new (length new) due listed → IsKept new places listed kept → AreDeadlines new kept
  heard_due due listed kept is at h was l k = same_lists kept (map deadline_of new) long each
    where
      long : length kept ≡ length (map deadline_of new)
      long = k.long ∙ (l.long ∙ sym (length-map new deadline_of))

      count : length due ≡ length old
      count = ap length was ∙ length-map old deadline_of

      there : (place : ℕ) → is_noted places place ≡ false → (place < length due) ⊎ (length due ≤ place) → place < length new → tick_at listed place ≡ deadline_at new place
      there place not (inl low) inside = l.below place low ∙ (ap (λ (xs : Ticks). tick_at xs place) was ∙ unnoted is at h place not)
      there place not (inr high) inside = l.rest place high inside

      chosen : (place : ℕ) (noted : Bool) → place < length new → is_noted places place ≡ noted → (if noted then deadline_at new place else tick_at listed place) ≡ deadline_at new place
      chosen place true inside how = refl
      chosen place false inside how = there place how (cases_lt place (length due)) inside

      each : (place : ℕ) (d : Option ℕ) → place < length kept → get_or kept place d ≡ get_or (map deadline_of new) place d
      each place d low =
          let inside : place < length new = omega (arith, low, k.long, l.long) in
          get_or_default kept place d None low ∙ (k.noted place (omega (arith, low, k.long)) ∙ (chosen place (is_noted places place) inside refl
          ∙ get_or_default (map deadline_of new) place None d (omega (arith, low, long))))

-- ---- a row that is due goes

map-without : (rows : List Row) (place : ℕ) → remove (map deadline_of rows) place ≡ map deadline_of (remove rows place)
map-without [] zero = refl
map-without [] (suc place) = refl
map-without (row ∷ rows) zero = refl
map-without (row ∷ rows) (suc place) = ap (λ (xs : Ticks). deadline_of row ∷ xs) (map-without rows place)

pub gone_due : (rows rest : List Row) (ticks : Ticks) (place : ℕ) → rest ≡ remove rows place → AreDeadlines rows ticks → AreDeadlines rest (remove ticks place)
gone_due rows rest ticks place is was = ap (λ (xs : Ticks). remove xs place) was ∙ (map-without rows place ∙ ap (map deadline_of) (sym is))

unknown_at : (now at : ℕ) (row : Row) (reached : Bool) → at ≤ now → (if reached then Some (row.heard.tick + row.heard.ticks) else None) ≡ Some at → is_row_known now row ≡ false
unknown_at now at row true late is =
    let same : row.heard.tick + row.heard.ticks ≡ at = cc is in
    ltb-from-le (row.heard.tick + row.heard.ticks) now (omega (arith, same, late))
  where
    ltb-from-le : (end now : ℕ) → end ≤ now → nat_lt now end ≡ false
    ltb-from-le end now h = grind (arith, h)
unknown_at now at row false late is = absurd cc

without_unknown : (now at : ℕ) (rows : List Row) (place : ℕ) → deadline_at rows place ≡ Some at → at ≤ now → filter (is_row_known now) (remove rows place) ≡ filter (is_row_known now) rows
without_unknown now at [] zero is late = refl
without_unknown now at [] (suc place) is late = refl
without_unknown now at (row ∷ rows) zero is late =
    ap (λ (b : Bool). cond b (row ∷ filter (is_row_known now) rows) (filter (is_row_known now) rows))
    (sym (unknown_at now at row (nat_lt (row.heard.tick + row.heard.ticks) 4294967296) late is))
without_unknown now at (row ∷ rows) (suc place) is late =
    ap (λ (xs : List Row). cond (is_row_known now row) (row ∷ xs) xs) (without_unknown now at rows place is late)

-- where a row was taken out, the others stay
pub taken : (result : Option Row) (rows rest : List Row) (place : ℕ) → IsSome result → OnSome result (rest ≡ remove rows place) → rest ≡ remove rows place
taken None rows rest place some is = absurd cc
taken (Some row) rows rest place some is = is

length-without : (rows : List Row) (place : ℕ) → place < length rows → length (remove rows place) < length rows
length-without [] place low = absurd (omega (arith, low))
length-without (row ∷ rows) zero low = omega arith
length-without (row ∷ rows) (suc place) low = let rest = length-without rows place (omega (arith, low)) in omega (arith, rest)

-- so far only rows that are not known went
pub record IsSweeping (now : ℕ) (old rows : List Row) (ticks : Ticks) : Type 0 where
  pub due : AreDeadlines rows ticks
  pub known : filter (is_row_known now) rows ≡ filter (is_row_known now) old

pub sweeping_within : (now : ℕ) (old rows : List Row) (due new : Entries) (place : ℕ) → IsSweeping now old rows due.ticks → TakesDue due now (Some place) new → place < length rows
sweeping_within now old rows due new place h t = omega (arith, t.0, ap length h.due, length-map rows deadline_of)

pub sweeping_more : (now : ℕ) (old rows rest : List Row) (due new : Entries) (place : ℕ) → rest ≡ remove rows place → IsSweeping now old rows due.ticks → TakesDue due now (Some place) new
    → IsSweeping now old rest new.ticks × (new.most ≡ due.most) × (length rest < length rows)
sweeping_more now old rows rest due new place is h t = (
  record {
    due = ap (λ (e : Entries). e.ticks) t.1 ∙ gone_due rows rest due.ticks place is h.due;
    known = ap (filter (is_row_known now)) is ∙ (without_unknown now t.2 rows place (ap (λ (xs : Ticks). tick_at xs place) (sym h.due) ∙ t.3.set) t.4 ∙ h.known);
  },
  ap (λ (e : Entries). e.most) t.1,
  omega (arith, ap length is, length-without rows place (sweeping_within now old rows due new place h t)),
)

-- ---- where none is due

known_head : (now : ℕ) (row : Row) (reached : Bool) → now < 4294967296 → nat_lt (row.heard.tick + row.heard.ticks) 4294967296 ≡ reached
    → ((at : ℕ) → (if reached then Some (row.heard.tick + row.heard.ticks) else None) ≡ Some at → now < at) → is_row_known now row ≡ true
known_head now row true fits is later = lt-ltb now (row.heard.tick + row.heard.ticks) (later (row.heard.tick + row.heard.ticks) refl)
known_head now row false fits is later = lt-ltb now (row.heard.tick + row.heard.ticks)
    (omega (arith, fits, ltb-false (row.heard.tick + row.heard.ticks) 4294967296 is))

pub all_known : (now : ℕ) (rows : List Row) → now < 4294967296 → ((place at : ℕ) → deadline_at rows place ≡ Some at → now < at)
    → rows ≡ filter (is_row_known now) rows
all_known now [] fits later = refl
all_known now (row ∷ rows) fits later =
    let here : is_row_known now row ≡ true = known_head now row (nat_lt (row.heard.tick + row.heard.ticks) 4294967296) fits refl (λ at is. later zero at is) in
    ap (λ (xs : List Row). row ∷ xs) (all_known now rows fits (λ place at is. later (suc place) at is))
    ∙ ap (λ (b : Bool). cond b (row ∷ filter (is_row_known now) rows) (filter (is_row_known now) rows)) (sym here)

pub sweeping_end : (now : ℕ) (old rows : List Row) (due new : Entries) (found : Option ℕ) → now < 4294967296 → found ≡ None → IsSweeping now old rows due.ticks
    → TakesDue due now found new → rows ≡ filter (is_row_known now) old
sweeping_end now old rows due new None fits none h t =
    all_known now rows fits (λ place at is. t.1 place at (ap (λ (xs : Ticks). tick_at xs place) h.due ∙ is)) ∙ h.known
sweeping_end now old rows due new (Some place) fits none h t = absurd cc
