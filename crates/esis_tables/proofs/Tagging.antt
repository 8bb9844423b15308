-- Rows of one address have one tag: so those that were passed over by their tags are of other addresses, and the first that is not is the place.
use Rattle.std.proofs.Common.{◌≡◌, ℕ, zero, suc, ◌+◌, ◌-◌, ◌<◌, ◌≤◌, Bool, true, false, List, [], ◌∷◌, length, get_or, take, drop, Some, None, refl, sym, ap, ◌∙◌, arith, inl, inr}
use Rattle.std.specs.Prelude.{◌⊎◌, ◌==◌, nat_eq, map, position, cond, nat_lt, slice_index}
use Rattle.std.specs.List.{position_or_len, remove, slice_get, take-map}
use Rattle.std.specs.Cmp.Lexicographic.{pointwise, same_text}
use Rattle.std.proofs.Math.Seq.{take-length}
use Rattle.std.proofs.lemmas.Bool.{cases_lt, ltb-false}
use Rattle.std.proofs.lemmas.List.{get_or-map, get_or-drop, get_or_default, length-drop, length-map, same_lists}
use Rattle.std.proofs.lemmas.List.Folds.{find_at}
use Rattle.std.proofs.lemmas.List.Sums.{position_or_len_is}
use Rattle.std.proofs.lemmas.Option.{slice_get_past}
use Rattle.memchr.specs.Find.{NoneBefore, Nowhere, Passes, is_byte}
use Rattle.esis_tables.specs.declared.holding_time.Heard.{Heard}
use Rattle.esis_tables.specs.declared.holding_time.Row.{Row}
use Rattle.esis_tables.specs.Rows.{row_at}
use Rattle.esis_tables.specs.steps.Places.{IsRenewed, is_noted, renewed_if}
use Rattle.esis_tables.specs.steps.Tags.{AreTags, IsNextTagged, tag_of}

abbrev is_of : List ℕ → Row → Bool
is_of address row = pointwise nat_eq row.address address

-- the first rows are of other addresses
abbrev pub AreOthers : List Row → List ℕ → ℕ → Type 0
AreOthers rows address count = (k : ℕ) (d : Row) → k < count → pointwise nat_eq (get_or rows k d).address address ≡ false

pub none_yet : (rows : List Row) (address : List ℕ) → AreOthers rows address 0
none_yet rows address k d low = absurd (omega (arith, low))

pub passed : (rows : List Row) (tags address : List ℕ) (tag start place : ℕ) → tag ≡ tag_of address → AreTags rows tags → IsNextTagged tags tag start place
    → AreOthers rows address start → AreOthers rows address place
passed rows tags address tag start place tag_is are next h k d low = by (cases_lt k start)
  where
    within : k < length rows
    within = omega (arith, low, next.high, ap length are, length-map rows (λ (row : Row). tag_of row.address))

    tagged : get_or tags k 0 ≡ tag_of (get_or rows k d).address
    tagged = ap (λ (ts : List ℕ). get_or ts k 0) are ∙ get_or-map (λ (row : Row). tag_of row.address) rows k d 0 within

    unlike : start ≤ k → (b : Bool) → is_of address (get_or rows k d) ≡ b → b ≡ false
    unlike past true is = absurd (next.others k past low (tagged ∙ ap tag_of (same_text (get_or rows k d).address address (sym is)) ∙ sym tag_is))
    unlike past false is = refl

    by : (k < start) ⊎ (start ≤ k) → is_of address (get_or rows k d) ≡ false
    by (inl before) = h k d before
    by (inr past) = unlike past (is_of address (get_or rows k d)) refl

pub one_more : (rows : List Row) (address : List ℕ) (place : ℕ) (d : Row) → AreOthers rows address place → place < length rows
    → is_of address (get_or rows place d) ≡ false → AreOthers rows address (place + 1)
one_more rows address place d h within is k e low = by (cases_lt k place)
  where
    by : (k < place) ⊎ (place ≤ k) → is_of address (get_or rows k e) ≡ false
    by (inl before) = h k e before
    by (inr past) =
        let same : k ≡ place = omega (arith, low, past) in
        ap (λ (n : ℕ). is_of address (get_or rows n e)) same ∙ ap (is_of address) (get_or_default rows place e d within) ∙ is

at_first : (rows : List Row) (place : ℕ) (found : Bool) → nat_lt place (length rows) ≡ found
    → cond (nat_lt place (length rows)) (Some place) None ≡ cond found (Some place) None
at_first rows place found is = ap (λ (b : Bool). cond b (Some place) None) is

pub found_there : (rows : List Row) (address : List ℕ) (place : ℕ) (d : Row) → AreOthers rows address place → place < length rows
    → is_of address (get_or rows place d) ≡ true → Some place ≡ position (λ row. pointwise nat_eq row.address address) rows
found_there rows address place d h within is =
    let first = position_or_len_is (is_of address) rows place d (omega (arith, within)) (λ k low. h k d low) (λ low. is) in
    sym (ap (λ (n : ℕ). cond (nat_lt n (length rows)) (Some n) None) first ∙ at_first rows place true (grind (arith, within)))

pub found_nowhere : (rows : List Row) (address : List ℕ) (place : ℕ) → AreOthers rows address place → length rows ≤ place
    → None ≡ position (λ row. pointwise nat_eq row.address address) rows
found_nowhere rows address place h past =
    let d : Row = record { address = []; heard = record { tick = 0; ticks = 0; hop = record { port = record { lan = 0; snpa = [] }; title = None } } } in
    let first = position_or_len_is (is_of address) rows (length rows) d (omega arith) (λ k low. h k d (omega (arith, low, past)))
    (λ low. absurd (omega (arith, low))) in
    sym (ap (λ (n : ℕ). cond (nat_lt n (length rows)) (Some n) None) first ∙ at_first rows (length rows) false (grind arith))

-- ---- the next of a tag

pub this_one : (tags : List ℕ) (tag start : ℕ) → start ≤ length tags → IsNextTagged tags tag start start
this_one tags tag start within = record {
  low = omega arith;
  high = within;
  others = λ k past low. absurd (omega (arith, past, low));
}

pub all_behind : (tags : List ℕ) (start : ℕ) → take (length tags - start) (drop start tags) ≡ drop start tags
all_behind tags start = ap (λ (n : ℕ). take n (drop start tags)) (sym (length-drop start tags)) ∙ take-length (drop start tags)

passes_behind : (tags behind : List ℕ) (tag start : ℕ) → behind ≡ drop start tags → (k : ℕ) → start ≤ k → get_or tags k 0 ≡ tag → (slice_index behind (k - start) == tag) ≡ true
passes_behind tags behind tag start is k past same =
    let at : start + (k - start) ≡ k = omega (arith, past) in
    let here : get_or behind (k - start) 0 ≡ tag = ap (λ (xs : List ℕ). get_or xs (k - start) 0) is ∙ get_or-drop start tags (k - start) 0
    ∙ ap (λ (n : ℕ). get_or tags n 0) at ∙ same in
    grind (arith, here)

-- a place among those behind the start
pub next_found : (tags behind : List ℕ) (tag start place : ℕ) → start ≤ length tags → behind ≡ drop start tags
    → NoneBefore (Passes (is_byte tag) behind) 0 (length behind) place → IsNextTagged tags tag start (start + place)
next_found tags behind tag start place within is h = record {
  low = omega arith;
  high = omega (arith, h.high, within, ap length is, length-drop start tags);
  others = λ k past low same. h.before (k - start) (omega arith) (omega (arith, past, low)) (passes_behind tags behind tag start is k past same);
}

pub next_nowhere : (tags behind : List ℕ) (tag start : ℕ) → start ≤ length tags → behind ≡ drop start tags
    → Nowhere (Passes (is_byte tag) behind) 0 (length behind) → IsNextTagged tags tag start (length tags)
next_nowhere tags behind tag start within is h = record {
  low = within;
  high = omega arith;
  others = λ k past low same. h (k - start) (omega arith) (omega (arith, past, low, ap length is, length-drop start tags)) (passes_behind tags behind tag start is k past same);
}

-- ---- the tags of the rows, once they changed

pub tags_truncated : (rows new : List Row) (tags fewer : List ℕ) (count : ℕ) → AreTags rows tags → new ≡ take count rows → fewer ≡ take count tags → AreTags new fewer
tags_truncated rows new tags fewer count are is fewer_is = fewer_is ∙ ap (take count) are ∙ take-map (λ (r : Row). tag_of r.address) count rows
    ∙ sym (ap (map (λ (r : Row). tag_of r.address)) is)

without : (rows : List Row) (place : ℕ) → remove (map (λ (r : Row). tag_of r.address) rows) place ≡ map (λ (r : Row). tag_of r.address) (remove rows place)
without [] zero = refl
without [] (suc place) = refl
without (row ∷ rows) zero = refl
without (row ∷ rows) (suc place) = ap (λ (xs : List ℕ). tag_of row.address ∷ xs) (without rows place)

pub tags_removed : (rows new : List Row) (tags fewer : List ℕ) (place : ℕ) → AreTags rows tags → new ≡ remove rows place → fewer ≡ remove tags place → AreTags new fewer
tags_removed rows new tags fewer place are is fewer_is = fewer_is ∙ ap (λ (xs : List ℕ). remove xs place) are ∙ without rows place
    ∙ sym (ap (map (λ (r : Row). tag_of r.address)) is)

-- what a row holds of a hello has no part in its tag
pub tags_renewed : (heard : Heard) (places : List ℕ) (rows new : List Row) (tags : List ℕ) → AreTags rows tags → IsRenewed heard places rows new → AreTags new tags
tags_renewed heard places rows new tags are h = are ∙ same_lists (map tag_in rows) (map tag_in new)
    (length-map rows tag_in ∙ sym h.long ∙ sym (length-map new tag_in)) each
  where
    tag_in : Row → ℕ
    tag_in row = tag_of row.address

    kept : (noted : Bool) (row : Row) → tag_in (renewed_if noted heard row) ≡ tag_in row
    kept true row = refl
    kept false row = refl

    each : (k d : ℕ) → k < length (map tag_in rows) → get_or (map tag_in rows) k d ≡ get_or (map tag_in new) k d
    each k d low =
        let row : Row = record { address = []; heard = heard } in
        let inside : k < length rows = omega (arith, low, length-map rows tag_in) in
        get_or-map tag_in rows k row d inside
        ∙ sym (get_or-map tag_in new k row d (omega (arith, inside, h.long)) ∙ ap tag_in (h.rows k row inside) ∙ kept (is_noted places k) (get_or rows k row))

-- ---- the row at the place that was found

pub row_none : (rows held : List Row) (address : List ℕ) → held ≡ rows → None ≡ position (λ row. pointwise nat_eq row.address address) held
    → None ≡ row_at rows address
row_none rows held address same none = sym (ap (λ (xs : List Row). row_at xs address) (sym same) ∙ find_at (is_of address) held
    ∙ by (nat_lt (position_or_len (is_of address) held) (length held)) refl)
  where
    by : (inside : Bool) → nat_lt (position_or_len (is_of address) held) (length held) ≡ inside → slice_get held (position_or_len (is_of address) held) ≡ None
    by true is = absurd (clash (none ∙ ap (λ (b : Bool). cond b (Some (position_or_len (is_of address) held)) None) is))
      where
        clash : None ≡ Some (position_or_len (is_of address) held) → ⊥
        clash e = absurd cc
    by false is = slice_get_past held (position_or_len (is_of address) held) (ltb-false (position_or_len (is_of address) held) (length held) is)

pub row_some : (rows held : List Row) (address : List ℕ) (place : ℕ) → held ≡ rows → Some place ≡ position (λ row. pointwise nat_eq row.address address) held
    → slice_get held place ≡ row_at rows address
row_some rows held address place same some = by (nat_lt (position_or_len (is_of address) held) (length held)) refl
  where
    by : (inside : Bool) → nat_lt (position_or_len (is_of address) held) (length held) ≡ inside → slice_get held place ≡ row_at rows address
    by true is =
        let at : place ≡ position_or_len (is_of address) held =
        Some-same place (position_or_len (is_of address) held) (some ∙ ap (λ (b : Bool). cond b (Some (position_or_len (is_of address) held)) None) is) in
        ap (slice_get held) at ∙ sym (find_at (is_of address) held) ∙ ap (λ (xs : List Row). row_at xs address) same
      where
        Some-same : (a b : ℕ) → Some a ≡ Some b → a ≡ b
        Some-same a b e = cc
    by false is = absurd (clash (some ∙ ap (λ (b : Bool). cond b (Some (position_or_len (is_of address) held)) None) is))
      where
        clash : Some place ≡ None → ⊥
        clash e = absurd cc
