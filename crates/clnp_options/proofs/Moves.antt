-- Changes in place: the value is cut at its offset, and what the offset then counts is one field more.
use Rattle.std.proofs.Common.{◌≡◌, ℕ, ◌+◌, ◌-◌, ◌<◌, ◌≤◌, List, [], ◌∷◌, ◌++◌, length, take, drop, set, get_or, slice_get, option_map, Option, Some, None, refl, sym, ap, ◌∙◌, subst, arith, All, inl, inr}
use Rattle.std.specs.Prelude.{IsSome, ◌↔◌}
use Rattle.std.proofs.lemmas.Bool.{false≢true, cases_eq}
use Rattle.std.proofs.lemmas.List.{append_assoc, append-nil, length-append, length-set, length-drop, take_at, drop_at, drop-drop, get_or-drop}
use Rattle.std.proofs.lemmas.List.Elements.{All-append, All-cons, All-nil}
use Rattle.pdu_parts.specs.Field.{IsAddress, field, address_at}
use Rattle.clnp_options.specs.Titles.{entries}
use Rattle.clnp_options.specs.SourceRoute.{SourceRoute, IsSourceRoute, HasSourceRoute, IsOnTheWay, moved}
use Rattle.clnp_options.specs.Recording.{Recording, IsOpen, IsRecording, recording_octets, with_title}
use Rattle.clnp_options.proofs.Entries.{entries-append, some_entries, some_octets, title_again}
use Rattle.clnp_options.proofs.Routes.{All-right}

-- ---- source routes

pub offset_is : (value : List ℕ) (route : SourceRoute) → IsSourceRoute value route → get_or value 1 0 ≡ 3 + length (entries route.passed)
offset_is value route is = ap (λ (xs : List ℕ). get_or xs 1 0) is.parts

-- the octets at the offset are the entries ahead
pub ahead_is : (value : List ℕ) (route : SourceRoute) → IsSourceRoute value route → drop (get_or value 1 0 - 1) value ≡ entries route.ahead
ahead_is value route is =
    let passed = entries route.passed in
    let count : get_or value 1 0 - 1 ≡ 2 + length passed = omega (arith, offset_is value route is) in
    ap (λ (n : ℕ). drop n value) count
    ∙ ap (drop (2 + length passed)) is.parts
    ∙ sym (drop-drop (length passed) 2 (route.kind ∷ (3 + length passed) ∷ entries (route.passed ++ route.ahead)))
    ∙ ap (drop (length passed)) (entries-append route.passed route.ahead)
    ∙ drop_at passed (entries route.ahead) (length passed) refl

pub length_is : (value : List ℕ) (route : SourceRoute) → IsSourceRoute value route → length value ≡ 2 + (length (entries route.passed) + length (entries route.ahead))
length_is value route is =
    ap length is.parts ∙ omega (arith, ap length (entries-append route.passed route.ahead), length-append (entries route.passed) (entries route.ahead))

-- the length at the offset, and where the field ends
pub record Moves (value : List ℕ) (len : ℕ) : Type 0 where
  pub length_there : get_or value (get_or value 1 0 - 1) 0 ≡ len
  pub within : get_or value 1 0 + (len + 1) ≤ 255

title_moves : (value : List ℕ) (kind : ℕ) (passed : List (List ℕ)) (title : List ℕ) (rest : List (List ℕ))
    → IsSourceRoute value (record { kind = kind; passed = passed; ahead = title ∷ rest }) → Moves value (length title)
title_moves value kind passed title rest is =
    let route : SourceRoute = record { kind = kind; passed = passed; ahead = title ∷ rest } in
    let there : get_or value (get_or value 1 0 - 1) 0 ≡ length title =
    ap (λ (n : ℕ). get_or value n 0) (omega arith)
    ∙ sym (get_or-drop (get_or value 1 0 - 1) value 0 0)
    ∙ ap (λ (xs : List ℕ). get_or xs 0 0) (ahead_is value route is) in
    record {
      length_there = there;
      within = omega (arith, is.short, offset_is value route is, length_is value route is, length-append title (entries rest));
    }

moves_at : (value : List ℕ) (kind : ℕ) (passed ahead : List (List ℕ)) → IsSourceRoute value (record { kind = kind; passed = passed; ahead = ahead }) → 0 < length ahead
    → (len : ℕ) × Moves value len
moves_at value kind passed [] is some = absurd (omega arith)
moves_at value kind passed (title ∷ rest) is some = (length title, title_moves value kind passed title rest is)

pub moves : (value : List ℕ) → IsOnTheWay value → (len : ℕ) × Moves value len
moves value way = moves_at value way.0.kind way.0.passed way.0.ahead way.1 way.2

moved_at : (value : List ℕ) (kind : ℕ) (passed ahead : List (List ℕ)) → IsSourceRoute value (record { kind = kind; passed = passed; ahead = ahead }) → 0 < length ahead
    → IsSourceRoute (set value 1 (get_or value 1 0 + (get_or value (get_or value 1 0 - 1) 0 + 1))) (moved (record { kind = kind; passed = passed; ahead = ahead }))
moved_at value kind passed [] is some = absurd (omega arith)
moved_at value kind passed (title ∷ rest) is some =
    let route : SourceRoute = record { kind = kind; passed = passed; ahead = title ∷ rest } in
    let there = title_moves value kind passed title rest is in
    let offset : ℕ = get_or value 1 0 + (get_or value (get_or value 1 0 - 1) 0 + 1) in
    let same : (passed ++ title ∷ []) ++ rest ≡ passed ++ (title ∷ rest) = append_assoc passed (title ∷ []) rest in
    let counted : offset ≡ 3 + length (entries (passed ++ title ∷ [])) =
    omega (arith, there.length_there, offset_is value route is, ap length (entries-append passed (title ∷ [])), length-append (entries passed) (entries (title ∷ [])), ap length (append-nil (field title))) in
    record {
      kind = is.kind;
      some = subst (λ (titles : List (List ℕ)). 0 < length titles) (sym same) is.some;
      titles = subst (All IsAddress) (sym same) is.titles;
      parts =
          ap (λ (xs : List ℕ). set xs 1 offset) is.parts
          ∙ ap (λ (n : ℕ). kind ∷ n ∷ entries (passed ++ (title ∷ rest))) counted
          ∙ ap (λ (titles : List (List ℕ)). kind ∷ (3 + length (entries (passed ++ title ∷ []))) ∷ entries titles) (sym same);
      short = omega (arith, length-set value 1 offset, is.short);
    }

pub moved_is : (value : List ℕ) (route : SourceRoute) → IsOnTheWay value → IsSourceRoute value route
    → IsSourceRoute (set value 1 (get_or value 1 0 + (get_or value (get_or value 1 0 - 1) 0 + 1))) (moved route)
moved_is value route way is =
    let there : entries way.0.ahead ≡ entries route.ahead = sym (ahead_is value way.0 way.1) ∙ ahead_is value route is in
    let some : 0 < length route.ahead = some_entries route.ahead (omega (arith, ap length there, some_octets way.0.ahead way.2)) in
    moved_at value route.kind route.passed route.ahead is some

-- ---- the next hop

hop_at : (titles : List (List ℕ)) → All IsAddress titles → option_map (λ (x : List ℕ × List ℕ). x.0) (address_at (entries titles)) ≡ slice_get titles 0
unfolding address_at
hop_at [] each = refl
hop_at (title ∷ titles) each = ap (option_map (λ (x : List ℕ × List ℕ). x.0)) (title_again title (entries titles) (each 0 title (omega arith)))

pub hop_is : (value rest : List ℕ) (route : SourceRoute) → rest ≡ drop (get_or value 1 0 - 1) value → IsSourceRoute value route
    → option_map (λ (x : List ℕ × List ℕ). x.0) (address_at rest) ≡ slice_get route.ahead 0
hop_is value rest route same is =
    ap (λ (xs : List ℕ). option_map (λ (x : List ℕ × List ℕ). x.0) (address_at xs)) (same ∙ ahead_is value route is)
    ∙ hop_at route.ahead (All-right IsAddress route.passed route.ahead is.titles)

-- ---- recordings

pub record Begins (value : List ℕ) (kind offset : ℕ) (rest : List ℕ) : Type 0 where
  pub kind_is : kind ≤ 1
  pub parts : value ≡ kind ∷ offset ∷ rest
  pub short : length value < 255

pub value_begins : (value : List ℕ) → IsRecording value → (kind offset : ℕ) × (rest : List ℕ) × Begins value kind offset rest
value_begins value (inl going) =
    let r : Recording = going.0 in
    (r.kind, 3 + length (entries r.recorded), entries r.recorded ++ r.space, record { kind_is = going.1.kind; parts = going.1.parts; short = going.1.short })
value_begins value (inr ended) = (ended.0, 255, ended.1, record { kind_is = ended.2.kind_is; parts = ended.2.parts; short = ended.2.short })

pub ends_valid : (value : List ℕ) → IsRecording value → IsRecording (set value 1 255)
ends_valid value is =
    let b = value_begins value is in
    inr (
      b.0,
      b.2,
      record {
        kind_is = b.3.kind_is;
        parts = ap (λ (xs : List ℕ). set xs 1 255) b.3.parts;
        short = omega (arith, length-set value 1 255, b.3.short);
      },
    )

-- the value after an field was written at the offset and the offset moved past it
abbrev pub recorded_at : List ℕ → ℕ → List ℕ → List ℕ
recorded_at value position title =
    set (take position value ++ (field title ++ drop (position + (length title + 1)) value)) 1 (position + (length title + 1) + 1)

pub recorded_is : (value title : List ℕ) (position : ℕ) (recording : Recording) → IsOpen value recording → position ≡ get_or value 1 0 - 1
    → recorded_at value position title ≡ recording_octets (with_title recording title)
recorded_is value title position recording is at_offset =
    let old = entries recording.recorded in
    let front : List ℕ = recording.kind ∷ (3 + length old) ∷ old in
    let offset : get_or value 1 0 ≡ 3 + length old = ap (λ (xs : List ℕ). get_or xs 1 0) is.parts in
    let len : length front ≡ position = omega (arith, offset, at_offset) in
    let parted : value ≡ front ++ recording.space = is.parts in
    let taken : take position value ≡ front = ap (take position) parted ∙ take_at front recording.space position len in
    let dropped : drop (position + (length title + 1)) value ≡ drop (1 + length title) recording.space =
    sym (drop-drop (length title + 1) position value)
    ∙ ap (drop (length title + 1)) (ap (drop position) parted ∙ drop_at front recording.space position len)
    ∙ ap (λ (n : ℕ). drop n recording.space) (omega arith) in
    let more : entries (recording.recorded ++ title ∷ []) ≡ old ++ field title =
    entries-append recording.recorded (title ∷ []) ∙ ap (λ (xs : List ℕ). old ++ xs) (append-nil (field title)) in
    let rest : List ℕ = drop (1 + length title) recording.space in
    let counted : position + (length title + 1) + 1 ≡ 3 + length (entries (recording.recorded ++ title ∷ [])) =
    omega (arith, len, ap length more, length-append old (field title)) in
    ap (λ (xs : List ℕ). set (xs ++ (field title ++ drop (position + (length title + 1)) value)) 1 (position + (length title + 1) + 1)) taken
    ∙ ap (λ (xs : List ℕ). recording.kind ∷ (position + (length title + 1) + 1) ∷ (old ++ (field title ++ xs))) dropped
    ∙ ap (λ (xs : List ℕ). recording.kind ∷ (position + (length title + 1) + 1) ∷ xs) (sym (append_assoc old (field title) rest) ∙ ap (λ (xs : List ℕ). xs ++ rest) (sym more))
    ∙ ap (λ (n : ℕ). recording.kind ∷ n ∷ (entries (recording.recorded ++ title ∷ []) ++ rest)) counted

open_or_ended : (value : List ℕ) (recording : Recording) → recording.kind ≤ 1 → All IsAddress recording.recorded → value ≡ recording_octets recording
    → length value < 255 → 3 + length (entries recording.recorded) ≤ 255 → IsRecording value
open_or_ended value recording kind each parts short le =
    elim (cases_eq (3 + length (entries recording.recorded)) 255) as (λ _. IsRecording value) [
      | inl last ↦ inr (
        recording.kind,
        entries recording.recorded ++ recording.space,
        record {
          kind_is = kind;
          parts = parts ∙ ap (λ (n : ℕ). recording.kind ∷ n ∷ (entries recording.recorded ++ recording.space)) last;
          short = short;
        },
      )
      | inr other ↦ inl (recording, record { kind = kind; titles = each; parts = parts; goes_on = omega (arith, other); short = short })
    ]

open_valid : (value title : List ℕ) (position : ℕ) (recording : Recording) → IsOpen value recording → IsAddress title → position ≡ get_or value 1 0 - 1
    → position + (length title + 1) ≤ length value → IsRecording (recorded_at value position title)
open_valid value title position recording is is_title at_offset within =
    let now : Recording = with_title recording title in
    let same = recorded_is value title position recording is at_offset in
    let old = entries recording.recorded in
    let offset : get_or value 1 0 ≡ 3 + length old = ap (λ (xs : List ℕ). get_or xs 1 0) is.parts in
    let more : length (entries (recording.recorded ++ title ∷ [])) ≡ length old + (1 + length title) =
    ap length (entries-append recording.recorded (title ∷ [])) ∙ length-append old (entries (title ∷ [])) ∙ omega (arith, ap length (append-nil (field title))) in
    let whole : length value ≡ 2 + (length old + length recording.space) = ap length is.parts ∙ omega (arith, length-append old recording.space) in
    let left : length (drop (1 + length title) recording.space) ≡ length recording.space - (1 + length title) = length-drop (1 + length title) recording.space in
    let total : length (recorded_at value position title) ≡ length value =
    ap length same ∙ omega (arith, length-append (entries (recording.recorded ++ title ∷ [])) (drop (1 + length title) recording.space), more, whole, left, offset, at_offset, within) in
    open_or_ended (recorded_at value position title) now is.kind (All-append IsAddress recording.recorded (title ∷ []) is.titles (All-cons IsAddress title [] is_title (All-nil IsAddress)))
    same (omega (arith, total, is.short)) (omega (arith, more, offset, at_offset, within, is.short))

pub recorded_valid : (value title : List ℕ) (position : ℕ) → IsRecording value → (get_or value 1 0 ≡ 255 → ⊥) → 0 < length title → length title ≤ 20 → position ≡ get_or value 1 0 - 1
    → position + (length title + 1) ≤ length value → IsRecording (recorded_at value position title)
recorded_valid value title position (inl going) other least most at_offset within =
    open_valid value title position going.0 going.1 (record { some = least; most = most }) at_offset within
recorded_valid value title position (inr ended) other least most at_offset within =
    absurd (other (ap (λ (xs : List ℕ). get_or xs 1 0) ended.2.parts))

-- ---- a route on its way

some_first : (titles : List (List ℕ)) → 0 < length titles → slice_get titles 0 ≡ None → ⊥
some_first [] some none = omega arith
some_first (title ∷ titles) some none = absurd cc

first_some : (titles : List (List ℕ)) (title : List ℕ) → Some title ≡ slice_get titles 0 → 0 < length titles
first_some [] title first = absurd cc
first_some (x ∷ titles) title first = omega arith

pub way_iff : (value : List ℕ) (hop : Option (List ℕ)) → HasSourceRoute value → ((route : SourceRoute) → IsSourceRoute value route → hop ≡ slice_get route.ahead 0)
    → IsSome hop ↔ IsOnTheWay value
way_iff value None route first = (λ some. absurd (false≢true some), λ way. absurd (some_first way.0.ahead way.2 (sym (first way.0 way.1))))
way_iff value (Some title) route first = (λ some. (route.0, route.1, first_some route.0.ahead title (first route.0 route.1)), λ way. refl)
