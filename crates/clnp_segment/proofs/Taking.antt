-- What a segment comes to: each answer with what is held after it, from what the segment does to what is held of its unit.
use Rattle.std.proofs.Common.{◌≡◌, ◌⊎◌, ℕ, ◌+◌, ◌-◌, ◌<◌, ◌≤◌, max, get_or, List, [], ◌∷◌, ◌++◌, drop, length, slice_get, slice_set, take, Option, Some, None, refl, sym, ◌∙◌, ap, subst, arith, inl, inr}
use Rattle.std.specs.List.{remove, position}
use Rattle.std.proofs.lemmas.List.{append-nil, length-replicate}
use Rattle.osi_base.proofs.Firsts.{none_there}
use Rattle.clnp_segment.specs.Joining.{Clash, Held, IsUnit, Segment, filled_places, nothing_of}
use Rattle.clnp_segment.specs.Store.{At, Coming, HasPlaces, Holding, IsWithin, Partial, Takes, TakesAt, has_key, key_of, octets_held, partial_with}
use Rattle.clnp_segment.specs.steps.Places.{Judges, with_segment}
use Rattle.clnp_segment.specs.declared.held.Verdict.TheVariants as verdict
use Rattle.clnp_segment.specs.declared.store.Joined.{Joined}
use Rattle.clnp_segment.specs.declared.store.Joined.TheVariants as joined
use Rattle.clnp_segment.proofs.Slots.{none_filled}
use Rattle.clnp_segment.proofs.Storing.{added, changed, found_at, parts, same_got, there_at}

at_most : (m n : ℕ) → (m ≤ n) ⊎ (n < m)
at_most m n = grind arith

-- ---- a unit that is held
at_place : (store : Holding) (coming : Coming) (place : ℕ) (unit : Partial) (answer : Joined) (after : Holding) (there : slice_get store.held place ≡ Some unit)
    → TakesAt store store.clock coming (parts store.held place unit there).before (Some unit) (parts store.held place unit there).rest answer after
    → TakesAt store store.clock coming (take place store.held) (slice_get store.held place) (drop (place + 1) store.held) answer after
at_place store coming place unit answer after there h =
    let p = parts store.held place unit there in
    subst (λ (us : List Partial). TakesAt store store.clock coming (take place store.held) (slice_get store.held place) us answer after) (sym p.back)
    (subst (λ (us : List Partial). TakesAt store store.clock coming us (slice_get store.held place) p.rest answer after) (sym p.front)
    (subst (λ (u : Option Partial). TakesAt store store.clock coming p.before u p.rest answer after) (sym there) h))

pub more_clash : (store : Holding) (coming : Coming) (place : ℕ) (unit : Partial) (segment : Segment) (after : Holding) → slice_get store.held place ≡ Some unit
    → segment ≡ coming.segment → Judges unit.held segment verdict.Clash → after ≡ record store { held = remove store.held place }
    → TakesAt store store.clock coming (take place store.held) (slice_get store.held place) (drop (place + 1) store.held) joined.Interference after
more_clash store coming place unit segment after there same judged is =
    let p = parts store.held place unit there in
    at_place store coming place unit joined.Interference after there
    (subst (λ (s : Segment). Clash unit.held s) same judged, is ∙ ap (λ (us : List Partial). record store { held = us }) p.out)

pub more_whole : (store : Holding) (coming : Coming) (place : ℕ) (unit : Partial) (segment : Segment) (octets : List ℕ) (after : Holding) → slice_get store.held place ≡ Some unit
    → segment ≡ coming.segment → Judges unit.held segment verdict.Whole → IsUnit (with_segment unit.held segment) octets → after ≡ record store { held = remove store.held place }
    → TakesAt store store.clock coming (take place store.held) (slice_get store.held place) (drop (place + 1) store.held) (joined.Whole octets) after
more_whole store coming place unit segment octets after there same judged whole is =
    let p = parts store.held place unit there in
    let j : Judges unit.held coming.segment verdict.Whole = subst (λ (s : Segment). Judges unit.held s verdict.Whole) same judged in
    at_place store coming place unit (joined.Whole octets) after there
    (with_segment unit.held coming.segment, (j.0, j.1), j.2, subst (λ (s : Segment). IsUnit (with_segment unit.held s) octets) same whole, is ∙ ap (λ (us : List Partial). record store { held = us }) p.out)

pub more_full : (store : Holding) (coming : Coming) (place : ℕ) (unit : Partial) (segment : Segment) (fresh : ℕ) (after : Holding) → slice_get store.held place ≡ Some unit
    → segment ≡ coming.segment → Judges unit.held segment (verdict.Fresh fresh) → store.octets < octets_held store.held + fresh → after ≡ store
    → TakesAt store store.clock coming (take place store.held) (slice_get store.held place) (drop (place + 1) store.held) joined.Full after
more_full store coming place unit segment fresh after there same judged room is =
    let j : Judges unit.held coming.segment (verdict.Fresh fresh) = subst (λ (s : Segment). Judges unit.held s (verdict.Fresh fresh)) same judged in
    at_place store coming place unit joined.Full after there (with_segment unit.held coming.segment, (j.0, j.1), j.2, inr (omega (arith, j.3, room)), is)

pub more_held : (store : Holding) (coming : Coming) (place : ℕ) (unit : Partial) (segment : Segment) (fresh : ℕ) (after : Holding) → slice_get store.held place ≡ Some unit
    → segment ≡ coming.segment → Judges unit.held segment (verdict.Fresh fresh) → octets_held store.held + fresh ≤ store.octets
    → after ≡ record store { held = slice_set store.held place (record unit { held = with_segment unit.held segment; deadline = max unit.deadline (store.clock + coming.left) }) }
    → TakesAt store store.clock coming (take place store.held) (slice_get store.held place) (drop (place + 1) store.held) joined.Held after
more_held store coming place unit segment fresh after there same judged room is =
    let p = parts store.held place unit there in
    let j : Judges unit.held coming.segment (verdict.Fresh fresh) = subst (λ (s : Segment). Judges unit.held s (verdict.Fresh fresh)) same judged in
    let new : Partial = record unit { held = with_segment unit.held coming.segment; deadline = max unit.deadline (store.clock + coming.left) } in
    at_place store coming place unit joined.Held after there (
      with_segment unit.held coming.segment,
      (j.0, j.1),
      j.2,
      λ full. elim full [ inl h ↦ absurd (not_none unit h.0) | inr h ↦ omega (arith, j.3, room, h) ],
      is
          ∙ ap (λ (s : Segment). record store { held = slice_set store.held place (record unit { held = with_segment unit.held s; deadline = max unit.deadline (store.clock + coming.left) }) }) same
          ∙ ap (λ (us : List Partial). record store { held = us }) (p.change new),
    )
  where
    not_none : (unit : Partial) → Some unit ≡ None → ⊥
    not_none unit e = cc e

-- the same of a store that is opened, in which two calls gave the unit
module _ (had old : Holding) (place : ℕ) (unit found new : Partial) (segment : Segment) (fresh left : ℕ) (view : had ≡ old) (low : place < length old.held) (first : unit ≡ get_or had.held place unit)
    (second : found ≡ get_or had.held place found) (judged : Judges unit.held segment (verdict.Fresh fresh)) (room : octets_held had.held + fresh ≤ had.octets)
    (made : new ≡ record found { held = with_segment found.held segment; deadline = max found.deadline (had.clock + left) }) where
  here : (one : Partial) → one ≡ get_or had.held place one → slice_get had.held place ≡ Some one
  here one is = there_at had had place one refl (omega (arith, low, ap (λ (s : Holding). length s.held) view)) is

  judged_there : Judges found.held segment (verdict.Fresh fresh)
  judged_there = subst (λ (u : Partial). Judges u.held segment (verdict.Fresh fresh)) (same_got had.held place unit found (here unit first) (here found second)) judged

  pub more_changed : IsWithin had → IsWithin (record had { held = slice_set had.held place new }) × (octets_held had.held + fresh ≡ octets_held (slice_set had.held place new))
  more_changed within =
      changed had place found new (with_segment found.held segment) (max found.deadline (had.clock + left)) fresh within (here found second) made refl refl judged_there.1.positions judged_there.3 room

  pub more_took : (coming : Coming) → segment ≡ coming.segment → left ≡ coming.left
      → TakesAt old old.clock coming (take place old.held) (slice_get old.held place) (drop (place + 1) old.held) joined.Held (record had { held = slice_set had.held place new })
  more_took coming same left_is =
      subst (λ (s : Holding). TakesAt s s.clock coming (take place s.held) (slice_get s.held place) (drop (place + 1) s.held) joined.Held (record had { held = slice_set had.held place new })) view
      (more_held had coming place found segment fresh _ (here found second) same judged_there room
      (ap (λ (u : Partial). record had { held = slice_set had.held place u })
      (made ∙ ap (λ (n : ℕ). record found { held = with_segment found.held segment; deadline = max found.deadline (had.clock + n) }) left_is)))

-- ---- a unit of which nothing is held
pub first_clash : (store : Holding) (coming : Coming) (held : Held) (segment : Segment) → held ≡ nothing_of coming.segment → segment ≡ coming.segment → Judges held segment verdict.Clash
    → TakesAt store store.clock coming store.held None [] joined.Interference store
first_clash store coming held segment nothing same judged =
    let j : Clash (nothing_of coming.segment) coming.segment = subst (λ (h : Held). Clash h coming.segment) nothing (subst (λ (s : Segment). Clash held s) same judged) in
    (j, ap (λ (us : List Partial). record store { held = us }) (sym (append-nil store.held)))

pub first_whole : (store : Holding) (coming : Coming) (held : Held) (segment : Segment) (octets : List ℕ) → held ≡ nothing_of coming.segment → segment ≡ coming.segment
    → Judges held segment verdict.Whole → IsUnit (with_segment held segment) octets → TakesAt store store.clock coming store.held None [] (joined.Whole octets) store
first_whole store coming held segment octets nothing same judged whole =
    let nothing_held = nothing_of coming.segment in
    let j : Judges nothing_held coming.segment verdict.Whole =
    subst (λ (h : Held). Judges h coming.segment verdict.Whole) nothing (subst (λ (s : Segment). Judges held s verdict.Whole) same judged) in
    let u : IsUnit (with_segment nothing_held coming.segment) octets =
    subst (λ (h : Held). IsUnit (with_segment h coming.segment) octets) nothing (subst (λ (s : Segment). IsUnit (with_segment held s) octets) same whole) in
    (with_segment nothing_held coming.segment, (j.0, j.1), j.2, u, ap (λ (us : List Partial). record store { held = us }) (sym (append-nil store.held)))

pub first_full : (store : Holding) (coming : Coming) (held : Held) (segment : Segment) (fresh : ℕ) → held ≡ nothing_of coming.segment → segment ≡ coming.segment
    → Judges held segment (verdict.Fresh fresh) → ((length store.held < store.units) × (octets_held store.held + fresh ≤ store.octets) → ⊥)
    → TakesAt store store.clock coming store.held None [] joined.Full store
first_full store coming held segment fresh nothing same judged room =
    let nothing_held = nothing_of coming.segment in
    let j : Judges nothing_held coming.segment (verdict.Fresh fresh) =
    subst (λ (h : Held). Judges h coming.segment (verdict.Fresh fresh)) nothing (subst (λ (s : Segment). Judges held s (verdict.Fresh fresh)) same judged) in
    let new = with_segment nothing_held coming.segment in (
      new,
      (j.0, j.1),
      j.2,
      (elim (at_most store.units (length store.held)) [
        | inl h ↦ inl (refl, h)
        | inr h ↦ elim (at_most (octets_held store.held + fresh) store.octets) [ inl k ↦ absurd (room (h, k)) | inr k ↦ inr (omega (arith, k, j.3)) ]
      ]),
      refl,
    )

pub first_held : (store : Holding) (coming : Coming) (unit new : Partial) (segment : Segment) (fresh : ℕ) (after : Holding)
    → unit ≡ partial_with None coming (nothing_of coming.segment) (store.clock + coming.left) → segment ≡ coming.segment
    → Judges unit.held segment (verdict.Fresh fresh) → length store.held < store.units → octets_held store.held + fresh ≤ store.octets
    → new ≡ record unit { held = with_segment unit.held segment; deadline = max unit.deadline (store.clock + coming.left) } → after ≡ record store { held = store.held ++ new ∷ [] }
    → TakesAt store store.clock coming store.held None [] joined.Held after
first_held store coming unit new segment fresh after is same judged units room made after_is =
    let nothing_held = nothing_of coming.segment in
    let j : Judges nothing_held coming.segment (verdict.Fresh fresh) =
    subst (λ (u : Partial). Judges u.held coming.segment (verdict.Fresh fresh)) is (subst (λ (s : Segment). Judges unit.held s (verdict.Fresh fresh)) same judged) in
    let deadline = store.clock + coming.left in
    let max_same : max deadline deadline ≡ deadline = omega arith in (
      with_segment nothing_held coming.segment,
      (j.0, j.1),
      j.2,
      λ full. elim full [ inl h ↦ omega (arith, h.1, units) | inr h ↦ omega (arith, j.3, room, h) ],
      after_is ∙ ap (λ (u : Partial). record store { held = store.held ++ u ∷ [] })
          (made ∙ ap (λ (s : Segment). record unit { held = with_segment unit.held s; deadline = max unit.deadline deadline }) same
          ∙ ap (λ (u : Partial). record u { held = with_segment u.held coming.segment; deadline = max u.deadline deadline }) is
          ∙ ap (λ (n : ℕ). partial_with None coming (with_segment nothing_held coming.segment) n) max_same),
    )

-- ---- the key
pub takes_more : (store : Holding) (now : ℕ) (coming : Coming) (place : ℕ) (answer : Joined) (after : Holding) → position (has_key coming.key) store.held ≡ Some place
    → TakesAt (record store { clock = now }) now coming (take place store.held) (slice_get store.held place) (drop (place + 1) store.held) answer after
    → Takes store now coming answer after
takes_more store now coming place joined.Held after found h =
    record { before = take place store.held; found = slice_get store.held place; rest = drop (place + 1) store.held; at = (found_at coming.key store.held place found).1; takes = h }
takes_more store now coming place other after found h =
    record { before = take place store.held; found = slice_get store.held place; rest = drop (place + 1) store.held; at = (found_at coming.key store.held place found).1; takes = h }

pub takes_first : (store : Holding) (now : ℕ) (coming : Coming) (answer : Joined) (after : Holding) → position (has_key coming.key) store.held ≡ None
    → TakesAt (record store { clock = now }) now coming store.held None [] answer after → Takes store now coming answer after
takes_first store now coming joined.Held after none h =
    record { before = store.held; found = None; rest = []; at = At.New refl refl refl (none_there (has_key coming.key) store.held none); takes = h }
takes_first store now coming other after none h =
    record { before = store.held; found = None; rest = []; at = At.New refl refl refl (none_there (has_key coming.key) store.held none); takes = h }

-- ---- the places of a unit of which nothing is held
pub first_places : (held : Held) (segment : Segment) (new : Held) → held ≡ nothing_of segment → segment.header ≤ segment.total → new.header ≡ held.header → new.total ≡ held.total
    → length new.slots ≡ length held.slots → new.header + length new.slots ≡ new.total
first_places held segment new is fits header total long =
    omega (
      arith,
      fits,
      header,
      total,
      long,
      ap (λ (h : Held). h.header) is,
      ap (λ (h : Held). h.total) is,
      ap (λ (h : Held). length h.slots) is,
      length-replicate {A = Option ℕ} (segment.total - segment.header) None,
    )

pub first_filled : (held : Held) (segment : Segment) → held ≡ nothing_of segment → filled_places held ≡ 0
first_filled held segment is = ap filled_places is ∙ none_filled (segment.total - segment.header)

-- the unit stands behind those that are held, in a store that is opened
module _ (had old : Holding) (coming : Coming) (unit new : Partial) (segment : Segment) (fresh : ℕ) (units : List Partial) (view : had ≡ old)
    (is : unit ≡ partial_with None coming (nothing_of coming.segment) (had.clock + coming.left)) (judged : Judges unit.held segment (verdict.Fresh fresh))
    (made : new ≡ record unit { held = with_segment unit.held segment; deadline = max unit.deadline (had.clock + coming.left) })
    (room : (length old.held < old.units) × (octets_held old.held + fresh ≤ old.octets)) (after : units ≡ had.held ++ new ∷ []) where
  had_room : (length had.held < had.units) × (octets_held had.held + fresh ≤ had.octets)
  had_room = subst (λ (s : Holding). (length s.held < s.units) × (octets_held s.held + fresh ≤ s.octets)) (sym view) room

  pub first_added : IsWithin had → position (has_key coming.key) old.held ≡ None → coming.segment.header ≤ coming.segment.total
      → IsWithin (record had { held = units }) × (octets_held had.held + fresh ≡ octets_held units)
  first_added within none fits =
      let held : unit.held ≡ nothing_of coming.segment = ap (λ (u : Partial). u.held) is in
      let places : HasPlaces new = subst HasPlaces (sym made) (first_places unit.held coming.segment (with_segment unit.held segment) held fits refl refl judged.1.positions) in
      let filled : filled_places new.held ≡ fresh = ap (λ (u : Partial). filled_places u.held) made ∙ omega (arith, judged.3, first_filled unit.held coming.segment held) in
      added had coming.key new units fresh within (ap (λ (s : Holding). position (has_key coming.key) s.held) view ∙ none) after (ap key_of made ∙ ap key_of is) places had_room.0 filled had_room.1

  pub first_took : segment ≡ coming.segment → TakesAt old old.clock coming old.held None [] joined.Held (record had { held = units })
  first_took same =
      subst (λ (s : Holding). TakesAt s s.clock coming s.held None [] joined.Held (record had { held = units })) view
      (first_held had coming unit new segment fresh (record had { held = units }) is same judged had_room.0 had_room.1 made (ap (λ (us : List Partial). record had { held = us }) after))
