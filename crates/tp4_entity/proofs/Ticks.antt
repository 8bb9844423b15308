-- The first place where an end is due ticks, and comes to one where none is: one fewer is due.
use Rattle.std.proofs.Common.{◌≡◌, ℕ, zero, suc, ◌+◌, ◌<◌, ◌∙◌, Bool, true, false, cond, is_some, List, [], ◌∷◌, length, get_or, option_map, slice_get, slice_set, Option, Some, None, ap, refl, sym, subst, arith}
use Rattle.std.specs.List.{count_by, position}
use Rattle.std.proofs.lemmas.List.Quantifiers.{position-Some}
use Rattle.std.proofs.lemmas.List.Sums.{sum_by-cons}
use Rattle.std.proofs.lemmas.Option.{get_or_from_slice_get, slice_get_read}
use Rattle.tp4_flow.specs.Told.{Told}
use Rattle.tp4_number.specs.Number.{wire}
use Rattle.tp4_conn.specs.Living.{IsInTime}
use Rattle.due_links.specs.Ticks.{Pops}
use Rattle.tp4_conn.specs.declared.timers.Timers.{Timers}
use Rattle.tp4_entity.specs.Dues.{AreFrom, AreLater, due_at, dues_of}
use Rattle.tp4_entity.specs.Entity.{Entity, at as now_at}
use Rattle.tp4_entity.specs.Step.{DoesSo, dues, first_due, is_due, ticking, ticking_at}
use Rattle.tp4_entity.specs.steps.Places.{IsBehind, IsEntity, IsPlace, Places, ticks_at}
use Rattle.tp4_entity.proofs.Dues.{before_at, before_in_time, from_set, popped_first, popped_from, popped_not_later, popped_place, popped_set}
use Rattle.tp4_entity.proofs.PlaceLaws.{Place, entity_at, entity_set, nothing_told, place_behind, set_at, some_same, tick_done}

-- a place where one passes comes to one where none does
abbrev weight : (Place → Bool) → Place → ℕ
weight test place = cond (test place) 1 0

one_fewer : (test : Place → Bool) (places : List Place) (at : ℕ) (old new : Place) → slice_get places at ≡ Some old → test old ≡ true → test new ≡ false
    → count_by test (slice_set places at new) + 1 ≡ count_by test places
one_fewer test [] at old new h was is = absurd cc
one_fewer test (one ∷ places) zero old new h was is =
    let after = sum_by-cons (weight test) new places in
    let before = sum_by-cons (weight test) one places in
    let none : weight test new ≡ 0 = ap (λ (b : Bool). cond b 1 0) is in
    let some : weight test one ≡ 1 = ap (λ (b : Bool). cond b 1 0) (ap test (some_same one old h) ∙ was) in
    omega (arith, after, before, none, some)
one_fewer test (one ∷ places) (suc at) old new h was is =
    let rest = one_fewer test places at old new h was is in
    let after = sum_by-cons (weight test) one (slice_set places at new) in
    let before = sum_by-cons (weight test) one places in
    omega (arith, rest, after, before)

-- the first place at which an end was due
fewer_due : (now : ℕ) (places : List Place) (at : ℕ) (old new : Place) → position (is_due now) places ≡ Some at → slice_get places at ≡ Some old → is_due now new ≡ false
    → count_by (is_due now) (slice_set places at new) + 1 ≡ count_by (is_due now) places
fewer_due now places at old new first h later =
    let found = position-Some (is_due now) places at old first in
    let same : get_or places at old ≡ old = get_or_from_slice_get places at old old h in
    one_fewer (is_due now) places at old new h (subst (λ (p : Place). is_due now p ≡ true) same found.1) later

-- ---- an entity that is woken, known by what is inside

-- none is due
pub none_first : (inside old : Entity) (now : ℕ) → inside ≡ now_at now old → position (is_due now) inside.ends ≡ None → first_due now old ≡ None
none_first inside old now same none =
    ap (option_map (λ (n : ℕ). n + 1)) (subst (λ (x : Entity). position (is_due now) x.ends ≡ None) same none)

pub ticks_none : (inside old : Entity) (now : ℕ) (was : Told) → inside ≡ now_at now old → position (is_due now) inside.ends ≡ None → DoesSo (ticking wire now old) inside was was
ticks_none inside old now was same none =
    subst (λ (r : Option ℕ). DoesSo (ticking_at wire now (now_at now old) r) inside was was) (sym (none_first inside old now same none))
    (record { entity_is = same; told = nothing_told was })

-- the place is the first that is due
pub some_first : (inside old : Entity) (now at : ℕ) → inside ≡ now_at now old → position (is_due now) inside.ends ≡ Some at → first_due now old ≡ Some (at + 1)
some_first inside old now at same first =
    ap (option_map (λ (n : ℕ). n + 1)) (subst (λ (x : Entity). position (is_due now) x.ends ≡ Some at) same first)

pub ticks_first : (inside old : Entity) (now at : ℕ) (place new : Place) (was told : Told) → inside ≡ now_at now old → position (is_due now) inside.ends ≡ Some at → slice_get inside.ends at ≡ Some place
    → Places (ticks_at wire now place) new was told → DoesSo (ticking wire now old) (set_at inside at new) was told
ticks_first inside old now at place new was told same first there is =
    subst (λ (r : Option ℕ). DoesSo (ticking_at wire now (now_at now old) r) (set_at inside at new) was told) (sym (some_first inside old now at same first))
    (subst (λ (x : Entity). DoesSo (ticking_at wire now x (Some (at + 1))) (set_at inside at new) was told) same
    (at_clock (ap (λ (x : Entity). x.clock) same)))
  where
    at_clock : inside.clock ≡ now → DoesSo (ticking_at wire now inside (Some (at + 1))) (set_at inside at new) was told
    at_clock clock =
        subst (λ (n : ℕ). DoesSo (ticking_at wire n inside (Some (at + 1))) (set_at inside at new) was told) clock
        (tick_done inside inside at place new was told refl there (subst (λ (n : ℕ). Places (ticks_at wire n place) new was told) (sym clock) is))

pub first_fewer : (inside old : Entity) (now at : ℕ) (place new : Place) → inside ≡ now_at now old → position (is_due now) inside.ends ≡ Some at → slice_get inside.ends at ≡ Some place
    → is_due now new ≡ false → dues now (set_at inside at new) + 1 ≡ dues now old
first_fewer inside old now at place new same first there later =
    subst (λ (x : Entity). dues now (set_at inside at new) + 1 ≡ dues now x) same (fewer_due now inside.ends at place new first there later)

pub first_from : (inside old : Entity) (now at : ℕ) (new : Place) → inside ≡ now_at now old → AreFrom now old.ends → is_due now new ≡ false → AreFrom now (slice_set inside.ends at new)
first_from inside old now at new same from later =
    from_set now at inside.ends new (subst (λ (x : Entity). AreFrom now x.ends) (sym same) from) (before_in_time (due_at new) now (before_at now new later))

-- an end that is due stands there
some_due : (now : ℕ) (place : Place) → is_due now place ≡ true → is_some place ≡ true
some_due now None e = absurd (cc e)
some_due now (Some end) e = refl

-- ---- the same, by what was taken out of the due ticks

pub record Takes (inside old : Entity) (now place : ℕ) (due new : List (Option ℕ)) (there : Place) : Type 0 where
  pub same : inside ≡ now_at now old
  pub from : AreFrom now old.ends
  pub dues_are : due ≡ dues_of inside.ends
  pub pops : Pops due now (Some place) new
  pub read : there ≡ get_or inside.ends place there

module _ (inside old : Entity) (now place : ℕ) (due new : List (Option ℕ)) (there : Place) (t : Takes inside old now place due new there) where
  pub from_inside : AreFrom now inside.ends
  from_inside = subst (λ (x : Entity). AreFrom now x.ends) (sym t.same) t.from

  pub clock_is : inside.clock ≡ now
  clock_is = ap (λ (x : Entity). x.clock) t.same

  pub place_low : place < length inside.ends
  place_low = popped_place now place due new inside.ends t.dues_are t.pops

  pub there_is : slice_get inside.ends place ≡ Some there
  there_is = slice_get_read inside.ends (length inside.ends) place there refl place_low t.read

  pub is_first : position (is_due now) inside.ends ≡ Some place
  is_first = popped_first now place due new inside.ends from_inside t.dues_are t.pops

  pub takes_behind : IsEntity inside → IsBehind now there
  takes_behind is = place_behind inside.timers inside.clock now (place + 1) there (omega (arith, clock_is)) (entity_at inside place there is there_is)

  pub takes_there : is_some there ≡ true
  takes_there =
      let found = position-Some (is_due now) inside.ends place there is_first in
      some_due now there (subst (λ (p : Place). is_due now p ≡ true) (sym t.read) found.1)

  pub takes_from : IsInTime (due_at there) now
  takes_from = popped_from now place there inside.ends from_inside place_low t.read

  pub takes_entity : IsEntity inside → (after : Place) → ((timers : Timers) (reference : ℕ) → IsPlace timers now reference there → IsPlace timers now reference after) → IsEntity (set_at inside place after)
  takes_entity is after kept =
      entity_set inside place (place + 1) after is
      (subst (λ (n : ℕ). IsPlace inside.timers n (place + 1) after) (sym clock_is)
      (kept inside.timers (place + 1) (subst (λ (n : ℕ). IsPlace inside.timers n (place + 1) there) clock_is (entity_at inside place there is there_is)))) refl

  pub takes_dues : (after : Place) (last : List (Option ℕ)) → last ≡ slice_set new place (due_at after) → last ≡ dues_of (slice_set inside.ends place after)
  takes_dues after last is = popped_set now place due new last inside.ends after (due_at after) t.dues_are t.pops is refl

  -- both, as what always holds says them
  pub takes_kept : IsEntity inside → (after : Place) → ((timers : Timers) (reference : ℕ) → IsPlace timers now reference there → IsPlace timers now reference after)
      → (last : List (Option ℕ)) → last ≡ slice_set new place (due_at after) → IsEntity (set_at inside place after) × (last ≡ dues_of (slice_set inside.ends place after))
  takes_kept entity after kept last is = (takes_entity entity after kept, takes_dues after last is)

  pub takes_due : true ≡ is_some (first_due now old)
  takes_due = sym (ap is_some (some_first inside old now place t.same is_first))

  pub takes_step : (after : Place) (was told : Told) → Places (ticks_at wire now there) after was told → DoesSo (ticking wire now old) (set_at inside place after) was told
  takes_step after was told is = ticks_first inside old now place there after was told t.same is_first there_is is

  pub takes_fewer : (after : Place) → is_due now after ≡ false → dues now (set_at inside place after) + 1 ≡ dues now old
  takes_fewer after later = first_fewer inside old now place there after t.same is_first there_is later

  pub takes_on : (after : Place) → is_due now after ≡ false → AreFrom now (slice_set inside.ends place after)
  takes_on after later = first_from inside old now place after t.same t.from later

  pub takes_later : (after : Place) → AreLater now old.ends → AreLater now (slice_set inside.ends place after)
  takes_later after later =
      absurd (popped_not_later now place due new inside.ends t.dues_are t.pops (subst (λ (x : Entity). AreLater now x.ends) (sym t.same) later))
