-- Which ends of an entity are due: the first one stands at its reference and is due; where there is no first one none is; and an end that ticked is not due again at that tick.
use Rattle.std.proofs.Common.{◌≡◌, ℕ, ◌+◌, ◌-◌, ◌<◌, ◌≤◌, nat_le, nat_lt, Bool, true, false, cond, length, get_or, slice_get, option_map, Option, Some, None, refl, sym, ◌∙◌, ap, arith}
use Rattle.std.specs.List.{position, position_or_len}
use Rattle.std.proofs.lemmas.Bool.{ltb-false}
use Rattle.std.proofs.lemmas.List.Quantifiers.{position-Some}
use Rattle.std.proofs.lemmas.List.Sums.{fails_before_first}
use Rattle.std.proofs.lemmas.Option.{get_or_from_slice_get, slice_get-get_or}
use Rattle.tp4_number.specs.Number.{whole}
use Rattle.tp4_conn.specs.Dues.{IsBefore}
use Rattle.tp4_conn.specs.End.{End}
use Rattle.tp4_conn.specs.Proper.{IsProper}
use Rattle.tp4_conn.specs.Table.{Ticked, at as now_at, due, stepped}
use Rattle.tp4_entity.specs.Entity.{Entity, end_at, there}
use Rattle.tp4_entity.specs.Step.{first_due, is_due, is_due_by, kept_end}
use Rattle.tp4_entity.proofs.PlaceLaws.{end_at_of}
use Rattle.law_tp4_proper.proofs.Rows.{proper_due}
use Rattle.law_tp4_associations.specs.Ticking.{ticked_end}
use Rattle.law_tp4_associations.proofs.Handed.{within_list}
use Rattle.law_tp4_associations.proofs.Meeting.{stands_among}
use Rattle.law_tp4_associations.proofs.Places.{none_not, same_some}

pub record IsDueAt (now : ℕ) (e : Entity) (reference : ℕ) : Type 0 where
  pub end : End
  pub stands : end_at e reference ≡ Some end
  pub due : is_due now (Some end) ≡ true

-- the first end that is due
pub first_is_due : (now : ℕ) (e : Entity) (reference : ℕ) → first_due now e ≡ Some reference → IsDueAt now e reference
first_is_due now e reference is = by (position (is_due now) e.ends) refl is
  where
    on : (place : ℕ) → reference ≡ place + 1 → place < length e.ends → (o : Option End) → get_or e.ends place None ≡ o → is_due now o ≡ true → IsDueAt now e reference
    on place same low None got late = absurd (cc late)
    on place same low (Some end) got late = record { end = end; stands = end_at_of e reference place same ∙ ap there (slice_get-get_or e.ends place None low) ∙ got; due = late }

    by : (o : Option ℕ) → position (is_due now) e.ends ≡ o → option_map (λ place. place + 1) o ≡ Some reference → IsDueAt now e reference
    by None found e = none_not reference e
    by (Some place) found same =
        let first = position-Some (is_due now) e.ends place None found in
        on place (sym (same_some (place + 1) reference same)) first.0 (get_or e.ends place None) refl first.1

-- none is
pub none_due : (now : ℕ) (e : Entity) (reference : ℕ) (end : End) → first_due now e ≡ None → end_at e reference ≡ Some end → is_due now (Some end) ≡ false
none_due now e reference end none stands = by (nat_lt (position_or_len (is_due now) e.ends) (length e.ends)) refl none
  where
    by : (b : Bool) → nat_lt (position_or_len (is_due now) e.ends) (length e.ends) ≡ b → option_map (λ place. place + 1) (cond b (Some (position_or_len (is_due now) e.ends)) None) ≡ None → is_due now (Some end) ≡ false
    by true within e = absurd (cc e)
    by false within same =
        let past : length e.ends ≤ position_or_len (is_due now) e.ends = ltb-false (position_or_len (is_due now) e.ends) (length e.ends) within in
        let place_is : slice_get e.ends (reference - 1) ≡ Some (Some end) = stands_among e reference end stands in
        let low : reference - 1 < length e.ends = within_list e.ends (reference - 1) (Some end) place_is in
        ap (is_due now) (sym (get_or_from_slice_get e.ends (reference - 1) (Some end) None place_is)) ∙ fails_before_first (is_due now) e.ends (reference - 1) None (omega (arith, past, low))

-- an end that ticked is due later, or no more
ticked_quiet : (now : ℕ) (end : End) → IsProper end.base end.stage → is_due now (ticked_end true now (Some end)) ≡ false
ticked_quiet now end p =
    by (due (stepped whole now end Ticked).base (stepped whole now end Ticked).stage) refl
    (proper_due (now_at now end.base) end.stage (record { timers = p.timers; calling = p.calling; called = p.called; size = p.size; state = p.state })).after
  where
    early : (tick : ℕ) → now < tick → nat_le tick now ≡ false
    early tick low = grind arith

    by : (o : Option ℕ) → due (stepped whole now end Ticked).base (stepped whole now end Ticked).stage ≡ o → IsBefore o now → is_due now (kept_end (stepped whole now end Ticked) o) ≡ false
    by None is before = refl
    by (Some tick) is before = ap (λ (o : Option ℕ). is_due_by now o) is ∙ early tick before

pub ticked_not_due : (now : ℕ) (old : Option End) → ((was : End) → old ≡ Some was → IsProper was.base was.stage) → is_due now (ticked_end true now old) ≡ false
ticked_not_due now None proper = refl
ticked_not_due now (Some was) proper = ticked_quiet now was (proper was refl)
