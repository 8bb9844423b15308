-- The due end of least reference ticks, and is due later or taken out: one fewer is due.
use Rattle.std.proofs.Common.{◌≡◌, ℕ, ◌+◌, ◌-◌, true, false, get_or, slice_get, slice_set, option_map, Option, Some, None, refl, ap, subst, ◌∙◌, arith}
use Rattle.std.specs.List.{position}
use Rattle.std.proofs.lemmas.List.Quantifiers.{position-Some}
use Rattle.std.proofs.lemmas.Option.{none-some, slice_get-get_or}
use Rattle.tp4_conn.specs.End.{End, Moved}
use Rattle.tp4_conn.specs.Table.{Ticked, due, stepped}
use Rattle.tp4_entity.specs.Entity.{Entity, at, end_at, there}
use Rattle.tp4_entity.specs.Step.{dues, first_due, is_due, kept_end, ticking, ticking_at, ticking_end}
use Rattle.tp4_entity.proofs.PlaceLaws.{Place, end_at_of, set_at}
use Rattle.tp4_entity.proofs.Ticks.{first_fewer}
use Rattle.law_tp4_proper.specs.Rest.{AreProper}
use Rattle.law_tp4_proper.proofs.Ends.{kept_later}
use Rattle.law_tp4_proper.proofs.Rows.{ticked_later}

-- a place where an end is due
record IsDueAt (now : ℕ) (e : Entity) (place : ℕ) : Type 0 where
  end : End
  get : slice_get e.ends place ≡ Some (Some end)

due_place : (now : ℕ) (place : Place) → is_due now place ≡ true → (end : End) × (place ≡ Some end)
due_place now None h = absurd cc
due_place now (Some end) h = (end, refl)

due_at : (now : ℕ) (e : Entity) (place : ℕ) → position (is_due now) e.ends ≡ Some place → IsDueAt now e place
due_at now e place h =
    let found = position-Some (is_due now) e.ends place None h in
    let is = due_place now (get_or e.ends place None) found.1 in
    record { end = is.0; get = slice_get-get_or e.ends place None found.0 ∙ ap (λ (p : Place). Some p) is.1 }

tick_fewer : (wrap : ℕ → ℕ → ℕ) (now : ℕ) (e : Entity) (place : ℕ) → e.clock ≡ now → AreProper e → position (is_due now) e.ends ≡ Some place
    → dues now (ticking_end wrap now e (place + 1) (end_at e (place + 1))).entity + 1 ≡ dues now e
tick_fewer wrap now e place clock p h =
    let d = due_at now e place h in
    let stands : end_at e (place + 1) ≡ Some d.end = end_at_of e (place + 1) place refl ∙ ap there d.get in
    let m : Moved = stepped wrap now d.end Ticked in
    let new : Place = kept_end m (due m.base m.stage) in
    let later : is_due now new ≡ false = kept_later now m (due m.base m.stage) (ticked_later wrap now d.end (p.ends (place + 1) d.end stands).proper) in
    let back : place + 1 - 1 ≡ place = omega arith in
    let fewer : dues now (set_at e place new) + 1 ≡ dues now e =
    first_fewer e e now place (Some d.end) new (ap (λ (n : ℕ). at n e) clock) h d.get later in
    ap (λ (x : Place). dues now (ticking_end wrap now e (place + 1) x).entity + 1) stands
    ∙ ap (λ (n : ℕ). dues now (record e { ends = slice_set e.ends n new }) + 1) back
    ∙ fewer

fewer_at : (wrap : ℕ → ℕ → ℕ) (now reference : ℕ) (e : Entity) (found : Option ℕ) → e.clock ≡ now → AreProper e → position (is_due now) e.ends ≡ found
    → option_map (λ (place : ℕ). place + 1) found ≡ Some reference → dues now (ticking_at wrap now e (option_map (λ (place : ℕ). place + 1) found)).entity + 1 ≡ dues now e
fewer_at wrap now reference e None clock p is h = absurd (none-some _ h)
fewer_at wrap now reference e (Some place) clock p is h = tick_fewer wrap now e place clock p is

pub ticking_fewer : (wrap : ℕ → ℕ → ℕ) (now reference : ℕ) (e : Entity) → AreProper e → first_due now e ≡ Some reference → dues now (ticking wrap now e).entity + 1 ≡ dues now e
ticking_fewer wrap now reference e p h =
    fewer_at wrap now reference (at now e) (position (is_due now) e.ends) refl (record { timers = p.timers; inactive = p.inactive; ends = p.ends }) refl h
