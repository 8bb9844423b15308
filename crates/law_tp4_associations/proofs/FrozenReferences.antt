-- No row frees a reference, and none takes up one that is free: an end that a row freezes is frozen from now on, and one that is frozen stays so
-- from the tick at which it froze. A tick that takes an end out finds its time over.
use Rattle.std.proofs.Common.{◌≡◌, ℕ, ◌+◌, nat_lt, Bool, true, false, cond, Option, Some, None, refl, sym, ◌∙◌, ap, arith}
use Rattle.std.proofs.lemmas.Bool.{le-ltb}
use Rattle.tp4_sending.specs.SendingHalf.{due_of}
use Rattle.tp4_conn.specs.declared.end_record.EndRecord.{EndRecord}
use Rattle.tp4_conn.specs.declared.states.StateData.{StateData}
use Rattle.tp4_conn.specs.declared.states.StateData.TheVariants as stages
use Rattle.tp4_conn.specs.declared.timers.Timers.{Timers}
use Rattle.tp4_conn.specs.End.{End, Moved, end_of, frozen_for}
use Rattle.tp4_conn.specs.Table.{Event, Ticked, at as at_tick, due, stepped}
use Rattle.tp4_entity.specs.References.{is_free_place, was_frozen}
use Rattle.tp4_entity.specs.Step.{kept_end}
use Rattle.tp4_entity.proofs.Standings.{sooner_some}
use Rattle.law_tp4_rows.specs.Leaving.{FreezesAt, GoesOn}
use Rattle.law_tp4_rows.proofs.Leaving.{row_leaves, ticks_same}

-- ---- the reference

pub not_yet : (now ticks : ℕ) (stage : StateData) → FreezesAt now stage → was_frozen now ticks stage ≡ false
not_yet now ticks (stages.Frozen when) at = le-ltb (when + ticks) now (omega (arith, at))
not_yet now ticks other at = refl

as_before : (now ticks : ℕ) (old new : StateData) → GoesOn now old new → was_frozen now ticks new ≡ was_frozen now ticks old
as_before now ticks (stages.Frozen when) new same = ap (was_frozen now ticks) same
as_before now ticks other new at = not_yet now ticks new at

-- a row that leaves an end so at that tick leaves its reference free or not as it was
leaves_place : (now : ℕ) (end : End) (m : Moved) → m.base.timers ≡ end.base.timers → GoesOn now end.stage m.stage → is_free_place now (Some (end_of m)) ≡ is_free_place now (Some end)
leaves_place now end m timers at = ap (λ (t : Timers). was_frozen now (frozen_for t) m.stage) timers ∙ as_before now (frozen_for end.base.timers) end.stage m.stage at

pub row_place : (wrap : ℕ → ℕ → ℕ) (now : ℕ) (end : End) (event : Event) → is_free_place now (Some (end_of (stepped wrap now end event))) ≡ is_free_place now (Some end)
row_place wrap now end event = let l = row_leaves wrap now end event in leaves_place now end (stepped wrap now end event) l.same.timers l.goes

-- ---- an end that is taken out

pub over : (b : EndRecord) (stage : StateData) → due b stage ≡ None → was_frozen b.clock (frozen_for b.timers) stage ≡ true
over b (stages.Opened o) h = absurd (sooner_some _ (due_of o.halves.sending) h)
over b (stages.Frozen when) h = by_test (nat_lt (when + frozen_for b.timers) b.clock) refl h
  where
    by_test : (test : Bool) → nat_lt (when + frozen_for b.timers) b.clock ≡ test → cond test None (Some (when + frozen_for b.timers + 1)) ≡ None → nat_lt (when + frozen_for b.timers) b.clock ≡ true
    by_test true is h = is
    by_test false is h = absurd (cc h)
over b other h = absurd (cc h)

taken_out : (now : ℕ) (m : Moved) (next : Option ℕ) → m.base.clock ≡ now → due m.base m.stage ≡ next → is_free_place now (kept_end m next) ≡ is_free_place now (Some (end_of m))
taken_out now m None clock is = sym (ap (λ (t : ℕ). was_frozen t (frozen_for m.base.timers) m.stage) (sym clock) ∙ over m.base m.stage is)
taken_out now m (Some tick) clock is = refl

pub tick_place : (wrap : ℕ → ℕ → ℕ) (now : ℕ) (end : End)
    → is_free_place now (kept_end (stepped wrap now end Ticked) (due (stepped wrap now end Ticked).base (stepped wrap now end Ticked).stage)) ≡ is_free_place now (Some end)
tick_place wrap now end =
    let m = stepped wrap now end Ticked in
    taken_out now m (due m.base m.stage) (ap (λ (b : EndRecord). b.clock) (ticks_same (at_tick now end.base) end.stage)) refl ∙ row_place wrap now end Ticked
