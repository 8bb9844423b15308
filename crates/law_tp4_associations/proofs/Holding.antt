-- An end whose reference is not free keeps it over a row: a row that freezes it does so at that tick.
use Rattle.std.proofs.Common.{◌≡◌, ℕ, ◌+◌, false, nat_lt, sym, ◌∙◌, ap, subst, arith}
use Rattle.tp4_number.specs.Number.{whole}
use Rattle.tp4_conn.specs.declared.states.StateData.{StateData}
use Rattle.tp4_conn.specs.declared.states.StateData.TheVariants.{Frozen}
use Rattle.tp4_conn.specs.declared.timers.Timers.{Timers}
use Rattle.tp4_conn.specs.End.{End, end_of, frozen_for}
use Rattle.tp4_conn.specs.Table.{Event, stepped}
use Rattle.tp4_entity.specs.References.{was_frozen}
use Rattle.law_tp4_rows.specs.Leaving.{GoesOn}
use Rattle.law_tp4_rows.proofs.Leaving.{row_leaves}
use Rattle.law_tp4_associations.specs.Phase.{IsInUse}
use Rattle.law_tp4_associations.proofs.FrozenReferences.{not_yet}

pub not_late : (now ticks : ℕ) → nat_lt (now + ticks) now ≡ false
not_late now ticks = grind arith

holds : (now ticks : ℕ) (old new : StateData) → GoesOn now old new → was_frozen now ticks old ≡ false → was_frozen now ticks new ≡ false
holds now ticks (Frozen when) new same held = ap (was_frozen now ticks) same ∙ held
holds now ticks other new goes held = not_yet now ticks new goes

pub held_on : (now : ℕ) (e : End) (event : Event) → IsInUse now e → IsInUse now (end_of (stepped whole now e event))
held_on now e event held =
    let l = row_leaves whole now e event in
    subst (λ (t : Timers). was_frozen now (frozen_for t) (stepped whole now e event).stage ≡ false) (sym l.same.timers)
    (holds now (frozen_for e.base.timers) e.stage (stepped whole now e event).stage l.goes held)

-- an end that is not frozen
pub held_so : (now : ℕ) (e : End) (stage : StateData) → e.stage ≡ stage → was_frozen now (frozen_for e.base.timers) stage ≡ false → IsInUse now e
held_so now e stage is held = subst (λ (s : StateData). was_frozen now (frozen_for e.base.timers) s ≡ false) (sym is) held
