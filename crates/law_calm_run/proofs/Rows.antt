-- What a row of an end leaves as it is: its reference, also in its halves; and of that reference is all that it tells of the end.
use Rattle.std.proofs.Common.{◌≡◌, ℕ, refl, sym, subst}
use Rattle.tp4_number.specs.Number.{whole}
use Rattle.tp4_conn.specs.declared.end_record.EndRecord.{EndRecord}
use Rattle.tp4_conn.specs.declared.states.StateData.{StateData}
use Rattle.tp4_conn.specs.declared.states.StateData.TheVariants as stages
use Rattle.tp4_conn.specs.End.{End, end_of}
use Rattle.tp4_conn.specs.Table.{Event, stepped}
use Rattle.law_tp4_lawful.proofs.ActsRows.{AreTold, IsRowOf, row_of}
use Rattle.law_tp4_lawful.specs.Own.{IsStageOf}
use Rattle.law_calm_run.proofs.Story.{AreOwn, AreOwnIn}

-- so are the halves of an end by itself
to_stage : (b : EndRecord) (stage : StateData) → AreOwnIn b stage → IsStageOf b.own stage
to_stage b (stages.AkWait w) own = own
to_stage b (stages.Opened o) own = own
to_stage b stage own = tt

from_stage : (b : EndRecord) (stage : StateData) → IsStageOf b.own stage → AreOwnIn b stage
from_stage b (stages.AkWait w) own = own
from_stage b (stages.Opened o) own = own
from_stage b stage own = tt

-- a step keeps the reference, and what is of it
row : (now : ℕ) (e : End) (event : Event) → AreOwn e → IsRowOf e.base.own (stepped whole now e event)
row now e event own = row_of whole now e.base.own e event (refl, to_stage e.base e.stage own)

pub row_same : (now : ℕ) (e : End) (event : Event) → AreOwn e → (stepped whole now e event).base.own ≡ e.base.own
row_same now e event own = (row now e event own).base

pub row_own : (now : ℕ) (e : End) (event : Event) → AreOwn e → AreOwn (end_of (stepped whole now e event))
row_own now e event own =
    let r = row now e event own in
    from_stage (stepped whole now e event).base (stepped whole now e event).stage (subst (λ (n : ℕ). IsStageOf n (stepped whole now e event).stage) (sym r.base) r.stage)

pub row_told : (now : ℕ) (e : End) (event : Event) → AreOwn e → AreTold e.base.own (stepped whole now e event).events
row_told now e event own = (row now e event own).told
