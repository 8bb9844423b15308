-- A history that explains a running network, as `law_tp4_lawful` has it, and what its ends keep; each CR and CC that is offered gives the credit of the timers (X.224,
-- class 4 procedures).
use Rattle.std.specs.Prelude.{◌≡◌, ◌⊎◌, ℕ, ◌+◌, List, Some}
use Rattle.tp4_flow.specs.declared.step.Sent.{Sent}
use Rattle.tp4_conn.specs.End.{End}
use Rattle.tp4_conn.specs.declared.states.StateData.{StateData}
use Rattle.tp4_conn.specs.declared.states.StateData.TheVariants.{Opened}
use Rattle.tp4_conn.specs.declared.timers.Timers.{Timers}
use Rattle.law_tp4_rows.specs.Giving.{GivesCredit}
use Rattle.law_recovery_ends.specs.Knowing.{IsFreshView}
use Rattle.tp4_entity.specs.Entity.{Entity, end_at}
use Rattle.script_journal.specs.Partner.{ArePartners}
use Rattle.script_journal.specs.declared.event.Event.{Event}
use Rattle.law_tp4_history.specs.History.{History}
use Rattle.law_tp4_history.specs.Tracks.{Whole}
use Rattle.tp4_world.specs.World.{entity_at, latest}
use Rattle.tp4_world.specs.declared.place.EndAt.{EndAt}
use Rattle.tp4_world.specs.declared.place.Placed.{Placed}
use Rattle.law_tp4_lawful.proofs.Known as lawful
use Rattle.law_recovery_world.specs.Lines.{IsOfferedView}
use Rattle.law_recovery_world.specs.Steady.{AreShort, AreSteady, StageTells}

-- the sending half of an Opened end knows what it began with, or what its partner by the journal offered
abbrev pub StageSees : ℕ → Whole → List Event → ℕ → StateData → Type 0
StageSees credit w journal y (Opened o) = IsFreshView credit o.halves.sending ⊎ ((z : ℕ) × ArePartners journal (z + 1) y × IsOfferedView w z o.halves.sending)
StageSees credit w journal y stage = Unit {0}

-- and what an end noted as held was told
abbrev pub StageHas : ℕ → Whole → List Event → ℕ → StateData → Type 0
StageHas credit w journal y stage = StageSees credit w journal y stage × StageTells journal y stage

abbrev pub HasSeeingEnds : ℕ → Whole → List Event → List EndAt → ℕ → Entity → Type 0
HasSeeingEnds credit w journal ends system entity = (reference : ℕ) (e : End) → end_at entity reference ≡ Some e → StageHas credit w journal (latest ends system reference) e.stage

abbrev pub AreSeeing : ℕ → Whole → List Event → List Placed → List EndAt → Type 0
AreSeeing credit w journal entities ends = (system : ℕ) (entity : Entity) → entity_at entities system ≡ Some entity → HasSeeingEnds credit w journal ends system entity

-- the history explains the entities, their ends are steady, and what was submitted is short
pub record Known (titles : List (List ℕ)) (timers : Timers) (w : Whole) (journal : List Event) (entities : List Placed) (ends : List EndAt) : Type 0 where
  pub plain : lawful.Known titles timers w journal entities ends
  pub steady : AreSteady timers.credit w.base.clock entities
  pub seeing : AreSeeing timers.credit w journal entities ends
  pub short : AreShort journal

-- a TPDU was offered; a CR or a CC gives the credit
pub record IsOffered (timers : Timers) (h : History) (tick : ℕ) (own : List ℕ) (sent : Sent) : Type 0 where
  pub plain : lawful.IsOffered h tick own sent
  pub gives : GivesCredit timers.credit sent.tpdu
