-- What happens in a network at once: an entity hears what waits first, an end does a row, or a new one is made; and what is kept by each of these.
use Rattle.std.specs.Prelude.{◌≡◌, ℕ, ◌+◌, List, [], ◌++◌, Option, Some, None}
use Rattle.osi_base.specs.Link.{Link}
use Rattle.script_journal.specs.declared.event.Event.{Event as JournalEvent}
use Rattle.tp4_number.specs.Number.{whole}
use Rattle.tp4_conn.specs.End.{End, end_of}
use Rattle.tp4_conn.specs.Living.{IsFit}
use Rattle.tp4_conn.specs.Proper.{IsProperEvent}
use Rattle.tp4_conn.specs.Table.{Event, stepped}
use Rattle.tp4_conn.specs.declared.timers.Timers.{Timers}
use Rattle.tp4_entity.specs.Entity.{Entity, at, end_at, with_end}
use Rattle.law_tp4_history.specs.Tracks.{Whole}
use Rattle.law_tp4_history.specs.Moves.{IsSourced, stop_of}
use Rattle.tp4_world.specs.Telling.{ends_after}
use Rattle.tp4_world.specs.World.{World, entity_at, with_entity}
use Rattle.law_tp4_lawful.proofs.Worlds.{Explains}
use Rattle.law_calm_run.proofs.Hall.{AreWaiting, Post, posted}
use Rattle.law_recovery_run.proofs.Naming.{NamedBy}
use Rattle.law_recovery.proofs.Rows.{IsAlone}
use Rattle.law_recovery.proofs.Deeds.{AreSame, Begins, HearsFirst, IsOver}

module _ {C : Type 0} (link : C → Link (List ℕ)) (old new : World C) (made : List JournalEvent) (posts later : List Post) where
  -- an end that stands does a row, by its user or its timers. Where it is not frozen by it, it stands there still
  pub record DoesRow : Type 0 where
    pub system : ℕ
    pub entity : Entity
    pub there : entity_at old.entities system ≡ Some entity
    pub reference : ℕ
    pub end : End
    pub stands : end_at entity reference ≡ Some end
    pub event : Event
    pub alone : IsAlone event
    pub fit : IsFit end event
    pub sourced : IsSourced 0 event
    pub may : IsProperEvent end event
    pub unnamed : (r : ℕ) → NamedBy event r → ⊥
    pub place : Option End
    pub place_is : (e : End) → place ≡ Some e → e ≡ end_of (stepped whole (link old.carrier).clock end event)
    pub stays : stop_of (stepped whole (link old.carrier).clock end event).stage ≡ None → place ≡ Some (end_of (stepped whole (link old.carrier).clock end event))
    pub entities : new.entities ≡ with_entity old.entities system (with_end (at (link old.carrier).clock entity) reference place)
    pub ends : new.ends ≡ ends_after old.ends system (stepped whole (link old.carrier).clock end event).events
    pub clock : (link new.carrier).clock ≡ (link old.carrier).clock
    pub later_is : later ≡ posts ++ posted system (stepped whole (link old.carrier).clock end event).tpdus

  pub data Deed : Type 0 where
    Row : DoesRow → Deed
    New : Begins link old new made posts later → Deed
    Heard : HearsFirst link old new made posts later → Deed
    Over : IsOver link old new made posts later → Deed

-- what holds of a network in which these TPDUs wait holds after all that happens in it, where a history explains it
pub record IsKept {C : Type 0} (link : C → Link (List ℕ)) (names : List (List ℕ)) (timers : Timers) (P : List JournalEvent → World C → List Post → Type 0) : Type 0 where
  pub still : (journal made : List JournalEvent) (old new : World C) (posts : List Post) → AreSame old new → (link new.carrier).clock ≡ (link old.carrier).clock → P journal old posts → P (journal ++ made) new posts
  pub clocks : (journal made : List JournalEvent) (old new : World C) → AreSame old new → (link new.carrier).clock ≡ (link old.carrier).clock + 1 → AreWaiting (link old.carrier).clock old.entities → P journal old []
      → P (journal ++ made) new []
  pub deed : (w : Whole) (journal made : List JournalEvent) (old new : World C) (posts later : List Post) → Explains link names timers w journal old → Deed link old new made posts later → P journal old posts
      → P (journal ++ made) new later
