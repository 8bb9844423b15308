-- What happens in a network at once: a user calls an end, or asks for a new one, an entity hears what waits first, an end ticks, or none of an entity is due; and what is kept by all of these.
use Rattle.std.specs.Prelude.{◌≡◌, ℕ, ◌+◌, true, List, [], ◌∷◌, ◌++◌, length, Option, Some, None}
use Rattle.std.specs.List.{AllByRecursion}
use Rattle.osi_base.specs.Calls.{Call, Keeps}
use Rattle.osi_base.specs.Link.{Link}
use Rattle.osi_base.specs.declared.unit.Unit.{Unit as CarriedUnit}
use Rattle.script_journal.specs.declared.event.Event.{Event as JournalEvent}
use Rattle.script_journal.specs.declared.event.Event.TheVariants as events
use Rattle.net_world.specs.Fifo.{IsFifo}
use Rattle.tp4_number.specs.Number.{whole}
use Rattle.tp4_conn.specs.Calls.{IsCall, call_refusal}
use Rattle.tp4_conn.specs.End.{End, Moved, end_of}
use Rattle.tp4_conn.specs.Proper.{IsProper}
use Rattle.tp4_conn.specs.Table.{Called, Event, Ticked, due, stepped}
use Rattle.tp4_conn.specs.declared.call.ConnectRequest.{ConnectRequest}
use Rattle.tp4_conn.specs.declared.call.UserCall.{UserCall}
use Rattle.tp4_conn.specs.declared.timers.Timers.{Timers}
use Rattle.tp4_entity.specs.Entity.{Entity, at, end_at, with_end}
use Rattle.tp4_entity.specs.References.{least_free}
use Rattle.tp4_entity.specs.Step.{connecting, is_due, kept_end}
use Rattle.law_tp4_history.specs.Journals.{IsAside}
use Rattle.law_tp4_history.specs.Tracks.{Whole}
use Rattle.law_tp4_proper.specs.Rest.{AreProper}
use Rattle.law_tp4_pair.specs.Claim.{IsUndropped}
use Rattle.tp4_world.specs.Run.{Settles, Ticks}
use Rattle.tp4_world.specs.Telling.{connect_event, ends_after, events_after}
use Rattle.tp4_world.specs.World.{World, entity_at, latest, with_entity}
use Rattle.law_tp4_lawful.proofs.Acting.{first_of}
use Rattle.law_tp4_lawful.proofs.Worlds.{Explains, Rests}
use Rattle.law_tp4_associations.proofs.EndedWorlds.{IsFitWorld}
use Rattle.law_calm_run.proofs.Hall.{AreWaiting, Hall, Post, posted}
use Rattle.law_recovery_run.proofs.Coming.{StandsSo, TellsNoUnits}
use Rattle.law_recovery_run.proofs.Delivering.{HasActed}

-- the entities and the ends that were made are the same
pub record AreSame {C : Type 0} (old new : World C) : Type 0 where
  pub entities : new.entities ≡ old.entities
  pub ends : new.ends ≡ old.ends

-- the network changed so, with these lines, and these TPDUs waited and wait
module _ {C : Type 0} (link : C → Link (List ℕ)) (old new : World C) (made : List JournalEvent) (posts later : List Post) where
  -- An end that stands does this row, and its place holds this then. The lines are those of its event, those of the row, and some that tell no unit
  pub record EndDoes (number : ℕ) (event : Event) (place : Moved → Option End) : Type 0 where
    pub system : ℕ
    pub entity : Entity
    pub there : entity_at old.entities system ≡ Some entity
    pub reference : ℕ
    pub end : End
    pub stands : end_at entity reference ≡ Some end
    pub aside : List JournalEvent
    pub is_aside : IsAside aside
    pub entities : new.entities ≡ with_entity old.entities system (with_end (at (link old.carrier).clock entity) reference (place (stepped whole (link old.carrier).clock end event)))
    pub ends : new.ends ≡ ends_after old.ends system (stepped whole (link old.carrier).clock end event).events
    pub clock : (link new.carrier).clock ≡ (link old.carrier).clock
    pub made_is : made ≡ first_of number event ++ (events_after old.ends system entity.own (stepped whole (link old.carrier).clock end event).events ++ aside)
    pub later_is : later ≡ posts ++ posted system (stepped whole (link old.carrier).clock end event).tpdus

  -- an end takes a call of its user
  pub record Asks : Type 0 where
    pub number : ℕ
    pub call : UserCall
    pub does : EndDoes number (Called call) (λ (m : Moved). Some (end_of m))
    pub number_is : latest old.ends does.system does.reference ≡ number
    pub allowed : call_refusal does.end.base does.end.stage call ≡ None
    pub proper : IsCall call

  -- an end that is due ticks
  pub record EndTicks : Type 0 where
    pub does : EndDoes 0 Ticked (λ (m : Moved). kept_end m (due m.base m.stage))
    pub is_due_now : is_due (link old.carrier).clock (Some does.end) ≡ true
    pub proper : IsProper does.end.base does.end.stage

  -- a user of a system asks for a connection, and a new end is made
  pub record Begins : Type 0 where
    pub system : ℕ
    pub entity : Entity
    pub there : entity_at old.entities system ≡ Some entity
    pub request : ConnectRequest
    pub reference : ℕ
    pub free : least_free (link old.carrier).clock entity ≡ Some reference
    pub aside : List JournalEvent
    pub is_aside : IsAside aside
    pub entities : new.entities ≡ with_entity old.entities system (connecting (link old.carrier).clock entity reference request).entity
    pub ends : new.ends ≡ old.ends ++ record { system = system; reference = reference } ∷ []
    pub clock : (link new.carrier).clock ≡ (link old.carrier).clock
    pub made_is : made ≡ connect_event (length old.ends + 1) system reference entity.own request ∷ aside
    pub later_is : later ≡ posts ++ posted system (connecting (link old.carrier).clock entity reference request).tpdus

  -- an entity hears what waits first
  pub record HearsFirst : Type 0 where
    pub fit : IsFitWorld link old
    pub post : Post
    pub rest : List Post
    pub posts_are : posts ≡ post ∷ rest
    pub acts : HasActed link old new post made
    pub later_is : later ≡ rest ++ posted acts.system acts.acted.tpdus

  -- no end of an entity is due
  pub record IsOver : Type 0 where
    pub system : ℕ
    pub entity : Entity
    pub there : entity_at old.entities system ≡ Some entity
    pub entities : new.entities ≡ with_entity old.entities system (at (link old.carrier).clock entity)
    pub ends : new.ends ≡ old.ends
    pub clock : (link new.carrier).clock ≡ (link old.carrier).clock
    pub made_is : made ≡ []
    pub later_is : later ≡ posts

-- ---- what is kept, of a network after these lines, in which these TPDUs wait

abbrev pub KeepsStill : {C : Type 0} → (C → Link (List ℕ)) → (List JournalEvent → World C → List Post → Type 0) → Type 0
KeepsStill {C} link P = (late made : List JournalEvent) (old new : World C) (posts : List Post) → AreSame old new → (link new.carrier).clock ≡ (link old.carrier).clock → TellsNoUnits made → P late old posts
    → P (late ++ made) new posts

abbrev pub KeepsHeard : {C : Type 0} → (C → Link (List ℕ)) → List (List ℕ) → Timers → List JournalEvent → (List JournalEvent → World C → List Post → Type 0) → Type 0
KeepsHeard {C} link names timers early P = (w : Whole) (late made : List JournalEvent) (old new : World C) (posts later : List Post) → Explains link names timers w (early ++ late) old
    → HearsFirst link old new made posts later → P late old posts → P (late ++ made) new later

-- What is kept by lines, where nothing waits, and by a settle, where a history explains the network behind the lines `early`. T holds within a tick that began so
pub record IsKept {C : Type 0} (link : C → Link (List ℕ)) (steps : C → Call (List ℕ) → C → Type 0) (law : (old : C) (call : Call (List ℕ)) (new : C) → steps old call new → Keeps (link old) call (link new))
    (titles : List (List ℕ)) (Waits : C → List (CarriedUnit (List ℕ)) → Type 0) (fifo : IsFifo link steps titles Waits) (names : List (List ℕ)) (timers : Timers) (early : List JournalEvent)
    (P : List JournalEvent → World C → List Post → Type 0) (T : List JournalEvent → World C → List JournalEvent → World C → List Post → Type 0) : Type 0 where
  pub still : KeepsStill link P
  pub asks : (w : Whole) (late made : List JournalEvent) (old new : World C) (later : List Post) → Explains link names timers w (early ++ late) old → Asks link old new made [] later → P late old []
      → P (late ++ made) new later
  pub begins : (w : Whole) (late made : List JournalEvent) (old new : World C) (later : List Post) → Explains link names timers w (early ++ late) old → Begins link old new made [] later → P late old []
      → P (late ++ made) new later
  pub settles : (late made : List JournalEvent) (old new : World C) (hall : Hall) (queue : List (CarriedUnit (List ℕ))) → StandsSo link steps law titles Waits fifo old hall queue
      → Rests link AreProper names timers (early ++ late) old → IsFitWorld link old → AllByRecursion IsUndropped made → Settles link steps whole 0 old made new → P late old hall.posts → P (late ++ made) new []
  pub clocks : (w : Whole) (late front more : List JournalEvent) (old mid : World C) → Explains link names timers w (early ++ late) old → AreSame old mid
      → (link mid.carrier).clock ≡ (link old.carrier).clock + 1 → AreWaiting (link old.carrier).clock old.entities → front ≡ events.Tick ((link old.carrier).clock + 1) ∷ more → IsAside front → P late old []
      → T late old (late ++ front) mid []
  pub over : (before : List JournalEvent) (start : World C) (w : Whole) (late made : List JournalEvent) (old new : World C) (posts later : List Post) → Explains link names timers w (early ++ late) old
      → IsOver link old new made posts later → T before start late old posts → T before start (late ++ made) new later
  pub ticks : (before : List JournalEvent) (start : World C) (w : Whole) (late made : List JournalEvent) (old new : World C) (posts later : List Post) → Explains link names timers w (early ++ late) old
      → EndTicks link old new made posts later → T before start late old posts → T before start (late ++ made) new later
  pub ticked : (late made : List JournalEvent) (old new : World C) (posts : List Post) → Ticks link steps whole old made new → T late old (late ++ made) new posts → P (late ++ made) new posts

-- a history explains the network after these lines, nothing waits in it and no end is due; and it is kept
pub record HasReached {C : Type 0} (link : C → Link (List ℕ)) (names : List (List ℕ)) (timers : Timers) (early : List JournalEvent) (P : List JournalEvent → World C → List Post → Type 0)
    (late : List JournalEvent) (last : World C) : Type 0 where
  pub w : Whole
  pub explains : Explains link names timers w (early ++ late) last
  pub fit : IsFitWorld link last
  pub holds : P late last []
  pub waiting : AreWaiting (link last.carrier).clock last.entities
