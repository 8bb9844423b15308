-- What is known along the calls of a running network, beside a history that explains it: for whatever more is known of its ends, and of each TPDU that is offered
-- (X.224, class 4 procedures).
use Rattle.std.specs.Prelude.{◌≡◌, ◌≤◌, ◌+◌, ◌==◌, ℕ, true, false, List, [], ◌∷◌, Some, None, Contains, ◌++◌, length}
use Rattle.std.specs.List.{AllByRecursion}
use Rattle.osi_base.specs.declared.unit.Unit.{Unit as CarriedUnit}
use Rattle.osi_base.specs.declared.unit.Up.{Up}
use Rattle.osi_base.specs.declared.unit.Up.TheVariants.{Unit as Came, Note as Noted}
use Rattle.osi_base.specs.Link.{Link}
use Rattle.nsap.specs.Address.{selector_of}
use Rattle.tpdu.specs.Values.{TpduAndSum}
use Rattle.tpdu.specs.Writing.{IsWritten}
use Rattle.tp4_number.specs.Number.{whole}
use Rattle.tp4_flow.specs.declared.step.Sent.{Sent}
use Rattle.tp4_conn.specs.Calls.{IsCall}
use Rattle.tp4_conn.specs.End.{IsTimed}
use Rattle.tp4_conn.specs.Proper.{IsProperCall}
use Rattle.tp4_conn.specs.declared.call.ConnectRequest.{ConnectRequest}
use Rattle.tp4_conn.specs.declared.call.UserCall.{UserCall}
use Rattle.tp4_conn.specs.declared.timers.Timers.{Timers}
use Rattle.tp4_entity.specs.Association.{met}
use Rattle.tp4_entity.specs.Entity.{Entity, at, Acted}
use Rattle.tp4_entity.specs.References.{least_free}
use Rattle.tp4_entity.specs.Silence.{is_silent}
use Rattle.tp4_entity.specs.Step.{call_of, calling, connecting, first_due, ticking, user_refusal, restarted}
use Rattle.script_journal.specs.declared.event.Event.{Event}
use Rattle.script_journal.specs.declared.event.Event.TheVariants as events
use Rattle.law_tp4_history.specs.History.{History, Note, Tick, Restart}
use Rattle.law_tp4_history.specs.Tracks.{Whole, Nothing, onward}
use Rattle.law_tp4_history.specs.Journals.{IsAside}
use Rattle.law_tp4_history.specs.Ends.{Offer}
use Rattle.law_tp4_history.specs.Moves.{times_of}
use Rattle.tp4_world.specs.World.{World, entity_at, end_numbered, with_entity}
use Rattle.tp4_world.specs.declared.place.Placed.{Placed}
use Rattle.tp4_world.specs.Telling.{call_events, connect_event, ends_after, events_after}
use Rattle.tp4_world.specs.Ended.{has_ended}
use Rattle.tp4_world.specs.declared.place.EndAt.{EndAt}
use Rattle.law_tp4_lawful.proofs.Known.{IsOffered, Known, AreIdle, GoesOn, IsReadAs}

-- what is known of the entities and ends of a network, by a history and its journal
abbrev pub Knowing : Type 1
Knowing = Whole → List Event → List Placed → List EndAt → Type 0

-- what is known of a TPDU that was sent from an address at a tick
abbrev pub Offering : Type 1
Offering = History → ℕ → List ℕ → Sent → Type 0

-- it stays where no offer is taken away
abbrev pub Grows : Offering → Type 0
Grows Offered = (old new : History) (tick : ℕ) (own : List ℕ) (sent : Sent) → ((offer : Offer) → Contains old.offers offer → Contains new.offers offer) → Offered old tick own sent → Offered new tick own sent

-- what is known is at least that a history explains the ends, and that each TPDU stands among its offers
pub record IsKept (titles : List (List ℕ)) (timers : Timers) (Knows : Knowing) (Offered : Offering) : Type 0 where
  pub known : (w : Whole) (journal : List Event) (entities : List Placed) (ends : List EndAt) → Knows w journal entities ends → Known titles timers w journal entities ends
  -- also once the clock of an entity moved on
  pub clock : (w : Whole) (journal : List Event) (entities : List Placed) (ends : List EndAt) → Knows w journal entities ends → (system : ℕ) (entity : Entity) → entity_at entities system ≡ Some entity
      → Knows w journal (with_entity entities system (at w.base.clock entity)) ends
  pub offered : (h : History) (tick : ℕ) (own : List ℕ) (sent : Sent) → Offered h tick own sent → IsOffered h tick own sent
  pub grows : Grows Offered

-- each entity keeps what it has to, and no end is due
abbrev pub AreAtRest : (Entity → Type 0) → ℕ → List Placed → Type 0
AreAtRest Sound now entities = (system : ℕ) (e : Entity) → entity_at entities system ≡ Some e → Sound e × (first_due now e ≡ None)

-- ---- what floats

module _ (Offered : Offering) where
  abbrev pub AreOffered : History → ℕ → List ℕ → List Sent → Type 0
  AreOffered h tick own [] = Unit {0}
  AreOffered h tick own (sent ∷ tpdus) = Offered h tick own sent × AreOffered h tick own tpdus

  -- the unit is a TPDU that was offered at that tick
  pub record IsBacked (h : History) (tick : ℕ) (unit : CarriedUnit (List ℕ)) : Type 0 where
    pub sent : Sent
    pub offered : Offered h tick unit.from sent
    pub to_is : sent.to ≡ unit.to
    pub written : IsWritten sent.format sent.sum sent.tpdu unit.octets

  -- each unit for transport that floats was offered
  abbrev pub AreBacked : History → List (ℕ × CarriedUnit (List ℕ)) → Type 0
  AreBacked h floating = (entry : ℕ × CarriedUnit (List ℕ)) → Contains floating entry → (selector_of entry.1.to == 1) ≡ true → IsBacked h entry.0 entry.1

  -- a unit for transport that came up was offered, at most the lifetime ago
  pub record HasCome (life : ℕ) (h : History) (unit : CarriedUnit (List ℕ)) : Type 0 where
    pub tick : ℕ
    pub backed : IsBacked h tick unit
    pub live : h.clock ≤ tick + life

  abbrev pub IsExplained : ℕ → History → Up (List ℕ) → Type 0
  IsExplained life h (Noted note) = Unit {0}
  IsExplained life h (Came arrival) = (selector_of arrival.unit.to == 1) ≡ true → HasCome life h arrival.unit

  abbrev pub AreExplained : ℕ → History → List (Up (List ℕ)) → Type 0
  AreExplained life h ups = AllByRecursion (IsExplained life h) ups

  -- what is seen of the carrier, beside the history
  pub record Carries (life : ℕ) (h : History) (link : Link (List ℕ)) : Type 0 where
    pub clock : link.clock ≡ h.clock
    pub quiet : link.waiting ≡ []
    pub honest : link.honest ≡ true
    pub bounds : (to : List ℕ) → link.bound to ≤ life
    pub backed : AreBacked h link.floating

-- ---- what the steps of entities come to, and the network

module _ (timers : Timers) (Knows : Knowing) (Offered : Offering) where
  -- an entity of a system did this, and these events came first: the history goes on, and explains what stands then
  pub record Follows (w : Whole) (journal : List Event) (entities : List Placed) (ends : List EndAt)
      (system : ℕ) (own : List ℕ) (first : List Event) (acted : Acted) : Type 0 where
    pub new : Whole
    pub goes_on : GoesOn w.base new.base
    pub known : Knows new (journal ++ first ++ events_after ends system own acted.events) (with_entity entities system acted.entity)
        (ends_after ends system acted.events)
    pub offered : AreOffered Offered new.base w.base.clock own acted.tpdus

  -- a user asks for a connection; the entity is not silent, and a reference is free
  abbrev pub AfterConnect : Type 0
  AfterConnect = (w : Whole) (journal : List Event) (entities : List Placed) (ends : List EndAt) (system : ℕ) (entity : Entity) (request : ConnectRequest) (reference : ℕ)
      → Knows w journal entities ends → entity_at entities system ≡ Some entity → is_silent w.base.clock entity ≡ false → IsProperCall (call_of entity reference request)
      → least_free w.base.clock entity ≡ Some reference
      → Follows w journal entities (ends ++ record { system = system; reference = reference } ∷ []) system entity.own
      (connect_event (length ends + 1) system reference entity.own request ∷ []) (connecting w.base.clock entity reference request)

  -- a user calls an end, and the call is not refused
  abbrev pub AfterCall : Type 0
  AfterCall = (w : Whole) (journal : List Event) (entities : List Placed) (ends : List EndAt) (number : ℕ) (end : EndAt) (entity : Entity) (call : UserCall)
      → Knows w journal entities ends → end_numbered ends number ≡ Some end → entity_at entities end.system ≡ Some entity
      → has_ended w.base.clock ends number end entity ≡ false → user_refusal entity end.reference call ≡ None → IsCall call
      → Follows w journal entities ends end.system entity.own (call_events number call) (calling whole w.base.clock entity end.reference call)

  -- a TPDU comes to an entity that is not silent: it was offered, and is read in the format of the end there
  abbrev pub AfterMeet : Type 0
  AfterMeet = (w : Whole) (journal : List Event) (entities : List Placed) (ends : List EndAt) (system : ℕ) (entity : Entity)
      (tick : ℕ) (from : List ℕ) (sent : Sent) (tpdu : TpduAndSum)
      → Knows w journal entities ends → IsTimed timers → entity_at entities system ≡ Some entity → is_silent w.base.clock entity ≡ false
      → Offered w.base tick from sent → sent.to ≡ entity.own → w.base.clock ≤ tick + timers.life → IsReadAs entity sent tpdu
      → Follows w journal entities ends system entity.own [] (met whole w.base.clock entity from tpdu)

  -- an end that is due ticks
  abbrev pub AfterTick : Type 0
  AfterTick = (w : Whole) (journal : List Event) (entities : List Placed) (ends : List EndAt) (system : ℕ) (entity : Entity) (reference : ℕ)
      → Knows w journal entities ends → entity_at entities system ≡ Some entity → first_due w.base.clock entity ≡ Some reference
      → Follows w journal entities ends system entity.own [] (ticking whole w.base.clock entity)

  -- events that make no end and tell no unit
  abbrev pub AfterAside : Type 0
  AfterAside = (w : Whole) (journal made : List Event) (entities : List Placed) (ends : List EndAt) → Knows w journal entities ends → IsAside made
      → Knows (onward (times_of timers) w (record { step = Note; doing = Nothing })) (journal ++ made) entities ends

  -- a tick, where no end is due
  abbrev pub AfterClock : Type 0
  AfterClock = (w : Whole) (journal made : List Event) (entities : List Placed) (ends : List EndAt) → Knows w journal entities ends → AreIdle w.base.clock entities
      → IsAside made → Knows (onward (times_of timers) w (record { step = Tick; doing = Nothing })) (journal ++ made) entities ends

  -- an entity begins again
  abbrev pub AfterRestart : Type 0
  AfterRestart = (w : Whole) (journal : List Event) (entities : List Placed) (ends : List EndAt) (system : ℕ) (entity : Entity)
      → Knows w journal entities ends → entity_at entities system ≡ Some entity
      → Knows (onward (times_of timers) w (record { step = Restart entity.own; doing = Nothing })) (journal ++ events.Restart system ∷ [])
      (with_entity entities system (restarted w.base.clock entity)) ends

  -- the history follows each step of an entity
  pub record Followed : Type 0 where
    pub connects : AfterConnect
    pub calls : AfterCall
    pub meets : AfterMeet
    pub ticks : AfterTick
    pub aside : AfterAside
    pub clock : AfterClock
    pub restarts : AfterRestart

  -- the history explains the network
  pub record Explains {C : Type 0} (link : C → Link (List ℕ)) (w : Whole) (journal : List Event) (world : World C) : Type 0 where
    pub known : Knows w journal world.entities world.ends
    pub carries : Carries Offered timers.life w.base (link world.carrier)

  -- and no end is due
  pub record Rests {C : Type 0} (link : C → Link (List ℕ)) (Sound : Entity → Type 0) (journal : List Event) (world : World C) : Type 0 where
    pub w : Whole
    pub explains : Explains link w journal world
    pub rest : AreAtRest Sound w.base.clock world.entities
