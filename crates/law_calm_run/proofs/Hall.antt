-- A network of transport entities without its carrier: the TPDUs that wait, in the order in which they were sent, are handed over one after
-- another (X.214, queue model; X.224, class 4 procedures).
use Rattle.std.specs.Prelude.{◌≡◌, ◌⊎◌, ℕ, ◌+◌, true, false, List, [], ◌∷◌, ◌++◌, length, slice_get, Some, None}
use Rattle.tpdu.specs.Kinds.{has_number}
use Rattle.tpdu.specs.Values.{destination_of, format_for}
use Rattle.tpdu.specs.Writing.{is_summed, kind_for}
use Rattle.tp4_number.specs.Number.{whole}
use Rattle.tp4_flow.specs.declared.step.Sent.{Sent}
use Rattle.tp4_conn.specs.Calls.{IsCall}
use Rattle.tp4_conn.specs.Proper.{IsProperCall}
use Rattle.tp4_conn.specs.declared.call.ConnectRequest.{ConnectRequest}
use Rattle.tp4_conn.specs.declared.call.UserCall.{UserCall}
use Rattle.tp4_entity.specs.Association.{met}
use Rattle.tp4_entity.specs.Entity.{Acted, Entity, at}
use Rattle.tp4_entity.specs.References.{least_free}
use Rattle.tp4_entity.specs.Silence.{is_silent}
use Rattle.tp4_entity.specs.Step.{call_of, calling, connecting, first_due, ticking, user_refusal}
use Rattle.tp4_entity.specs.Unit.{extended_of, ignored}
use Rattle.script_journal.specs.declared.event.Event.{Event}
use Rattle.law_tp4_history.specs.Journals.{IsAside}
use Rattle.law_tp4_proper.specs.Rest.{AreProper}
use Rattle.tp4_world.specs.Run.{transport_address}
use Rattle.tp4_world.specs.Ended.{has_ended}
use Rattle.tp4_world.specs.Telling.{call_events, connect_event, ends_after, events_after}
use Rattle.tp4_world.specs.World.{end_numbered, entity_at, with_entity}
use Rattle.tp4_world.specs.declared.place.EndAt.{EndAt}
use Rattle.tp4_world.specs.declared.place.Placed.{Placed}

-- a TPDU that waits, with the system whose entity sent it
pub record Post : Type 0 where
  pub system : ℕ
  pub sent : Sent

-- the clock, the entities, the ends that were made, and what waits
pub record Hall : Type 0 where
  pub clock : ℕ
  pub entities : List Placed
  pub ends : List EndAt
  pub posts : List Post

-- the address of the transport users of a system
pub record IsAddress (titles : List (List ℕ)) (address : List ℕ) : Type 0 where
  pub system : ℕ
  pub title : List ℕ
  pub title_is : slice_get titles system ≡ Some title
  pub address_is : address ≡ transport_address title

-- what the entity of a system sent
abbrev pub posted : ℕ → List Sent → List Post
posted system [] = []
posted system (sent ∷ tpdus) = record { system = system; sent = sent } ∷ posted system tpdus

-- an entity did this: what it sent waits behind the others
abbrev pub after : Hall → ℕ → Acted → Hall
after old system acted = record {
  clock = old.clock;
  entities = with_entity old.entities system acted.entity;
  ends = ends_after old.ends system acted.events;
  posts = old.posts ++ posted system acted.tpdus;
}

-- an entity did this: its events are told, and then what tells no unit of an end and makes no end
pub record Does (old : Hall) (system : ℕ) (own : List ℕ) (acted : Acted) (made : List Event) (new : Hall) : Type 0 where
  pub aside : List Event
  pub is_aside : IsAside aside
  pub made_is : made ≡ events_after old.ends system own acted.events ++ aside
  pub becomes : new ≡ after old system acted

-- a new end was made
abbrev pub with_new : Hall → ℕ → ℕ → Hall
with_new old system reference = record old { ends = old.ends ++ record { system = system; reference = reference } ∷ [] }

-- a user asks for a connection, where nothing waits
pub record Connects (titles : List (List ℕ)) (old : Hall) (made : List Event) (new : Hall) : Type 0 where
  pub idle : old.posts ≡ []
  pub system : ℕ
  pub entity : Entity
  pub there : entity_at old.entities system ≡ Some entity
  pub request : ConnectRequest
  pub reference : ℕ
  pub free : least_free old.clock entity ≡ Some reference
  pub proper : IsProperCall (call_of entity reference request)
  pub address : IsAddress titles request.to
  pub later : List Event
  pub does : Does (with_new old system reference) system entity.own (connecting old.clock entity reference request) later new
  pub made_is : made ≡ connect_event (length old.ends + 1) system reference entity.own request ∷ later

-- a user calls an end, where nothing waits
pub record Calls (old : Hall) (made : List Event) (new : Hall) : Type 0 where
  pub idle : old.posts ≡ []
  pub number : ℕ
  pub end : EndAt
  pub numbered : end_numbered old.ends number ≡ Some end
  pub entity : Entity
  pub there : entity_at old.entities end.system ≡ Some entity
  pub call : UserCall
  pub stands : has_ended old.clock old.ends number end entity ≡ false
  pub allowed : user_refusal entity end.reference call ≡ None
  pub proper : IsCall call
  pub later : List Event
  pub does : Does old end.system entity.own (calling whole old.clock entity end.reference call) later new
  pub made_is : made ≡ call_events number call ++ later

-- the due end of least reference of an entity ticks
pub record Ticks (old : Hall) (made : List Event) (new : Hall) : Type 0 where
  pub system : ℕ
  pub entity : Entity
  pub there : entity_at old.entities system ≡ Some entity
  pub reference : ℕ
  pub due : first_due old.clock entity ≡ Some reference
  pub does : Does old system entity.own (ticking whole old.clock entity) made new

-- no end of an entity is due
pub record IsOver (old : Hall) (made : List Event) (new : Hall) : Type 0 where
  pub system : ℕ
  pub entity : Entity
  pub there : entity_at old.entities system ≡ Some entity
  pub none_due : first_due old.clock entity ≡ None
  pub made_is : made ≡ []
  pub becomes : new ≡ record old { entities = with_entity old.entities system (at old.clock entity) }

-- the ends of each entity are proper
abbrev pub AreAllProper : List Placed → Type 0
AreAllProper placed = (system : ℕ) (entity : Entity) → entity_at placed system ≡ Some entity → AreProper entity

-- within a tick of the clock: an end ticks, or no end of an entity is due
pub data TickStep (old : Hall) (made : List Event) (new : Hall) : Type 0 where
  Ticking : Ticks old made new → TickStep old made new
  Over : IsOver old made new → TickStep old made new

pub data TickGoes : Hall → List Event → Hall → Type 0 where
  TicksDone : (old : Hall) → (made : List Event) → (new : Hall) → made ≡ [] → new ≡ old → TickGoes old made new
  TicksMore : (old : Hall) → (made : List Event) → (new : Hall) → (mid : Hall) → (here rest : List Event) → AreAllProper old.entities → TickStep old here mid → TickGoes mid rest new → made ≡ here ++ rest → TickGoes old made new

-- no end is due
abbrev pub AreWaiting : ℕ → List Placed → Type 0
AreWaiting now placed = (system : ℕ) (entity : Entity) → entity_at placed system ≡ Some entity → first_due now entity ≡ None

-- the clock goes on, where nothing waits and no end is due; and then the due ends of each entity tick until none is due
pub record Clocks (old : Hall) (made : List Event) (new : Hall) : Type 0 where
  pub idle : old.posts ≡ []
  pub before : AreWaiting old.clock old.entities
  pub front : List Event
  pub aside : IsAside front
  pub later : List Event
  pub ticks : TickGoes (record old { clock = old.clock + 1 }) later new
  pub over : AreWaiting new.clock new.entities
  pub made_is : made ≡ front ++ later

-- the entity reads the TPDU in the format in which it was written
abbrev pub IsReadBy : Entity → Sent → Type 0
IsReadBy entity sent = (has_number (kind_for sent.tpdu) ≡ false) ⊎ (format_for (extended_of entity) (destination_of sent.tpdu) ≡ sent.format)

-- the first TPDU that waits is handed to the entity at its address, which takes it, where it is not silent and reads it so; a silent one does nothing with it
pub record Meets (titles : List (List ℕ)) (old : Hall) (made : List Event) (new : Hall) : Type 0 where
  pub post : Post
  pub rest : List Post
  pub posts_are : old.posts ≡ post ∷ rest
  pub title : List ℕ
  pub title_is : slice_get titles post.system ≡ Some title
  pub system : ℕ
  pub entity : Entity
  pub there : entity_at old.entities system ≡ Some entity
  pub own_is : entity.own ≡ post.sent.to
  pub acted : Acted
  pub heard : is_silent old.clock entity ≡ false → IsReadBy entity post.sent
      → acted ≡ met whole old.clock (at old.clock entity) (transport_address title) (post.sent.tpdu, is_summed post.sent.sum post.sent.tpdu)
  pub ignores : is_silent old.clock entity ≡ true → acted ≡ ignored old.clock entity
  pub same : acted.entity.restarted ≡ entity.restarted
  pub does : Does (record old { posts = rest }) system entity.own acted made new

-- one of these, or nothing of which an entity knows
pub data Step (titles : List (List ℕ)) (old : Hall) (made : List Event) (new : Hall) : Type 0 where
  Still : IsAside made → new ≡ old → Step titles old made new
  Connecting : Connects titles old made new → Step titles old made new
  Calling : Calls old made new → Step titles old made new
  Clocking : Clocks old made new → Step titles old made new
  Meeting : Meets titles old made new → Step titles old made new

-- these steps, one after another
pub data Goes (titles : List (List ℕ)) : Hall → List Event → Hall → Type 0 where
  Done : (old : Hall) → (made : List Event) → (new : Hall) → made ≡ [] → new ≡ old → Goes titles old made new
  More : (old : Hall) → (made : List Event) → (new : Hall) → (mid : Hall) → (here rest : List Event) → AreAllProper old.entities → Step titles old here mid → Goes titles mid rest new → made ≡ here ++ rest
      → Goes titles old made new
