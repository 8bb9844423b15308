-- What a part of a line tells, behind what was told already, and what it leaves.
use Rattle.std.specs.Prelude.{◌≡◌, ◌≤◌, ◌<◌, ◌==◌, ℕ, ◌+◌, ◌*◌, Bool, true, false, List, [], ◌∷◌, ◌++◌, slice_get, slice_set, unwrap_or, Option, Some, None}
use Rattle.std.specs.Option.{option_map_or}
use Rattle.std.specs.List.{AllByRecursion}
use Rattle.nsap.specs.Address.{selector_of}
use Rattle.osi_base.specs.declared.unit.Arrival.{Arrival}
use Rattle.osi_base.specs.declared.unit.Up.{Up}
use Rattle.osi_base.specs.declared.unit.Up.TheVariants.{Unit as Came, Note as Noted}
use Rattle.osi_base.specs.Link.{Link}
use Rattle.osi_base.specs.Calls.{Call}
use Rattle.script_journal.specs.declared.cause.Settled.{Settled}
use Rattle.script_journal.specs.declared.event.Event.{Event}
use Rattle.script_journal.specs.declared.event.Event.TheVariants as events
use Rattle.tp4_flow.specs.Told.{Told}
use Rattle.tp4_entity.specs.Dues.{AreFrom, AreLater}
use Rattle.tp4_entity.specs.Entity.{Entity}
use Rattle.osi_base.specs.Gathering.{Gathers}
use Rattle.net_world.specs.Told.{told}
use Rattle.tp4_entity.specs.Step.{dues, first_due, ticking}
use Rattle.tp4_world.specs.Run.{Acts, Hears, HearsAll, SendsTpdus, Settles, TicksEntity}
use Rattle.tp4_world.specs.Telling.{ends_after, events_after}
use Rattle.tp4_world.specs.Total.{HasEntity}
use Rattle.tp4_world.specs.World.{World, entity_at, latest, with_entity}
use Rattle.tp4_world.specs.declared.place.EndAt.{EndAt}
use Rattle.tp4_world.specs.declared.place.Placed.{Placed}

-- these events were added
pub record Tells (before after : List Event) (Told : List Event → Type 0) : Type 0 where
  pub made : List Event
  pub added : after ≡ before ++ made
  pub are : Told made

abbrev pub world_of : {C : Type 0} → C → List Placed → List EndAt → World C
world_of carrier entities ends = record { carrier = carrier; entities = entities; ends = ends }

-- the clock of no entity is ahead
abbrev pub AreBehind : ℕ → List Placed → Type 0
AreBehind now placed = AllByRecursion (λ one. one.entity.clock ≤ now) placed

-- no end of the entity of a system is due before now
abbrev pub AreFromAll : ℕ → List Placed → Type 0
AreFromAll now placed = (system : ℕ) (entity : Entity) → entity_at placed system ≡ Some entity → AreFrom now entity.ends

-- each end of the entity of a system is due later, or never
abbrev pub AreLaterAt : ℕ → List Placed → ℕ → Type 0
AreLaterAt now placed system = (entity : Entity) → entity_at placed system ≡ Some entity → AreLater now entity.ends

abbrev pub AreLaterAll : ℕ → List Placed → Type 0
AreLaterAll now placed = (system : ℕ) → AreLaterAt now placed system

-- each end that was made is of a system that has an entity
abbrev pub AreHoused : List Placed → List EndAt → Type 0
AreHoused placed ends = AllByRecursion (HasEntity placed) ends

-- the clock is one at which entities can be called, that of no entity is ahead of it, no end is due up to it, and the ends have entities
pub record IsSound {C : Type 0} (link : C → Link (List ℕ)) (world : World C) : Type 0 where
  pub low : (link world.carrier).clock ≤ 4000000000
  pub behind : AreBehind (link world.carrier).clock world.entities
  pub later : AreLaterAll (link world.carrier).clock world.entities
  pub housed : AreHoused world.entities world.ends

-- the entity at a place becomes another
pub record ChangesAt (place : ℕ) (old new : List Placed) (Does : Entity → Entity → Type 0) : Type 0 where
  pub one : Placed
  pub after : Entity
  pub at : slice_get old place ≡ Some one
  pub does : Does one.entity after
  pub becomes : new ≡ slice_set old place (record one { entity = after })

-- how many ends of the entity of a system are due
abbrev pub dues_at : ℕ → List Placed → ℕ → ℕ
dues_at now placed system = option_map_or (dues now) (entity_at placed system) 0

-- what an entity told and sent is told, and its TPDUs are sent
pub record Follows {C : Type 0} (link : C → Link (List ℕ)) (steps : C → Call (List ℕ) → C → Type 0) (old : C) (ends : List EndAt) (system : ℕ) (own : List ℕ) (told : Told)
    (made : List Event) (new : C) (after : List EndAt) : Type 0 where
  pub sent : List Event
  pub sends : SendsTpdus link steps old system own told.tpdus sent new
  pub made_is : made ≡ events_after ends system own told.events ++ sent
  pub ends_are : after ≡ ends_after ends system told.events

-- the units for transport among what came up
abbrev pub listed_if : {A : Type 0} → Bool → A → List A → List A
listed_if true one others = one ∷ others
listed_if false one others = others

abbrev pub for_transport : List (Up (List ℕ)) → List (Arrival (List ℕ))
for_transport [] = []
for_transport (Noted note ∷ ups) = for_transport ups
for_transport (Came arrival ∷ ups) = listed_if (selector_of arrival.unit.to == 1) arrival (for_transport ups)

-- one that came up behind others
abbrev pub then_for_transport : List (Arrival (List ℕ)) → Up (List ℕ) → List (Arrival (List ℕ))
then_for_transport units (Noted note) = units
then_for_transport units (Came arrival) = units ++ listed_if (selector_of arrival.unit.to == 1) arrival []

-- all that waited was taken up and told, and the units for transport among it are there
pub record TakesUnits {C : Type 0} (link : C → Link (List ℕ)) (steps : C → Call (List ℕ) → C → Type 0) (old : C) (before : List Event) (new : C) (units : List (Arrival (List ℕ))) (after : List Event)
    : Type 0 where
  pub ups : List (Up (List ℕ))
  pub gathers : Gathers link steps old ups new
  pub units_are : units ≡ for_transport ups
  pub told_are : after ≡ before ++ told ups

-- the numbers of the systems that have entities
abbrev pub systems_of : List Placed → List ℕ
systems_of [] = []
systems_of (one ∷ others) = one.system ∷ systems_of others

module _ {C : Type 0} (link : C → Link (List ℕ)) (steps : C → Call (List ℕ) → C → Type 0) (wrap : ℕ → ℕ → ℕ) where
  -- the units are handled, one after another
  abbrev pub HearsEach : World C → List (Arrival (List ℕ)) → List Event → World C → Type 0
  HearsEach old [] made new = (made ≡ []) × (new ≡ old)
  HearsEach old (arrival ∷ arrivals) made new =
      (mid : World C) × (here rest : List Event) × Hears link steps wrap old arrival here mid × HearsEach mid arrivals rest new × (made ≡ here ++ rest)

  -- what waits in the carrier is told, and then each unit is handled
  pub record HearsWaiting (old : World C) (made : List Event) (new : World C) : Type 0 where
    pub ups : List (Up (List ℕ))
    pub below : C
    pub later : List Event
    pub gathers : Gathers link steps old.carrier ups below
    pub hears : HearsAll link steps wrap (record old { carrier = below }) ups later new
    pub made_is : made ≡ told ups ++ later

  -- the due end of least reference ticks, where one is due
  abbrev pub TicksOnce : ℕ → World C → Bool → List Event → World C → Type 0
  TicksOnce system old false made new =
      (entity : Entity) × (entity_at old.entities system ≡ Some entity) × (first_due ((link old.carrier).clock) entity ≡ None) × (made ≡ [])
      × (new ≡ record old { entities = with_entity old.entities system (ticking wrap (link old.carrier).clock entity).entity })
  TicksOnce system old true made new =
      (entity : Entity) × (reference : ℕ) × (entity_at old.entities system ≡ Some entity) × (first_due ((link old.carrier).clock) entity ≡ Some reference)
      × Acts link steps old system entity.own (ticking wrap (link old.carrier).clock entity) made new

  -- the entities of these systems tick, one after another
  abbrev pub TicksEach : World C → List ℕ → List Event → World C → Type 0
  TicksEach old [] made new = (made ≡ []) × (new ≡ old)
  TicksEach old (system ∷ systems) made new =
      (mid : World C) × (here rest : List Event) × TicksEntity link steps wrap system old here mid × TicksEach mid systems rest new × (made ≡ here ++ rest)

  -- these deliveries were made, and then it ends so
  abbrev pub SettlesSo : World C → List Event → Settled → World C → Type 0
  SettlesSo old made answer new = Settles link steps wrap 0 old (made ++ events.Settle answer ∷ []) new

-- at most one event
abbrev pub listed : Option Event → List Event
listed None = []
listed (Some event) = event ∷ []

-- the place of a reference of a system in a table
abbrev pub key_of : ℕ → ℕ → ℕ
key_of system reference = system * 65536 + reference

-- a table has the number of the latest end at each reference of each system
abbrev pub AreLatest : List EndAt → (ℕ → Option ℕ) → Type 0
AreLatest ends table = (system reference : ℕ) → reference < 65536 → unwrap_or (table (key_of system reference)) 0 ≡ latest ends system reference
