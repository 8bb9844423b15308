-- What each line does to a network with its transport entities, over any carrier of units, and the events that it makes (X.214, service
-- primitives; X.224, class 4 procedures). A line's own event comes first, then what the network hands up, in order, and then what each
-- end tells and sends.
use Rattle.std.specs.Prelude.{◌≡◌, ℕ, ◌+◌, ◌<◌, ◌==◌, Bool, true, false, ◌&&◌, nat_eq, List, [], ◌∷◌, ◌++◌, length, slice_get, Option, Some, None}
use Rattle.std.specs.Cmp.Lexicographic.{pointwise}
use Rattle.nsap.specs.Address.{selector_of, system_part}
use Rattle.osi_base.specs.declared.unit.Arrival.{Arrival}
use Rattle.osi_base.specs.declared.unit.Up.{Up}
use Rattle.osi_base.specs.declared.unit.Up.TheVariants.{Unit as Came, Note as Noted}
use Rattle.osi_base.specs.declared.unit.Wish.{Wish}
use Rattle.osi_base.specs.declared.unit.Offered.{Offered}
use Rattle.osi_base.specs.declared.unit.Picked.{Picked}
use Rattle.osi_base.specs.declared.unit.Picked.TheVariants.{Taken as WasPicked}
use Rattle.osi_base.specs.declared.unit.Injected.{Injected}
use Rattle.osi_base.specs.Link.{Link, IsLeastFresh}
use Rattle.osi_base.specs.Calls.{Call, Offer, Choose, Inject, Tick}
use Rattle.osi_base.specs.Gathering.{Gathers}
use Rattle.tpdu.specs.Writing.{IsWritten}
use Rattle.tp4_flow.specs.declared.step.Sent.{Sent}
use Rattle.tp4_conn.specs.declared.call.ConnectRequest.{ConnectRequest}
use Rattle.tp4_conn.specs.declared.call.UserCall.{UserCall}
use Rattle.tp4_conn.specs.declared.call.UserCall.TheVariants as asks
use Rattle.tp4_entity.specs.declared.refusal.ConnectRefusal.{ConnectRefusal}
use Rattle.tp4_entity.specs.declared.refusal.EntityRefusal.{EntityRefusal}
use Rattle.tp4_entity.specs.Entity.{Entity, Acted}
use Rattle.tp4_entity.specs.References.{least_free}
use Rattle.tp4_entity.specs.Step.{calling, connect_refusal, connecting, first_due, restarted, ticking, user_refusal}
use Rattle.tp4_entity.specs.Unit.{TakesUnit}
use Rattle.script_journal.specs.declared.cause.Refused.{Refused}
use Rattle.script_journal.specs.declared.cause.Refused.TheVariants as refusals
use Rattle.script_journal.specs.declared.cause.Settled.TheVariants.{Settled, Stopped}
use Rattle.script_journal.specs.declared.event.Event.{Event}
use Rattle.script_journal.specs.declared.event.Event.TheVariants as events
use Rattle.script_lines.specs.declared.line.Line.{Line}
use Rattle.script_lines.specs.declared.line.Line.TheVariants as lines
use Rattle.net_world.specs.Run.{Passes, SendsUnit}
use Rattle.net_world.specs.Told.{picked_event, told}
use Rattle.tp4_world.specs.Telling.{call_events, drop_events, ends_after, events_after, inject_event, told_connect, told_refusal, connect_event}
use Rattle.tp4_world.specs.World.{World, end_numbered, entity_at, with_entity}
use Rattle.tp4_world.specs.declared.place.EndAt.{EndAt}
use Rattle.tp4_world.specs.declared.place.Placed.{Placed}
use Rattle.tp4_world.specs.Ended.{has_ended}

-- a unit of transport may be cut, and asks for nothing else
abbrev pub transport_wish : Wish
transport_wish = record { cut = true; report = false; trace = false; path = 0 }

-- the address of a system's transport users
abbrev pub transport_address : List ℕ → List ℕ
transport_address title = system_part title ++ 1 ∷ []

module _ {C : Type 0} (link : C → Link (List ℕ)) (steps : C → Call (List ℕ) → C → Type 0) where
  -- a TPDU goes out in a unit of its own; what is told of the unit and its frames comes of it
  pub record SendsTpdu (old : C) (system : ℕ) (own : List ℕ) (sent : Sent) (made : List Event) (new : C) : Type 0 where
    pub octets : List ℕ
    pub answer : Offered
    pub ups : List (Up (List ℕ))
    pub written : IsWritten sent.format sent.sum sent.tpdu octets
    pub passes : Passes link steps old (Offer (record { from = own; to = sent.to; octets = octets }) transport_wish answer) ups new
    pub made_is : made ≡ drop_events system answer ++ told ups

  abbrev pub SendsTpdus : C → ℕ → List ℕ → List Sent → List Event → C → Type 0
  SendsTpdus old system own [] made new = (made ≡ []) × (new ≡ old)
  SendsTpdus old system own (sent ∷ others) made new =
      (mid : C) × (here rest : List Event) × SendsTpdu old system own sent here mid × SendsTpdus mid system own others rest new × (made ≡ here ++ rest)

  -- what an entity did: its events come first, and then what is told of its TPDUs
  pub record Acts (old : World C) (system : ℕ) (own : List ℕ) (acted : Acted) (made : List Event) (new : World C) : Type 0 where
    pub below : C
    pub sent : List Event
    pub sends : SendsTpdus old.carrier system own acted.tpdus sent below
    pub made_is : made ≡ events_after old.ends system own acted.events ++ sent
    pub becomes : new ≡ record {
      carrier = below;
      entities = with_entity old.entities system acted.entity;
      ends = ends_after old.ends system acted.events;
    }

  abbrev pub clock_of : World C → ℕ
  clock_of world = (link world.carrier).clock

  -- nothing but a refusal; want of memory is none
  abbrev pub IsRefused : World C → Option Refused → List Event → World C → Type 0
  IsRefused old None made new = ⊥
  IsRefused old (Some why) made new = (made ≡ events.No why ∷ []) × (new ≡ old)

  -- ---- connect

  -- with a free reference a new end is made; its event comes first
  abbrev pub BeginsAt : World C → ℕ → Entity → ConnectRequest → Option ℕ → List Event → World C → Type 0
  BeginsAt old system entity request None made new = ⊥
  BeginsAt old system entity request (Some reference) made new =
      (later : List Event)
      × Acts (record old { ends = old.ends ++ record { system = system; reference = reference } ∷ [] }) system entity.own
      (connecting (clock_of old) entity reference request) later new
      × (made ≡ connect_event (length old.ends + 1) system reference entity.own request ∷ later)

  abbrev pub ConnectsBy : World C → ℕ → Entity → ConnectRequest → Option ConnectRefusal → List Event → World C → Type 0
  ConnectsBy old system entity request (Some why) made new = IsRefused old (told_connect why) made new
  ConnectsBy old system entity request None made new = BeginsAt old system entity request (least_free (clock_of old) entity) made new

  -- a user of a system asks for a connection
  abbrev pub Connects : World C → ℕ → ConnectRequest → List Event → World C → Type 0
  Connects old system request made new =
      (entity : Entity) × (entity_at old.entities system ≡ Some entity)
      × ConnectsBy old system entity request (connect_refusal (clock_of old) entity request.octets) made new

  -- ---- restart

  -- the transport entity of a system begins again, without its ends; its line is all that is told
  abbrev pub Restarts : World C → ℕ → List Event → World C → Type 0
  Restarts old system made new =
      (entity : Entity) × (entity_at old.entities system ≡ Some entity) × (made ≡ events.Restart system ∷ [])
      × (new ≡ record old { entities = with_entity old.entities system (restarted (clock_of old) entity) })

  -- ---- a raw unit, and the start

  -- a raw unit goes as in a network without transport
  abbrev pub SendsRaw : World C → ℕ → List ℕ → List ℕ → Wish → List ℕ → List Event → World C → Type 0
  SendsRaw old system sender receiver wish octets made new =
      (below : C) × SendsUnit link steps old.carrier system sender receiver wish octets made below × (new ≡ record old { carrier = below })

  -- the network as it starts
  pub record Starts (first : C) (placed : List Placed) (made : List Event) (new : World C) : Type 0 where
    pub ups : List (Up (List ℕ))
    pub below : C
    pub gathers : Gathers link steps first ups below
    pub made_is : made ≡ events.Tick 0 ∷ told ups
    pub becomes : new ≡ record { carrier = below; entities = placed; ends = [] }

  -- `wrap` is what a receiving half keeps of a number, by its block
  module _ (wrap : ℕ → ℕ → ℕ) where
    -- ---- a call on an end

    abbrev pub CallsBy : World C → ℕ → EndAt → Entity → UserCall → Option EntityRefusal → List Event → World C → Type 0
    CallsBy old number end entity call (Some why) made new = IsRefused old (told_refusal why) made new
    CallsBy old number end entity call None made new =
        (later : List Event) × Acts old end.system entity.own (calling wrap (clock_of old) entity end.reference call) later new
        × (made ≡ call_events number call ++ later)

    abbrev pub CallsEnd : World C → ℕ → EndAt → Entity → UserCall → Bool → List Event → World C → Type 0
    CallsEnd old number end entity call true made new = IsRefused old (Some refusals.Ended) made new
    CallsEnd old number end entity call false made new =
        CallsBy old number end entity call (user_refusal entity end.reference call) made new

    -- a user calls the end of a number, where one was given
    abbrev pub CallsAt : World C → ℕ → UserCall → Option EndAt → List Event → World C → Type 0
    CallsAt old number call None made new = IsRefused old (Some refusals.NoSuchEnd) made new
    CallsAt old number call (Some end) made new =
        (entity : Entity) × (entity_at old.entities end.system ≡ Some entity)
        × CallsEnd old number end entity call (has_ended (clock_of old) old.ends number end entity) made new

    abbrev pub Calls : World C → ℕ → UserCall → List Event → World C → Type 0
    Calls old number call made new = CallsAt old number call (end_numbered old.ends number) made new

    -- ---- what comes up

    -- the unit is for the users of that entity
    abbrev pub is_for : List ℕ → Option Entity → Bool
    is_for to None = false
    is_for to (Some entity) = selector_of to == 1 && pointwise nat_eq entity.own to

    abbrev pub HearsIf : World C → Arrival (List ℕ) → Option Entity → Bool → List Event → World C → Type 0
    HearsIf old arrival None fits made new = (made ≡ []) × (new ≡ old)
    HearsIf old arrival (Some entity) false made new = (made ≡ []) × (new ≡ old)
    HearsIf old arrival (Some entity) true made new =
        (acted : Acted) × TakesUnit wrap (clock_of old) entity arrival.unit.from arrival.unit.octets acted
        × Acts old arrival.system entity.own acted made new

    -- a unit for transport is handed to the entity of its system, where it is for the entity's address; else nothing comes of it
    abbrev pub Hears : World C → Arrival (List ℕ) → List Event → World C → Type 0
    Hears old arrival made new =
        HearsIf old arrival (entity_at old.entities arrival.system) (is_for arrival.unit.to (entity_at old.entities arrival.system)) made new

    -- the units that came up, one after another
    abbrev pub HearsAll : World C → List (Up (List ℕ)) → List Event → World C → Type 0
    HearsAll old [] made new = (made ≡ []) × (new ≡ old)
    HearsAll old (Noted note ∷ ups) made new = HearsAll old ups made new
    HearsAll old (Came arrival ∷ ups) made new =
        (mid : World C) × (here rest : List Event) × Hears old arrival here mid × HearsAll mid ups rest new × (made ≡ here ++ rest)

    -- a call of the carrier, its own line, what came up, and then what each unit that came up leads to
    pub record Arrives (old : World C) (call : Call (List ℕ)) (own : Event) (made : List Event) (new : World C) : Type 0 where
      pub ups : List (Up (List ℕ))
      pub below : C
      pub later : List Event
      pub passes : Passes link steps old.carrier call ups below
      pub hears : HearsAll (record old { carrier = below }) ups later new
      pub made_is : made ≡ own ∷ (told ups ++ later)

    abbrev pub Delivers : World C → ℕ → ℕ → Picked → List Event → World C → Type 0
    Delivers old number system answer made new = Arrives old (Choose number system answer) (picked_event number system answer) made new

    abbrev pub Injects : World C → ℕ → ℕ → List ℕ → Injected → List Event → World C → Type 0
    Injects old lan system octets answer made new = Arrives old (Inject lan system octets answer) (inject_event system answer) made new

    -- ---- a tick

    -- the due ends of an entity, by rising reference, until none is due
    pub data TicksEntity (system : ℕ) : World C → List Event → World C → Type 0 where
      NoneDue : (old : World C) → (made : List Event) → (new : World C) → (entity : Entity) → entity_at old.entities system ≡ Some entity → first_due (clock_of old) entity ≡ None → made ≡ []
          → new ≡ record old { entities = with_entity old.entities system (ticking wrap (clock_of old) entity).entity } → TicksEntity system old made new
      OneDue : (old : World C) → (made : List Event) → (new : World C) → (entity : Entity) → (reference : ℕ) → (mid : World C) → (here rest : List Event) → entity_at old.entities system ≡ Some entity
          → first_due (clock_of old) entity ≡ Some reference → Acts old system entity.own (ticking wrap (clock_of old) entity) here mid
          → TicksEntity system mid rest new → made ≡ here ++ rest → TicksEntity system old made new

    -- each entity, in the order of declaration
    abbrev pub TicksAll : World C → List Placed → List Event → World C → Type 0
    TicksAll old [] made new = (made ≡ []) × (new ≡ old)
    TicksAll old (one ∷ others) made new =
        (mid : World C) × (here rest : List Event) × TicksEntity one.system old here mid × TicksAll mid others rest new × (made ≡ here ++ rest)

    pub record Ticks (old : World C) (made : List Event) (new : World C) : Type 0 where
      pub ups : List (Up (List ℕ))
      pub below : C
      pub later : List Event
      pub passes : Passes link steps old.carrier Tick ups below
      pub all : TicksAll (record old { carrier = below }) old.entities later new
      pub made_is : made ≡ events.Tick ((link old.carrier).clock + 1) ∷ (told ups ++ later)

    -- ---- settling

    -- the least pair that was not taken is delivered, again and again, until none is left or 65,536 were taken
    pub data Settles : ℕ → World C → List Event → World C → Type 0 where
      NoneLeft : (count : ℕ) → (old : World C) → (made : List Event) → (new : World C) → IsLeastFresh (link old.carrier) None → made ≡ events.Settle (Settled count) ∷ [] → new ≡ old → Settles count old made new
      TooMany : (count : ℕ) → (old : World C) → (made : List Event) → (new : World C) → (pair : ℕ × ℕ) → IsLeastFresh (link old.carrier) (Some pair) → count ≡ 65536 → made ≡ events.Settle (Stopped count) ∷ [] → new ≡ old
          → Settles count old made new
      OneMore : (count : ℕ) → (old : World C) → (made : List Event) → (new : World C) → (pair : ℕ × ℕ) → (mid : World C) → (here rest : List Event) → IsLeastFresh (link old.carrier) (Some pair) → count < 65536
          → Delivers old pair.0 pair.1 WasPicked here mid → Settles (count + 1) mid rest new → made ≡ here ++ rest → Settles count old made new

    -- ---- the lines

    -- what a connect line asks of the entity of a system
    abbrev pub ConnectsTo : World C → ℕ → List ℕ → List ℕ → List ℕ → List ℕ → List Event → World C → ConnectRequest → Type 0
    ConnectsTo old system selector to called octets made new request =
        (request.from_selector ≡ selector) × (request.to ≡ transport_address to) × (request.to_selector ≡ called) × (request.octets ≡ octets)
        × Connects old system request made new

    -- what a line of a running network does, where the systems have these titles
    abbrev pub RunsLine : List (List ℕ) → World C → Line → List Event → World C → Type 0
    RunsLine titles old lines.Nothing made new = (made ≡ []) × (new ≡ old)
    RunsLine titles old (lines.Connect system selector to called options octets) made new =
        (receiver : List ℕ) × (request : ConnectRequest) × (slice_get titles to ≡ Some receiver) × (request.options ≡ options)
        × ConnectsTo old system selector receiver called octets made new request
    RunsLine titles old (lines.Accept end options octets) made new = Calls old end (asks.Accept options octets) made new
    RunsLine titles old (lines.Refuse end octets) made new = Calls old end (asks.Refuse octets) made new
    RunsLine titles old (lines.Disconnect end octets) made new = Calls old end (asks.Disconnect octets) made new
    RunsLine titles old (lines.Data end octets) made new = Calls old end (asks.Normal octets) made new
    RunsLine titles old (lines.Expedite end octets) made new = Calls old end (asks.Urgent octets) made new
    RunsLine titles old (lines.Window end credit) made new = Calls old end (asks.Window credit) made new
    RunsLine titles old (lines.Unit system to wish octets) made new =
        (sender receiver : List ℕ) × (slice_get titles system ≡ Some sender) × (slice_get titles to ≡ Some receiver)
        × SendsRaw old system sender receiver wish octets made new
    RunsLine titles old lines.Tick made new = Ticks old made new
    RunsLine titles old (lines.Deliver number system) made new = (answer : Picked) × Delivers old number system answer made new
    RunsLine titles old lines.Settle made new = Settles 0 old made new
    RunsLine titles old (lines.Inject lan system octets) made new = (answer : Injected) × Injects old lan system octets answer made new
    RunsLine titles old (lines.Restart system) made new = Restarts old system made new
    RunsLine titles old line made new = ⊥

    -- the lines have these events, one after another
    abbrev pub RunsLines : List (List ℕ) → World C → List Line → List Event → World C → Type 0
    RunsLines titles first [] journal last = (journal ≡ []) × (last ≡ first)
    RunsLines titles first (line ∷ lines) journal last =
        (mid : World C) × (made rest : List Event) × RunsLine titles first line made mid × (journal ≡ made ++ rest) × RunsLines titles mid lines rest last
