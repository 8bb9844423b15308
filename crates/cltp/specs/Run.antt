-- What each call does to a network of users of datagrams, over any carrier of units, and the events that it makes: that of the call
-- first, then what the network tells of all that came up, in order, and then what the units among it give (X.234, unit data transfer).
use Rattle.std.specs.Prelude.{◌≡◌, ℕ, ◌+◌, ◌<◌, Bool, true, false, nat_lt, List, [], ◌∷◌, ◌++◌, length, Some, None}
use Rattle.osi_base.specs.declared.unit.Up.{Up}
use Rattle.osi_base.specs.declared.unit.Offered.{Offered}
use Rattle.osi_base.specs.declared.unit.Picked.{Picked}
use Rattle.osi_base.specs.declared.unit.Picked.TheVariants.{Taken as WasPicked}
use Rattle.osi_base.specs.Link.{Link, IsLeastFresh}
use Rattle.osi_base.specs.Calls.{Call, Offer, Choose, Tick}
use Rattle.osi_base.specs.Gathering.{Gathers}
use Rattle.script_journal.specs.declared.cause.Refused.TheVariants.{TooLong}
use Rattle.script_journal.specs.declared.cause.Settled.{Settled}
use Rattle.script_journal.specs.declared.cause.Settled.TheVariants as settled
use Rattle.net_world.specs.Told.{told, picked_event}
use Rattle.script_journal.specs.declared.event.Event.{Event}
use Rattle.script_journal.specs.declared.event.Event.TheVariants as events
use Rattle.cltp.specs.declared.sending.Request.{Request}
use Rattle.cltp.specs.declared.sending.ClAnswer.{ClAnswer}
use Rattle.cltp.specs.declared.sending.ClAnswer.TheVariants as answers
use Rattle.cltp.specs.declared.system.ClSystem.{ClSystem}
use Rattle.cltp.specs.Hearing.{HearsAll}
use Rattle.cltp.specs.Sending.{ud_for, ud_wish, answer_of, send_event}
use Rattle.cltp.specs.Systems.{World, system_at}
use Rattle.cltp.specs.Ud.{IsSelector}
use Rattle.cltp.specs.Writing.{IsWritten}

-- these events were added
pub record Tells (before after : List Event) (Made : List Event → Type 0) : Type 0 where
  pub made : List Event
  pub added : after ≡ before ++ made
  pub are : Made made

-- one thing that a network of users is asked
pub data ClCall : Type 0 where
  Sending : (system : ℕ) (request : Request) → ClCall
  Delivering : (number system : ℕ) → ClCall
  Ticking : ClCall
  Settling : ClCall

module _ {C : Type 0} (link : C → Link (List ℕ)) (steps : C → Call (List ℕ) → C → Type 0) where
  -- all that waits is taken up and told, and then what the units among it give
  pub record TakesUp (systems : List ClSystem) (old : C) (made : List Event) (new : C) : Type 0 where
    pub ups : List (Up (List ℕ))
    pub heard : List Event
    pub gathers : Gathers link steps old ups new
    pub hears : HearsAll systems ups heard
    pub made_is : made ≡ told ups ++ heard

  -- a call of the carrier, its own event, and then what waits
  pub record Arrives (old : World C) (call : Call (List ℕ)) (own : Event) (made : List Event) (new : World C) : Type 0 where
    pub called : C
    pub later : List Event
    pub steps_to : steps old.carrier call called
    pub takes_up : TakesUp old.systems called later new.carrier
    pub made_is : made ≡ own ∷ later
    pub same : new.systems ≡ old.systems

  -- the network as it starts
  pub record Starts (first : C) (systems : List ClSystem) (made : List Event) (new : World C) : Type 0 where
    pub later : List Event
    pub takes_up : TakesUp systems first later new.carrier
    pub made_is : made ≡ events.Tick 0 ∷ later
    pub same : new.systems ≡ systems

  -- the UD of a request is offered, from the own address of its system
  pub record SendsUd (old : World C) (system : ℕ) (request : Request) (answer : ClAnswer) (made : List Event) (new : World C) : Type 0 where
    pub own : ClSystem
    pub octets : List ℕ
    pub offered : Offered
    pub own_is : system_at old.systems system ≡ Some own
    pub written : IsWritten (ud_for request) octets
    pub arrives : Arrives old (Offer (record { from = own.own; to = request.to; octets = octets }) ud_wish offered) (send_event system request offered) made new
    pub answer_is : answer ≡ answer_of offered

  abbrev pub SendsIf : Bool → World C → ℕ → Request → ClAnswer → List Event → World C → Type 0
  SendsIf true old system request answer made new =
      (answer ≡ answers.TooLong) × (made ≡ events.No TooLong ∷ []) × (new ≡ old)
  SendsIf false old system request answer made new = SendsUd old system request answer made new

  -- a user of a system sends a datagram; above 16,000 octets it is refused before all else
  abbrev pub Sends : World C → ℕ → Request → ClAnswer → List Event → World C → Type 0
  Sends old system request answer made new = SendsIf (nat_lt 16000 (length request.octets)) old system request answer made new

  abbrev pub Delivers : World C → ℕ → ℕ → Picked → List Event → World C → Type 0
  Delivers old number system answer made new = Arrives old (Choose number system answer) (picked_event number system answer) made new

  abbrev pub Ticks : World C → List Event → World C → Type 0
  Ticks old made new = Arrives old Tick (events.Tick ((link old.carrier).clock + 1)) made new

  -- the least pair that was not taken is delivered, again and again, until none is left or 65,536 were taken
  pub data Settles : ℕ → World C → Settled → List Event → World C → Type 0 where
    NoneLeft : (count : ℕ) (old : World C) (answer : Settled) (made : List Event) (new : World C) → IsLeastFresh (link old.carrier) None
        → answer ≡ settled.Settled count → made ≡ events.Settle answer ∷ [] → new ≡ old → Settles count old answer made new
    TooMany : (count : ℕ) (old : World C) (answer : Settled) (made : List Event) (new : World C) (pair : ℕ × ℕ) → IsLeastFresh (link old.carrier) (Some pair) → count ≡ 65536
        → answer ≡ settled.Stopped count → made ≡ events.Settle answer ∷ [] → new ≡ old → Settles count old answer made new
    OneMore : (count : ℕ) (old : World C) (answer : Settled) (made : List Event) (new : World C) (pair : ℕ × ℕ) (mid : World C) (here rest : List Event)
        → IsLeastFresh (link old.carrier) (Some pair) → count < 65536 → Delivers old pair.0 pair.1 WasPicked here mid → Settles (count + 1) mid answer rest new → made ≡ here ++ rest
        → Settles count old answer made new

  -- what a call does; a selector has 1 to 32 octets
  abbrev pub RunsCall : World C → ClCall → List Event → World C → Type 0
  RunsCall old (Sending system request) made new =
      IsSelector request.from_selector × IsSelector request.to_selector × ((answer : ClAnswer) × Sends old system request answer made new)
  RunsCall old (Delivering number system) made new = (answer : Picked) × Delivers old number system answer made new
  RunsCall old Ticking made new = Ticks old made new
  RunsCall old Settling made new = (answer : Settled) × Settles 0 old answer made new

  -- the calls have these events, one after another
  abbrev pub RunsCalls : World C → List ClCall → List Event → World C → Type 0
  RunsCalls first [] journal last = (journal ≡ []) × (last ≡ first)
  RunsCalls first (call ∷ calls) journal last =
      (mid : World C) × (made rest : List Event) × RunsCall first call made mid × (journal ≡ made ++ rest) × RunsCalls mid calls rest last
