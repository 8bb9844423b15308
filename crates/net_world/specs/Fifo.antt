-- A carrier that loses nothing and keeps order, as long as no frame is dropped: what was offered between its systems waits in one queue, and the least
-- fresh pair, chosen again and again, hands it over from the front, each unit once (X.213, queue model of the network connectionless-mode service).
use Rattle.std.specs.Prelude.{◌≡◌, ◌⊎◌, ℕ, List, [], ◌∷◌, ◌++◌, slice_get, Some, None}
use Rattle.nsap.specs.Address.{system_part}
use Rattle.osi_base.specs.declared.unit.Arrival.{Arrival}
use Rattle.osi_base.specs.declared.unit.Unit.{Unit as CarriedUnit}
use Rattle.osi_base.specs.declared.unit.Up.{Up}
use Rattle.osi_base.specs.declared.unit.Up.TheVariants.{Unit as Came, Note as Noted}
use Rattle.osi_base.specs.declared.unit.Wish.{Wish}
use Rattle.osi_base.specs.declared.unit.Offered.{Offered}
use Rattle.osi_base.specs.declared.unit.Offered.TheVariants.{Taken as WasTaken, Dropped}
use Rattle.osi_base.specs.declared.unit.Picked.TheVariants.{Taken as WasPicked}
use Rattle.osi_base.specs.declared.note.Note.TheVariants.{DropFrame}
use Rattle.osi_base.specs.Link.{Link, IsLeastFresh}
use Rattle.osi_base.specs.Calls.{Call, Offer, Choose, Tick}
use Rattle.net_world.specs.Run.{Passes}

-- the units among what came up
abbrev pub arrivals : List (Up (List ℕ)) → List (Arrival (List ℕ))
arrivals [] = []
arrivals (Noted note ∷ ups) = arrivals ups
arrivals (Came arrival ∷ ups) = arrival ∷ arrivals ups

-- no frame was dropped
abbrev pub NoneDropped : List (Up (List ℕ)) → Type 0
NoneDropped [] = Prim.Unit {0}
NoneDropped (Noted (DropFrame system) ∷ ups) = ⊥
NoneDropped (up ∷ ups) = NoneDropped ups

-- the address of the users of a system: that of its raw units is 2, that of its transport users 1
pub record IsUser (titles : List (List ℕ)) (address : List ℕ) (system : ℕ) : Type 0 where
  pub title : List ℕ
  pub title_is : slice_get titles system ≡ Some title
  pub selector : ℕ
  pub known : (selector ≡ 1) ⊎ (selector ≡ 2)
  pub address_is : address ≡ system_part title ++ selector ∷ []

-- a unit from users of one system to users of another, or of the same one, and no longer than a unit may be
pub record IsBetween (titles : List (List ℕ)) (unit : CarriedUnit (List ℕ)) : Type 0 where
  pub sender : ℕ
  pub receiver : ℕ
  pub from : IsUser titles unit.from sender
  pub to : IsUser titles unit.to receiver

-- the queue after an offer
abbrev pub queued : List (CarriedUnit (List ℕ)) → CarriedUnit (List ℕ) → Offered → List (CarriedUnit (List ℕ))
queued queue unit WasTaken = queue ++ unit ∷ []
queued queue unit (Dropped cause) = queue

-- what comes of the least fresh pair: no unit, and all still wait; or the first of the queue, at the system of its users
pub data Hands {C : Type 0} (titles : List (List ℕ)) (Waits : C → List (CarriedUnit (List ℕ)) → Type 0) (queue : List (CarriedUnit (List ℕ))) (ups : List (Up (List ℕ))) (new : C) : Type 0 where
  Nothing : arrivals ups ≡ [] → Waits new queue → Hands titles Waits queue ups new
  First : (unit : CarriedUnit (List ℕ)) (rest : List (CarriedUnit (List ℕ))) (system : ℕ) → queue ≡ unit ∷ rest → arrivals ups ≡ record { system = system; unit = unit } ∷ []
      → IsUser titles unit.to system → Waits new rest → Hands titles Waits queue ups new

-- `Waits state queue`: the carrier has these units to hand over, in this order. As long as no frame is dropped: an offer puts its unit behind them, a choice of the least
-- fresh pair hands over the first, or none yet; where there is no fresh pair nothing waits; and a tick where nothing waits brings no unit
pub record IsFifo {C : Type 0} (link : C → Link (List ℕ)) (steps : C → Call (List ℕ) → C → Type 0) (titles : List (List ℕ)) (Waits : C → List (CarriedUnit (List ℕ)) → Type 0) : Type 0 where
  pub offered : (old new : C) (queue : List (CarriedUnit (List ℕ))) (unit : CarriedUnit (List ℕ)) (wish : Wish) (answer : Offered) (ups : List (Up (List ℕ)))
      → Waits old queue → IsBetween titles unit → wish.path ≡ 0 → Passes link steps old (Offer unit wish answer) ups new → NoneDropped ups
      → (arrivals ups ≡ []) × Waits new (queued queue unit answer)
  pub chosen : (old new : C) (queue : List (CarriedUnit (List ℕ))) (pair : ℕ × ℕ) (ups : List (Up (List ℕ)))
      → Waits old queue → IsLeastFresh (link old) (Some pair) → Passes link steps old (Choose pair.0 pair.1 WasPicked) ups new → NoneDropped ups
      → Hands titles Waits queue ups new
  pub none : (old : C) (queue : List (CarriedUnit (List ℕ))) → Waits old queue → IsLeastFresh (link old) None → queue ≡ []
  pub ticked : (old new : C) (ups : List (Up (List ℕ))) → Waits old [] → Passes link steps old Tick ups new → NoneDropped ups
      → (arrivals ups ≡ []) × Waits new []
