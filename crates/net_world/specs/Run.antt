-- What a call does to a network, over any carrier of units, and the events that it makes: that of the call first, and then what the
-- network hands up, in order (X.213, connectionless-mode network service).
use Rattle.std.specs.Prelude.{◌≡◌, ℕ, List, [], ◌∷◌}
use Rattle.osi_base.specs.declared.unit.Up.{Up}
use Rattle.osi_base.specs.declared.unit.Unit.{Unit as CarriedUnit}
use Rattle.osi_base.specs.declared.unit.Offered.{Offered}
use Rattle.osi_base.specs.declared.unit.Wish.{Wish}
use Rattle.osi_base.specs.Link.{Link}
use Rattle.osi_base.specs.Calls.{Call, Offer}
use Rattle.osi_base.specs.Gathering.{Gathers}
use Rattle.script_journal.specs.RawLawful.{raw_address}
use Rattle.script_journal.specs.declared.event.Event.{Event}
use Rattle.script_journal.specs.declared.event.Event.TheVariants as events
use Rattle.script_journal.specs.declared.cause.Refused.TheVariants.{EmptyUnit}
use Rattle.net_world.specs.Told.{told, sent_event}

-- a raw unit from the system of one title to that of another
abbrev pub raw_unit : List ℕ → List ℕ → List ℕ → CarriedUnit (List ℕ)
raw_unit sender receiver octets = record { from = raw_address sender; to = raw_address receiver; octets = octets }

module _ {C : Type 0} (link : C → Link (List ℕ)) (steps : C → Call (List ℕ) → C → Type 0) where
  -- a call, and then all that waits is taken up
  pub record Passes (old : C) (call : Call (List ℕ)) (ups : List (Up (List ℕ))) (new : C) : Type 0 where
    pub called : C
    pub steps_to : steps old call called
    pub gathers : Gathers link steps called ups new

  -- a unit without octets is refused before all else
  abbrev pub SendsUnit : C → ℕ → List ℕ → List ℕ → Wish → List ℕ → List Event → C → Type 0
  SendsUnit old system sender receiver wish [] made new = (made ≡ events.No EmptyUnit ∷ []) × (new ≡ old)
  SendsUnit old system sender receiver wish (octet ∷ octets) made new =
      (answer : Offered) × (ups : List (Up (List ℕ))) × Passes old (Offer (raw_unit sender receiver (octet ∷ octets)) wish answer) ups new
      × (made ≡ sent_event system (raw_address receiver) (octet ∷ octets) answer ∷ told ups)

  -- the network as it starts: what waits then is told at tick 0
  abbrev pub Starts : C → List Event → C → Type 0
  Starts first made new = (ups : List (Up (List ℕ))) × Gathers link steps first ups new × (made ≡ events.Tick 0 ∷ told ups)
