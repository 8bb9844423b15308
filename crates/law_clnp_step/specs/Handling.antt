-- What comes up from the carrier below is handled by the systems, and their frames are offered to it.
use Rattle.std.specs.Prelude.{◌≡◌, ℕ, ◌==◌, Bool, true, false, List, [], ◌∷◌, ◌++◌}
use Rattle.std.specs.List.{list_any}
use Rattle.nsap.specs.declared.port.Port.{Port}
use Rattle.osi_base.specs.declared.unit.Unit.{Unit as CarriedUnit}
use Rattle.osi_base.specs.declared.unit.Arrival.{Arrival}
use Rattle.osi_base.specs.declared.unit.Up.{Up}
use Rattle.osi_base.specs.declared.unit.Up.TheVariants.{Unit as Came, Note as Noted}
use Rattle.osi_base.specs.declared.unit.Wish.{Wish}
use Rattle.osi_base.specs.declared.unit.Offered.{Offered}
use Rattle.osi_base.specs.declared.unit.Offered.TheVariants.{Taken as WasTaken, Dropped}
use Rattle.osi_base.specs.declared.note.Note.TheVariants.{DropFrame}
use Rattle.osi_base.specs.Link.{Link}
use Rattle.osi_base.specs.Calls.{Call, Offer}
use Rattle.osi_base.specs.Gathering.{Gathers}
use Rattle.clnp_system.specs.Node.{Node, Reaction}
use Rattle.clnp_system.specs.Tables.{Tables}
use Rattle.clnp_system.specs.Receiving.{Receives}
use Rattle.clnp_system.specs.Ticking.{NodeTicks}

-- a frame is offered as it is
abbrev pub plain_wish : Wish
plain_wish = record { cut = false; report = false; trace = false; path = 0 }

-- the notes among what came up
abbrev pub notes_of : List (Up Port) → List (Up (List ℕ))
notes_of [] = []
notes_of (Noted note ∷ ups) = Noted note ∷ notes_of ups
notes_of (Came arrival ∷ ups) = notes_of ups

-- a frame of that system was lost
abbrev pub drop_note : ℕ → Offered → List (Up (List ℕ))
drop_note system WasTaken = []
drop_note system (Dropped cause) = Noted (DropFrame system) ∷ []

-- one node of the list becomes another: the first that passes the test
pub record Changes {N : Type 0} (test : Node N → Bool) (nodes : List (Node N)) (node after : Node N) (changed : List (Node N)) : Type 0 where
  pub before : List (Node N)
  pub behind : List (Node N)
  pub stands : nodes ≡ before ++ node ∷ behind
  pub none_before : list_any test before ≡ false
  pub passes : test node ≡ true
  pub becomes : changed ≡ before ++ after ∷ behind

abbrev pub is_system : {N : Type 0} → ℕ → Node N → Bool
is_system system node = node.setup.system == system

-- an arrival is handed to its system; at a system that is not there nothing happens
pub data IsReceived {N : Type 0} (tables : Tables N) (now : ℕ) (nodes : List (Node N)) (arrival : Arrival Port) (reaction : Reaction) (changed : List (Node N)) : Type 0 where
  Nobody : list_any (is_system arrival.system) nodes ≡ false → reaction ≡ record { ups = []; frames = [] } → changed ≡ nodes
      → IsReceived tables now nodes arrival reaction changed
  Somebody : (node after : Node N) → Changes (is_system arrival.system) nodes node after changed → Receives tables node now arrival.unit reaction after
      → IsReceived tables now nodes arrival reaction changed

module _ {C : Type 0} (link : C → Link Port) (steps : C → Call Port → C → Type 0) where
  -- a frame is offered, and what is told of it is passed on; a drop is told
  pub record OffersFrame (old : C) (system : ℕ) (frame : CarriedUnit Port) (new : C) (told : List (Up (List ℕ))) : Type 0 where
    pub answer : Offered
    pub offered : C
    pub notes : List (Up Port)
    pub offers : steps old (Offer frame plain_wish answer) offered
    pub gathers : Gathers link steps offered notes new
    pub told_is : told ≡ notes_of notes ++ drop_note system answer

  -- the frames of a system, one after another
  abbrev pub OffersFrames : C → ℕ → List (CarriedUnit Port) → C → List (Up (List ℕ)) → Type 0
  OffersFrames old system [] new told = (new ≡ old) × (told ≡ [])
  OffersFrames old system (frame ∷ frames) new told =
      (mid : C) × (here rest : List (Up (List ℕ))) × OffersFrame old system frame mid here × OffersFrames mid system frames new rest × (told ≡ here ++ rest)

  module _ {N : Type 0} (tables : Tables N) (now : ℕ) where
    -- what came up, one after another: what a system tells and hands up comes first, then what is told of its frames
    abbrev pub Handles : C → List (Node N) → List (Up Port) → C → List (Node N) → List (Up (List ℕ)) → Type 0
    Handles old nodes [] new after told = (new ≡ old) × (after ≡ nodes) × (told ≡ [])
    Handles old nodes (Noted note ∷ ups) new after told = (rest : List (Up (List ℕ))) × Handles old nodes ups new after rest × (told ≡ Noted note ∷ rest)
    Handles old nodes (Came arrival ∷ ups) new after told =
        (reaction : Reaction) × (mid : C) × (changed : List (Node N)) × (here rest : List (Up (List ℕ)))
        × IsReceived tables now nodes arrival reaction changed × OffersFrames old arrival.system reaction.frames mid here
        × Handles mid changed ups new after rest × (told ≡ reaction.ups ++ (here ++ rest))

    -- a tick of each system, in order
    abbrev pub TicksAll : C → List (Node N) → C → List (Node N) → List (Up (List ℕ)) → Type 0
    TicksAll old [] new after told = (new ≡ old) × (after ≡ []) × (told ≡ [])
    TicksAll old (node ∷ nodes) new after told =
        (reaction : Reaction) × (mid : C) × (ticked : Node N) × (others : List (Node N)) × (here rest : List (Up (List ℕ)))
        × NodeTicks tables node now reaction ticked × OffersFrames old node.setup.system reaction.frames mid here
        × TicksAll mid nodes new others rest × (after ≡ ticked ∷ others) × (told ≡ reaction.ups ++ (here ++ rest))
