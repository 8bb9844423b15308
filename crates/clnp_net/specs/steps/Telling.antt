-- What a part of a call tells, behind what waits already.
use Rattle.std.specs.Prelude.{◌≡◌, ◌⊎◌, ◌≤◌, ℕ, true, false, List, [], ◌∷◌, ◌++◌, slice_get, slice_set, Option, Some, None, Result, Ok, Err}
use Rattle.std.specs.List.{AllByRecursion, list_any}
use Rattle.nsap.specs.declared.port.Port.{Port}
use Rattle.osi_base.specs.declared.unit.Unit.{Unit as CarriedUnit}
use Rattle.osi_base.specs.declared.unit.Arrival.{Arrival}
use Rattle.osi_base.specs.declared.unit.Up.{Up}
use Rattle.osi_base.specs.declared.unit.Up.TheVariants.{Unit as Came, Note as Noted}
use Rattle.osi_base.specs.declared.unit.Wish.{Wish}
use Rattle.osi_base.specs.declared.unit.DropCause.{DropCause}
use Rattle.osi_base.specs.declared.unit.DropCause.TheVariants.{NoRoute}
use Rattle.osi_base.specs.declared.unit.Offered.{Offered}
use Rattle.osi_base.specs.declared.unit.Offered.TheVariants.{Taken as WasTaken, Dropped}
use Rattle.osi_base.specs.Link.{Link}
use Rattle.osi_base.specs.Calls.{Call}
use Rattle.osi_base.specs.Gathering.{Gathers}
use Rattle.esis_tables.specs.Rows.{Rows}
use Rattle.clnp_system.specs.declared.answer.NetSent.{NetSent}
use Rattle.clnp_system.specs.Node.{Frame, Node, Reaction, sent_of}
use Rattle.clnp_system.specs.Receiving.{Receives}
use Rattle.clnp_system.specs.Sending.{Sends}
use Rattle.clnp_system.specs.Tables.{rows_tables}
use Rattle.clnp_system.specs.Ticking.{NodeTicks}
use Rattle.law_clnp_step.specs.Handling.{Changes, Handles, OffersFrames, notes_of}
use Rattle.law_clnp_step.specs.Step.{is_source}

-- these were added behind what waited
pub record Tells (before after : List (Up (List ℕ))) (Told : List (Up (List ℕ)) → Type 0) : Type 0 where
  pub told : List (Up (List ℕ))
  pub added : after ≡ before ++ told
  pub are : Told told

-- a note is passed on
abbrev pub note_in : Up Port → List (Up (List ℕ))
note_in (Noted note) = Noted note ∷ []
note_in (Came arrival) = []

-- all that waited below was taken up, and its notes are told
pub record Passes {C : Type 0} (link : C → Link Port) (steps : C → Call Port → C → Type 0) (old : C) (before : List (Up (List ℕ))) (new : C) (after : List (Up (List ℕ))) : Type 0 where
  pub ups : List (Up Port)
  pub gathers : Gathers link steps old ups new
  pub added : after ≡ before ++ notes_of ups

-- what a system tells and hands up, and then what is told of its frames
pub record Reacts {C : Type 0} (link : C → Link Port) (steps : C → Call Port → C → Type 0) (old : C) (system : ℕ) (reaction : Reaction) (new : C) (told : List (Up (List ℕ))) : Type 0 where
  pub here : List (Up (List ℕ))
  pub offers : OffersFrames link steps old system reaction.frames new here
  pub told_is : told ≡ reaction.ups ++ here

-- no system's clock is ahead
abbrev pub AreBehind : {N : Type 0} → ℕ → List (Node N) → Type 0
AreBehind now nodes = AllByRecursion (λ node. node.clock ≤ now) nodes

-- all that waited below was taken up, and then handled
pub record HandlesWaiting {C : Type 0} (link : C → Link Port) (steps : C → Call Port → C → Type 0) (now : ℕ) (old : C) (nodes : List (Node Rows)) (before : List (Up (List ℕ))) (new : C) (changed : List (Node Rows)) (after : List (Up (List ℕ))) : Type 0 where
  pub ups : List (Up Port)
  pub mid : C
  pub gathers : Gathers link steps old ups mid
  pub handles : Tells before after (λ told. Handles link steps rows_tables now mid nodes ups new changed told)

-- one system of those ticks
pub record TicksAt (now place system : ℕ) (nodes : List (Node Rows)) (reaction : Reaction) (changed : List (Node Rows)) : Type 0 where
  pub node : Node Rows
  pub after : Node Rows
  pub at : slice_get nodes place ≡ Some node
  pub ticks : NodeTicks rows_tables node now reaction after
  pub system_is : system ≡ node.setup.system
  pub becomes : changed ≡ slice_set nodes place after

-- one system of those takes a frame
pub record ReceivesAt (now place : ℕ) (nodes : List (Node Rows)) (arrival : Arrival Port) (reaction : Reaction) (changed : List (Node Rows)) : Type 0 where
  pub node : Node Rows
  pub after : Node Rows
  pub at : slice_get nodes place ≡ Some node
  pub receives : Receives rows_tables node now arrival.unit reaction after
  pub becomes : changed ≡ slice_set nodes place after

-- one system of those sends a unit, or drops it
abbrev pub IsSourceAt : List ℕ → ℕ → List (Node Rows) → Type 0
IsSourceAt from place nodes = (node : Node Rows) → slice_get nodes place ≡ Some node → is_source from node ≡ true

pub record SendsAt (now : ℕ) (unit : CarriedUnit (List ℕ)) (wish : Wish) (place system : ℕ) (nodes : List (Node Rows)) (sent : Result (List Frame) DropCause) (changed : List (Node Rows)) : Type 0 where
  pub node : Node Rows
  pub after : Node Rows
  pub at : slice_get nodes place ≡ Some node
  pub sends : Sends rows_tables node now unit wish sent after
  pub system_is : system ≡ node.setup.system
  pub becomes : changed ≡ slice_set nodes place after

-- the first system that has the source does
pub record SendsFrom (now : ℕ) (unit : CarriedUnit (List ℕ)) (wish : Wish) (nodes : List (Node Rows)) (system : ℕ) (sent : Result (List Frame) DropCause) (changed : List (Node Rows)) : Type 0 where
  pub node : Node Rows
  pub after : Node Rows
  pub change : Changes (is_source unit.from) nodes node after changed
  pub sends : Sends rows_tables node now unit wish sent after
  pub system_is : system ≡ node.setup.system

abbrev pub IsSentBy : ℕ → CarriedUnit (List ℕ) → Wish → List (Node Rows) → Option (ℕ × NetSent) → List (Node Rows) → Type 0
IsSentBy now unit wish nodes None changed = (list_any (is_source unit.from) nodes ≡ false) × (changed ≡ nodes)
IsSentBy now unit wish nodes (Some sent) changed = SendsFrom now unit wish nodes sent.0 (sent_of sent.1) changed

-- no system has the source, or the one that has it drops the unit; or its frames are offered
pub record TakesUnit {C : Type 0} (link : C → Link Port) (steps : C → Call Port → C → Type 0) (now : ℕ) (unit : CarriedUnit (List ℕ)) (wish : Wish)
    (old : C) (nodes : List (Node Rows)) (new : C) (changed : List (Node Rows)) (told : List (Up (List ℕ))) : Type 0 where
  pub system : ℕ
  pub frames : List Frame
  pub sends : SendsFrom now unit wish nodes system (Ok frames) changed
  pub offers : OffersFrames link steps old system frames new told

abbrev pub DropsUnit : ℕ → CarriedUnit (List ℕ) → Wish → List (Node Rows) → DropCause → List (Node Rows) → Type 0
DropsUnit now unit wish nodes cause changed =
    ((list_any (is_source unit.from) nodes ≡ false) × (cause ≡ NoRoute) × (changed ≡ nodes))
    ⊎ ((system : ℕ) × SendsFrom now unit wish nodes system (Err cause) changed)

abbrev pub HandsOut : {C : Type 0} → (C → Link Port) → (C → Call Port → C → Type 0) → ℕ → CarriedUnit (List ℕ) → Wish → C → List (Node Rows) → List (Up (List ℕ))
    → Offered → C → List (Node Rows) → List (Up (List ℕ)) → Type 0
HandsOut link steps now unit wish old nodes before (Dropped cause) new changed after = DropsUnit now unit wish nodes cause changed × (new ≡ old) × (after ≡ before)
HandsOut link steps now unit wish old nodes before WasTaken new changed after = Tells before after (λ told. TakesUnit link steps now unit wish old nodes new changed told)
