-- A system of the network, with what it knows of others in any form.
use Rattle.std.specs.Prelude.{ℕ, List, [], ◌∷◌, Option, None, Result, Ok, Err}
use Rattle.nsap.specs.declared.port.Port.{Port}
use Rattle.osi_base.specs.declared.unit.DropCause.{DropCause}
use Rattle.osi_base.specs.declared.unit.Unit.{Unit as CarriedUnit}
use Rattle.osi_base.specs.declared.unit.Up.{Up}
use Rattle.osi_base.specs.declared.unit.Up.TheVariants.{Unit as Came}
use Rattle.clnp_segment.specs.Store.{Holding}
use Rattle.clnp_system.specs.declared.answer.Handled.{Handled}
use Rattle.clnp_system.specs.declared.answer.NetSent.{NetSent}
use Rattle.clnp_system.specs.declared.answer.NetSent.TheVariants.{Dropped, Frames}
use Rattle.clnp_system.specs.declared.answer.Outcome.{Outcome}
use Rattle.clnp_system.specs.declared.answer.Outcome.TheVariants.{Handled as Many, Unit as Alone}
use Rattle.clnp_system.specs.declared.answer.UnitFrames.{UnitFrames}
use Rattle.clnp_system.specs.declared.answer.UnitFrames.TheVariants.{List as Listed, One}
use Rattle.clnp_system.specs.Setting.{Setting}

pub record Node (N : Type 0) : Type 0 where
  pub setup : Setting
  pub clock : ℕ
  -- the next data unit identifier, and the last ticks at which one below 32,768, or from it on, was given
  pub next_id : ℕ
  pub low : Option ℕ
  pub high : Option ℕ
  pub store : Holding
  pub neighbours : N
  pub redirects : N

-- a system at first, which knows nothing and holds nothing: of segments at most 32 units and 262,144 octets
abbrev pub fresh_node : {N : Type 0} → Setting → N → Node N
fresh_node setting nothing = record {
  setup = setting;
  clock = 0;
  next_id = 0;
  low = None;
  high = None;
  store = record { clock = 0; units = 32; octets = 262144; held = [] };
  neighbours = nothing;
  redirects = nothing;
}

-- at that tick, and else the same
abbrev pub at_tick : {N : Type 0} → ℕ → Node N → Node N
at_tick now node = record node { clock = now }

-- octets on a LAN
abbrev pub Frame : Type 0
Frame = CarriedUnit Port

-- what a system does: what comes up, and the frames that go out
pub record Reaction : Type 0 where
  pub ups : List (Up (List ℕ))
  pub frames : List (CarriedUnit Port)

abbrev pub reaction_of : Handled → Reaction
reaction_of handled = record { ups = handled.ups.items; frames = handled.frames.items }

-- the same of what a frame comes to: mostly a unit alone comes up
abbrev pub reaction_in : Outcome → Reaction
reaction_in (Alone arrival) = record { ups = Came arrival ∷ []; frames = [] }
reaction_in (Many handled) = reaction_of handled

-- the frames in which a unit goes out, mostly one
abbrev pub frames_in : UnitFrames → List (CarriedUnit Port)
frames_in (One frame) = frame ∷ []
frames_in (Listed frames) = frames.items

-- what it answers to a unit that is sent: the frames, or the cause by which the unit is dropped
abbrev pub sent_of : NetSent → Result (List (CarriedUnit Port)) DropCause
sent_of (Frames frames) = Ok (frames_in frames)
sent_of (Dropped cause) = Err cause
