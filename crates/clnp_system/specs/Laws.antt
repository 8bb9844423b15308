-- What holds of each step of a system: what goes out and what comes up derives from what came in (X.233, forward PDU function, reassembly).
use Rattle.std.specs.Prelude.{ℕ, List, Ok}
use Rattle.std.specs.List.{AllByRecursion}
use Rattle.osi_base.specs.declared.unit.Unit.{Unit as CarriedUnit}
use Rattle.osi_base.specs.declared.unit.Wish.{Wish}
use Rattle.osi_base.specs.Link.{IsNote}
use Rattle.clnp_system.specs.Setting.{bound_of}
use Rattle.clnp_system.specs.Tables.{Tables}
use Rattle.clnp_system.specs.Node.{Node, Frame, Reaction}
use Rattle.clnp_system.specs.Sending.{Sends}
use Rattle.clnp_system.specs.Receiving.{Receives}
use Rattle.clnp_system.specs.Ticking.{NodeTicks}
use Rattle.clnp_system.specs.Deriving.{AllCarry, DerivesFrom, IsSentFrom, ComesIf, StoresOrStays, KeepsRest}

-- a DT PDU of what goes out derives from the PDU that came in
abbrev pub Derived : Type 0 → Type 0
Derived N = (tables : Tables N) (old : Node N) (now : ℕ) (frame : Frame) (reaction : Reaction) (new : Node N)
    → Receives tables old now frame reaction new → AllCarry reaction.frames (DerivesFrom frame.octets (bound_of old.setup frame.to.lan))

-- a DT PDU of what is sent is from the unit
abbrev pub SentAll : Type 0 → Type 0
SentAll N = (tables : Tables N) (old : Node N) (now : ℕ) (unit : CarriedUnit (List ℕ)) (wish : Wish) (frames : List Frame) (new : Node N)
    → Sends tables old now unit wish (Ok frames) new → AllCarry frames (IsSentFrom old unit wish)

-- a tick sends no DT PDU, and tells notes alone
abbrev pub QuietTick : Type 0 → Type 0
QuietTick N = (tables : Tables N) (old : Node N) (now : ℕ) (reaction : Reaction) (new : Node N)
    → NodeTicks tables old now reaction new → AllCarry reaction.frames (λ pdu. ⊥) × AllByRecursion IsNote reaction.ups

-- a unit that comes up came from such a PDU, whole, or from the last segment that was missing
abbrev pub ComesUp : Type 0 → Type 0
ComesUp N = (tables : Tables N) (old : Node N) (now : ℕ) (frame : Frame) (reaction : Reaction) (new : Node N)
    → Receives tables old now frame reaction new → AllByRecursion (ComesIf old now frame new) reaction.ups

-- a frame leaves the store as it is, or a segment is taken; the setup and the identifiers stay
abbrev pub Stored : Type 0 → Type 0
Stored N = (tables : Tables N) (old : Node N) (now : ℕ) (frame : Frame) (reaction : Reaction) (new : Node N)
    → Receives tables old now frame reaction new → StoresOrStays old now frame new × KeepsRest old now new
