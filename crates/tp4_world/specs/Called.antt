-- The calls of a network with transport entities, one after another, and the events that they give (X.214, service primitives).
use Rattle.std.specs.Prelude.{◌≡◌, ◌≤◌, ℕ, List, [], ◌∷◌, ◌++◌, length}
use Rattle.osi_base.specs.declared.unit.Wish.{Wish}
use Rattle.osi_base.specs.declared.unit.Picked.{Picked}
use Rattle.osi_base.specs.declared.unit.Injected.{Injected}
use Rattle.osi_base.specs.Link.{Link}
use Rattle.osi_base.specs.Calls.{Call}
use Rattle.script_journal.specs.declared.event.Event.{Event}
use Rattle.tp4_conn.specs.Calls.{IsCall}
use Rattle.tp4_conn.specs.End.{IsSized}
use Rattle.tp4_conn.specs.declared.call.ConnectRequest.{ConnectRequest}
use Rattle.tp4_conn.specs.declared.call.UserCall.{UserCall}
use Rattle.tp4_world.specs.Run.{Calls, Connects, Delivers, Injects, Restarts, SendsRaw, Settles, Ticks}
use Rattle.tp4_world.specs.World.{World}

-- a call, with what its carrier answered
--   Connect        a user of a system asks for a connection, to any address
--   Ask            a user calls the end of a number
--   Raw            a raw unit goes from a system, with any sender
--   Deliver        what arrives is chosen
--   Inject         a system gets octets that no system sent
--   Restart        the transport entity of a system begins again
--   Pass           one tick passes
--   Settle         the least pair that was not taken is delivered, again and again
pub data WorldCall : Type 0 where
  Connect : (system : ℕ) (request : ConnectRequest) → WorldCall
  Ask : (end : ℕ) (call : UserCall) → WorldCall
  Raw : (system : ℕ) (sender receiver : List ℕ) (wish : Wish) (octets : List ℕ) → WorldCall
  Deliver : (number system : ℕ) (answer : Picked) → WorldCall
  Inject : (lan system : ℕ) (octets : List ℕ) (answer : Injected) → WorldCall
  Restart : (system : ℕ) → WorldCall
  Pass : WorldCall
  Settle : WorldCall

-- the call keeps its limits: the size of a TPDU is one that a script may name, a selector has 32 octets at most, and a credit is at most 255
abbrev pub KeepsLimits : WorldCall → Type 0
KeepsLimits (Connect system request) = IsSized request.options × (length request.from_selector ≤ 32) × (length request.to_selector ≤ 32)
KeepsLimits (Ask end call) = IsCall call
KeepsLimits call = Prim.Unit {0}

module _ {C : Type 0} (link : C → Link (List ℕ)) (steps : C → Call (List ℕ) → C → Type 0) (wrap : ℕ → ℕ → ℕ) where
  -- the call gave these events. `wrap` is what a receiving half keeps of a number, by its block
  abbrev pub Did : World C → WorldCall → List Event → World C → Type 0
  Did old (Connect system request) made new = Connects link steps old system request made new
  Did old (Ask end call) made new = Calls link steps wrap old end call made new
  Did old (Raw system sender receiver wish octets) made new = SendsRaw link steps old system sender receiver wish octets made new
  Did old (Deliver number system answer) made new = Delivers link steps wrap old number system answer made new
  Did old (Inject lan system octets answer) made new = Injects link steps wrap old lan system octets answer made new
  Did old (Restart system) made new = Restarts link steps old system made new
  Did old Pass made new = Ticks link steps wrap old made new
  Did old Settle made new = Settles link steps wrap 0 old made new

  -- these calls gave these events, one after another
  abbrev pub DidAll : World C → List WorldCall → List Event → World C → Type 0
  DidAll first [] journal last = (journal ≡ []) × (last ≡ first)
  DidAll first (call ∷ calls) journal last =
      (mid : World C) × (made rest : List Event) × Did first call made mid × (journal ≡ made ++ rest) × DidAll mid calls rest last

-- the call hands no system octets that no system sent
abbrev pub InjectsNothing : WorldCall → Type 0
InjectsNothing (Inject lan system octets answer) = ⊥
InjectsNothing call = Prim.Unit {0}
