-- Beside each state of a running network stands a history that explains it; and what is asked of the steps of its entities (X.224, class 4
-- procedures).
use Rattle.std.specs.Prelude.{◌≡◌, ◌⊎◌, ◌≤◌, ◌+◌, ℕ, false, List, [], ◌∷◌, replicate, Some, None}
use Rattle.osi_base.specs.declared.unit.Unit.{Unit as CarriedUnit}
use Rattle.osi_base.specs.Link.{Link}
use Rattle.tpdu.specs.Kinds.{has_number}
use Rattle.tpdu.specs.Values.{TpduAndSum, destination_of, format_for}
use Rattle.tpdu.specs.Writing.{IsAllowed, IsWritten, kind_for}
use Rattle.tpdu.specs.declared.fault.TpduCause.{TpduCause}
use Rattle.tp4_number.specs.Number.{whole}
use Rattle.tp4_flow.specs.declared.step.EndEvent.{EndEvent}
use Rattle.tp4_flow.specs.declared.step.Sent.{Sent}
use Rattle.tp4_flow.specs.declared.step.What.TheVariants.{BadTpdu}
use Rattle.tp4_conn.specs.Calls.{IsCall}
use Rattle.tp4_conn.specs.End.{IsTimed}
use Rattle.tp4_conn.specs.Proper.{IsProperCall, IsSendable}
use Rattle.tp4_conn.specs.declared.call.ConnectRequest.{ConnectRequest}
use Rattle.tp4_conn.specs.declared.call.UserCall.{UserCall}
use Rattle.tp4_conn.specs.declared.timers.Timers.{Timers}
use Rattle.tp4_entity.specs.Association.{met}
use Rattle.tp4_entity.specs.Entity.{Entity, at, Acted}
use Rattle.tp4_entity.specs.References.{least_free}
use Rattle.tp4_entity.specs.Step.{call_of, calling, connecting, first_due, ticking, user_refusal, restarted}
use Rattle.tp4_entity.specs.Unit.{EndsWith, Separates, extended_of}
use Rattle.script_journal.specs.declared.event.Event.{Event}
use Rattle.law_tp4_history.specs.History.{History}
use Rattle.law_tp4_history.specs.Tracks.{Whole}
use Rattle.tp4_world.specs.World.{World}
use Rattle.tp4_world.specs.declared.place.Placed.{Placed}
use Rattle.tp4_world.specs.declared.place.EndAt.{EndAt}
use Rattle.law_tp4_lawful.proofs.Along as along
use Rattle.law_tp4_lawful.proofs.Known.{IsOffered, Known}

-- what entities keep (`Sound`), and that none of their ends was due before a tick (`InTime`): where no end is due, none is after an event; and each
-- tick keeps both
pub record Outcomes (Sound : Entity → Type 0) (InTime : ℕ → Entity → Type 0) : Type 0 where
  pub new : (now references : ℕ) (e : Entity) → e.ends ≡ replicate references None → IsTimed e.timers → 1 ≤ e.timers.inactive → Sound e × (first_due now e ≡ None)
  pub clock : (now : ℕ) (e : Entity) → Sound e → Sound (at now e)
  pub restarting : (now : ℕ) (e : Entity) → Sound e → Sound (restarted now e) × (first_due now (restarted now e) ≡ None)
  pub connecting : (now reference : ℕ) (e : Entity) (request : ConnectRequest) → Sound e → first_due now e ≡ None → least_free now e ≡ Some reference → IsProperCall (call_of e reference request)
      → Sound (connecting now e reference request).entity × (first_due now (connecting now e reference request).entity ≡ None)
  pub calling : (now reference : ℕ) (e : Entity) (call : UserCall) → Sound e → first_due now e ≡ None → user_refusal e reference call ≡ None → IsCall call
      → Sound (calling whole now e reference call).entity × (first_due now (calling whole now e reference call).entity ≡ None)
  pub met : (now : ℕ) (e : Entity) (from : List ℕ) (tpdu : TpduAndSum) → Sound e → first_due now e ≡ None → IsAllowed (format_for (extended_of e) (destination_of tpdu.0)) tpdu.0
      → Sound (met whole now e from tpdu).entity × (first_due now (met whole now e from tpdu).entity ≡ None)
  pub ticking : (now : ℕ) (e : Entity) → Sound e → InTime now e → Sound (ticking whole now e).entity × InTime now (ticking whole now e).entity
  pub waits : (now : ℕ) (e : Entity) → first_due now e ≡ None → InTime now e × InTime (now + 1) e

-- the octets of one TPDU are that TPDU alone, by its kind and its destination, and by all else where it is read in the format in which it was
-- written; or they are none, and their fault is told
abbrev pub OneInUnit : Type 0
OneInUnit = (extended octets rest : List ℕ) (sent : Sent) (tpdus : List TpduAndSum) (told : List EndEvent)
    → IsSendable sent → IsWritten sent.format sent.sum sent.tpdu octets → Separates extended octets tpdus rest → EndsWith extended rest told
    → ((tpdu : TpduAndSum) × (tpdus ≡ tpdu ∷ []) × (told ≡ [])
    × (kind_for tpdu.0 ≡ kind_for sent.tpdu) × (destination_of tpdu.0 ≡ destination_of sent.tpdu)
    × (has_number (kind_for sent.tpdu) ≡ false → tpdu.0 ≡ sent.tpdu)
    × (format_for extended (destination_of sent.tpdu) ≡ sent.format → tpdu.0 ≡ sent.tpdu)
    × IsAllowed (format_for extended (destination_of tpdu.0)) tpdu.0)
    ⊎ ((cause : TpduCause) × (place : ℕ) × (tpdus ≡ []) × (told ≡ record { reference = 0; what = BadTpdu cause place } ∷ []))

-- ---- where a history explains the ends, and no more is known

-- an entity of a system did this, and these events came first: the history goes on, and explains what stands then
abbrev pub Follows : List (List ℕ) → Timers → Whole → List Event → List Placed → List EndAt → ℕ → List ℕ → List Event → Acted → Type 0
Follows titles timers = along.Follows timers (Known titles timers) IsOffered

-- a user asks for a connection; the entity is not silent, and a reference is free
abbrev pub AfterConnect : List (List ℕ) → Timers → Type 0
AfterConnect titles timers = along.AfterConnect timers (Known titles timers) IsOffered

-- a user calls an end, and the call is not refused
abbrev pub AfterCall : List (List ℕ) → Timers → Type 0
AfterCall titles timers = along.AfterCall timers (Known titles timers) IsOffered

-- a TPDU comes to an entity that is not silent: it was offered, and is read in the format of the end there
abbrev pub AfterMeet : List (List ℕ) → Timers → Type 0
AfterMeet titles timers = along.AfterMeet timers (Known titles timers) IsOffered

-- an end that is due ticks
abbrev pub AfterTick : List (List ℕ) → Timers → Type 0
AfterTick titles timers = along.AfterTick timers (Known titles timers) IsOffered

-- events that make no end and tell no unit
abbrev pub AfterAside : List (List ℕ) → Timers → Type 0
AfterAside titles timers = along.AfterAside timers (Known titles timers) IsOffered

-- a tick, where no end is due
abbrev pub AfterClock : List (List ℕ) → Timers → Type 0
AfterClock titles timers = along.AfterClock timers (Known titles timers) IsOffered

-- an entity begins again
abbrev pub AfterRestart : List (List ℕ) → Timers → Type 0
AfterRestart titles timers = along.AfterRestart timers (Known titles timers) IsOffered

-- the history follows each step of an entity
abbrev pub Followed : List (List ℕ) → Timers → Type 0
Followed titles timers = along.Followed timers (Known titles timers) IsOffered

abbrev pub AreOffered : History → ℕ → List ℕ → List Sent → Type 0
AreOffered = along.AreOffered IsOffered

-- the unit is a TPDU that was offered at that tick
abbrev pub IsBacked : History → ℕ → CarriedUnit (List ℕ) → Type 0
IsBacked = along.IsBacked IsOffered

-- what is seen of the carrier, beside the history
abbrev pub Carries : ℕ → History → Link (List ℕ) → Type 0
Carries = along.Carries IsOffered

-- the history explains the network
abbrev pub Explains : {C : Type 0} → (C → Link (List ℕ)) → List (List ℕ) → Timers → Whole → List Event → World C → Type 0
Explains {C} link titles timers = along.Explains timers (Known titles timers) IsOffered link

-- and no end is due
abbrev pub Rests : {C : Type 0} → (C → Link (List ℕ)) → (Entity → Type 0) → List (List ℕ) → Timers → List Event → World C → Type 0
Rests {C} link Sound titles timers = along.Rests timers (Known titles timers) IsOffered link Sound
