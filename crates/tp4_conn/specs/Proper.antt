-- What each end keeps that a proper call or a CR made, through proper events: then all that it sends has octets (X.224, structure and
-- encoding of TPDUs), and its sending half waits for something at each tick.
use Rattle.std.specs.Prelude.{◌≡◌, ◌≤◌, ℕ, true, List, [], ◌∷◌, length, Option, Some, None}
use Rattle.tpdu.specs.Writing.{IsPlain, IsAllowed, IsCredit}
use Rattle.tpdu.specs.declared.service.Options.{Options}
use Rattle.tp4_flow.specs.declared.step.Sent.{Sent}
use Rattle.tp4_sending.specs.Settled.{IsSettled}
use Rattle.tp4_conn.specs.declared.end_record.EndRecord.{EndRecord}
use Rattle.tp4_conn.specs.declared.call.ConnectCall.{ConnectCall}
use Rattle.tp4_conn.specs.declared.halves.Halves.{Halves}
use Rattle.tp4_conn.specs.declared.states.StateData.{StateData}
use Rattle.tp4_conn.specs.declared.states.StateData.TheVariants.{CrWait, WaitBeforeClose, UserWait, AkWait, Opened, Closing, Frozen}
use Rattle.tp4_conn.specs.Calls.{IsCall, call_refusal}
use Rattle.tp4_conn.specs.End.{End, Moved, IsProposal, IsSized, IsTimed, agreed_format}
use Rattle.tp4_conn.specs.Living.{Life, after}
use Rattle.tp4_conn.specs.Table.{Event, Called, Took, Ticked}

-- it has octets in its format: no field that is not written, and each within what the format allows
abbrev pub IsSendable : Sent → Type 0
IsSendable sent = IsPlain sent.tpdu × IsAllowed sent.format sent.tpdu

abbrev pub AreSendable : List Sent → Type 0
AreSendable [] = Unit {0}
AreSendable (sent ∷ tpdus) = IsSendable sent × AreSendable tpdus

-- expedited units, of 1 to 16 octets
abbrev pub AreExpedited : List (List ℕ) → Type 0
AreExpedited [] = Unit {0}
AreExpedited (unit ∷ units) = (1 ≤ length unit) × (length unit ≤ 16) × AreExpedited units

-- the halves of an end that agreed: T1 passes, the format is the agreed one and has bits for the credit
pub record AreHalves (agreed : Option Options) (h : Halves) : Type 0 where
  pub t1 : 1 ≤ h.sending.rules.t1
  pub expedited : AreExpedited h.sending.urgent.units
  pub format : h.receiving.rules.format ≡ agreed_format agreed
  pub credit : IsCredit h.receiving.rules.format h.receiving.receiver.inbox.credit

-- the halves of an end that is Opened: all that may go went
pub record AreOpen (agreed : Option Options) (h : Halves) : Type 0 where
  pub halves : AreHalves agreed h
  pub is_open : h.sending.is_open ≡ true
  pub settled : IsSettled h.sending

abbrev pub HasSize : Option Options → Type 0
HasSize None = Unit {0}
HasSize (Some o) = IsSized o

-- the octets that a state keeps are those of a CR, a CC or a DR
abbrev pub IsProperStage : Option Options → StateData → Type 0
IsProperStage agreed (CrWait w) = length w.octets ≤ 32
IsProperStage agreed (WaitBeforeClose w) = (length w.request.octets ≤ 32) × (length w.octets ≤ 64)
IsProperStage agreed (UserWait since) = Unit {0}
IsProperStage agreed (AkWait w) = (length w.octets ≤ 32) × HasSize agreed × AreHalves agreed w.halves
IsProperStage agreed (Opened o) = AreOpen agreed o.halves
IsProperStage agreed (Closing c) = length c.octets ≤ 64
IsProperStage agreed (Frozen when) = Unit {0}

pub record IsProper (b : EndRecord) (stage : StateData) : Type 0 where
  pub timers : IsTimed b.timers
  pub calling : length b.calling ≤ 32
  pub called : length b.called ≤ 32
  pub size : IsProposal b.proposed
  pub state : IsProperStage b.agreed stage

-- a connect call whose CR has octets
pub record IsProperCall (call : ConnectCall) : Type 0 where
  pub timers : IsTimed call.rules
  pub size : IsSized call.request.options
  pub calling : length call.request.from_selector ≤ 32
  pub called : length call.request.to_selector ≤ 32
  pub octets : length call.request.octets ≤ 32

-- a call that is not refused, a TPDU of the agreed format, or a tick
abbrev pub IsProperEvent : End → Event → Type 0
IsProperEvent e (Called call) = (call_refusal e.base e.stage call ≡ None) × IsCall call
IsProperEvent e (Took tpdu sum) = IsAllowed (agreed_format e.base.agreed) tpdu
IsProperEvent e Ticked = Unit {0}

-- these events are proper, one after another
abbrev pub AreProper : (ℕ → ℕ → ℕ) → Life → List (ℕ × Event) → Type 0
AreProper wrap life [] = Unit {0}
AreProper wrap life (x ∷ xs) = IsProperEvent life.end x.1 × AreProper wrap (after wrap life x.0 x.1) xs

-- the end after a row is proper, and all that it sends has octets
pub record IsProperRow (m : Moved) : Type 0 where
  pub proper : IsProper m.base m.stage
  pub tpdus : AreSendable m.tpdus
