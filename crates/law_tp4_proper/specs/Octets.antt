-- What is sent stands in octets, and goes to an address (X.224, structure and encoding of TPDUs): a reference, a credit and a subsequence have two
-- octets, and each octet is below 256.
use Rattle.std.specs.Prelude.{◌≡◌, ◌<◌, ℕ, Bool, true, List, length, Some}
use Rattle.std.specs.List.{AllByRecursion}
use Rattle.law_carrier_answers.specs.Answers.{AreOctets}
use Rattle.tpdu.specs.declared.tpdu.Tpdu.{Tpdu}
use Rattle.tpdu.specs.declared.tpdu.Tpdu.TheVariants.{Cr, Cc, Dr, Dc, Dt, Ed, Ak, Ea, Er}
use Rattle.tp4_flow.specs.ReceivingHalf.{Half}
use Rattle.tp4_flow.specs.declared.rules.FlowRules.{FlowRules}
use Rattle.tp4_flow.specs.declared.step.Sent.{Sent}
use Rattle.tp4_sending.specs.SendingHalf.{FlowSender}
use Rattle.tp4_conn.specs.declared.end_record.EndRecord.{EndRecord}
use Rattle.tp4_conn.specs.declared.call.ConnectCall.{ConnectCall}
use Rattle.tp4_conn.specs.declared.call.UserCall.{UserCall}
use Rattle.tp4_conn.specs.declared.call.UserCall.TheVariants.{Accept, Refuse, Normal, Urgent, Window, Disconnect}
use Rattle.tp4_conn.specs.declared.halves.Halves.{Halves}
use Rattle.tp4_conn.specs.declared.states.StateData.{StateData}
use Rattle.tp4_conn.specs.declared.states.StateData.TheVariants.{CrWait, WaitBeforeClose, UserWait, AkWait, Opened, Closing, Frozen}
use Rattle.tp4_conn.specs.End.{End}
use Rattle.tp4_entity.specs.Entity.{Acted, Entity, end_at}

-- a number of two octets
abbrev pub IsPair : ℕ → Type 0
IsPair number = number < 65536

abbrev pub HasOctets : Tpdu → Type 0
HasOctets (Cr credit source width calling called size preferred extra version classes ack_time octets) =
    IsPair source × AreOctets calling × AreOctets called × (extra < 256) × AreOctets octets
HasOctets (Cc credit destination source width calling called size preferred extra version classes ack_time octets) =
    IsPair destination × IsPair source × AreOctets calling × AreOctets called × (extra < 256) × AreOctets octets
HasOctets (Dr destination source reason info octets) = IsPair destination × IsPair source × (reason < 256) × AreOctets octets
HasOctets (Dc destination source) = IsPair destination × IsPair source
HasOctets (Dt destination last number octets) = IsPair destination × AreOctets octets
HasOctets (Ed destination last number octets) = IsPair destination × AreOctets octets
HasOctets (Ak destination number credit subsequence confirmation) = IsPair destination × IsPair credit × IsPair subsequence
HasOctets (Ea destination number) = IsPair destination
HasOctets (Er destination cause rejected) = IsPair destination × (cause < 256)

-- octets of units, one after another
abbrev pub AreUnits : List (List ℕ) → Type 0
AreUnits units = AllByRecursion AreOctets units

module _ (is_address : List ℕ → Bool) where
  abbrev pub IsAddressed : Sent → Type 0
  IsAddressed sent = (is_address sent.to ≡ true) × HasOctets sent.tpdu

  abbrev pub AreAddressed : List Sent → Type 0
  AreAddressed tpdus = AllByRecursion IsAddressed tpdus

  -- ---- ends

  pub record RulesInOctets (rules : FlowRules) : Type 0 where
    pub to : is_address rules.to ≡ true
    pub partner : IsPair rules.partner

  pub record SenderInOctets (s : FlowSender) : Type 0 where
    pub rules : RulesInOctets s.rules
    pub units : AreUnits s.queue.units
    pub urgent : AreUnits s.urgent.units

  pub record HalfInOctets (h : Half) : Type 0 where
    pub rules : RulesInOctets h.rules
    pub credit : IsPair h.receiver.inbox.credit
    pub subsequence : IsPair h.receiver.inbox.subsequence

  pub record HalvesInOctets (h : Halves) : Type 0 where
    pub sending : SenderInOctets h.sending
    pub receiving : HalfInOctets h.receiving

  pub record BaseInOctets (b : EndRecord) : Type 0 where
    pub own : IsPair b.own
    pub partner : IsPair b.partner
    pub to : is_address b.to ≡ true
    pub calling : AreOctets b.calling
    pub called : AreOctets b.called

  abbrev pub StageInOctets : StateData → Type 0
  StageInOctets (CrWait w) = AreOctets w.octets
  StageInOctets (WaitBeforeClose w) = AreOctets w.request.octets × AreOctets w.octets
  StageInOctets (UserWait since) = Unit {0}
  StageInOctets (AkWait w) = AreOctets w.octets × HalvesInOctets w.halves
  StageInOctets (Opened o) = HalvesInOctets o.halves
  StageInOctets (Closing c) = (c.reason < 256) × AreOctets c.octets
  StageInOctets (Frozen when) = Unit {0}

  pub record EndInOctets (e : End) : Type 0 where
    pub base : BaseInOctets e.base
    pub stage : StageInOctets e.stage

  -- ---- what users ask

  abbrev pub CallInOctets : UserCall → Type 0
  CallInOctets (Accept options octets) = AreOctets octets
  CallInOctets (Refuse octets) = AreOctets octets
  CallInOctets (Normal octets) = AreOctets octets
  CallInOctets (Urgent octets) = AreOctets octets
  CallInOctets (Window credit) = Unit {0}
  CallInOctets (Disconnect octets) = AreOctets octets

  pub record ConnectInOctets (call : ConnectCall) : Type 0 where
    pub own : IsPair call.own
    pub to : is_address call.request.to ≡ true
    pub from_selector : AreOctets call.request.from_selector
    pub to_selector : AreOctets call.request.to_selector
    pub octets : AreOctets call.request.octets

  -- ---- entities

  -- at an address, with references of two octets
  pub record EntityInOctets (e : Entity) : Type 0 where
    pub own : is_address e.own ≡ true
    pub few : length e.ends < 65536
    pub ends : (reference : ℕ) (end : End) → end_at e reference ≡ Some end → EndInOctets end

  -- a step leaves an entity in octets, and so is what it sends
  pub record StepInOctets (acted : Acted) : Type 0 where
    pub entity : EntityInOctets acted.entity
    pub tpdus : AreAddressed acted.tpdus
