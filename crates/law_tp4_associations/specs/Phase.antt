-- The life of an association where nothing is lost and all is handed over in order before a user or the clock acts: in which states its ends are, and what
-- waits for each (X.224, class 4 state tables; frozen references).
use Rattle.std.specs.Prelude.{◌≡◌, ◌⊎◌, ℕ, ◌+◌, ◌<◌, ◌≤◌, true, false, List, [], ◌∷◌, Option, Some, None}
use Rattle.tpdu.specs.Kinds.{has_number}
use Rattle.tpdu.specs.Writing.{kind_for}
use Rattle.tpdu.specs.declared.tpdu.Tpdu.{Tpdu}
use Rattle.tpdu.specs.declared.tpdu.Tpdu.TheVariants.{Cr, Cc, Dr, Dc, Dt, Ed, Ak, Ea, Er}
use Rattle.tp4_flow.specs.declared.rules.FlowRules.{FlowRules}
use Rattle.tpdu.specs.declared.service.Options.{Options}
use Rattle.tp4_flow.specs.declared.step.Sent.{Sent}
use Rattle.tp4_conn.specs.declared.halves.Halves.{Halves}
use Rattle.tp4_conn.specs.declared.states.InAkWait.{InAkWait}
use Rattle.tp4_conn.specs.declared.states.InWaitBeforeClose.{InWaitBeforeClose}
use Rattle.tp4_conn.specs.declared.states.InCrWait.{InCrWait}
use Rattle.tp4_conn.specs.declared.states.StateData.{StateData}
use Rattle.tp4_conn.specs.declared.states.StateData.TheVariants.{CrWait, WaitBeforeClose, UserWait, AkWait, Opened, Closing, Frozen}
use Rattle.tp4_conn.specs.declared.timers.Timers.{Timers}
use Rattle.tp4_conn.specs.Agreeing.{confirm, is_confirmed, request}
use Rattle.tp4_conn.specs.End.{End, agreed_format, agreed_sum, frozen_for}
use Rattle.tp4_conn.specs.Matching.{sum_agreed}
use Rattle.tp4_entity.specs.References.{was_frozen}
use Rattle.law_tp4_pair.specs.Pair.{Pair}
use Rattle.law_tp4_pair.specs.Standing.{HasLeft, Stands}
use Rattle.law_tp4_associations.specs.Association.{Association}

-- ---- ends

abbrev pub IsFrozen : StateData → Type 0
IsFrozen (Frozen when) = Unit {0}
IsFrozen stage = ⊥

-- its reference is not free: it is not frozen, or not for long enough
abbrev pub IsInUse : ℕ → End → Type 0
IsInUse now end = was_frozen now (frozen_for end.base.timers) end.stage ≡ false

-- no answer to its CR came yet
abbrev pub IsAsking : StateData → Type 0
IsAsking (CrWait w) = Unit {0}
IsAsking (WaitBeforeClose w) = Unit {0}
IsAsking stage = ⊥

-- no end stands, or a frozen one
abbrev pub IsOver : Option End → Type 0
IsOver None = Unit {0}
IsOver (Some end) = IsFrozen end.stage

-- ---- TPDUs

-- one of them is of that kind
abbrev pub Has : (Tpdu → Type 0) → List Sent → Type 0
Has P [] = ⊥
Has P (sent ∷ tpdus) = P sent.tpdu ⊎ Has P tpdus

-- a CR of the end of that reference
abbrev pub IsRequest : ℕ → Tpdu → Type 0
IsRequest from (Cr credit source width calling called size preferred extra version classes ack_time text) = source ≡ from
IsRequest from other = ⊥

-- a DR with source 0 to the end of that reference
abbrev pub IsRefusal : ℕ → Tpdu → Type 0
IsRefusal own (Dr destination source reason info text) = (destination ≡ own) × (source ≡ 0)
IsRefusal own other = ⊥

-- a DR from that reference; one with source 0; a DC; a CC
abbrev pub IsReleaseOf : ℕ → Tpdu → Type 0
IsReleaseOf from (Dr destination source reason info text) = source ≡ from
IsReleaseOf from other = ⊥

abbrev pub IsDone : Tpdu → Type 0
IsDone (Dc destination source) = Unit {0}
IsDone other = ⊥

abbrev pub IsConfirm : Tpdu → Type 0
IsConfirm (Cc credit destination source width calling called size preferred extra version classes ack_time text) = Unit {0}
IsConfirm other = ⊥

-- all go to that address, and are of that kind
abbrev pub AreAll : (Tpdu → Type 0) → List ℕ → List Sent → Type 0
AreAll P to [] = Unit {0}
AreAll P to (sent ∷ tpdus) = (sent.to ≡ to) × P sent.tpdu × AreAll P to tpdus

-- ---- where one has left

-- data come only to an end that was open
abbrev pub HearsData : StateData → Type 0
HearsData (Opened o) = Unit {0}
HearsData (Closing c) = Unit {0}
HearsData (Frozen when) = Unit {0}
HearsData stage = ⊥

-- what may wait for an end from the end of that reference, or as an answer to it: a DR, a DC, data; a CR or a CC for a frozen end alone
abbrev pub MayCome : End → ℕ → Tpdu → Type 0
MayCome end other (Dr destination source reason info text) = (destination ≡ end.base.own) × ((source ≡ other) ⊎ (source ≡ 0))
MayCome end other (Dc destination source) = (destination ≡ end.base.own) × (source ≡ other)
MayCome end other (Cc credit destination source width calling called size preferred extra version classes ack_time text) = (destination ≡ end.base.own) × (source ≡ other) × IsFrozen end.stage
MayCome end other (Cr credit source width calling called size preferred extra version classes ack_time text) = (source ≡ other) × (end.base.partner ≡ other) × (end.base.is_called ≡ true) × IsFrozen end.stage
MayCome end other (Dt destination last number text) = (destination ≡ end.base.own) × HearsData end.stage
MayCome end other (Ed destination last number text) = (destination ≡ end.base.own) × HearsData end.stage
MayCome end other (Ak destination number credit subsequence confirmation) = (destination ≡ end.base.own) × HearsData end.stage
MayCome end other (Ea destination number) = (destination ≡ end.base.own) × HearsData end.stage
MayCome end other (Er destination cause rejected) = ⊥

-- it has the checksum and the format that the end agreed on
pub record Comes (end : End) (other : ℕ) (address : List ℕ) (sent : Sent) : Type 0 where
  pub kind : MayCome end other sent.tpdu
  pub to : sent.to ≡ address
  pub summed : sum_agreed end.base.agreed ≡ true → sent.sum ≡ true
  pub formatted : has_number (kind_for sent.tpdu) ≡ true → sent.format ≡ agreed_format end.base.agreed

abbrev pub AllCome : End → ℕ → List ℕ → List Sent → Type 0
AllCome end other address [] = Unit {0}
AllCome end other address (sent ∷ tpdus) = Comes end other address sent × AllCome end other address tpdus

-- both halves send to the other end, as it reads
pub record SendsFor (other : End) (address : List ℕ) (rules : FlowRules) : Type 0 where
  pub to : rules.to ≡ address
  pub partner : rules.partner ≡ other.base.own
  pub format : rules.format ≡ agreed_format other.base.agreed
  pub sum : sum_agreed other.base.agreed ≡ true → rules.sum ≡ true

pub record AreWriting (other : End) (address : List ℕ) (h : Halves) : Type 0 where
  pub rules : FlowRules
  pub sending : h.sending.rules ≡ rules
  pub receiving : h.receiving.rules ≡ rules
  pub fits : SendsFor other address rules

abbrev pub Writes : StateData → End → List ℕ → Type 0
Writes (Opened o) other address = AreWriting other address o.halves
Writes stage other address = Unit {0}

-- what an end knows of the other one, which is of that address
pub record Knows (end other : End) (address : List ℕ) : Type 0 where
  pub partner : IsFrozen end.stage ⊎ (end.base.partner ≡ other.base.own)
  pub to : end.base.to ≡ address
  pub sum : sum_agreed other.base.agreed ≡ true → agreed_sum end.base.agreed ≡ true
  pub writes : Writes end.stage other address

-- An end that is not frozen will be, by its state and that of the other one: a DR waits for it, where the other one has left; in Closing a DC does too, or
-- its own DR waits for the other one
abbrev pub WillFreeze : ℕ → ℕ → StateData → StateData → List Sent → List Sent → Type 0
WillFreeze own other (Frozen when) stage into out = Unit {0}
WillFreeze own other (Opened o) (Closing c) into out = Has (IsReleaseOf other) into
WillFreeze own other (Opened o) (Frozen when) into out = Has (IsReleaseOf other) into
WillFreeze own other (AkWait w) (Closing c) into out = Has (IsReleaseOf other) into
WillFreeze own other (AkWait w) (Frozen when) into out = Has (IsReleaseOf other) into ⊎ (Has (IsReleaseOf 0) into ⊎ Has IsConfirm out)
WillFreeze own other (Closing c) (Closing d) into out = Has (IsReleaseOf other) into
WillFreeze own other (Closing c) (Frozen when) into out = Has (IsReleaseOf other) into ⊎ (Has IsDone into ⊎ Has (IsReleaseOf own) out)
WillFreeze own other (Closing c) (Opened o) into out = Unit {0}
WillFreeze own other (Closing c) (AkWait w) into out = Unit {0}
WillFreeze own other stage any into out = ⊥

-- both ends stand, and one has left: `into` waits for the first, `out` for the second. The addresses are those of the two
pub record ArePartingFrom (end other : End) (here there : List ℕ) (into out : List Sent) : Type 0 where
  pub into_are : AllCome end other.base.own here into
  pub knows : Knows end other there
  pub freezes : WillFreeze end.base.own other.base.own end.stage other.stage into out

pub record AreParting (end other : End) (here there : List ℕ) (into out : List Sent) : Type 0 where
  pub one : ArePartingFrom end other here there into out
  pub next : ArePartingFrom other end there here out into

-- ---- the phases

-- an end without an answer to its CR
pub record Asks (x : End) : Type 0 where
  pub stage : IsAsking x.stage
  pub unagreed : x.base.agreed ≡ None

-- a pair from the accept on, of which no end has left
pub record IsPaired (now : ℕ) (p : Pair) (forth back : List Sent) : Type 0 where
  pub clock : p.clock ≡ now
  pub forth_is : p.forth ≡ forth
  pub back_is : p.back ≡ back
  pub stands : Stands p
  pub within : (r : InCrWait) (options : Options) → p.calling.stage ≡ CrWait r → p.called.base.agreed ≡ Some options → is_confirmed p.calling.base.proposed options ≡ true
  pub stays : HasLeft p.calling.stage ⊎ HasLeft p.called.stage → ⊥

-- the CR was indicated, and the user may still answer
pub record IsIndicated (timers : Timers) (now : ℕ) (x y : End) (since : ℕ) : Type 0 where
  pub stage : y.stage ≡ UserWait since
  pub past : since ≤ now
  pub in_time : now < since + timers.inactive
  pub proposed : y.base.proposed ≡ x.base.proposed
  pub credit : y.base.credit ≡ x.base.timers.credit
  pub unagreed : y.base.agreed ≡ None

-- it was accepted, and the CC waits
pub record IsConfirming (y : End) (back : List Sent) : Type 0 where
  pub answering : InAkWait
  pub stage : y.stage ≡ AkWait answering
  pub options : Options
  pub agreed : y.base.agreed ≡ Some options
  pub octets : List ℕ
  pub back_is : back ≡ confirm y.base options octets ∷ []

-- `here` is the address of the calling end's system, `there` that of the called one; `forth` waits for the called end, `back` for the calling one
pub data Phase (timers : Timers) (here there : List ℕ) (now : ℕ) (a : Association) (forth back : List Sent) : Type 0 where
  -- the CR waits, and no end was made for it yet
  Asking : (x : End) (r : InCrWait) → a.calling ≡ Some x → a.called ≡ None → Asks x → x.stage ≡ CrWait r → forth ≡ request x.base r.octets ∷ [] → back ≡ [] → Phase timers here there now a forth back
  -- its refusal waits
  Rejected : (x : End) (refusal : Sent) → a.calling ≡ Some x → a.called ≡ None → Asks x → forth ≡ [] → back ≡ refusal ∷ [] → refusal.to ≡ here → IsRefusal x.base.own refusal.tpdu
      → Phase timers here there now a forth back
  -- it was indicated; copies of it may wait
  Waiting : (x y : End) (since : ℕ) → a.calling ≡ Some x → a.called ≡ Some y → Asks x → IsIndicated timers now x y since → AreAll (IsRequest x.base.own) there forth → back ≡ []
      → Phase timers here there now a forth back
  -- the calling end gave up, after the indication
  Late : (x y : End) (when since : ℕ) → a.calling ≡ Some x → a.called ≡ Some y → x.stage ≡ Frozen when → x.base.agreed ≡ None → IsIndicated timers now x y since → since ≤ when → forth ≡ [] → back ≡ []
      → Phase timers here there now a forth back
  -- it was refused after the indication
  Refused : (x y : End) (first : Sent) (others : List Sent) → a.calling ≡ Some x → a.called ≡ Some y → Asks x → IsFrozen y.stage → IsInUse now y → y.base.agreed ≡ None → AreAll (IsRequest x.base.own) there forth
      → back ≡ first ∷ others → AreAll (IsRefusal x.base.own) here back → Phase timers here there now a forth back
  -- it was accepted, and the calling end's user had disconnected
  Answered : (x y : End) (w : InWaitBeforeClose) → a.calling ≡ Some x → a.called ≡ Some y → Asks x → x.stage ≡ WaitBeforeClose w → IsConfirming y back → forth ≡ [] → Phase timers here there now a forth back
  -- it was accepted, and no end has left
  Paired : (p : Pair) → a.calling ≡ Some p.calling → a.called ≡ Some p.called → IsPaired now p forth back → Phase timers here there now a forth back
  -- one has left
  Leaving : (x y : End) → a.calling ≡ Some x → a.called ≡ Some y → AreParting x y here there back forth → IsInUse now x → IsInUse now y → Phase timers here there now a forth back
  -- both have, and nothing waits
  Over : IsOver a.calling → IsOver a.called → forth ≡ [] → back ≡ [] → Phase timers here there now a forth back
