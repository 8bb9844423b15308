-- What an end keeps along the calls of a network, whatever is lost: the credit that all timers give, what its sending half knows of its receiver, a place for each
-- number within its credit; it tried, acknowledged and took nothing later than now; and what may be submitted (X.224, class 4: retransmission, explicit flow control,
-- inactivity control, expedited data).
use Rattle.std.specs.Prelude.{◌≤◌, ℕ, List, length, Option, Some, ◌≡◌, ◌==◌, true, false, Contains}
use Rattle.std.specs.List.{AllByRecursion}
use Rattle.osi_base.specs.declared.unit.Unit.{Unit as CarriedUnit}
use Rattle.osi_base.specs.Link.{Link}
use Rattle.osi_base.specs.Calls.{Call}
use Rattle.nsap.specs.Address.{selector_of}
use Rattle.tpdu.specs.Values.{TpduAndSum}
use Rattle.tp4_number.specs.Number.{whole}
use Rattle.law_recovery_pair.specs.Views.{IsNoOlder, View}
use Rattle.tp4_flow.specs.ReceivingHalf.{Half, empty}
use Rattle.tpdu.specs.declared.service.Options.{Options}
use Rattle.tp4_flow.specs.declared.step.EndEvent.{EndEvent}
use Rattle.tp4_sending.specs.SendingHalf.{FlowSender, fresh, no_urgent}
use Rattle.law_recovery_pair.specs.Fitting.{Fits}
use Rattle.tp4_conn.specs.declared.end_record.EndRecord.{EndRecord}
use Rattle.tp4_conn.specs.declared.halves.Halves.{Halves}
use Rattle.tp4_conn.specs.declared.states.StateData.{StateData}
use Rattle.tp4_conn.specs.declared.states.StateData.TheVariants.{AkWait, Opened}
use Rattle.tp4_conn.specs.Agreeing.{flow_rules}
use Rattle.tp4_conn.specs.End.{End}
use Rattle.tp4_conn.specs.declared.timers.Timers.{Timers}
use Rattle.tp4_conn.specs.Opened.{is_expedited}
use Rattle.law_tp4_rows.specs.Giving.{Gives, GivesCredit}
use Rattle.law_recovery_ends.specs.Knowing.{StageKnows}
use Rattle.law_tp4_pair.specs.Telling.{Tells}
use Rattle.law_tp4_pair.specs.Pairs.{IsToldIn}
use Rattle.law_recovery_ends.specs.Due.{HasTried}
use Rattle.tp4_entity.specs.Entity.{Entity, end_at}
use Rattle.tp4_entity.specs.Unit.{EndsWith, Separates}
use Rattle.script_journal.specs.declared.event.Event.{Event}
use Rattle.script_journal.specs.Lawful.{normals, submitted}
use Rattle.tp4_world.specs.World.{entity_at, World}
use Rattle.tp4_world.specs.declared.place.Placed.{Placed}
use Rattle.law_tp4_lawful.specs.Called.{AreHonestCalls}

-- what a receiving half says now
abbrev pub says_of : Half → View
says_of h = record { number = h.receiver.expected; credit = h.receiver.inbox.credit; subsequence = h.receiver.inbox.subsequence }

-- it says nothing older than what it began with
abbrev pub IsRoomy : ℕ → Half → Type 0
IsRoomy credit h = IsNoOlder (record { number = 0; credit = credit; subsequence = 0 }) (says_of h)

-- both halves
pub record AreLate (credit now : ℕ) (h : Halves) : Type 0 where
  pub tried : HasTried now h.sending
  pub fits : Fits h.receiving
  pub roomy : IsRoomy credit h.receiving

-- what a sending half knows of its receiver
abbrev pub knows_of : FlowSender → View
knows_of s = record { number = s.numbers.base; credit = s.numbers.credit; subsequence = s.numbers.subsequence }

-- what an Opened end knows is no older than what its sending half began with
abbrev pub StageRises : ℕ → StateData → Type 0
StageRises credit (Opened o) = IsNoOlder (record { number = 0; credit = credit; subsequence = 0 }) (knows_of o.halves.sending)
StageRises credit stage = Unit {0}

-- an end by its state
abbrev pub StageLate : ℕ → ℕ → StateData → Type 0
StageLate credit now (AkWait w) = AreLate credit now w.halves
StageLate credit now (Opened o) = (o.took ≤ now) × (o.acked ≤ now) × AreLate credit now o.halves
StageLate credit now stage = Unit {0}

-- no expedited unit was submitted to a sending half
abbrev pub IsWithoutUrgent : FlowSender → Type 0
IsWithoutUrgent s = s.urgent ≡ no_urgent

-- an end by what it agreed on and its state: none was, where expedited data is not agreed
abbrev pub StageUrges : Option Options → StateData → Type 0
StageUrges agreed (AkWait w) = is_expedited agreed ≡ false → IsWithoutUrgent w.halves.sending
StageUrges agreed (Opened o) = is_expedited agreed ≡ false → IsWithoutUrgent o.halves.sending
StageUrges agreed stage = Unit {0}

-- the halves of an end as they were made when its user accepted, but for the clock, and for units that wait
pub record IsMade (b : EndRecord) (h : Halves) : Type 0 where
  pub options : Options
  pub agreed : b.agreed ≡ Some options
  pub clock : ℕ
  pub units : List (List ℕ)
  pub expedited : List (List ℕ)
  pub halves : h ≡ record {
    sending = record (fresh (flow_rules b options) b.credit) { clock = clock; queue = record { units = units; first = 0 }; urgent = record no_urgent { units = expedited } };
    receiving = empty (flow_rules b options) b.timers.credit;
  }

-- an end in AkWait: it has such halves, and sent its CC no later than now
abbrev pub StageMade : ℕ → EndRecord → StateData → Type 0
StageMade now b (AkWait w) = (w.tries.last ≤ now) × IsMade b w.halves
StageMade now b stage = Unit {0}

pub record IsSteady (credit now : ℕ) (b : EndRecord) (stage : StateData) : Type 0 where
  pub gives : Gives credit b stage
  pub knows : StageKnows credit stage
  pub late : StageLate credit now stage
  pub urges : StageUrges b.agreed stage
  pub made : StageMade now b stage
  pub rises : StageRises credit stage

-- each end of an entity
abbrev pub HasSteadyEnds : ℕ → ℕ → Entity → Type 0
HasSteadyEnds credit now entity = (reference : ℕ) (e : End) → end_at entity reference ≡ Some e → IsSteady credit now e.base e.stage

abbrev pub AreSteady : ℕ → ℕ → List Placed → Type 0
AreSteady credit now entities = (system : ℕ) (entity : Entity) → entity_at entities system ≡ Some entity → HasSteadyEnds credit now entity

-- each TPDU that is read in a unit for transport that floats gives the credit, if it is a CR or a CC
abbrev pub FloatsGive : ℕ → List (ℕ × CarriedUnit (List ℕ)) → Type 0
FloatsGive credit floating = (entry : ℕ × CarriedUnit (List ℕ)) → Contains floating entry → (selector_of entry.1.to == 1) ≡ true
    → (extended rest : List ℕ) (tpdus : List TpduAndSum) (told : List EndEvent) → Separates extended entry.1.octets tpdus rest → EndsWith extended rest told
    → (tpdu : TpduAndSum) → Contains tpdus tpdu → GivesCredit credit tpdu.0

-- each number that an end noted as held was told, and stands in the journal under the number of the end
pub record StageTells (journal : List Event) (y : ℕ) (stage : StateData) : Type 0 where
  pub told : List EndEvent
  pub tells : Tells stage told
  pub stands : IsToldIn journal y told

-- each normal unit that was submitted to an end has at most 16,384 octets
abbrev pub AreShort : List Event → Type 0
AreShort journal = (end : ℕ) → AllByRecursion (λ (unit : List ℕ). length unit ≤ 16384) (normals (submitted end journal))

-- each end gives the credit of the timers, and knows it of its partner; what its sending half knows it began with, until it is Opened; its receiving half has its places;
-- it tried, acknowledged and took nothing later than now; no expedited unit was submitted to it where expedited data is not agreed; and in AkWait it has its halves as they were made, but for
-- units that wait
abbrev pub EndsAreSteady : {C : Type 0} → (C → Link (List ℕ)) → Timers → World C → Type 0
EndsAreSteady link timers last = AreSteady timers.credit (link last.carrier).clock last.entities

-- over whole numbers, after any calls after which the carrier is honest
abbrev pub AfterCalls : {C : Type 0} → (C → Link (List ℕ)) → (C → Call (List ℕ) → C → Type 0) → (Timers → World C → Type 0) → Type 0
AfterCalls {C} link steps Holds = (titles : List (List ℕ)) (timers : Timers) (journal : List Event) (last : World C)
    → AreHonestCalls link steps whole titles timers journal last → Holds timers last
