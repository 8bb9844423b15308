-- What an end knows of its receiver, over its rows: what it began with, which is the credit that all timers give, or what an AK said that it heard (X.224, class 4
-- state tables; explicit flow control).
use Rattle.std.specs.Prelude.{◌≡◌, ◌⊎◌, ◌≤◌, ℕ}
use Rattle.tpdu.specs.declared.tpdu.Tpdu.TheVariants.{Ak}
use Rattle.tp4_number.specs.Number.{near}
use Rattle.tp4_sending.specs.SendingHalf.{FlowSender, block_in}
use Rattle.tp4_conn.specs.declared.states.StateData.{StateData}
use Rattle.tp4_conn.specs.declared.states.StateData.TheVariants.{AkWait, Opened}
use Rattle.tp4_conn.specs.Table.{Event, Took}
use Rattle.law_recovery_pair.specs.Viewing.{IsWithin, KeepsView}

-- a sending half that began with this credit, and heard no AK
pub record IsFreshView (credit : ℕ) (t : FlowSender) : Type 0 where
  pub base : t.numbers.base ≡ 0
  pub credit_is : t.numbers.credit ≡ credit
  pub subsequence : t.numbers.subsequence ≡ 0
  pub edge : IsWithin t

-- what comes is an AK that says so, with that wire number
abbrev pub SaysAk : Event → ℕ → ℕ → ℕ → Type 0
SaysAk (Took (Ak destination number given later confirmation) sum) w credit subsequence = (number ≡ w) × (given ≡ credit) × (later ≡ subsequence)
SaysAk other w credit subsequence = ⊥

-- a sending half heard it, and knows what it says: as it was read, which is no number beyond those that it sent, or where it knew of none
pub record HasHeard (s : FlowSender) (event : Event) (t : FlowSender) : Type 0 where
  pub w : ℕ
  pub credit : ℕ
  pub subsequence : ℕ
  pub says : SaysAk event w credit subsequence
  pub low : (near (block_in s) s.numbers.base w ≤ s.numbers.blocks.high) ⊎ (s.numbers.base ≡ 0)
  pub base : t.numbers.base ≡ near (block_in s) s.numbers.base w
  pub credit_is : t.numbers.credit ≡ credit
  pub subsequence_is : t.numbers.subsequence ≡ subsequence
  pub edge : IsWithin t

-- an end by its state: until it is Opened it has heard no AK
abbrev pub StageKnows : ℕ → StateData → Type 0
StageKnows credit (AkWait w) = IsFreshView credit w.halves.sending
StageKnows credit (Opened o) = IsWithin o.halves.sending
StageKnows credit stage = Unit {0}

-- and an end that is Opened after a row, by its state before
abbrev pub ViewIn : ℕ → StateData → Event → FlowSender → Type 0
ViewIn credit (AkWait w) event t = IsFreshView credit t ⊎ HasHeard w.halves.sending event t
ViewIn credit (Opened o) event t = KeepsView o.halves.sending t ⊎ HasHeard o.halves.sending event t
ViewIn credit stage event t = IsFreshView credit t

abbrev pub RowKnows : ℕ → StateData → Event → StateData → Type 0
RowKnows credit old event (AkWait w) = IsFreshView credit w.halves.sending
RowKnows credit old event (Opened o) = ViewIn credit old event o.halves.sending
RowKnows credit old event stage = Unit {0}
