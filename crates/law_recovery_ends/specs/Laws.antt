-- What an Opened end knows of its receiver, and one direction between two of them since when nothing is lost (X.224, class 4 state tables; explicit flow control,
-- retransmission on time-out, expedited data).
use Rattle.std.specs.Prelude.{◌≡◌, ◌<◌, ◌≤◌, ℕ, ◌+◌, true, List, length, Contains, max}
use Rattle.tp4_sending.specs.declared.tries.Tries.{Tries}
use Rattle.tp4_conn.specs.declared.end_record.EndRecord.{EndRecord}
use Rattle.tp4_conn.specs.declared.states.InOpened.{InOpened}
use Rattle.tp4_conn.specs.declared.states.StateData.TheVariants.{Opened}
use Rattle.tp4_conn.specs.Living.{IsInTime}
use Rattle.tp4_conn.specs.Table.{Event, due, stepped}
use Rattle.law_recovery_ends.specs.Due.{AreTried, AreYoung, IsUndue}
use Rattle.tp4_conn.specs.End.{End}
use Rattle.law_tp4_rows.specs.Giving.{EventGives, Gives}
use Rattle.law_recovery_ends.specs.Knowing.{StageKnows, RowKnows, HasHeard, IsFreshView}
use Rattle.tp4_number.specs.Traffic.{ReadsRightly, Rules, Traffic}
use Rattle.tp4_sending.specs.SendingHalf.{FlowSender, block_in}
use Rattle.law_recovery_pair.specs.Speaking.{Knows}
use Rattle.law_recovery_pair.specs.Viewing.{KeepsView}
use Rattle.law_recovery_ends.specs.Lines.{AreIn, WasSaid}
use Rattle.tp4_flow.specs.ReceivingHalf.{Half}
use Rattle.law_recovery_pair.specs.Riding.{Aside}
use Rattle.law_recovery_ends.specs.Resting.{IsPast, IsNow, AreUndue}

-- an Opened end that is not due spoke, heard and tried in time
abbrev pub EndsAreUndue : Type 0
EndsAreUndue = (now : ℕ) (b : EndRecord) (o : InOpened) → o.halves.sending.is_open ≡ true → IsInTime (due b (Opened o)) (now + 1) → IsUndue now b o

-- so each number of the window was sent less than T1 ticks ago, where T1 ticks have passed since u
abbrev pub NumbersAreSent : Type 0
NumbersAreSent = (u t1 now n : ℕ) (window : List Tries) (sends : List (ℕ × ℕ)) → AreTried u n window sends → AreYoung t1 now window → u + t1 ≤ now + 1
    → (m : ℕ) → n ≤ m → m < n + length window → (tick : ℕ) × Contains sends (m, tick) × (now < tick + t1)

-- over each row, where the timers of all ends give one credit
abbrev pub RowsKnow : Type 0
RowsKnow = (credit : ℕ) (wrap : ℕ → ℕ → ℕ) (now : ℕ) (e : End) (event : Event) → Gives credit e.base e.stage → EventGives credit event → StageKnows credit e.stage
    → RowKnows credit e.stage event (stepped wrap now e event).stage

-- the sender of a line began with no more than the room of its receiver
abbrev pub BeginnersKnow : Type 0
BeginnersKnow = (room credit : ℕ) (t : FlowSender) (new : Traffic) → new.sender ≡ t.numbers → credit ≤ room → IsFreshView credit t → Knows room new

-- it knows what it knew
abbrev pub KeepersKnow : Type 0
KeepersKnow = (room : ℕ) (s t : FlowSender) (old new : Traffic) → AreIn s t old new → KeepsView s t → Knows room old → Knows room new

-- or what an AK said that came
abbrev pub HearersKnow : Type 0
HearersKnow = (rules : Rules) (room : ℕ) (s t : FlowSender) (event : Event) (old new : Traffic) → AreIn s t old new → rules.block ≡ block_in s → ReadsRightly rules old
    → WasSaid rules old event → HasHeard s event t → Knows room new

-- where nothing was lost from a tick on, nothing waits, neither end is due, and the longer of T1 and W has passed, nothing is outstanding, and both know the same
abbrev pub DirectionsRest : Type 0
DirectionsRest = (life size t1 window now : ℕ) (w : Traffic) (s : FlowSender) (h : Half) (x : Aside) → IsPast life size s w → IsNow life size w now s h x → AreUndue t1 window (w.clock + 1) now s x
    → w.clock + max t1 window ≤ now
    → (s.numbers.next ≡ s.numbers.base) × (s.numbers.base ≡ h.receiver.expected) × (s.numbers.credit ≡ h.receiver.inbox.credit) × (s.numbers.subsequence ≡ h.receiver.inbox.subsequence)
