-- Why a call of the user is refused, the first that applies (X.224, class 4 state tables).
use Rattle.std.specs.Prelude.{◌≤◌, ℕ, Bool, true, false, nat_lt, List, length, Option, Some, None, if◌then◌else◌}
use Rattle.tp4_flow.specs.declared.rules.SubmitRefusal.{SubmitRefusal}
use Rattle.tp4_flow.specs.declared.rules.SubmitRefusal.TheVariants as submits
use Rattle.tp4_sending.specs.SendingHalf.{FlowSender, refusal, urgent_refusal}
use Rattle.tp4_conn.specs.declared.end_record.EndRecord.{EndRecord}
use Rattle.tp4_conn.specs.declared.call.CallRefusal.{CallRefusal}
use Rattle.tp4_conn.specs.declared.call.CallRefusal.TheVariants as refused
use Rattle.tp4_conn.specs.declared.call.UserCall.{UserCall}
use Rattle.tp4_conn.specs.declared.call.UserCall.TheVariants.{Accept, Refuse, Normal, Urgent, Window, Disconnect}
use Rattle.tp4_conn.specs.declared.states.StateData.{StateData}
use Rattle.tp4_conn.specs.declared.states.StateData.TheVariants.{CrWait, WaitBeforeClose, UserWait, AkWait, Opened, Closing, Frozen}
use Rattle.tpdu.specs.declared.service.State.{State}
use Rattle.tpdu.specs.declared.service.State.TheVariants as states
use Rattle.tp4_conn.specs.End.{IsSized}
use Rattle.tp4_conn.specs.Opened.{is_expedited}

abbrev pub state_of : StateData → State
state_of (CrWait w) = states.CrWait
state_of (WaitBeforeClose w) = states.WaitBeforeClose
state_of (UserWait since) = states.UserWait
state_of (AkWait w) = states.AkWait
state_of (Opened o) = states.Opened
state_of (Closing c) = states.Closing
state_of (Frozen when) = states.Frozen

-- the state has a row for the call
abbrev pub is_listed : StateData → UserCall → Bool
is_listed (CrWait w) (Disconnect octets) = true
is_listed (UserWait since) (Accept asked octets) = true
is_listed (UserWait since) (Refuse octets) = true
is_listed (AkWait w) (Normal unit) = true
is_listed (AkWait w) (Urgent unit) = true
is_listed (AkWait w) (Disconnect octets) = true
is_listed (Opened o) (Normal unit) = true
is_listed (Opened o) (Urgent unit) = true
is_listed (Opened o) (Window credit) = true
is_listed (Opened o) (Disconnect octets) = true
is_listed stage call = false

-- octets that are more than these
abbrev pub too_long : ℕ → List ℕ → Option CallRefusal
too_long most octets = if nat_lt most (length octets) then Some refused.TooLong else None

-- a unit, by what the sending half says of it
abbrev pub unit_refusal : Option SubmitRefusal → Option CallRefusal
unit_refusal None = None
unit_refusal (Some submits.EmptyUnit) = Some refused.EmptyUnit
unit_refusal (Some submits.TooLong) = Some refused.TooLong
unit_refusal (Some submits.QueueFull) = Some refused.QueueFull

-- expedited data that is not agreed comes after the length, and before the queue
abbrev pub urgent_unit_refusal : Bool → Option SubmitRefusal → Option CallRefusal
urgent_unit_refusal agreed None = if agreed then None else Some refused.NoExpedited
urgent_unit_refusal agreed (Some submits.EmptyUnit) = Some refused.EmptyUnit
urgent_unit_refusal agreed (Some submits.TooLong) = Some refused.TooLong
urgent_unit_refusal agreed (Some submits.QueueFull) = if agreed then Some refused.QueueFull else Some refused.NoExpedited

-- the sending half of a state that has one
abbrev pub sending_of : StateData → Option FlowSender
sending_of (AkWait w) = Some w.halves.sending
sending_of (Opened o) = Some o.halves.sending
sending_of stage = None

abbrev pub normal_refusal : Option FlowSender → ℕ → Option CallRefusal
normal_refusal None octets = None
normal_refusal (Some s) octets = unit_refusal (refusal s octets)

abbrev pub expedited_refusal : Bool → Option FlowSender → ℕ → Option CallRefusal
expedited_refusal agreed None octets = None
expedited_refusal agreed (Some s) octets = urgent_unit_refusal agreed (urgent_refusal s octets)

-- of a call that the state has a row for
abbrev pub listed_refusal : EndRecord → StateData → UserCall → Option CallRefusal
listed_refusal b stage (Accept asked octets) = too_long 32 octets
listed_refusal b stage (Refuse octets) = too_long 64 octets
listed_refusal b stage (Disconnect octets) = too_long 64 octets
listed_refusal b stage (Normal unit) = normal_refusal (sending_of stage) (length unit)
listed_refusal b stage (Urgent unit) = expedited_refusal (is_expedited b.agreed) (sending_of stage) (length unit)
listed_refusal b stage (Window credit) = None

abbrev pub call_refusal : EndRecord → StateData → UserCall → Option CallRefusal
call_refusal b stage call = if is_listed stage call then listed_refusal b stage call else Some (refused.WrongState (state_of stage))

-- the conditions of a call
abbrev pub IsCall : UserCall → Type 0
IsCall (Accept options octets) = IsSized options
IsCall (Window credit) = credit ≤ 255
IsCall other = Unit {0}
