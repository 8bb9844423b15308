-- The sending half of one Opened end and the receiving half of its partner, with all that waits between them, where nothing is lost and all
-- is handed over in order (X.224, class 4: sequencing, explicit flow control, expedited data). Numbers of the halves are whole.
use Rattle.std.specs.Prelude.{◌≡◌, ◌⊎◌, ℕ, ◌+◌, ◌<◌, ◌≤◌, true, List, [], ◌∷◌, ◌++◌, length, replicate, Option, Some, None}
use Rattle.tp4_number.specs.Formats.{most_of}
use Rattle.tp4_number.specs.Number.{wire}
use Rattle.tp4_flow.specs.ReceivingHalf.{Half}
use Rattle.tp4_sending.specs.SendingHalf.{FlowSender, Sendings, block_in}
use Rattle.tp4_sending.specs.Settled.{IsSettled}
use Rattle.tp4_sending.specs.declared.tries.Tries.{Tries}
use Rattle.law_tp4_pair.specs.Waiting.{View, dts_in, eds_in, wires, views}

-- an ED is outstanding only where there is a unit for it
abbrev pub HasUnit : List (List ℕ) → Option Tries → Type 0
HasUnit units None = Unit {0}
HasUnit units (Some tries) = 0 < length units

-- the numbers of a sender stand in order
pub record IsOrdered (s : FlowSender) : Type 0 where
  pub is_open : s.is_open ≡ true
  pub first : s.queue.first ≤ s.numbers.base
  pub window : length s.window + s.numbers.base ≡ s.numbers.next
  pub high : s.numbers.next ≤ s.numbers.blocks.high
  pub edge : s.numbers.next ≤ s.numbers.base + s.numbers.credit
  pub unit : HasUnit s.urgent.units s.urgent.out

-- a receiver holds nothing that lies ahead, and gives no more credit than a format has
pub record IsInOrder (h : Half) : Type 0 where
  pub held : h.receiver.inbox.held.places ≡ replicate (most_of h.rules.format) None
  pub credit : h.receiver.inbox.credit ≤ most_of h.rules.format

-- what a sender knows of its receiver, and what the receiver says now
abbrev pub known : FlowSender → View
known s = record { number = s.numbers.base; credit = s.numbers.credit; subsequence = s.numbers.subsequence }

abbrev pub said : Half → View
said h = record { number = h.receiver.expected; credit = h.receiver.inbox.credit; subsequence = h.receiver.inbox.subsequence }

-- the second is newer than the first, or the same
pub data IsNoOlder (a b : View) : Type 0 where
  Further : a.number < b.number → IsNoOlder a b
  Later : a.number ≡ b.number → a.subsequence < b.subsequence → IsNoOlder a b
  Wider : a.number ≡ b.number → a.subsequence ≡ b.subsequence → a.credit ≤ b.credit → IsNoOlder a b

-- from one through those that wait to the last, each is no older than the one before it; the last is this one
abbrev pub LeadsTo : View → List View → View → Type 0
LeadsTo from [] to = from ≡ to
LeadsTo from (view ∷ rest) to = IsNoOlder from view × LeadsTo view rest to

-- all give this credit
abbrev pub AllGive : ℕ → List View → Type 0
AllGive credit [] = Unit {0}
AllGive credit (view ∷ rest) = (view.credit ≡ credit) × AllGive credit rest

-- the DTs that wait are those from the number expected up to the next one, within the credit
pub record ArePending (s : FlowSender) (h : Half) (dts : List ℕ) : Type 0 where
  pub count : ℕ
  pub next : s.numbers.next ≡ h.receiver.expected + count
  pub dts_are : dts ≡ wires (block_in s) h.receiver.expected count
  pub within : count ≤ h.receiver.inbox.credit

-- an ED that is outstanding waits, or its EA does
pub record IsAsked (block n : ℕ) (h : Half) (eds eas : List ℕ) : Type 0 where
  pub eds_are : eds ≡ wire block n ∷ []
  pub eas_are : eas ≡ []
  pub expected : h.receiver.urgent ≡ n

pub record IsAnswered (block n : ℕ) (h : Half) (eds eas : List ℕ) : Type 0 where
  pub eds_are : eds ≡ []
  pub eas_are : eas ≡ wire block n ∷ []
  pub expected : h.receiver.urgent ≡ n + 1

-- where none is outstanding neither waits, and the next ED is the one expected
pub record IsQuiet (next : ℕ) (h : Half) (eds eas : List ℕ) : Type 0 where
  pub eds_are : eds ≡ []
  pub eas_are : eas ≡ []
  pub expected : h.receiver.urgent ≡ next

abbrev pub IsAnswering : ℕ → ℕ → Option Tries → Half → List ℕ → List ℕ → Type 0
IsAnswering block next None h eds eas = IsQuiet next h eds eas
IsAnswering block next (Some tries) h eds eas = (n : ℕ) × (next ≡ n + 1) × (IsAsked block n h eds eas ⊎ IsAnswered block n h eds eas)

-- one direction between two ends: the DTs and EDs that wait, and the AKs and EAs that wait the other way. Of the numbers
pub record Flows (s : FlowSender) (h : Half) (dts eds : List ℕ) (aks : List View) (eas : List ℕ) : Type 0 where
  pub format : h.rules.format ≡ s.rules.format
  pub ordered : IsOrdered s
  pub in_order : IsInOrder h
  pub pending : ArePending s h dts
  pub waiting : List View
  pub aks_are : aks ≡ views (block_in s) waiting
  pub view : LeadsTo (known s) waiting (said h)
  pub answering : IsAnswering (block_in s) s.urgent.next s.urgent.out h eds eas

-- the sender and each AK that waits have the credit of the receiver
pub record IsLevel (s : FlowSender) (h : Half) (waiting : List View) : Type 0 where
  pub known : s.numbers.credit ≡ h.receiver.inbox.credit
  pub waiting_are : AllGive h.receiver.inbox.credit waiting

-- or one AK alone waits, all that was sent is acknowledged, and no ED is outstanding: the credit has just changed
pub record IsChanging (s : FlowSender) (h : Half) (waiting : List View) : Type 0 where
  pub waiting_is : waiting ≡ said h ∷ []
  pub base : s.numbers.base ≡ h.receiver.expected
  pub next : s.numbers.next ≡ h.receiver.expected
  pub out : s.urgent.out ≡ None

-- and all that may go went
pub record IsCalm (s : FlowSender) (h : Half) (dts eds : List ℕ) (aks : List View) (eas : List ℕ) : Type 0 where
  pub flows : Flows s h dts eds aks eas
  pub credit : IsLevel s h flows.waiting ⊎ IsChanging s h flows.waiting
  pub settled : IsSettled s

-- after a call of the sending half: behind the DTs and EDs that waited wait those that it sends
abbrev pub IsCalmOn : Sendings → Half → List ℕ → List ℕ → List View → List ℕ → Type 0
IsCalmOn x h dts eds aks eas = IsCalm x.sender h (dts ++ dts_in x.tpdus) (eds ++ eds_in x.tpdus) aks eas
