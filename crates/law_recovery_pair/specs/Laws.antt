-- What each call of a half does to the road between two ends since when nothing is lost, to what a sending half knows, and to the places of a receiving half (X.224,
-- class 4: retransmission, sequencing, explicit flow control).
use Rattle.std.specs.Prelude.{◌≡◌, ℕ, ◌+◌, ◌<◌, ◌≤◌, List, ◌∷◌, ◌++◌, length, Contains, ◌⊎◌, []}
use Rattle.tp4_flow.specs.ReceivingHalf.{Half, allowed, block_in as block_there, dt_arrival, half_granted, taken_dt, empty}
use Rattle.tp4_number.specs.declared.got.Got.TheVariants.{TooLarge}
use Rattle.tp4_number.specs.declared.piece.Piece.{Piece}
use Rattle.tp4_number.specs.Number.{whole, wire, near}
use Rattle.tp4_number.specs.Sender.{Sender}
use Rattle.tp4_number.specs.Traffic.{Answer, Rules, IsFit, Traffic, Event, Ak_comes, May, after, Leads, start}
use Rattle.tp4_sending.specs.SendingHalf.{FlowSender, acknowledged, block_in, submitted, ticked, urged, opened, urgent_done}
use Rattle.law_recovery_pair.specs.Riding.{Aside, GoesOn, HearsOn, SendsOn, road_of, said_aside, says_now}
use Rattle.tp4_flow.specs.declared.rules.FlowRules.{FlowRules}
use Rattle.law_recovery_pair.specs.Fitting.{Fits}
use Rattle.law_recovery_pair.specs.Viewing.{IsWithin, KeepsView, TakesView}
use Rattle.tp4_number.specs.Expedited.{Urgent, UrgentEvent, Ticks, LeadsUrgently, quiet, urgently}
use Rattle.law_recovery_pair.specs.Views.{view_of, known, IsNoOlder, AreViews, AreFair}
use Rattle.law_recovery_pair.specs.Recovering.{IsFitted, RecoversAfter}
use Rattle.law_recovery_pair.specs.Speaking.{Knows, Speaks}
use Rattle.law_recovery_pair.specs.Urgent.{UrgentRoad, UrgentMove, GoOn}

module _ (life size u : ℕ) where
  -- ---- a sending half

  abbrev pub SubmitsOn : Type 0
  SubmitsOn = (s : FlowSender) (h : Half) (x : Aside) (unit : List ℕ) → SendsOn life size u s.rules s.clock s.numbers h x (submitted s unit).sender.numbers

  abbrev pub UrgesOn : Type 0
  UrgesOn = (s : FlowSender) (h : Half) (x : Aside) (unit : List ℕ) → SendsOn life size u s.rules s.clock s.numbers h x (urged s unit).sender.numbers

  -- a tick
  abbrev pub TicksOn : Type 0
  TicksOn = (s : FlowSender) (h : Half) (x : Aside) → length s.window + s.numbers.base ≡ s.numbers.next → SendsOn life size u s.rules s.clock s.numbers h x (ticked s).sender.numbers

  -- the first AK that waits, or one from before
  abbrev pub FirstAkOn : Type 0
  FirstAkOn = (s : FlowSender) (h : Half) (x : Aside) (a : Answer) (rest : List Answer) → x.aks ≡ a ∷ rest → Contains x.answers a → s.clock ≤ a.tick + life
      → HearsOn life size u s.rules s.clock s.numbers h x (record x { aks = rest }) (acknowledged s (wire (block_in s) a.number) a.credit a.subsequence).sender.numbers

  abbrev pub LateAkOn : Type 0
  LateAkOn = (s : FlowSender) (h : Half) (x : Aside) (a : Answer) → a.tick < u → Contains x.answers a → s.clock ≤ a.tick + life
      → HearsOn life size u s.rules s.clock s.numbers h x x (acknowledged s (wire (block_in s) a.number) a.credit a.subsequence).sender.numbers

  -- ---- a receiving half

  -- a DT that waits, or one from before, that makes no unit too large
  abbrev pub DtOn : Type 0
  DtOn = (limit now : ℕ) (numbers : Sender) (h : Half) (x : Aside) (before : List (ℕ × ℕ)) (n tick : ℕ) (rest : List (ℕ × ℕ)) (piece : Piece)
      → x.dts ≡ before ++ (n, tick) ∷ rest → Contains x.sends (n, tick) → now ≤ tick + life → ((dt_arrival h (wire (block_there h) n) piece).got ≡ TooLarge → ⊥)
      → GoesOn (record { block = block_there h; life = life; limit = limit }) size u (road_of now numbers h x)
      (road_of now numbers (taken_dt whole h (wire (block_there h) n) piece).half (said_aside (record x { dts = before ++ rest }) (says_now now (taken_dt whole h (wire (block_there h) n) piece).half)))

  abbrev pub LateDtOn : Type 0
  LateDtOn = (limit now : ℕ) (numbers : Sender) (h : Half) (x : Aside) (n tick : ℕ) (piece : Piece)
      → tick < u → Contains x.sends (n, tick) → now ≤ tick + life → ((dt_arrival h (wire (block_there h) n) piece).got ≡ TooLarge → ⊥)
      → GoesOn (record { block = block_there h; life = life; limit = limit }) size u (road_of now numbers h x)
      (road_of now numbers (taken_dt whole h (wire (block_there h) n) piece).half (said_aside x (says_now now (taken_dt whole h (wire (block_there h) n) piece).half)))

  -- a new credit, and the AK that says it
  abbrev pub GrantOn : Type 0
  GrantOn = (limit now : ℕ) (numbers : Sender) (h : Half) (x : Aside) (credit : ℕ) → allowed h.rules.format credit ≤ size
      → GoesOn (record { block = block_there h; life = life; limit = limit }) size u (road_of now numbers h x)
      (road_of now numbers (half_granted h credit) (said_aside x (says_now now (half_granted h credit))))

  -- the window AK
  abbrev pub AkOn : Type 0
  AkOn = (rules : Rules) (now : ℕ) (numbers : Sender) (h : Half) (x : Aside) → GoesOn rules size u (road_of now numbers h x) (road_of now numbers h (said_aside x (says_now now h)))

  -- the clock
  abbrev pub ClockOn : Type 0
  ClockOn = (rules : Rules) (now : ℕ) (numbers : Sender) (h : Half) (x : Aside) → GoesOn rules size u (road_of now numbers h x) (road_of (now + 1) numbers h x)

-- as it begins, with a credit of timers
abbrev pub EmptyFits : Type 0
EmptyFits = (rules : FlowRules) (credit : ℕ) → credit ≤ 15 → Fits (empty rules credit)

-- after a DT, with any wire number
abbrev pub DtFits : Type 0
DtFits = (h : Half) (n : ℕ) (piece : Piece) → ((dt_arrival h n piece).got ≡ TooLarge → ⊥) → Fits h → Fits (taken_dt whole h n piece).half

-- after a new credit
abbrev pub GrantFits : Type 0
GrantFits = (h : Half) (credit : ℕ) → Fits h → Fits (half_granted h credit)

-- over the calls of a sending half
abbrev pub CallsKeepView : Type 0
CallsKeepView = (s : FlowSender) (unit : List ℕ) (w : ℕ) → IsWithin s
    → KeepsView s (submitted s unit).sender × KeepsView s (urged s unit).sender × KeepsView s (urgent_done s w).sender × KeepsView s (opened s).sender × KeepsView s (ticked s).sender

-- an AK is taken as it was read, or changes nothing that is known
abbrev pub AksTakeView : Type 0
AksTakeView = (s : FlowSender) (w credit subsequence : ℕ) → IsWithin s
    → TakesView s (near (block_in s) s.numbers.base w) credit subsequence (acknowledged s w credit subsequence).sender ⊎ KeepsView s (acknowledged s w credit subsequence).sender

-- ---- what holds of one direction at any time, whatever was lost, and what holds again since when nothing is lost (X.224, class 4: retransmission, explicit flow control, expedited data)

-- ---- at any time

-- after any fair events what a receiver says only rises, and neither what was said nor what is known is newer
abbrev pub ViewsRise : Type 0
ViewsRise = (rules : Rules) (tick credit size room : ℕ) (events : List Event) (w : Traffic) → IsFit rules → room < rules.block → credit ≤ room
    → Leads rules (start tick credit size room) events w → AreFair rules size (start tick credit size room) events → AreViews w

-- so it does over any events, also unfair ones, from the room on that the receiver began with
abbrev pub EventsSpeak : Type 0
EventsSpeak = (rules : Rules) (tick credit places room : ℕ) (events : List Event) (w : Traffic) → Leads rules (start tick credit places room) events w → Speaks room w

-- and where the sender began with no more than that room, or knows what an AK said, what it knows is no newer either
abbrev pub KnowsNoNewer : Type 0
KnowsNoNewer = (room : ℕ) (w : Traffic) → Speaks room w → Knows room w → w.sender.next ≤ w.sender.base + w.sender.credit → AreViews w

-- a sender takes each AK afloat that is newer than what it knows
abbrev pub NewerIsTaken : Type 0
NewerIsTaken = (rules : Rules) (tick credit size room : ℕ) (events : List Event) (w : Traffic) (a : Answer) → IsFit rules → credit < rules.block → room < rules.block
    → Leads rules (start tick credit size room) events w → May rules w (Ak_comes a) → IsNoOlder (known w) (view_of a) → known (after rules w (Ak_comes a)) ≡ view_of a

-- ---- since nothing is lost

-- so it is after any fair events
abbrev pub EventsRecover : Type 0
EventsRecover = (rules : Rules) (tick credit room size : ℕ) (events : List Event) (w : Traffic) → IsFit rules → room < rules.block → room ≤ size → credit ≤ room
    → Leads rules (start tick credit size room) events w → AreFair rules size (start tick credit size room) events → RecoversAfter rules size w

-- and after any events where the views are in order, and the receiver has a place for each number within its credit
abbrev pub ViewsRecover : Type 0
ViewsRecover = (rules : Rules) (tick credit places room size : ℕ) (events : List Event) (w : Traffic) → IsFit rules → credit < rules.block → room < rules.block
    → Leads rules (start tick credit places room) events w → AreViews w → IsFitted size w.receiver → RecoversAfter rules size w

-- Whatever was lost up to a tick: where each ED and EA sent after it was handed over in order, none of them waits, none is due, and T1 ticks passed, no
-- ED is outstanding, and the next one is the one expected
abbrev pub UrgentRecover : Type 0
UrgentRecover = (rules : Rules) (tick t1 : ℕ) (events : List UrgentEvent) (u : Urgent) (moves : List UrgentMove) (r : UrgentRoad) → IsFit rules → LeadsUrgently rules (quiet tick) events u
    → GoOn rules (u.clock + 1) (record { urgent = urgently rules u Ticks; eds = []; eas = [] }) moves r
    → r.eds ≡ [] → r.eas ≡ [] → (r.urgent.base < r.urgent.next → (t : ℕ) × Contains r.urgent.sends (r.urgent.base, t) × (r.urgent.clock < t + t1))
    → u.clock + t1 ≤ r.urgent.clock → (r.urgent.next ≡ r.urgent.base) × (r.urgent.expected ≡ r.urgent.next)
