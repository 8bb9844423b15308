-- Two Opened ends since when nothing is lost between them: what each call, each row and each step of a pair does to what waits, and how they come to rest (X.224,
-- class 4 state tables; retransmission on time-out, explicit flow control, expedited data).
use Rattle.std.specs.Prelude.{◌≡◌, ℕ, ◌+◌, ◌≤◌, List, ◌∷◌, Contains, [], ◌++◌, ◌⊎◌, ◌<◌, max, true, Bool, Some}
use Rattle.tp4_number.specs.Number.{wire, whole}
use Rattle.tp4_number.specs.Traffic.{Answer, IsFit, Dt_comes, Event as TrafficEvent, Leads as LeadsOn, May as MayInTraffic, Rules, Traffic, start}
use Rattle.tp4_number.specs.declared.got.Got.TheVariants.{TooLarge}
use Rattle.tp4_number.specs.declared.piece.Piece.{Piece}
use Rattle.tp4_number.specs.Formats.{most_of}
use Rattle.tp4_number.specs.Expedited.{LeadsUrgently, Ticks, Urgent, UrgentEvent, quiet, urgently}
use Rattle.law_recovery_pair.specs.Recovering.{Road}
use Rattle.law_recovery_pair.specs.Urgent.{UrgentRoad}
use Rattle.tp4_flow.specs.ReceivingHalf.{Half, ak, dt_arrival, half_granted, taken_dt, taken_ed}
use Rattle.tp4_flow.specs.declared.step.Sent.{Sent}
use Rattle.tp4_sending.specs.SendingHalf.{FlowSender, acknowledged, block_in, submitted, ticked, urged, urgent_done, at}
use Rattle.tp4_sending.specs.Kept.{urgent_base}
use Rattle.law_recovery_pair.specs.Riding.{Aside, rules_by}
use Rattle.tp4_conn.specs.declared.call.UserCall.{UserCall}
use Rattle.tp4_conn.specs.declared.end_record.EndRecord.{EndRecord}
use Rattle.tp4_conn.specs.declared.states.InOpened.{InOpened}
use Rattle.tp4_conn.specs.declared.states.StateData.TheVariants.{Opened, AkWait, CrWait}
use Rattle.tp4_conn.specs.Table.{at as at_tick, due, on_call, on_tick, takes, Event, stepped}
use Rattle.tp4_conn.specs.Living.{IsInTime}
use Rattle.law_tp4_pair.specs.Waiting.{View, aks_in, eas_in}
use Rattle.law_tp4_pair.specs.Standing.{Party, party, HasLeft}
use Rattle.law_tp4_pair.specs.Pair.{Happening, Leads, May, Pair, next, IsIdle, Account, back_units, forth_units, Clock}
use Rattle.law_tp4_pair.specs.Rest.{AreAtRest, IsAtRest, IsShown}
use Rattle.law_tp4_pair.specs.Flowing.{HasUnit}
use Rattle.law_recovery_steps.specs.Sending.{IsFed, GoesOut}
use Rattle.law_recovery_steps.specs.Directions.{Rides, RidesOn}
use Rattle.law_recovery_steps.specs.Steps.{Since, AreRiding, RidesOnward, IsRiding, IsParted}
use Rattle.law_recovery_steps.specs.Resting.{AreBegun, AreLater, HaveWindow, AreLevel, IsBegun, IsLevel}
use Rattle.law_recovery_steps.specs.Known.{AreKnown, IsKnownAt}
use Rattle.law_recovery_steps.specs.Beginning.{IsFull, AreAgreed}
use Rattle.law_recovery_steps.specs.Showing.{AreCarried}
use Rattle.law_recovery_steps.specs.Asking.{AsksOut, UrgentAside}
use Rattle.law_recovery_steps.specs.Urging.{AreQuiet, Urges, UrgesAfter}
use Rattle.law_recovery_steps.specs.Quieting.{IsYoung}
use Rattle.tpdu.specs.declared.service.Options.{Options}
use Rattle.tp4_conn.specs.declared.call.ConnectCall.{ConnectCall}
use Rattle.tp4_conn.specs.declared.states.InCrWait.{InCrWait}
use Rattle.tp4_conn.specs.declared.states.InAkWait.{InAkWait}
use Rattle.tp4_conn.specs.Agreeing.{request}
use Rattle.tp4_conn.specs.End.{IsSized, End}
use Rattle.tp4_conn.specs.Making.{caller}
use Rattle.tp4_entity.specs.Association.{met, refusal}
use Rattle.tp4_entity.specs.Entity.{Entity}
use Rattle.law_recovery_steps.specs.Opening.{AreAsking, IsBegunSo, IsQueued, KnowsCc, as_confirmed, as_opened}
use Rattle.law_recovery_steps.specs.Requests.{IsAccept, IsAccepted, IsAnswered, IsRequested}
use Rattle.law_recovery_steps.specs.AkWait.{IsOpenedBoth, IsOpening}
use Rattle.tp4_sending.specs.Pieces.{cut_at}
use Rattle.tp4_conn.specs.declared.timers.Timers.{Timers}
use Rattle.law_recovery_pair.specs.Views.{IsWithin}
use Rattle.law_recovery_ends.specs.Due.{AreTried, AreYoung}
use Rattle.law_recovery_ends.specs.Resting.{IsNow, IsPast}
use Rattle.law_recovery_steps.specs.Fitting.{HasPieces}
use Rattle.law_recovery_steps.specs.Going.{AreBothOpened, AreTicked, AreTimes, HasParted, HaveTimers, IsWrongFirst}
use Rattle.law_tp4_history.specs.Ends.{Terms, Times}
use Rattle.law_recovery_steps.specs.Lined.{AreLined}
use Rattle.law_recovery_steps.specs.Ers.{SendsNoEr}
use Rattle.law_recovery_steps.specs.Since.{IsUpToDate, MayLeave, StaysUpToDate}

-- ---- a sending half: what it puts behind what waits is what the road gets

module _ (life size u : ℕ) where
  -- its user submits, an EA comes, or it has a tick
  abbrev pub CallsGoOut : Type 0
  CallsGoOut = (s : FlowSender) (h : Half) (x : Aside) (unit : List ℕ) (w : ℕ) → IsFed s
      → GoesOut life size u s h x x (submitted s unit) × GoesOut life size u s h x x (urged s unit) × GoesOut life size u s h x x (urgent_done s w) × GoesOut life size u s h x x (ticked s)

  -- the first AK that waits
  abbrev pub FirstAkGoesOut : Type 0
  FirstAkGoesOut = (s : FlowSender) (h : Half) (x : Aside) (a : Answer) (rest : List Answer) → IsFed s → x.aks ≡ a ∷ rest → Contains x.answers a → s.clock ≤ a.tick + life
      → GoesOut life size u s h x (record x { aks = rest }) (acknowledged s (wire (block_in s) a.number) a.credit a.subsequence)

-- ---- a direction

module _ (life size u : ℕ) (old : Road) (s : FlowSender) (h : Half) where
  -- the user submits, an EA comes, or it has a tick
  abbrev pub CallsRide : Type 0
  CallsRide = (now : ℕ) (dts : List ℕ) (aks : List View) (acked : ℕ) (unit : List ℕ) (w : ℕ) → Rides life size u now old s h dts aks acked
      → RidesOn life size u now old s h dts aks acked (submitted (at now s) unit) × RidesOn life size u now old s h dts aks acked (urged (at now s) unit)
      × RidesOn life size u now old s h dts aks acked (urgent_done (at now s) w) × RidesOn life size u now old s h dts aks acked (ticked (at now s))

  -- the first AK that waits comes
  abbrev pub AksRide : Type 0
  AksRide = (now : ℕ) (dts : List ℕ) (v : View) (aks : List View) (acked : ℕ) → Rides life size u now old s h dts (v ∷ aks) acked
      → RidesOn life size u now old s h dts aks acked (acknowledged (at now s) v.number v.credit v.subsequence)

  -- the first DT that waits comes, and makes no unit too large
  abbrev pub DtsRide : Type 0
  DtsRide = (now w : ℕ) (dts : List ℕ) (aks : List View) (acked : ℕ) (piece : Piece) → Rides life size u now old s h (w ∷ dts) aks acked → ((dt_arrival h w piece).got ≡ TooLarge → ⊥)
      → Rides life size u now old s (taken_dt whole h w piece).half dts (aks ++ aks_in (taken_dt whole h w piece).tpdus) now

  -- an ED comes
  abbrev pub EdsRide : Type 0
  EdsRide = (now : ℕ) (dts : List ℕ) (aks : List View) (acked w : ℕ) (octets : List ℕ) → Rides life size u now old s h dts aks acked
      → Rides life size u now old s (taken_ed whole h w octets).half dts aks acked

  -- a new credit
  abbrev pub GrantsRide : Type 0
  GrantsRide = (now : ℕ) (dts : List ℕ) (aks : List View) (acked credit : ℕ) → Rides life size u now old s h dts aks acked
      → Rides life size u now old s (half_granted h credit) dts (aks ++ aks_in (ak (half_granted h credit) ∷ [])) now

  -- the window AK
  abbrev pub RepeatsRide : Type 0
  RepeatsRide = (now : ℕ) (dts : List ℕ) (aks : List View) (acked : ℕ) → Rides life size u now old s h dts aks acked → Rides life size u now old s h dts (aks ++ aks_in (ak h ∷ [])) now

  -- the clock goes on where nothing waits
  abbrev pub ClocksRide : Type 0
  ClocksRide = (now acked : ℕ) → Rides life size u now old s h [] [] acked → Rides life size u (now + 1) old s h [] [] acked

-- ---- an end

module _ (life size u now : ℕ) (one other : Since) (first : Party) (o : InOpened) (b : EndRecord) (q : InOpened) where
  -- it takes what waits first
  abbrev pub TakesOnward : Type 0
  TakesOnward = (sent : Sent) (rest back : List Sent) → AreRiding life size u now one other first (party b) o q (sent ∷ rest) back
      → RidesOnward life size u now one other first o (takes whole now b (Opened q) sent.tpdu sent.sum) rest back

  -- its user calls
  abbrev pub CallsOnward : Type 0
  CallsOnward = (call : UserCall) (forth back : List Sent) → AreRiding life size u now one other first (party b) o q forth back
      → RidesOnward life size u now one other first o (on_call (at_tick now b) (Opened q) call) forth back

  -- it has a tick
  abbrev pub TicksOnward : Type 0
  TicksOnward = (forth back : List Sent) → AreRiding life size u now one other first (party b) o q forth back
      → RidesOnward life size u now one other first o (on_tick (at_tick now b) (Opened q)) forth back

-- ---- a pair of ends

module _ (life size u : ℕ) (one other : Since) where
  -- whatever happens next
  abbrev pub PairsStep : Type 0
  PairsStep = (p : Pair) (happening : Happening) → IsRiding life size u one other p → May p happening → IsParted (next p happening) ⊎ IsRiding life size u one other (next p happening)

  -- and after it
  abbrev pub PairsLead : Type 0
  PairsLead = (p : Pair) (happenings : List Happening) (last : Pair) → IsRiding life size u one other p → Leads p happenings last → IsParted last ⊎ IsRiding life size u one other last

-- whatever happens in order from a tick on at which nothing waits: where nothing waits again, no end is due, and the longer of T1 and W has passed, both directions are level;
-- or an end has left
abbrev pub PairsRest : Type 0
PairsRest = (life size t1 window : ℕ) (p : Pair) (o q : InOpened) (happenings : List Happening) (last : Pair) → AreBegun life size p o q
    → o.halves.sending.rules.t1 ≡ t1 → q.halves.sending.rules.t1 ≡ t1 → HaveWindow window last → 0 < t1
    → Leads p happenings last → IsIdle last → AreLater last → p.clock + max t1 window ≤ last.clock
    → IsParted last ⊎ AreLevel last

-- what is known of a direction is what it begins with
abbrev pub DirectionsBegin : Type 0
DirectionsBegin = (life now acked : ℕ) (s : FlowSender) (h : Half) (units : Account) → IsKnownAt life now s h units → IsFull s → acked ≤ now → IsBegun life (most_of s.rules.format) now s h acked

-- and of two ends that agreed
abbrev pub PairsBegin : Type 0
PairsBegin = (life : ℕ) (p : Pair) (o q : InOpened) → AreKnown life p o q → AreAgreed p o q → AreBegun life (most_of o.halves.sending.rules.format) p o q

-- a level direction shows what was submitted
abbrev pub LevelsShow : Type 0
LevelsShow = (s : FlowSender) (h : Half) (u : Account) → IsLevel s h → AreCarried s h u → IsAtRest s h × IsShown s h u

-- so both do
abbrev pub PairsShow : Type 0
PairsShow = (p : Pair) (l : AreLevel p)
    → AreCarried l.o.halves.sending l.q.halves.receiving (forth_units p) → AreCarried l.q.halves.sending l.o.halves.receiving (back_units p) → AreAtRest p l.o l.q

-- so from a tick on at which nothing waits, and all is known, whatever happens in order: where nothing waits again, no end is due, and the longer of T1 and W has passed, both
-- are at rest, if at that tick too is known of the units what is known at any tick; or an end has left
abbrev pub PairsRecover : Type 0
PairsRecover = (life t1 window : ℕ) (p : Pair) (o q : InOpened) (happenings : List Happening) (last : Pair) → AreKnown life p o q → AreAgreed p o q
    → o.halves.sending.rules.t1 ≡ t1 → q.halves.sending.rules.t1 ≡ t1 → HaveWindow window last → 0 < t1
    → Leads p happenings last → IsIdle last → AreLater last → p.clock + max t1 window ≤ last.clock
    → ((x y : InOpened) → last.calling.stage ≡ Opened x → last.called.stage ≡ Opened y
    → AreCarried x.halves.sending y.halves.receiving (forth_units last) × AreCarried y.halves.sending x.halves.receiving (back_units last))
    → IsParted last ⊎ ((x y : InOpened) × (last.calling.stage ≡ Opened x) × (last.called.stage ≡ Opened y) × AreAtRest last x y)

-- ---- EDs and EAs

module _ (life u : ℕ) where
  -- also with an AK, which may let DTs go, and an ED with them
  abbrev pub CallsAsk : Type 0
  CallsAsk = (s : FlowSender) (base expected : ℕ) (x : UrgentAside) (unit : List ℕ) (w credit subsequence : ℕ) → urgent_base s.urgent s.urgent.out base → HasUnit s.urgent.units s.urgent.out
      → AsksOut life u s base expected x x (submitted s unit) × AsksOut life u s base expected x x (urged s unit) × AsksOut life u s base expected x x (ticked s)
      × AsksOut life u s base expected x x (acknowledged s w credit subsequence)

  -- the first EA that waits
  abbrev pub EaAsks : Type 0
  EaAsks = (s : FlowSender) (base expected : ℕ) (x : UrgentAside) (n tick : ℕ) (rest : List (ℕ × ℕ)) → urgent_base s.urgent s.urgent.out base → HasUnit s.urgent.units s.urgent.out → x.eas ≡ (n, tick) ∷ rest
      → Contains x.answers (n, tick) → s.clock ≤ tick + life → AsksOut life u s base expected x (record x { eas = rest }) (urgent_done s (wire (block_in s) n))

module _ (life u : ℕ) (old : UrgentRoad) (s : FlowSender) (h : Half) where
  -- the calls of the sending half
  abbrev pub CallsUrge : Type 0
  CallsUrge = (now : ℕ) (eds eas unit : List ℕ) (w credit subsequence : ℕ) → Urges life u now old s h eds eas
      → UrgesAfter life u old h now eds eas (submitted (at now s) unit) × UrgesAfter life u old h now eds eas (urged (at now s) unit) × UrgesAfter life u old h now eds eas (ticked (at now s))
      × UrgesAfter life u old h now eds eas (acknowledged (at now s) w credit subsequence)

  -- the first ED that waits comes
  abbrev pub EdsUrge : Type 0
  EdsUrge = (now w : ℕ) (eds eas octets : List ℕ) → Urges life u now old s h (w ∷ eds) eas → Urges life u now old s (taken_ed whole h w octets).half eds (eas ++ eas_in (taken_ed whole h w octets).tpdus)

  -- the first EA that waits comes
  abbrev pub EasUrge : Type 0
  EasUrge = (now w : ℕ) (eds eas : List ℕ) → Urges life u now old s h eds (w ∷ eas) → UrgesAfter life u old h now eds eas (urgent_done (at now s) w)

  -- the clock goes on where nothing waits
  abbrev pub ClocksUrge : Type 0
  ClocksUrge = (now : ℕ) → Urges life u now old s h [] [] → Urges life u (now + 1) old s h [] []

-- an ED that is outstanding of an end that is not due was tried less than T1 ticks ago
abbrev pub EdsAreYoung : Type 0
EdsAreYoung = (now : ℕ) (b : EndRecord) (o : InOpened) → o.halves.sending.is_open ≡ true → IsInTime (due b (Opened o)) (now + 1) → IsYoung o.halves.sending.rules.t1 now o.halves.sending.urgent.out

-- so none is, T1 ticks after nothing was lost any more, where none waits
abbrev pub EdsRest : Type 0
EdsRest = (life tick t1 now : ℕ) (events : List UrgentEvent) (v : Urgent) (s : FlowSender) (h : Half) → IsFit (rules_by life s.rules) → LeadsUrgently (rules_by life s.rules) (quiet tick) events v
    → Urges life (v.clock + 1) now (record { urgent = urgently (rules_by life s.rules) v Ticks; eds = []; eas = [] }) s h [] [] → IsYoung t1 now s.urgent.out → v.clock + t1 ≤ now → AreQuiet s h

-- ---- two ends of which the called one is in AkWait, at a tick at which nothing waits: T1 ticks later both are Opened, and what was lost comes as between ends that were Opened then; or one of them has left (X.224, class 4: connection establishment, retransmission on time-out)

-- the called end takes an AK, a DT, an ED or an EA that waits first: it is Opened, and both ride on; or it has left
abbrev pub DataOpens : Type 0
DataOpens = (life size u now : ℕ) (one other : Since) (first : Party) (o : InOpened) (c : EndRecord) (w : InAkWait) (sent : Sent) (rest : List Sent)
    → AreRiding life size u now one other first (party c) o (as_opened w) (sent ∷ rest) [] → IsQueued w.halves.sending → KnowsCc o w
    → RidesOnward life size u now one other first o (takes whole now c (AkWait w) sent.tpdu sent.sum) rest []

-- whatever happens next, the called end is in AkWait, or both are Opened, or one of them has left
abbrev pub OpeningsStep : Type 0
OpeningsStep = (life size u t1 : ℕ) (one other : Since) (p : Pair) (happening : Happening) → IsOpening life size u t1 one other p ⊎ IsOpenedBoth life size u one other p → May p happening
    → IsParted (next p happening) ⊎ (IsOpening life size u t1 one other (next p happening) ⊎ IsOpenedBoth life size u one other (next p happening))

-- an end in CrWait and one in AkWait are such a pair
abbrev pub AsksBegin : Type 0
AsksBegin = (life : ℕ) (p : Pair) (r : InCrWait) (w : InAkWait) (options : Options) → AreAsking life p r w options
    → IsBegunSo life (most_of options.format) p (as_confirmed p.calling.base p.called.base options) w

-- From a tick on at which nothing waits, whatever happens in order: where nothing waits again, no end is due, and T1 has passed, both are Opened, or one has left
abbrev pub PairsOpen : Type 0
PairsOpen = (life size t1 : ℕ) (p : Pair) (o : InOpened) (w : InAkWait) (calling called : Bool) (happenings : List Happening) (last : Pair) → IsBegunSo life size p o w
    → p.called.base.timers.t1 ≡ t1 → Leads p (Clock calling called ∷ happenings) last → IsIdle last → AreLater last → p.clock + t1 ≤ last.clock
    → IsParted last ⊎ ((i k : InOpened) × (last.calling.stage ≡ Opened i) × (last.called.stage ≡ Opened k))

-- and where the longer of T1 and W has passed, both directions are level
abbrev pub PairsOpenLevel : Type 0
PairsOpenLevel = (life size t1 window : ℕ) (p : Pair) (o : InOpened) (w : InAkWait) (calling called : Bool) (happenings : List Happening) (last : Pair) → IsBegunSo life size p o w
    → p.called.base.timers.t1 ≡ t1 → o.halves.sending.rules.t1 ≡ t1 → w.halves.sending.rules.t1 ≡ t1 → HaveWindow window last
    → Leads p (Clock calling called ∷ happenings) last → IsIdle last → AreLater last → p.clock + max t1 window ≤ last.clock
    → IsParted last ⊎ AreLevel last

-- so both are at rest, if at that tick is known of the units what is known at any tick
abbrev pub PairsOpenRest : Type 0
PairsOpenRest = (life size t1 window : ℕ) (p : Pair) (o : InOpened) (w : InAkWait) (calling called : Bool) (happenings : List Happening) (last : Pair) → IsBegunSo life size p o w
    → p.called.base.timers.t1 ≡ t1 → o.halves.sending.rules.t1 ≡ t1 → w.halves.sending.rules.t1 ≡ t1 → HaveWindow window last
    → Leads p (Clock calling called ∷ happenings) last → IsIdle last → AreLater last → p.clock + max t1 window ≤ last.clock
    → ((x y : InOpened) → last.calling.stage ≡ Opened x → last.called.stage ≡ Opened y
    → AreCarried x.halves.sending y.halves.receiving (forth_units last) × AreCarried y.halves.sending x.halves.receiving (back_units last))
    → IsParted last ⊎ ((x y : InOpened) × (last.calling.stage ≡ Opened x) × (last.called.stage ≡ Opened y) × AreAtRest last x y)

-- ---- the calling end in CrWait

-- whatever happens next, the called end stands in UserWait, or one of them has left, as long as the user does not accept
abbrev pub RequestsStay : Type 0
RequestsStay = (p : Pair) (happening : Happening) → IsRequested p → May p happening → IsParted (next p happening) ⊎ (IsRequested (next p happening) ⊎ IsAccept happening)

-- so whatever happens in order, however long: the called end stands in UserWait, or its user has accepted, or one of them has left
abbrev pub RequestsLast : Type 0
RequestsLast = (p : Pair) (happenings : List Happening) (last : Pair) → IsRequested p → Leads p happenings last → IsParted last ⊎ (IsRequested last ⊎ IsAccepted p happenings last)

-- T1 ticks after a tick, an end in CrWait that is not due has sent its CR since
abbrev pub RequestsAgain : Type 0
RequestsAgain = (t0 now : ℕ) (b : EndRecord) (r : InCrWait) → IsInTime (due b (CrWait r)) (now + 1) → t0 + b.timers.t1 ≤ now → t0 < r.tries.last

-- and where it comes, a called end is there, or is made and waits for its user; or a DR goes back
abbrev pub RequestsMet : Type 0
RequestsMet = (made now : ℕ) (e : Entity) (from : List ℕ) (call : ConnectCall) (sum : Bool) → IsSized call.request.options
    → IsAnswered now e from call (met whole now e from ((request (caller made call) call.request.octets).tpdu, sum))

-- which ends the calling end
abbrev pub RefusalsEnd : Type 0
RefusalsEnd = (now : ℕ) (b : EndRecord) (r : InCrWait) (from : List ℕ) (reference reason : ℕ)
    → HasLeft (takes whole now b (CrWait r) (refusal from reference reason).tpdu (refusal from reference reason).sum).stage

-- ---- why and when one of two Opened ends leaves since when nothing is lost between them (X.224, class 4 state tables; retransmission on time-out, inactivity control)

-- Whatever was lost up to a tick: T1 ticks later, where nothing waits and each number was tried less than T1 ticks ago, none is outstanding, whether or not W has passed
abbrev pub NumbersEnd : Type 0
NumbersEnd = (life size t1 now : ℕ) (w : Traffic) (s : FlowSender) (h : Half) (x : Aside) → IsPast life size s w → IsNow life size w now s h x
    → AreTried (w.clock + 1) s.numbers.base s.window x.sends → AreYoung t1 now s.window → w.clock + t1 ≤ now → s.window ≡ []

-- From a tick on at which nothing waits, and all is known of two Opened ends, whatever happens in order, with a tick of each end where it is due: both are Opened, or the first to leave
-- did so for a cause that is of that tick or before (`LeavesBy`), and its partner follows
abbrev pub PairsPart : Type 0
PairsPart = (life : ℕ) (t : Timers) (p : Pair) (o q : InOpened) (happenings : List Happening) (last : Pair) → AreKnown life p o q → AreAgreed p o q → HaveTimers t p o q → AreTimes t
    → AreTicked p happenings → Leads p happenings last → AreBothOpened last ⊎ HasParted t p.clock o q p happenings last

-- so by a tick later than the longer of T1 and W after it no end leaves
abbrev pub PartedInTime : Type 0
PartedInTime = (t : Timers) (t0 : ℕ) (o q : InOpened) (first : Pair) (happenings : List Happening) (last : Pair) (h : HasParted t t0 o q first happenings last) (calling called : Bool)
    → h.happening ≡ Clock calling called → h.mid.clock + 1 ≤ t0 + max t.t1 t.window

-- a DT afloat that carries the piece of its number, of units none of which is too large, makes none too large
abbrev pub DtsFit : Type 0
DtsFit = (rules : Rules) (tick credit places room : ℕ) (events : List TrafficEvent) (w : Traffic) → IsFit rules → credit < rules.block → room < rules.block → LeadsOn rules (start tick credit places room) events w
    → (size : ℕ) (units : List (List ℕ)) → HasPieces size units w.receiver → (n sent : ℕ) (piece : Piece) → MayInTraffic rules w (Dt_comes n sent piece) → cut_at size units n ≡ Some piece → IsWithin rules w n piece

-- ---- no TPDU that comes to an Opened end since when nothing is lost is one that it may not take (X.224, class 4: segmentation and reassembling, expedited data)

-- from a tick on at which nothing waits, and all is known of two Opened ends that stand in the lines of their connection: whatever happens in order, as long as both are Opened the
-- first TPDU that waits for either is none that makes a unit too large, and no ED where expedited data is not agreed
abbrev pub LinesFit : Type 0
LinesFit = (life : ℕ) (times : Times) (terms : Terms) (p mid : Pair) (o q : InOpened) (happenings : List Happening) → AreKnown life p o q → AreAgreed p o q → AreLined times terms p
    → Leads p happenings mid → AreBothOpened mid → (IsWrongFirst mid.called mid.forth → ⊥) × (IsWrongFirst mid.calling mid.back → ⊥)

-- ---- what an Opened end keeps over each row, whatever is lost (X.224, class 4 state tables)

-- an Opened end that is up to date since tick s, whose halves have the T1 and the N of its timers, is so after each row, or it may leave
abbrev pub RowsKeepUp : Type 0
RowsKeepUp = (t : Timers) (s now : ℕ) (e : End) (o : InOpened) (event : Event) → e.stage ≡ Opened o → e.base.timers ≡ t → o.halves.sending.rules.t1 ≡ t.t1 → o.halves.sending.rules.sendings ≡ t.sendings
    → s ≤ now → 1 ≤ t.window → IsUpToDate t s o → MayLeave t s now e.base o event ⊎ StaysUpToDate t s (stepped whole now e event)

-- no entity sends an ER
abbrev pub NoneSendsEr : Type 0
NoneSendsEr = (now : ℕ) (entity : Entity) → SendsNoEr now entity
