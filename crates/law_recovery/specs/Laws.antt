-- Laws of what the users of a network may rely on once nothing is lost any more (X.213, queue model of the network connectionless-mode service; X.214, queue model of the transport service).
use Rattle.std.specs.Prelude.{ℕ, List, ◌≡◌, [], ◌++◌, Some, ◌⊎◌, ◌<◌, ◌≤◌, ◌+◌, max, None, ◌*◌, true}
use Rattle.osi_base.specs.Calls.{Call}
use Rattle.osi_base.specs.Link.{Link, IsLeastFresh}
use Rattle.tp4_number.specs.Number.{whole, wire}
use Rattle.law_recovery_run.specs.Service.{RecoversFrom, AreBack}
use Rattle.law_recovery.specs.Walked.{AreWalked, TellsFrom}
use Rattle.script_journal.specs.declared.event.Event.{Event}
use Rattle.script_lines.specs.declared.line.Line.{Line}
use Rattle.tp4_conn.specs.End.{End}
use Rattle.tp4_conn.specs.declared.states.InOpened.{InOpened}
use Rattle.tp4_conn.specs.declared.states.StateData.TheVariants.{Opened, CrWait}
use Rattle.tp4_conn.specs.declared.timers.Timers.{Timers}
use Rattle.law_tp4_pair.specs.Pair.{Happening, Leads, Pair}
use Rattle.law_recovery_steps.specs.Going.{AreBothLeft, AreTicked, AreTimes, HaveTimers, AreBothOpened, HasParted}
use Rattle.law_recovery_steps.specs.Beginning.{AreAgreed}
use Rattle.law_recovery_steps.specs.Known.{AreKnown}
use Rattle.tp4_world.specs.World.{World, entity_at}
use Rattle.law_tp4_lawful.specs.Called.{AreHonestCalls, OnCalls}
use Rattle.law_calm_run.specs.Service.{end_at_number}
use Rattle.law_recovery_run.specs.Ordered.{IsReady, OnPrompt, RunsInOrder}
use Rattle.law_recovery_run.specs.Following.{IsFollowed, IsLive, Stands}
use Rattle.law_recovery_run.specs.Settling.{IsEnded}
use Rattle.law_recovery.specs.Moving.{HasLasted, HasLastedTold, HasPlayed}
use Rattle.law_recovery_run.specs.Over.{HasLeftEnd}
use Rattle.law_recovery_steps.specs.Steps.{IsParted}
use Rattle.law_recovery_world.specs.Partners.{IsArrival, IsPairOf}
use Rattle.law_recovery.specs.Followed.{HaveParted, HaveShown}
use Rattle.law_recovery.specs.Along.{FollowsAlong}
use Rattle.law_recovery_run.specs.Halves.{IndicationsEnd}
use Rattle.law_recovery.specs.Runs.{FollowsFrom, IndicationsFrom}
use Rattle.tp4_conn.specs.declared.states.InCrWait.{InCrWait}
use Rattle.tp4_entity.specs.Entity.{Entity, end_at}
use Rattle.law_recovery.specs.AskingAlong.{AcceptsAlong, AsksAlong}
use Rattle.law_recovery.specs.Service.{AsksFrom}
use Rattle.script_journal.specs.Partner.{AreEnds, ArePartners}
use Rattle.law_recovery_run.specs.Ready.{HasStarted}
use Rattle.law_recovery_steps.specs.Since.{IsUpToDate}
use Rattle.law_recovery.specs.Outage.{AreOrdered, CalmOutagesFrom, OutagesFrom}
use Rattle.std.specs.List.{AllByRecursion}
use Rattle.tp4_world.specs.Called.{DidAll, KeepsLimits, WorldCall}
use Rattle.law_recovery.specs.Staying.{IsLeftAlone, IsOpenedSince}

-- where lines are steps of each two ends that know each other, the ends of each run recover
abbrev pub WalkedRecover : {C : Type 0} → (C → Link (List ℕ)) → (C → Call (List ℕ) → C → Type 0) → Type 0
WalkedRecover {C} link steps = (titles : List (List ℕ)) (begins : C) → AreWalked link steps titles begins → RecoversFrom link steps whole titles begins

-- ---- laws of two partner ends along lines that are settled, since when nothing is lost (X.213, queue model; X.224, class 4 procedures)

-- Over each carrier that serves again once nothing is lost: of two ends that are Opened or Closing and know each other, in a network in which nothing is left to deliver, lines that are settled
-- and lose nothing are steps of their pair, until one of them is frozen; from there on the two have left, if both had left by then
abbrev pub RunsLast : {C : Type 0} → (C → Link (List ℕ)) → (C → Call (List ℕ) → C → Type 0) → Type 0
RunsLast {C} link steps = OnPrompt link steps (λ titles first Waits. (timers : Timers) (early late : List Event) (old last : World C) (script : List Line) (x y : ℕ) (p : Pair)
    → AreHonestCalls link steps whole titles timers early old → IsReady link steps titles first old → IsFollowed link early old [] x y p → IsLive p.calling.stage → IsLive p.called.stage
    → RunsInOrder link steps titles old script late last → HasLasted link (early ++ late) last x y p)

-- and the lines tell what happens to the two: a call of a user has its line, and an end that its tick makes gone is told so at that tick
abbrev pub RunsAreTold : {C : Type 0} → (C → Link (List ℕ)) → (C → Call (List ℕ) → C → Type 0) → Type 0
RunsAreTold {C} link steps = OnPrompt link steps (λ titles first Waits. (timers : Timers) (early late : List Event) (old last : World C) (script : List Line) (x y : ℕ) (p : Pair)
    → AreHonestCalls link steps whole titles timers early old → IsReady link steps titles first old → IsFollowed link early old [] x y p → IsLive p.calling.stage → IsLive p.called.stage
    → RunsInOrder link steps titles old script late last → HasLastedTold link early late last x y p)

-- From a tick on at which nothing waits, and all is known of two Opened ends, whatever happens in order, with a tick of each end where it is due: neither is frozen before both have left
abbrev pub EndedHaveLeft : Type 0
EndedHaveLeft = (life : ℕ) (t : Timers) (p : Pair) (o q : InOpened) (happenings : List Happening) (last : Pair) → AreKnown life p o q → AreAgreed p o q → HaveTimers t p o q → AreTimes t
    → AreTicked p happenings → Leads p happenings last → IsEnded last → AreBothLeft last

-- So of two partners that are Opened, and of which all is known, in a network in which nothing is left to deliver: after lines that are settled and lose nothing both are Opened still, or the first
-- that left did so for a cause of that tick or before, and both have left
abbrev pub RunsPart : {C : Type 0} → (C → Link (List ℕ)) → (C → Call (List ℕ) → C → Type 0) → Type 0
RunsPart {C} link steps = OnPrompt link steps (λ titles first Waits. (timers : Timers) (early late : List Event) (old last : World C) (script : List Line) (x y life : ℕ) (t : Timers) (p : Pair)
    (o q : InOpened) → AreHonestCalls link steps whole titles timers early old → IsReady link steps titles first old → IsFollowed link early old [] x y p → AreKnown life p o q → AreAgreed p o q
    → HaveTimers t p o q → AreTimes t → RunsInOrder link steps titles old script late last → HasPlayed link (early ++ late) last x y t p o q)

-- an end that has left is Opened no more, by its number
abbrev pub LeftAreOver : Type 0 → Type 0
LeftAreOver C = (last : World C) (x : ℕ) → HasLeftEnd last x → (e : End) (o : InOpened) → end_at_number last x ≡ Some e → e.stage ≡ Opened o → ⊥

-- after any calls after which the carrier is honest: an end that stands is that of its number
abbrev pub StandByNumber : {C : Type 0} → (C → Link (List ℕ)) → (C → Call (List ℕ) → C → Type 0) → Type 0
StandByNumber link steps = OnCalls link steps whole (λ journal last. (x : ℕ) (e : End) → Stands last x e → end_at_number last x ≡ Some e)

-- ---- laws of what is claimed once nothing is lost any more, over whole numbers and over those of the wire (X.224, TPDU numbering)

-- of the runs of a network that begins with a state of its carrier
abbrev pub RecoversOnWire : {C : Type 0} → (C → Link (List ℕ)) → (C → Call (List ℕ) → C → Type 0) → Type 0
RecoversOnWire {C} link steps = (titles : List (List ℕ)) (begins : C) → RecoversFrom link steps whole titles begins → RecoversFrom link steps wire titles begins

-- ---- laws of what the lines tell of two partner ends, since when nothing is lost (X.213, queue model; X.224, class 4 procedures)

-- where lines are steps of each two ends that know each other, they tell of each two that were Opened
abbrev pub WalkedTell : {C : Type 0} → (C → Link (List ℕ)) → (C → Call (List ℕ) → C → Type 0) → Type 0
WalkedTell {C} link steps = (titles : List (List ℕ)) (begins : C) → AreWalked link steps titles begins → TellsFrom link steps titles begins

-- so they do over each carrier that serves again once nothing is lost
abbrev pub RunsTell : {C : Type 0} → (C → Link (List ℕ)) → (C → Call (List ℕ) → C → Type 0) → Type 0
RunsTell link steps = OnPrompt link steps (λ titles begins Waits. TellsFrom link steps titles begins)

-- ---- laws of a pair of ends that is followed through a network since when nothing is lost, at the lines after which nothing waits (X.214, queue model; X.224, class 4 procedures)

-- a pair in which nothing waits is followed exactly where it is one of which all is known, as long as both are Opened
abbrev pub FollowedArePairs : {C : Type 0} → (C → Link (List ℕ)) → (C → Call (List ℕ) → C → Type 0) → Type 0
FollowedArePairs {C} link steps = OnCalls link steps whole (λ journal last. (x y : ℕ) (p : Pair) (o q : InOpened) → (IsPairOf link journal last x y p o q → IsFollowed link journal last [] x y p)
    × (IsFollowed link journal last [] x y p → p.calling.stage ≡ Opened o → p.called.stage ≡ Opened q → IsPairOf link journal last x y p o q))

-- So of a pair that is followed from where both are Opened, and nothing waits there or in the end: where the longer of T1 and W has passed, one has left, or each has shown what
-- the other submitted
abbrev pub FollowedShow : {C : Type 0} → (C → Link (List ℕ)) → (C → Call (List ℕ) → C → Type 0) → Type 0
FollowedShow {C} link steps = (titles : List (List ℕ)) (timers : Timers) (early later : List Event) (first second : World C) → AreHonestCalls link steps whole titles timers early first
    → AreHonestCalls link steps whole titles timers later second → (x y : ℕ) (p last : Pair) (o q : InOpened) (happenings : List Happening)
    → IsFollowed link early first [] x y p → p.calling.stage ≡ Opened o → p.called.stage ≡ Opened q → IsFollowed link later second [] x y last → Leads p happenings last
    → (link first.carrier).clock + max timers.t1 timers.window ≤ (link second.carrier).clock → IsParted last ⊎ HaveShown link later second x y last

-- and where no end misses a tick at which it is due, both are Opened, or the first that left did so for a cause that is of the tick of the beginning or before, and not for what came
abbrev pub FollowedPart : {C : Type 0} → (C → Link (List ℕ)) → (C → Call (List ℕ) → C → Type 0) → Type 0
FollowedPart {C} link steps = (titles : List (List ℕ)) (timers : Timers) (early : List Event) (first : World C) → AreHonestCalls link steps whole titles timers early first
    → timers.window < timers.inactive → (x y : ℕ) (p last : Pair) (o q : InOpened) (happenings : List Happening) → IsFollowed link early first [] x y p → p.calling.stage ≡ Opened o
    → p.called.stage ≡ Opened q → AreTicked p happenings → Leads p happenings last
    → AreBothOpened last ⊎ ((h : HasParted timers (link first.carrier).clock o q p happenings last) × (IsArrival h.happening → ⊥))

-- So where no end misses a tick at which it is due, and nothing waits in the end, either both are back, as the service claims it; or neither is Opened any more, and the first
-- that left did so for such a cause
abbrev pub FollowedAreBack : {C : Type 0} → (C → Link (List ℕ)) → (C → Call (List ℕ) → C → Type 0) → Type 0
FollowedAreBack {C} link steps = (titles : List (List ℕ)) (timers : Timers) (early later : List Event) (first second : World C) → AreHonestCalls link steps whole titles timers early first
    → AreHonestCalls link steps whole titles timers later second → timers.window < timers.inactive → (x y : ℕ) (p last : Pair) (o q : InOpened)
    (happenings : List Happening) → IsFollowed link early first [] x y p → p.calling.stage ≡ Opened o → p.called.stage ≡ Opened q → IsFollowed link later second [] x y last → AreTicked p happenings
    → Leads p happenings last → AreBack timers (link first.carrier).clock (link second.carrier).clock later second x y
    ⊎ HaveParted timers (link first.carrier).clock o q p happenings last second x y

-- ---- laws of ends whose partner has left, since when nothing is lost any more (X.213, queue model; X.224, class 4 procedures)

-- over each carrier that serves again once nothing is lost, in a network in which nothing is left to deliver: lines that are settled and lose nothing leave no end beside a partner that had left
abbrev pub LinesFollow : {C : Type 0} → (C → Link (List ℕ)) → (C → Call (List ℕ) → C → Type 0) → Type 0
LinesFollow link steps = OnPrompt link steps (λ titles first Waits. FollowsAlong link steps titles first)

-- where that is so from a state of the carrier on, the claim holds of each run that recovers; and over the numbers of the wire where it does over whole ones
abbrev pub AlongRunsFollow : {C : Type 0} → (C → Link (List ℕ)) → (C → Call (List ℕ) → C → Type 0) → Type 0
AlongRunsFollow {C} link steps = (titles : List (List ℕ)) (begins : C) → FollowsAlong link steps titles begins → FollowsFrom link steps whole titles begins

abbrev pub FollowsOnWire : {C : Type 0} → (C → Link (List ℕ)) → (C → Call (List ℕ) → C → Type 0) → Type 0
FollowsOnWire {C} link steps = (titles : List (List ℕ)) (begins : C) → FollowsFrom link steps whole titles begins → FollowsFrom link steps wire titles begins

-- over each carrier that serves again once nothing is lost
abbrev pub RunsFollow : {C : Type 0} → (C → Link (List ℕ)) → (C → Call (List ℕ) → C → Type 0) → (ℕ → ℕ → ℕ) → Type 0
RunsFollow link steps wrap = OnPrompt link steps (λ titles begins Waits. FollowsFrom link steps wrap titles begins)

-- after any calls after which the carrier is honest, whatever that loses, an end whose user has not answered is there for less than I ticks since its indication
abbrev pub CallsEndIndications : {C : Type 0} → (C → Link (List ℕ)) → (C → Call (List ℕ) → C → Type 0) → Type 0
CallsEndIndications {C} link steps = (titles : List (List ℕ)) (timers : Timers) (journal : List Event) (last : World C) → AreHonestCalls link steps whole titles timers journal last
    → IndicationsEnd timers (link last.carrier).clock last

-- so in each run that recovers, over any carrier
abbrev pub RunsEndIndications : {C : Type 0} → (C → Link (List ℕ)) → (C → Call (List ℕ) → C → Type 0) → (ℕ → ℕ → ℕ) → Type 0
RunsEndIndications {C} link steps wrap = (titles : List (List ℕ)) → IndicationsFrom link steps wrap titles

-- ---- laws of ends in CrWait along the lines of a run, since when nothing is lost (X.213, queue model; X.224, class 4: connection establishment, retransmission on time-out)

-- after any calls no end in CrWait sent its CR later than now
abbrev pub TriesArePast : {C : Type 0} → (C → Link (List ℕ)) → (C → Call (List ℕ) → C → Type 0) → Type 0
TriesArePast link steps = OnCalls link steps whole (λ journal last. (system own : ℕ) (entity : Entity) (e : End) (w : InCrWait) → entity_at last.entities system ≡ Some entity → end_at entity own ≡ Some e
    → e.stage ≡ CrWait w → w.tries.last ≤ (link last.carrier).clock)

-- over each carrier that serves again once nothing is lost: of an end where none that it called was answered
abbrev pub RunsAsk : {C : Type 0} → (C → Link (List ℕ)) → (C → Call (List ℕ) → C → Type 0) → Type 0
RunsAsk link steps = OnPrompt link steps (λ titles begins Waits. AsksAlong link steps titles begins)

-- and of one whose called end is in AkWait
abbrev pub RunsAccept : {C : Type 0} → (C → Link (List ℕ)) → (C → Call (List ℕ) → C → Type 0) → Type 0
RunsAccept link steps = OnPrompt link steps (λ titles begins Waits. AcceptsAlong link steps titles begins)

-- where both are so from a state of the carrier on, the claim holds of each run that recovers; and over the numbers of the wire where it does over whole ones
abbrev pub AlongRunsAsk : {C : Type 0} → (C → Link (List ℕ)) → (C → Call (List ℕ) → C → Type 0) → Type 0
AlongRunsAsk {C} link steps = (titles : List (List ℕ)) (begins : C) → AsksAlong link steps titles begins → AcceptsAlong link steps titles begins → AsksFrom link steps whole titles begins

abbrev pub AsksOnWire : {C : Type 0} → (C → Link (List ℕ)) → (C → Call (List ℕ) → C → Type 0) → Type 0
AsksOnWire {C} link steps = (titles : List (List ℕ)) (begins : C) → AsksFrom link steps whole titles begins → AsksFrom link steps wire titles begins

-- ---- laws of outages of a network (X.214, queue model of the transport service; X.224, class 4: retransmission on time-out, inactivity control)

-- each two partners that are Opened after the lines of a calm run are up to date there
abbrev pub CalmAreUpToDate : {C : Type 0} → (C → Link (List ℕ)) → (C → Call (List ℕ) → C → Type 0) → Type 0
CalmAreUpToDate {C} link steps = (titles : List (List ℕ)) (timers : Timers) (begun early : List Event) (first at_s : World C) (front : List Line)
    → HasStarted link steps titles timers begun first → AreOrdered link steps titles first.carrier → IsLeastFresh (link first.carrier) None → RunsInOrder link steps titles first front early at_s
    → (calling called : ℕ) (x y : End) (o q : InOpened) → AreEnds (begun ++ early) calling called → end_at_number at_s calling ≡ Some x → end_at_number at_s called ≡ Some y
    → x.stage ≡ Opened o → y.stage ≡ Opened q → IsUpToDate timers (link at_s.carrier).clock o × IsUpToDate timers (link at_s.carrier).clock q

-- where the ends of each run that recovers do so, those of each run with a short outage are kept; and where lines go in order, of each one that was calm before
abbrev pub RecoveringIsKept : {C : Type 0} → (C → Link (List ℕ)) → (C → Call (List ℕ) → C → Type 0) → Type 0
RecoveringIsKept {C} link steps = (titles : List (List ℕ)) (begins : C) → RecoversFrom link steps whole titles begins → OutagesFrom link steps whole titles begins
    × (AreOrdered link steps titles begins → CalmOutagesFrom link steps whole titles begins)

-- so it is over the numbers of the wire
abbrev pub OutagesOnWire : {C : Type 0} → (C → Link (List ℕ)) → (C → Call (List ℕ) → C → Type 0) → Type 0
OutagesOnWire {C} link steps = (titles : List (List ℕ)) (begins : C) → (OutagesFrom link steps whole titles begins → OutagesFrom link steps wire titles begins)
    × (CalmOutagesFrom link steps whole titles begins → CalmOutagesFrom link steps wire titles begins)

-- ---- two Opened partners of a network stay Opened as long as what was lost lets them (X.224, class 4: retransmission on time-out; inactivity control)

-- After some calls, and further ones after which the carrier is honest: two partners that are Opened and up to date since tick s are so still, as long as neither is left by its user or its
-- system, fewer than N T1 ticks have passed since s, and no more than I less W
abbrev pub PartnersStay : {C : Type 0} → (C → Link (List ℕ)) → (C → Call (List ℕ) → C → Type 0) → Type 0
PartnersStay {C} link steps = (titles : List (List ℕ)) (timers : Timers) (early made : List Event) (old new : World C) (calls : List WorldCall) → AreHonestCalls link steps whole titles timers early old
    → AllByRecursion KeepsLimits calls → DidAll link steps whole old calls made new → (link new.carrier).honest ≡ true
    → (s x y : ℕ) → ArePartners early x y → s ≤ (link old.carrier).clock → (a : IsOpenedSince timers s old x) → (b : IsOpenedSince timers s old y) → IsLeftAlone x a.system made → IsLeftAlone y b.system made
    → (link new.carrier).clock < s + timers.sendings * timers.t1 → (link new.carrier).clock + timers.window ≤ s + timers.inactive
    → IsOpenedSince timers s new x × IsOpenedSince timers s new y
