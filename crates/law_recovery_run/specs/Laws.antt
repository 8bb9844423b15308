-- Laws of runs that recover, over any carrier that serves again once nothing is lost (X.213, queue model of the network connectionless-mode service; X.224, class 4 procedures).
use Rattle.std.specs.Prelude.{ℕ, List, ◌≡◌, [], ◌++◌, Some, ◌⊎◌, ◌<◌, ◌≤◌, ◌+◌, max}
use Rattle.osi_base.specs.Calls.{Call}
use Rattle.osi_base.specs.Link.{Link}
use Rattle.script_journal.specs.declared.event.Event.{Event}
use Rattle.script_lines.specs.declared.line.Line.{Line}
use Rattle.tp4_number.specs.Number.{whole}
use Rattle.tp4_world.specs.World.{World, entity_at}
use Rattle.law_tp4_lawful.specs.Called.{OnCalls, AreHonestCalls}
use Rattle.law_recovery_run.specs.Aside.{StaysAside}
use Rattle.law_recovery_run.specs.Ordered.{HasGone, IsReady, OnPrompt, RunsInOrder, InOrder}
use Rattle.law_recovery_run.specs.Rivals.{HasNoRival}
use Rattle.std.specs.List.{AllByRecursion}
use Rattle.osi_base.specs.declared.unit.Unit.{Unit as CarriedUnit}
use Rattle.tp4_conn.specs.End.{End}
use Rattle.tp4_conn.specs.Table.{Event as EndEvent, stepped}
use Rattle.tp4_conn.specs.declared.states.InOpened.{InOpened}
use Rattle.tp4_conn.specs.declared.states.StateData.TheVariants.{Opened}
use Rattle.tp4_conn.specs.declared.timers.Timers.{Timers}
use Rattle.law_tp4_pair.specs.Claim.{IsUndropped}
use Rattle.law_tp4_pair.specs.Pair.{Pair}
use Rattle.tp4_world.specs.Run.{Settles, RunsLines}
use Rattle.law_calm_run.proofs.Hall.{Hall, AreWaiting, Clocks}
use Rattle.law_recovery_run.specs.Following.{HasOwn, IsFollowed, IsFromPartner, IsLive, Speaks, Stands}
use Rattle.law_recovery_run.specs.Settling.{AreAtHand, HasGoneOn, IsRunning}
use Rattle.script_journal.specs.Partner.{AreEnds}
use Rattle.script_lines.specs.Injecting.{HasNoInject}
use Rattle.law_tp4_lawful.specs.Limits.{IsProperLine}
use Rattle.law_calm_run.specs.Service.{end_at_number}
use Rattle.law_recovery_run.specs.Run.{RunsOn}
use Rattle.law_recovery_run.specs.Ready.{HasStarted, pair_at}
use Rattle.tp4_conn.specs.declared.end_record.EndRecord.{EndRecord}
use Rattle.tp4_conn.specs.declared.states.InCrWait.{InCrWait}
use Rattle.tp4_entity.specs.Entity.{Entity, end_at}
use Rattle.law_recovery_run.specs.Requesting.{AreListening, IsAnswered, IsApart, IsIndicated, IsRefusal, IsRequesting, IsSentAgain, in_cr_wait}
use Rattle.tpdu.specs.declared.service.GoneCause.{GoneCause}
use Rattle.law_recovery_run.specs.Service.{HappensAt}
use Rattle.law_recovery_steps.specs.Going.{IsCause}
use Rattle.script_journal.specs.declared.event.Event.TheVariants as events
use Rattle.tpdu.specs.declared.service.EndTold.TheVariants as tells

-- From a tick on at which nothing is left to deliver, lines that are settled and lose nothing are steps of the network without its carrier: what waits is handed over in the order in which
-- it was sent, and nothing waits in the end
abbrev pub RunsGoInOrder : {C : Type 0} → (C → Link (List ℕ)) → (C → Call (List ℕ) → C → Type 0) → Type 0
RunsGoInOrder {C} link steps = OnPrompt link steps (λ titles first Waits. (old last : World C) (script : List Line) (late : List Event) → IsReady link steps titles first old
    → RunsInOrder link steps titles old script late last → HasGone link titles Waits old late last)

-- after any calls after which the carrier is honest: what is for an end that goes on is its partner
abbrev pub PartnersAreAlone : {C : Type 0} → (C → Link (List ℕ)) → (C → Call (List ℕ) → C → Type 0) → Type 0
PartnersAreAlone link steps = OnCalls link steps whole HasNoRival

-- and whatever else comes to the system of an end that goes on leaves that end as it is, and sends nothing to its partner
abbrev pub OthersStayAside : {C : Type 0} → (C → Link (List ℕ)) → (C → Call (List ℕ) → C → Type 0) → Type 0
OthersStayAside link steps = OnCalls link steps whole (StaysAside link)

-- ---- laws of two partner ends since when nothing is lost, along the calls of their network (X.213, queue model; X.224, class 4 procedures)

-- what an end sends that is Opened or Closing, and takes what is of its partner
abbrev pub OpenEndsSpeak : Type 0
OpenEndsSpeak = (now : ℕ) (e : End) (event : EndEvent) → IsLive e.stage → HasOwn e.base e.stage → IsFromPartner e.base event → Speaks e.base (stepped whole now e event)

-- over each carrier that serves again once nothing is lost: of two ends that are Opened or Closing, whatever else waits, a settle in which nothing is lost hands over what waits between the
-- two in order, until one of them is frozen, or nothing waits
abbrev pub SettlesGoOn : {C : Type 0} → (C → Link (List ℕ)) → (C → Call (List ℕ) → C → Type 0) → Type 0
SettlesGoOn {C} link steps = OnPrompt link steps (λ titles first Waits. (timers : Timers) (early made : List Event) (old new : World C) (hall : Hall) (queue : List (CarriedUnit (List ℕ))) (x y : ℕ) (p : Pair)
    → AreHonestCalls link steps whole titles timers early old → IsRunning link titles Waits old hall queue → IsFollowed link early old hall.posts x y p → IsLive p.calling.stage → IsLive p.called.stage
    → AllByRecursion IsUndropped made → Settles link (InOrder link steps) whole 0 old made new → HasGoneOn link (early ++ made) new x y p)

-- after any calls after which the carrier is honest: two partners that are Opened where nothing waits between them are such a pair, and such a pair in which both are Opened are partners
abbrev pub PartnersAreFollowed : {C : Type 0} → (C → Link (List ℕ)) → (C → Call (List ℕ) → C → Type 0) → Type 0
PartnersAreFollowed {C} link steps = OnCalls link steps whole (λ journal last. (x y : ℕ) (p : Pair) (o q : InOpened)
    → (AreAtHand link journal last x y p o q → IsFollowed link journal last [] x y p)
    × (IsFollowed link journal last [] x y p → p.calling.stage ≡ Opened o → p.called.stage ≡ Opened q → AreAtHand link journal last x y p o q))

-- ---- laws of runs that recover, at the settle from which on nothing is lost (X.213, queue model; X.214, queue model; X.224, class 4 procedures)

-- ---- the run

-- lines without an injection, after calls after which the carrier is honest, are such calls too
abbrev pub LinesAreCalls : {C : Type 0} → (C → Link (List ℕ)) → (C → Call (List ℕ) → C → Type 0) → (ℕ → ℕ → ℕ) → Type 0
LinesAreCalls {C} link steps wrap = (titles : List (List ℕ)) (timers : Timers) (early made : List Event) (old new : World C) (script : List Line)
    → AreHonestCalls link steps wrap titles timers early old → AllByRecursion IsProperLine script → HasNoInject script → RunsLines link steps wrap titles old script made new
    → AreHonestCalls link steps wrap titles timers (early ++ made) new

-- so both parts of a run that recovers are such calls
abbrev pub RunsAreCalls : {C : Type 0} → (C → Link (List ℕ)) → (C → Call (List ℕ) → C → Type 0) → (ℕ → ℕ → ℕ) → Type 0
RunsAreCalls {C} link steps wrap = (titles : List (List ℕ)) (timers : Timers) (begun early late : List Event) (first at_t0 last : World C) (script : List Line)
    → HasStarted link steps titles timers begun first → RunsOn link steps wrap titles first at_t0 last script early late
    → AreHonestCalls link steps wrap titles timers (begun ++ early) at_t0 × AreHonestCalls link steps wrap titles timers ((begun ++ early) ++ late) last

-- the network at the recovering settle is one from which it goes on in order, whatever was lost before and whichever systems began again
abbrev pub RunsAreReady : {C : Type 0} → (C → Link (List ℕ)) → (C → Call (List ℕ) → C → Type 0) → Type 0
RunsAreReady {C} link steps = (titles : List (List ℕ)) (timers : Timers) (begun early late : List Event) (first at_t0 last : World C) (script : List Line)
    → HasStarted link steps titles timers begun first → RunsOn link steps whole titles first at_t0 last script early late → IsReady link steps titles first.carrier at_t0

-- and the lines since are settled and lose nothing
abbrev pub RunsGoOn : {C : Type 0} → (C → Link (List ℕ)) → (C → Call (List ℕ) → C → Type 0) → Type 0
RunsGoOn {C} link steps = (titles : List (List ℕ)) (early late : List Event) (first at_t0 last : World C) (script : List Line)
    → (run : RunsOn link steps whole titles first at_t0 last script early late) → RunsInOrder link steps titles at_t0 run.recovers.after late last

-- ---- two partners, after any calls after which the carrier is honest

-- no end is due
abbrev pub CallsRest : {C : Type 0} → (C → Link (List ℕ)) → (C → Call (List ℕ) → C → Type 0) → Type 0
CallsRest {C} link steps = OnCalls link steps whole (λ journal last. AreWaiting (link last.carrier).clock last.entities)

-- an end stands exactly where it is that of its number
abbrev pub EndsHaveNumbers : {C : Type 0} → (C → Link (List ℕ)) → (C → Call (List ℕ) → C → Type 0) → Type 0
EndsHaveNumbers {C} link steps = OnCalls link steps whole (λ journal last. (x : ℕ) (e : End) → (Stands last x e → end_at_number last x ≡ Some e) × (end_at_number last x ≡ Some e → Stands last x e))

-- two partners that are Opened, by their numbers, are followed as a pair in which nothing waits
abbrev pub OpenedAreFollowed : {C : Type 0} → (C → Link (List ℕ)) → (C → Call (List ℕ) → C → Type 0) → Type 0
OpenedAreFollowed {C} link steps = OnCalls link steps whole (λ journal last. (calling called : ℕ) (x y : End) (o q : InOpened) → AreEnds journal calling called → end_at_number last calling ≡ Some x
    → end_at_number last called ≡ Some y → x.stage ≡ Opened o → y.stage ≡ Opened q → IsFollowed link journal last [] calling called (pair_at (link last.carrier).clock journal calling called x y))

-- ---- laws of an end in CrWait since when nothing is lost, along the calls of its network (X.213, queue model; X.224, class 4: connection establishment)

-- an end in CrWait that has sent its CR fewer than N times sends it again at the tick at which T1 has passed since the last time, whatever else is due then
abbrev pub RequestsAreSentAgain : Type 0
RequestsAreSentAgain = (old new : Hall) (made : List Event) (system own : ℕ) (entity : Entity) (b : EndRecord) (r : InCrWait) → Clocks old made new → entity_at old.entities system ≡ Some entity
    → end_at entity own ≡ Some (in_cr_wait b r) → 1 ≤ b.timers.t1 → r.tries.last + b.timers.t1 ≤ old.clock + 1 → r.tries.count < b.timers.sendings → IsSentAgain (old.clock + 1) system own b r new

-- over each carrier that serves again once nothing is lost: a settle in which nothing is lost hands the CR of an end in CrWait to the entity that it calls, whatever else waits. So where that
-- is not silent, its called end stands in UserWait then, or the calling one took a CC or a DR; where none waited before, it took the DR by which its CR was refused
abbrev pub RequestsAreCarried : {C : Type 0} → (C → Link (List ℕ)) → (C → Call (List ℕ) → C → Type 0) → Type 0
RequestsAreCarried {C} link steps = OnPrompt link steps (λ titles first Waits. (timers : Timers) (early made : List Event) (old new : World C) (hall : Hall) (queue : List (CarriedUnit (List ℕ))) (x : ℕ) (b : EndRecord)
    (r : InCrWait) → AreHonestCalls link steps whole titles timers early old → IsRunning link titles Waits old hall queue → (q : IsRequesting old hall.posts x b r)
    → AreListening (link old.carrier).clock old b.to → AllByRecursion IsUndropped made → Settles link (InOrder link steps) whole 0 old made new → IsIndicated (early ++ made) new x b r
    ⊎ ((a : IsAnswered link (InOrder link steps) made new x b r) × (AllByRecursion (IsApart q.calling.system q.calling.entity.own b r) hall.posts → IsRefusal q.calling.entity.own b.own a.took.tpdu)))

-- and where its called end stands in UserWait before a settle, it does so after it, or the calling one was answered
abbrev pub RequestsStayIndicated : {C : Type 0} → (C → Link (List ℕ)) → (C → Call (List ℕ) → C → Type 0) → Type 0
RequestsStayIndicated {C} link steps = OnPrompt link steps (λ titles first Waits. (timers : Timers) (early made : List Event) (old new : World C) (hall : Hall) (queue : List (CarriedUnit (List ℕ))) (x : ℕ)
    (b : EndRecord) (r : InCrWait) → AreHonestCalls link steps whole titles timers early old → IsRunning link titles Waits old hall queue → (i : IsIndicated early old x b r) → AllByRecursion IsUndropped made
    → Settles link (InOrder link steps) whole 0 old made new → IsIndicated (early ++ made) new x b r
    ⊎ ((a : IsAnswered link (InOrder link steps) made new x b r) × (AllByRecursion (IsApart i.calling.system i.calling.entity.own b r) hall.posts → IsRefusal i.calling.entity.own b.own a.took.tpdu)))

-- ---- laws of what the users of a network may rely on once nothing is lost any more (X.214, queue model; X.224, class 4: retransmission on time-out, inactivity control)

-- an end that goes by itself does so by the longer of T1 and W after t0
abbrev pub GoesInTime : Type 0
GoesInTime = (t : Timers) (t0 : ℕ) (early late : List Event) (end : ℕ) (o : InOpened) (tick : ℕ) (cause : GoneCause) → IsCause t t0 tick o cause
    → HappensAt early late tick (events.End end (tells.Gone cause [])) → tick ≤ t0 + max t.t1 t.window
