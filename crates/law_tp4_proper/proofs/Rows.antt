-- One end of an entity through a step: where it is not due, a call or a TPDU leaves it proper and due later than now, and so does a tick
-- that is not past that at which it is due.
use Rattle.std.proofs.Common.{◌≡◌, ℕ, ◌≤◌, Bool, ◌&&◌, not, List, Option, Some, refl, ◌∙◌, subst, arith}
use Rattle.std.proofs.lemmas.Option.{none-some, same_Some}
use Rattle.tpdu.specs.Writing.{IsAllowed}
use Rattle.tpdu.specs.declared.tpdu.Format.TheVariants.{Normal as Plain}
use Rattle.tpdu.specs.declared.tpdu.Tpdu.{Tpdu}
use Rattle.tpdu.specs.declared.tpdu.Tpdu.TheVariants.{Cr}
use Rattle.tpdu.specs.declared.service.Options.{Options}
use Rattle.tp4_number.proofs.Past.{if_kept}
use Rattle.tp4_conn.specs.declared.end_record.EndRecord.{EndRecord}
use Rattle.tp4_conn.specs.declared.call.ConnectCall.{ConnectCall}
use Rattle.tp4_conn.specs.declared.call.UserCall.{UserCall}
use Rattle.tp4_conn.specs.declared.states.StateData.{StateData}
use Rattle.tp4_conn.specs.declared.states.StateData.TheVariants.{CrWait, WaitBeforeClose, UserWait, AkWait, Opened, Closing, Frozen}
use Rattle.tp4_conn.specs.declared.timers.Timers.{Timers}
use Rattle.tp4_conn.specs.Dues.{IsBefore, IsDue, IsRunning}
use Rattle.tp4_conn.specs.End.{End, IsTimed, Moved, end_of}
use Rattle.tp4_conn.specs.Living.{IsInTime}
use Rattle.tp4_conn.specs.Making.{connected, on_cr}
use Rattle.tp4_conn.specs.Matching.{wants_sum}
use Rattle.tp4_conn.specs.Proper.{AreSendable, IsProper, IsProperCall, IsProperEvent, IsProperRow, IsProperStage}
use Rattle.tp4_conn.specs.Table.{Called, Took, Ticked, due, stepped}
use Rattle.tp4_conn.specs.Table.{at as base_at}
use Rattle.tp4_conn.proofs.Dues.{before_is, running_due}
use Rattle.tp4_conn.proofs.Propers.{called_row, connected_row, step_row}
use Rattle.tp4_conn.proofs.Rests.{Lasts, MaySend, before_not, call_late, in_time_at, tick_keeps, tpdu_late}
use Rattle.law_tp4_proper.specs.Rest.{IsProperEnd}

-- a proper end is due when it is said to be
proper_runs : (agreed : Option Options) (stage : StateData) → IsProperStage agreed stage → IsRunning stage
proper_runs agreed (CrWait w) proper = tt
proper_runs agreed (WaitBeforeClose w) proper = tt
proper_runs agreed (UserWait since) proper = tt
proper_runs agreed (AkWait w) proper = tt
proper_runs agreed (Opened o) proper = (proper.is_open, proper.halves.t1)
proper_runs agreed (Closing c) proper = tt
proper_runs agreed (Frozen when) proper = tt

pub proper_due : (b : EndRecord) (stage : StateData) → IsProper b stage → IsDue b stage
proper_due b stage p = running_due b stage p.timers (proper_runs b.agreed stage p.state)

-- it is proper, and not due
pub record Rests (t : Timers) (now : ℕ) (e : End) : Type 0 where
  pub end : IsProperEnd t e
  pub later : IsBefore (due e.base e.stage) now

pub record StepRests (t : Timers) (now : ℕ) (m : Moved) : Type 0 where
  pub rests : Rests t now (end_of m)
  pub tpdus : AreSendable m.tpdus

may_send : (agreed : Option Options) (stage : StateData) → IsProperStage agreed stage → MaySend stage
may_send agreed (CrWait w) proper = tt
may_send agreed (WaitBeforeClose w) proper = tt
may_send agreed (UserWait since) proper = tt
may_send agreed (AkWait w) proper = proper.2.t1
may_send agreed (Opened o) proper = (proper.is_open, proper.halves.t1)
may_send agreed (Closing c) proper = tt
may_send agreed (Frozen when) proper = tt

lasts_rests : (t : Timers) (now : ℕ) (e : End) (m : Moved) → e.base.timers ≡ t → Lasts e.base.timers now m → IsProperRow m → StepRests t now m
lasts_rests t now e m same lasts row = record {
  rests = record { end = record { proper = row.proper; timers_are = lasts.timers ∙ same; waiting = lasts.waiting }; later = before_is (due m.base m.stage) now lasts.late };
  tpdus = row.tpdus;
}

pub called_rests : (wrap : ℕ → ℕ → ℕ) (t : Timers) (now : ℕ) (e : End) (call : UserCall) → 1 ≤ t.inactive → Rests t now e → IsProperEvent e (Called call)
    → StepRests t now (stepped wrap now e (Called call))
called_rests wrap t now e call some r may =
    lasts_rests t now e _ r.end.timers_are
    (call_late now now e.base e.stage call r.end.proper.timers (may_send e.base.agreed e.stage r.end.proper.state) r.end.waiting (omega arith) (before_not (due e.base e.stage) now r.later))
    (step_row wrap now e (Called call) r.end.proper may)

pub took_rests : (wrap : ℕ → ℕ → ℕ) (t : Timers) (now : ℕ) (e : End) (tpdu : Tpdu) (sum : Bool) → 1 ≤ t.inactive → Rests t now e → IsProperEvent e (Took tpdu sum)
    → StepRests t now (stepped wrap now e (Took tpdu sum))
took_rests wrap t now e tpdu sum some r may =
    lasts_rests t now e _ r.end.timers_are
    (if_kept (Lasts e.base.timers now) (wants_sum e.base e.stage tpdu && not sum) _ _
    (λ _. record { timers = refl; waiting = r.end.waiting; late = before_not (due e.base e.stage) now r.later })
    (λ _. tpdu_late wrap now now e.base e.stage tpdu r.end.proper.timers (may_send e.base.agreed e.stage r.end.proper.state) r.end.waiting (omega arith) (before_not (due e.base e.stage) now r.later)))
    (step_row wrap now e (Took tpdu sum) r.end.proper may)

pub ticked_rests : (wrap : ℕ → ℕ → ℕ) (t : Timers) (now : ℕ) (e : End) → IsProperEnd t e → IsInTime (due e.base e.stage) now → StepRests t now (stepped wrap now e Ticked)
ticked_rests wrap t now e p soon =
    let proper : IsProper (base_at now e.base) e.stage = record { timers = p.proper.timers; calling = p.proper.calling; called = p.proper.called; size = p.proper.size; state = p.proper.state } in
    let kept = tick_keeps (base_at now e.base) e.stage p.waiting (in_time_at e.base e.stage now soon) in
    lasts_rests t now e _ p.timers_are (record { timers = kept.timers; waiting = kept.waiting; late = before_not _ now (proper_due (base_at now e.base) e.stage proper).after }) (step_row wrap now e Ticked p.proper tt)

pub ticked_later : (wrap : ℕ → ℕ → ℕ) (now : ℕ) (e : End) → IsProper e.base e.stage → IsBefore (due (stepped wrap now e Ticked).base (stepped wrap now e Ticked).stage) now
ticked_later wrap now e p =
    let proper : IsProper (base_at now e.base) e.stage = record { timers = p.timers; calling = p.calling; called = p.called; size = p.size; state = p.state } in
    (proper_due (base_at now e.base) e.stage proper).after

-- ---- an end that is made

pub connected_rests : (now : ℕ) (call : ConnectCall) → IsProperCall call → StepRests call.rules now (connected now call)
connected_rests now call c =
    let row = connected_row now call c in
    let some : 1 ≤ call.rules.t1 = c.timers.t1_least in
    record { rests = record { end = record { proper = row.proper; timers_are = refl; waiting = tt }; later = omega arith }; tpdus = row.tpdus }

pub indicated_rests : (now own : ℕ) (from : List ℕ) (rules : Timers) (tpdu : Tpdu) (m : Moved) → IsTimed rules → 1 ≤ rules.inactive → IsAllowed Plain tpdu
    → on_cr now own from rules tpdu ≡ Some m → StepRests rules now m
indicated_rests now own from rules (Cr credit source width calling called size preferred extra version classes ack_time text) m timed some a e =
    let row = called_row now own from rules (Cr credit source width calling called size preferred extra version classes ack_time text) _ timed a refl in
    subst (λ (x : Moved). StepRests rules now x) (same_Some _ _ e)
    (record { rests = record { end = record { proper = row.proper; timers_are = refl; waiting = tt }; later = omega (arith, some) }; tpdus = row.tpdus })
indicated_rests now own from rules other m timed some a e = absurd (none-some _ e)
