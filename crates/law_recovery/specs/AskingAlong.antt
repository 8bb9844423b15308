-- An end in CrWait along the lines of a run, since when nothing is lost (X.224, class 4: connection establishment, retransmission on time-out).
use Rattle.std.specs.Prelude.{◌≡◌, ◌⊎◌, ◌≤◌, ℕ, ◌+◌, true, List, ◌++◌}
use Rattle.osi_base.specs.Calls.{Call}
use Rattle.osi_base.specs.Link.{Link}
use Rattle.script_journal.specs.declared.event.Event.{Event}
use Rattle.script_lines.specs.declared.line.Line.{Line}
use Rattle.tp4_number.specs.Number.{whole}
use Rattle.tp4_conn.specs.End.{End}
use Rattle.tp4_conn.specs.Matching.{is_called_by}
use Rattle.tp4_conn.specs.declared.end_record.EndRecord.{EndRecord}
use Rattle.tp4_conn.specs.declared.states.InAkWait.{InAkWait}
use Rattle.tp4_conn.specs.declared.states.InCrWait.{InCrWait}
use Rattle.tp4_conn.specs.declared.states.StateData.TheVariants.{AkWait}
use Rattle.tp4_conn.specs.declared.timers.Timers.{Timers}
use Rattle.tp4_world.specs.World.{World}
use Rattle.law_tp4_lawful.specs.Called.{AreHonestCalls}
use Rattle.law_recovery_run.specs.Ordered.{IsReady, RunsInOrder}
use Rattle.law_recovery_run.specs.Following.{Stands}
use Rattle.law_recovery_run.specs.Requesting.{AreListening, AreUnanswered, IsIndicated, in_cr_wait}
use Rattle.law_recovery_run.specs.Asked.{IsExhausted, IsTold, IsUnregistered}

-- it is in CrWait still, and its called end stands in UserWait
abbrev pub HasIndicated : {C : Type 0} → List Event → World C → ℕ → Type 0
HasIndicated journal last x = (b : EndRecord) × (r : InCrWait) × IsIndicated journal last x b r

-- In a network in which nothing is left to deliver: of an end in CrWait, where none that it called was answered and none of the entities that it calls is silent, after lines that are settled and
-- lose nothing, where T1 has passed since its last CR: its called end stands in UserWait, or these lines tell that it was confirmed, or went
abbrev pub AsksAlong : {C : Type 0} → (C → Link (List ℕ)) → (C → Call (List ℕ) → C → Type 0) → List (List ℕ) → C → Type 0
AsksAlong {C} link steps titles begins = (timers : Timers) (early late : List Event) (old last : World C) (script : List Line) (x : ℕ) (b : EndRecord) (r : InCrWait)
    → AreHonestCalls link steps whole titles timers early old → IsReady link steps titles begins old → (c : Stands old x (in_cr_wait b r)) → AreUnanswered old b.to c.entity.own c.reference
    → AreListening (link old.carrier).clock old b.to → RunsInOrder link steps titles old script late last → r.tries.last + b.timers.t1 ≤ (link last.carrier).clock
    → HasIndicated (early ++ late) last x ⊎ IsTold (IsUnregistered old b.to b.called) late x

-- Of an end in CrWait and the end that it called, which is in AkWait: after such lines, where T1 has passed since its last CC, these tell that the first was confirmed, or went, or that the second is
-- exhausted
abbrev pub AcceptsAlong : {C : Type 0} → (C → Link (List ℕ)) → (C → Call (List ℕ) → C → Type 0) → List (List ℕ) → C → Type 0
AcceptsAlong {C} link steps titles begins = (timers : Timers) (early late : List Event) (old last : World C) (script : List Line) (x y : ℕ) (b : EndRecord) (r : InCrWait) (f : End) (v : InAkWait)
    → AreHonestCalls link steps whole titles timers early old → IsReady link steps titles begins old → (c : Stands old x (in_cr_wait b r)) → (d : Stands old y f) → f.stage ≡ AkWait v → d.entity.own ≡ b.to
    → is_called_by f.base c.entity.own c.reference ≡ true → RunsInOrder link steps titles old script late last → v.tries.last + f.base.timers.t1 ≤ (link last.carrier).clock
    → IsTold (IsUnregistered old b.to b.called) late x ⊎ IsExhausted late y
