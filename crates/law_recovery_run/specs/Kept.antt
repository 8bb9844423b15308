-- What two ends that were Opened and up to date before an outage come to, where it is short (X.214, queue model of the transport service; X.224, class 4: retransmission on time-out, inactivity
-- control).
use Rattle.std.specs.Prelude.{◌≡◌, ℕ, ◌+◌, List, ◌++◌, Some}
use Rattle.osi_base.specs.Link.{Link}
use Rattle.script_journal.specs.Partner.{AreEnds}
use Rattle.script_journal.specs.declared.event.Event.{Event}
use Rattle.tp4_conn.specs.End.{End}
use Rattle.tp4_conn.specs.declared.states.InOpened.{InOpened}
use Rattle.tp4_conn.specs.declared.states.StateData.TheVariants.{Opened}
use Rattle.tp4_conn.specs.declared.timers.Timers.{Timers}
use Rattle.tp4_world.specs.World.{World, end_numbered}
use Rattle.tp4_world.specs.declared.place.EndAt.{EndAt}
use Rattle.law_calm_run.specs.Service.{end_at_number}
use Rattle.law_recovery_run.specs.Recovered.{AreBack}
use Rattle.law_recovery_run.specs.Alone.{IsLeftAlone}
use Rattle.law_recovery_steps.specs.UpToDate.{IsUpToDate}
use Rattle.law_recovery_run.specs.ShortOutage.{IsShort}

-- Each two partners that were Opened and up to date at tick s, where the outage was short, and neither their users disconnect nor their systems begin again: both are Opened still, and from
-- t0 + max(T1, W) on each has shown what the other submitted, but for want of credit or for a number that the number rule holds back at this tick
abbrev pub AreKept : {C : Type 0} → (C → Link (List ℕ)) → Timers → World C → World C → World C → List Event → List Event → List Event → Type 0
AreKept link t at_s at_t0 last early lost late =
    (calling called : ℕ) (x y : End) (o q : InOpened) (here there : EndAt) → AreEnds early calling called → end_at_number at_s calling ≡ Some x → end_at_number at_s called ≡ Some y
    → x.stage ≡ Opened o → y.stage ≡ Opened q → IsUpToDate t (link at_s.carrier).clock o → IsUpToDate t (link at_s.carrier).clock q → IsShort t (link at_s.carrier).clock (link at_t0.carrier).clock
    → end_numbered at_s.ends calling ≡ Some here → end_numbered at_s.ends called ≡ Some there → IsLeftAlone calling here.system (lost ++ late) → IsLeftAlone called there.system (lost ++ late)
    → AreBack t (link at_t0.carrier).clock (link last.carrier).clock ((early ++ lost) ++ late) last calling called

-- The same of each two that were Opened at s, where the run was calm up to there
abbrev pub AreKeptCalm : {C : Type 0} → (C → Link (List ℕ)) → Timers → World C → World C → World C → List Event → List Event → List Event → Type 0
AreKeptCalm link t at_s at_t0 last early lost late =
    (calling called : ℕ) (x y : End) (o q : InOpened) (here there : EndAt) → AreEnds early calling called → end_at_number at_s calling ≡ Some x → end_at_number at_s called ≡ Some y
    → x.stage ≡ Opened o → y.stage ≡ Opened q → IsShort t (link at_s.carrier).clock (link at_t0.carrier).clock
    → end_numbered at_s.ends calling ≡ Some here → end_numbered at_s.ends called ≡ Some there → IsLeftAlone calling here.system (lost ++ late) → IsLeftAlone called there.system (lost ++ late)
    → AreBack t (link at_t0.carrier).clock (link last.carrier).clock ((early ++ lost) ++ late) last calling called
