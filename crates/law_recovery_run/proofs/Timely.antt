-- What ends an end by itself ends it by the longer of T1 and W.
use Rattle.std.proofs.Common.{◌≤◌, ℕ, ◌+◌, max, List, [], arith}
use Rattle.script_journal.specs.declared.event.Event.{Event}
use Rattle.script_journal.specs.declared.event.Event.TheVariants as events
use Rattle.tpdu.specs.declared.service.EndTold.TheVariants as tells
use Rattle.tpdu.specs.declared.service.GoneCause.{GoneCause}
use Rattle.tpdu.specs.declared.service.GoneCause.TheVariants.{Exhausted, Inactive}
use Rattle.tp4_conn.specs.declared.states.InOpened.{InOpened}
use Rattle.tp4_conn.specs.declared.timers.Timers.{Timers}
use Rattle.law_recovery_steps.specs.Going.{IsCause}
use Rattle.law_recovery_run.specs.Service.{HappensAt}

pub in_time : (t : Timers) (t0 : ℕ) (early late : List Event) (end : ℕ) (o : InOpened) (tick : ℕ) (cause : GoneCause) → IsCause t t0 tick o cause
    → HappensAt early late tick (events.End end (tells.Gone cause [])) → tick ≤ t0 + max t.t1 t.window
in_time t t0 early late end o tick Exhausted why at = omega (arith, why.4)
in_time t t0 early late end o tick Inactive why at = omega (arith, why.1)
in_time t t0 early late end o tick other why at = absurd why
