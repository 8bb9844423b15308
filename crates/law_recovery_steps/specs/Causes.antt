-- Why an end goes by itself since when nothing is lost, and at which tick (X.224, retransmission on time-out, inactivity control).
use Rattle.std.specs.Prelude.{◌≡◌, ◌⊎◌, ◌≤◌, ℕ, ◌+◌, Some, Contains}
use Rattle.tpdu.specs.declared.service.GoneCause.{GoneCause}
use Rattle.tpdu.specs.declared.service.GoneCause.TheVariants.{Exhausted, Inactive}
use Rattle.tp4_sending.specs.SendingHalf.{FlowSender}
use Rattle.tp4_sending.specs.declared.tries.Tries.{Tries}
use Rattle.tp4_conn.specs.declared.states.InOpened.{InOpened}
use Rattle.tp4_conn.specs.declared.timers.Timers.{Timers}

-- what a sending half has tried and is not acknowledged: a DT of its window, or its ED
abbrev pub IsTryOf : FlowSender → Tries → Type 0
IsTryOf s tries = Contains s.window tries ⊎ (s.urgent.out ≡ Some tries)

-- Why an end that stood as `o` at tick t0 goes at a tick: it gives up what it had tried N times by t0, the last time T1 ticks before; or it took nothing for I ticks, the last one before t0
abbrev pub IsCause : Timers → ℕ → ℕ → InOpened → GoneCause → Type 0
IsCause t t0 tick o Exhausted = (tries : Tries) × IsTryOf o.halves.sending tries × (t.sendings ≤ tries.count) × (tries.last + t.t1 ≡ tick) × (tick ≤ t0 + t.t1)
IsCause t t0 tick o Inactive = (o.took + t.inactive ≡ tick) × (tick ≤ t0 + t.window)
IsCause t t0 tick o other = ⊥
