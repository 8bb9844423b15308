-- When an end is due: before that tick a tick changes its clock alone, and from it on more; after one it is due later, or no more.
use Rattle.std.specs.Prelude.{◌≡◌, ◌≢◌, ◌<◌, ◌≤◌, ℕ, true, Option, Some, None}
use Rattle.tp4_sending.specs.SendingHalf.{at}
use Rattle.tp4_sending.specs.Settled.{IsDue as HasCome}
use Rattle.tp4_conn.specs.declared.end_record.EndRecord.{EndRecord}
use Rattle.tp4_conn.specs.declared.states.StateData.{StateData}
use Rattle.tp4_conn.specs.declared.states.StateData.TheVariants.{Opened}
use Rattle.tp4_conn.specs.End.{stays}
use Rattle.tp4_conn.specs.Table.{on_tick, due}

-- the tick is before that one, or there is none
abbrev pub IsBefore : Option ℕ → ℕ → Type 0
IsBefore None now = Unit {0}
IsBefore (Some tick) now = now < tick

-- the clock of its sending half goes on
abbrev pub clocked : ℕ → StateData → StateData
clocked now (Opened o) = Opened (record o { halves = record o.halves { sending = at now o.halves.sending } })
clocked now stage = stage

-- an end that is Opened has an open sending half, and T1 passes
abbrev pub IsRunning : StateData → Type 0
IsRunning (Opened o) = (o.halves.sending.is_open ≡ true) × (1 ≤ o.halves.sending.rules.t1)
IsRunning stage = Unit {0}

pub record IsDue (b : EndRecord) (stage : StateData) : Type 0 where
  pub before : IsBefore (due b stage) b.clock → on_tick b stage ≡ stays b (clocked b.clock stage)
  pub there : HasCome (due b stage) b.clock → on_tick b stage ≢ stays b (clocked b.clock stage)
  pub after : IsBefore (due (on_tick b stage).base (on_tick b stage).stage) b.clock
