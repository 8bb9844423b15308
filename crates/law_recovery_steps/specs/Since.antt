-- What a row does of an Opened end that is up to date since a tick: it stays so, or it may leave (X.224, class 4: retention until acknowledgement; retransmission on time-out; inactivity control).
use Rattle.std.specs.Prelude.{◌≡◌, ◌⊎◌, ◌<◌, ◌≤◌, ℕ, ◌+◌, ◌*◌}
use Rattle.tpdu.specs.declared.tpdu.Tpdu.{Tpdu}
use Rattle.tpdu.specs.declared.tpdu.Tpdu.TheVariants.{Dr, Er}
use Rattle.tp4_conn.specs.declared.end_record.EndRecord.{EndRecord}
use Rattle.tp4_conn.specs.declared.states.InOpened.{InOpened}
use Rattle.tp4_conn.specs.declared.states.StateData.TheVariants.{Opened}
use Rattle.tp4_conn.specs.declared.timers.Timers.{Timers}
use Rattle.tp4_conn.specs.End.{Moved}
use Rattle.tp4_conn.specs.Table.{Called, Event, Ticked, Took}
use Rattle.law_recovery_steps.specs.Going.{IsDisconnect, IsWrong}
pub use Rattle.law_recovery_steps.specs.UpToDate.{IsTriedSince, IsUpToDate}

-- it stays so
pub record StaysUpToDate (t : Timers) (s : ℕ) (m : Moved) : Type 0 where
  pub after : InOpened
  pub stage : m.stage ≡ Opened after
  pub since : IsUpToDate t s after

-- a TPDU that ends it: a DR, an ER, or one that it may not take
abbrev pub EndsIt : EndRecord → InOpened → Tpdu → Type 0
EndsIt b o (Dr destination source reason info text) = Unit {0}
EndsIt b o (Er destination cause rejected) = Unit {0}
EndsIt b o tpdu = IsWrong b o tpdu

-- its user disconnects; such a TPDU comes; or at this tick what is tried since s may have been tried N times, the last time T1 ticks ago, or I ticks may have passed
abbrev pub MayLeave : Timers → (s now : ℕ) → EndRecord → InOpened → Event → Type 0
MayLeave t s now b o (Called call) = IsDisconnect call
MayLeave t s now b o (Took tpdu sum) = EndsIt b o tpdu
MayLeave t s now b o Ticked = (s + t.sendings * t.t1 ≤ now) ⊎ (s + t.inactive < now + t.window)
