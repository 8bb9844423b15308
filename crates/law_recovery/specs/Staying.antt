-- Two Opened partners of a network while its carrier may lose, repeat, delay and reorder (X.224, class 4: retransmission on time-out; inactivity control).
use Rattle.std.specs.Prelude.{◌≡◌, ℕ}
use Rattle.tp4_conn.specs.End.{End}
use Rattle.tp4_conn.specs.declared.states.InOpened.{InOpened}
use Rattle.tp4_conn.specs.declared.states.StateData.TheVariants.{Opened}
use Rattle.tp4_conn.specs.declared.timers.Timers.{Timers}
use Rattle.tp4_entity.specs.Entity.{Entity}
use Rattle.tp4_world.specs.World.{World}
use Rattle.law_tp4_lawful.specs.References.{IsEnd}
use Rattle.law_recovery_steps.specs.Since.{IsUpToDate}
pub use Rattle.law_recovery_run.specs.Alone.{IsLeftAlone}

-- the end of the number x is Opened, and up to date since tick s
pub record IsOpenedSince {C : Type 0} (t : Timers) (s : ℕ) (world : World C) (x : ℕ) : Type 0 where
  pub system : ℕ
  pub reference : ℕ
  pub entity : Entity
  pub end : End
  pub is_end : IsEnd world x system entity reference end
  pub o : InOpened
  pub stage : end.stage ≡ Opened o
  pub since : IsUpToDate t s o
