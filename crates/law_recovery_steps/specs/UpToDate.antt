-- What an Opened end has outstanding since a tick at which all that it had sent before was acknowledged, and when it heard of its partner last (X.224, class 4: retention until
-- acknowledgement; retransmission on time-out; inactivity control).
use Rattle.std.specs.Prelude.{◌<◌, ◌≤◌, ℕ, ◌+◌, ◌*◌}
use Rattle.tp4_sending.specs.declared.tries.Tries.{Tries}
use Rattle.tp4_conn.specs.declared.states.InOpened.{InOpened}
use Rattle.tp4_conn.specs.declared.timers.Timers.{Timers}
use Rattle.law_recovery_steps.specs.Causes.{IsTryOf}

-- so many sendings since tick s, the first at s or later, and each T1 after the one before or later
abbrev pub IsTriedSince : (s t1 : ℕ) → Tries → Type 0
IsTriedSince s t1 tries = s + tries.count * t1 ≤ tries.last + t1

-- An Opened end is up to date since tick s: each DT and ED that is outstanding was sent at s or later for the first time; and a TPDU was taken less than W ticks before s, or later
pub record IsUpToDate (t : Timers) (s : ℕ) (o : InOpened) : Type 0 where
  pub tried : (tries : Tries) → IsTryOf o.halves.sending tries → IsTriedSince s t.t1 tries
  pub heard : s < o.took + t.window
