-- How short an outage is that ends no open connection (X.224, class 4: retransmission on time-out, inactivity control).
use Rattle.std.specs.Prelude.{◌<◌, ◌≤◌, ℕ, ◌+◌, ◌*◌}
use Rattle.tp4_conn.specs.declared.timers.Timers.{Timers}

-- the outage from tick s to tick t0 is short: less than (N - 1) T1 ticks, and no more than I less 2 W
pub record IsShort (t : Timers) (s t0 : ℕ) : Type 0 where
  pub tries : t0 + t.t1 < s + t.sendings * t.t1
  pub idle : t0 + 2 * t.window ≤ s + t.inactive
