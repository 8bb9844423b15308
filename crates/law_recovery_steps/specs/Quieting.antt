-- Where no ED and no EA waits, and the end is not due, T1 ticks after nothing was lost any more, no ED is outstanding, and the next one is the one expected (X.224, class
-- 4: expedited data, retransmission on time-out).
use Rattle.std.specs.Prelude.{◌<◌, ℕ, ◌+◌, Option, Some, None}
use Rattle.tp4_sending.specs.declared.tries.Tries.{Tries}

-- the ED that is outstanding was tried less than T1 ticks ago
abbrev pub IsYoung : ℕ → ℕ → Option Tries → Type 0
IsYoung t1 now None = Unit {0}
IsYoung t1 now (Some tries) = now < tries.last + t1
