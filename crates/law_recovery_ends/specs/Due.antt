-- An Opened end that is not due, long enough after a tick since when nothing is lost: each number that is outstanding was sent since then, less than T1 ticks ago, and
-- the end spoke and heard in time (X.224, class 4: retransmission on time-out, inactivity control).
use Rattle.std.specs.Prelude.{◌⊎◌, ◌<◌, ℕ, ◌+◌, List, [], ◌∷◌, Contains, ◌≤◌, Option, Some, None}
use Rattle.tp4_sending.specs.declared.tries.Tries.{Tries}
use Rattle.tp4_conn.specs.declared.end_record.EndRecord.{EndRecord}
use Rattle.tp4_conn.specs.declared.states.InOpened.{InOpened}
use Rattle.tp4_sending.specs.SendingHalf.{FlowSender}

-- each number of a window, from n on, was tried last before that tick, or stands among the sendings with the tick at which it was tried last
abbrev pub AreTried : ℕ → ℕ → List Tries → List (ℕ × ℕ) → Type 0
AreTried u n [] sends = Unit {0}
AreTried u n (tries ∷ window) sends = ((tries.last < u) ⊎ Contains sends (n, tries.last)) × AreTried u (n + 1) window sends

-- each was tried less than T1 ticks ago
abbrev pub AreYoung : ℕ → ℕ → List Tries → Type 0
AreYoung t1 now [] = Unit {0}
AreYoung t1 now (tries ∷ window) = (now < tries.last + t1) × AreYoung t1 now window

-- an Opened end that is not due
pub record IsUndue (now : ℕ) (b : EndRecord) (o : InOpened) : Type 0 where
  pub young : AreYoung o.halves.sending.rules.t1 now o.halves.sending.window
  pub spoke : now < o.acked + b.timers.window
  pub heard : now < o.took + b.timers.inactive

-- each was tried last by now
abbrev pub AreTriedBy : ℕ → List Tries → Type 0
AreTriedBy now [] = Unit {0}
AreTriedBy now (tries ∷ window) = (tries.last ≤ now) × AreTriedBy now window

abbrev pub IsTriedBy : ℕ → Option Tries → Type 0
IsTriedBy now None = Unit {0}
IsTriedBy now (Some tries) = tries.last ≤ now

-- a sending half tried its DTs and its ED by now
pub record HasTried (now : ℕ) (s : FlowSender) : Type 0 where
  pub window : AreTriedBy now s.window
  pub urgent : IsTriedBy now s.urgent.out
