-- One direction between two Opened ends: where nothing waits and neither is due, long enough after a tick since when nothing is lost, nothing is outstanding, and both
-- know the same (X.224, class 4: retransmission, explicit flow control).
use Rattle.std.specs.Prelude.{◌≡◌, ◌⊎◌, ◌<◌, ℕ, ◌+◌, List, [], length, Contains}
use Rattle.tp4_flow.specs.ReceivingHalf.{Half}
use Rattle.tp4_number.specs.Traffic.{Answer, Event, IsFit, Leads, Rules, Tick, Traffic, after, start}
use Rattle.tp4_sending.specs.SendingHalf.{FlowSender}
use Rattle.law_recovery_pair.specs.Recovering.{IsFitted}
use Rattle.law_recovery_pair.specs.Views.{AreViews}
use Rattle.law_recovery_pair.specs.Riding.{Aside, GoesOn, road_of, rules_by}
use Rattle.law_recovery_ends.specs.Due.{AreTried, AreYoung}

-- whatever was before: traffic that some events lead to, whose views are in order
pub record WasReached (rules : Rules) (w : Traffic) : Type 0 where
  pub fit : IsFit rules
  pub tick : ℕ
  pub credit : ℕ
  pub places : ℕ
  pub room : ℕ
  pub credit_low : credit < rules.block
  pub room_low : room < rules.block
  pub events : List Event
  pub leads : Leads rules (start tick credit places room) events w
  pub views : AreViews w

-- and a receiver with its places
pub record IsPast (life size : ℕ) (s : FlowSender) (w : Traffic) : Type 0 where
  pub reached : WasReached (rules_by life s.rules) w
  pub open reached use *
  pub fits : IsFitted size w.receiver

-- since then nothing was lost: the halves are where some moves lead from the next tick on, and nothing waits
pub record IsNow (life size : ℕ) (w : Traffic) (now : ℕ) (s : FlowSender) (h : Half) (x : Aside) : Type 0 where
  pub goes : GoesOn (rules_by life s.rules) size (w.clock + 1) (record { traffic = after (rules_by life s.rules) w Tick; dts = []; aks = [] }) (road_of now s.numbers h x)
  pub no_dts : x.dts ≡ []
  pub no_aks : x.aks ≡ []
  pub window : length s.window + s.numbers.base ≡ s.numbers.next

-- the two ends are not due: each number was tried less than T1 ticks ago, and the receiver spoke less than W ticks ago
pub record AreUndue (t1 w_time u now : ℕ) (s : FlowSender) (x : Aside) : Type 0 where
  pub tried : AreTried u s.numbers.base s.window x.sends
  pub young : AreYoung t1 now s.window
  pub acked : ℕ
  pub spoke : (acked < u) ⊎ ((a : Answer) × Contains x.answers a × (a.tick ≡ acked))
  pub since : now < acked + w_time
