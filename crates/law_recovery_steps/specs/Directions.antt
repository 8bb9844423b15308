-- One direction between two Opened ends since when nothing is lost, with all that waits: where some moves lead, and what waits there is what waits on the road (X.224,
-- class 4: retransmission, explicit flow control).
use Rattle.std.specs.Prelude.{◌≡◌, ◌⊎◌, ℕ, ◌<◌, List, [], ◌++◌, Contains}
use Rattle.tp4_number.specs.Formats.{most_of}
use Rattle.tp4_number.specs.Traffic.{Answer}
use Rattle.law_recovery_pair.specs.Recovering.{Road}
use Rattle.tp4_flow.specs.ReceivingHalf.{Half}
use Rattle.tp4_sending.specs.SendingHalf.{FlowSender, Sendings, block_in}
use Rattle.tp4_sending.specs.Settled.{IsSettled}
use Rattle.law_recovery_pair.specs.Fitting.{Fits}
use Rattle.law_recovery_pair.specs.Riding.{Aside, GoesOn, road_of, rules_by}
use Rattle.law_recovery_ends.specs.Due.{AreTried}
use Rattle.law_tp4_history.specs.Lines.{shown_in}
use Rattle.law_tp4_pair.specs.Waiting.{AreData, View, aks_in, dts_in, eas_in}
use Rattle.law_recovery_steps.specs.Sending.{IsFed, aks_on, dts_on}

-- from a road on; a tick passes only where nothing waits, so what waits was sent at this tick. The receiver spoke last at tick `acked`
pub record Rides (life size u now : ℕ) (old : Road) (s : FlowSender) (h : Half) (dts : List ℕ) (aks : List View) (acked : ℕ) : Type 0 where
  pub aside : Aside
  pub goes : GoesOn (rules_by life s.rules) size u old (road_of now s.numbers h aside)
  pub format : h.rules.format ≡ s.rules.format
  pub places : size ≡ most_of h.rules.format
  pub fits : Fits h
  pub fed : IsFed s
  pub settled : IsSettled s
  pub tried : AreTried u s.numbers.base s.window aside.sends
  pub dts_are : dts ≡ dts_on (block_in s) aside.dts
  pub aks_are : aks ≡ aks_on (block_in s) aside.aks
  pub dts_now : (e : ℕ × ℕ) → Contains aside.dts e → Contains aside.sends e × (e.1 ≡ now)
  pub aks_now : (a : Answer) → Contains aside.aks a → Contains aside.answers a × (a.tick ≡ now)
  pub spoke : (acked < u) ⊎ ((a : Answer) × Contains aside.answers a × (a.tick ≡ acked))

-- a call of the sending half, and the direction after it
pub record RidesOn (life size u now : ℕ) (old : Road) (s : FlowSender) (h : Half) (dts : List ℕ) (aks : List View) (acked : ℕ) (z : Sendings) : Type 0 where
  pub rules : z.sender.rules ≡ s.rules
  pub ride : Rides life size u now old z.sender h (dts ++ dts_in z.tpdus) aks acked
  pub aks_none : aks_in z.tpdus ≡ []
  pub eas_none : eas_in z.tpdus ≡ []
  pub data_are : AreData s.rules z.tpdus
  pub quiet : shown_in z.events ≡ []
