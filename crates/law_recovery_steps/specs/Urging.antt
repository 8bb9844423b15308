-- EDs there and EAs back between two Opened ends since when nothing is lost, with all that waits: what waits there is what waits on their road (X.224, class 4: expedited
-- data).
use Rattle.std.specs.Prelude.{◌≡◌, ℕ, List, ◌++◌, Contains, None}
use Rattle.law_recovery_pair.specs.Urgent.{UrgentRoad}
use Rattle.tp4_flow.specs.ReceivingHalf.{Half}
use Rattle.tp4_sending.specs.SendingHalf.{FlowSender, Sendings, block_in}
use Rattle.tp4_sending.specs.Kept.{urgent_base}
use Rattle.law_recovery_pair.specs.Riding.{rules_by}
use Rattle.law_tp4_pair.specs.Flowing.{HasUnit}
use Rattle.law_tp4_pair.specs.Waiting.{eds_in}
use Rattle.law_recovery_steps.specs.Asking.{GoesUrgently, IsAskedBy, UrgentAside, urgent_road}
use Rattle.law_recovery_steps.specs.Sending.{dts_on}

pub record Urges (life u now : ℕ) (old : UrgentRoad) (s : FlowSender) (h : Half) (eds eas : List ℕ) : Type 0 where
  pub aside : UrgentAside
  pub base : ℕ
  pub goes : GoesUrgently (rules_by life s.rules) u old (urgent_road now base s.urgent h.receiver.urgent aside)
  pub base_is : urgent_base s.urgent s.urgent.out base
  pub unit : HasUnit s.urgent.units s.urgent.out
  pub format : h.rules.format ≡ s.rules.format
  pub eds_are : eds ≡ dts_on (block_in s) aside.eds
  pub eas_are : eas ≡ dts_on (block_in s) aside.eas
  pub eds_now : (e : ℕ × ℕ) → Contains aside.eds e → Contains aside.sends e × (e.1 ≡ now)
  pub eas_now : (e : ℕ × ℕ) → Contains aside.eas e → Contains aside.answers e × (e.1 ≡ now)
  pub tried : IsAskedBy u base s.urgent.out aside.sends

-- after a call of the sending half
module _ (life u : ℕ) (old : UrgentRoad) (h : Half) where
  abbrev pub UrgesAfter : ℕ → List ℕ → List ℕ → Sendings → Type 0
  UrgesAfter now eds eas z = Urges life u now old z.sender h (eds ++ eds_in z.tpdus) eas

-- no ED is outstanding, and the next one is the one expected
pub record AreQuiet (s : FlowSender) (h : Half) : Type 0 where
  pub out : s.urgent.out ≡ None
  pub next : s.urgent.next ≡ h.receiver.urgent
