-- Two Opened ends since when nothing is lost between them, with all that waits: each row of an end leaves them so, or ends the connection (X.224, class 4 state tables).
use Rattle.std.specs.Prelude.{◌≡◌, ◌⊎◌, ℕ, List, ◌++◌}
use Rattle.law_recovery_pair.specs.Recovering.{Road}
use Rattle.law_recovery_pair.specs.Urgent.{UrgentRoad}
use Rattle.tp4_flow.specs.declared.rules.FlowRules.{FlowRules}
use Rattle.tpdu.specs.declared.service.Options.{Options}
use Rattle.tp4_flow.specs.declared.step.Sent.{Sent}
use Rattle.tp4_conn.specs.declared.states.InOpened.{InOpened}
use Rattle.tp4_conn.specs.declared.states.StateData.TheVariants.{Opened}
use Rattle.tp4_conn.specs.End.{Moved}
use Rattle.law_tp4_pair.specs.Pair.{Pair}
use Rattle.law_tp4_pair.specs.Standing.{HasLeft, IsAgreed, Party, party}
use Rattle.law_tp4_pair.specs.Waiting.{AreData, aks_in, dts_in, eas_in, eds_in}
use Rattle.law_recovery_steps.specs.Directions.{Rides}
use Rattle.law_recovery_steps.specs.Urging.{Urges}

-- the roads of a direction at the tick since when nothing is lost, and the terms of its sender
pub record Since : Type 0 where
  pub road : Road
  pub urgent : UrgentRoad
  pub rules : FlowRules

-- two Opened ends that agreed, what waits for the second and for the first, and the roads there and back since. What they agreed on is the same but for how each names its size
pub record AreRiding (life size u now : ℕ) (one other : Since) (first second : Party) (o q : InOpened) (forth back : List Sent) : Type 0 where
  pub options : Options
  pub their_options : Options
  pub ours : IsAgreed options one.rules first o.halves
  pub theirs : IsAgreed their_options other.rules second q.halves
  pub sum : one.rules.sum ≡ other.rules.sum
  pub forth_are : AreData one.rules forth
  pub back_are : AreData other.rules back
  pub there : Rides life size u now one.road o.halves.sending q.halves.receiving (dts_in forth) (aks_in back) q.acked
  pub here : Rides life size u now other.road q.halves.sending o.halves.receiving (dts_in back) (aks_in forth) o.acked
  pub there_eds : Urges life u now one.urgent o.halves.sending q.halves.receiving (eds_in forth) (eas_in back)
  pub here_eds : Urges life u now other.urgent q.halves.sending o.halves.receiving (eds_in back) (eas_in forth)

-- the second end stays Opened over a row, and both ride on; or it has left
pub record StaysOpen (life size u now : ℕ) (one other : Since) (first : Party) (o : InOpened) (m : Moved) (rest back : List Sent) : Type 0 where
  pub after : InOpened
  pub stage : m.stage ≡ Opened after
  pub both : AreRiding life size u now one other first (party m.base) o after rest (back ++ m.tpdus)

abbrev pub RidesOnward : ℕ → ℕ → ℕ → ℕ → Since → Since → Party → InOpened → Moved → List Sent → List Sent → Type 0
RidesOnward life size u now one other first o m rest back = HasLeft m.stage ⊎ StaysOpen life size u now one other first o m rest back

-- ---- a pair of ends

pub record IsRiding (life size u : ℕ) (one other : Since) (p : Pair) : Type 0 where
  pub o : InOpened
  pub q : InOpened
  pub calling : p.calling.stage ≡ Opened o
  pub called : p.called.stage ≡ Opened q
  pub both : AreRiding life size u p.clock one other (party p.calling.base) (party p.called.base) o q p.forth p.back

-- one of them will not be Opened any more
abbrev pub IsParted : Pair → Type 0
IsParted p = HasLeft p.calling.stage ⊎ HasLeft p.called.stage
