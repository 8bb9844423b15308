-- What two partners have come to at a line of a network after which nothing waits (X.214, queue model of the transport service; X.224, class 4 procedures).
use Rattle.std.specs.Prelude.{◌≡◌, ℕ, List, Some}
use Rattle.osi_base.specs.Link.{Link}
use Rattle.script_journal.specs.declared.event.Event.{Event}
use Rattle.tp4_conn.specs.declared.states.InOpened.{InOpened}
use Rattle.tp4_conn.specs.declared.states.StateData.TheVariants.{Opened}
use Rattle.tp4_conn.specs.declared.timers.Timers.{Timers}
use Rattle.law_tp4_pair.specs.Claim.{HasShown}
use Rattle.law_tp4_pair.specs.Pair.{Happening, Pair}
use Rattle.law_recovery_steps.specs.Going.{HasParted}
use Rattle.tp4_world.specs.World.{World}
use Rattle.law_calm_run.specs.Service.{end_at_number}
use Rattle.law_recovery_world.specs.Partners.{IsArrival}
use Rattle.law_recovery_run.specs.Service.{IsOver}

-- both stand by their numbers and are Opened, and each has shown what the other submitted, but for want of credit or by the number rule at this tick
pub record HaveShown {C : Type 0} (link : C → Link (List ℕ)) (journal : List Event) (last : World C) (x y : ℕ) (p : Pair) : Type 0 where
  pub o : InOpened
  pub q : InOpened
  pub calling_is : end_at_number last x ≡ Some p.calling
  pub called_is : end_at_number last y ≡ Some p.called
  pub calling_open : p.calling.stage ≡ Opened o
  pub called_open : p.called.stage ≡ Opened q
  pub there : HasShown (link last.carrier).clock journal x y o.halves.sending q.halves.receiving
  pub here : HasShown (link last.carrier).clock journal y x q.halves.sending o.halves.receiving

-- neither is Opened any more, and the first that left did so for a cause that is of tick t0 or before, and not for what came
pub record HaveParted {C : Type 0} (t : Timers) (t0 : ℕ) (o q : InOpened) (first : Pair) (happenings : List Happening) (end : Pair) (last : World C) (x y : ℕ) : Type 0 where
  pub parted : HasParted t t0 o q first happenings end
  pub not_come : IsArrival parted.happening → ⊥
  pub calling_over : IsOver last x
  pub called_over : IsOver last y
