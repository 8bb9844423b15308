-- A delivery of a settle, with what it tells: nothing that an entity hears, or the first TPDU that waits, which the entity at its address hears, and whose lines stand in the journal.
use Rattle.std.proofs.Common.{◌≡◌, ◌⊎◌, ℕ, List, ◌++◌, Some, inl, inr}
use Rattle.std.specs.List.{AllByRecursion}
use Rattle.osi_base.specs.Calls.{Call, Keeps}
use Rattle.osi_base.specs.Link.{IsLeastFresh, Link}
use Rattle.osi_base.specs.declared.unit.Picked.TheVariants.{Taken as WasPicked}
use Rattle.osi_base.specs.declared.unit.Unit.{Unit as CarriedUnit}
use Rattle.script_journal.specs.declared.event.Event.{Event}
use Rattle.net_world.specs.Fifo.{IsFifo}
use Rattle.tp4_number.specs.Number.{whole}
use Rattle.law_tp4_pair.specs.Claim.{IsUndropped}
use Rattle.tp4_world.specs.Run.{Delivers}
use Rattle.tp4_world.specs.Telling.{events_after}
use Rattle.tp4_world.specs.World.{World}
use Rattle.law_calm_run.proofs.Hall.{Hall}
use Rattle.law_recovery_run.proofs.Coming as comes
use Rattle.law_recovery_run.proofs.Coming.{HasCome, IsStill, StandsSo}

module _ {C : Type 0} (link : C → Link (List ℕ)) (steps : C → Call (List ℕ) → C → Type 0)
    (law : (old : C) (call : Call (List ℕ)) (new : C) → steps old call new → Keeps (link old) call (link new))
    (titles : List (List ℕ)) (Waits : C → List (CarriedUnit (List ℕ)) → Type 0) (fifo : IsFifo link steps titles Waits) where
  -- the first that waits came to its entity, and what that did is told
  pub record HasTold (old : World C) (hall : Hall) (made : List Event) (new : World C) : Type 0 where
    pub come : HasCome link steps law titles Waits fifo old hall made new
    pub front : List Event
    pub aside : List Event
    pub made_is : made ≡ front ++ (events_after old.ends come.a.system come.a.entity.own come.a.acted.events ++ aside)

  -- a delivery of a settle
  pub delivered : (old new : World C) (hall : Hall) (queue : List (CarriedUnit (List ℕ))) (made : List Event) (pair : ℕ × ℕ) → StandsSo link steps law titles Waits fifo old hall queue
      → IsLeastFresh (link old.carrier) (Some pair) → AllByRecursion IsUndropped made → Delivers link steps whole old pair.0 pair.1 WasPicked made new
      → IsStill link steps law titles Waits fifo old hall made new ⊎ HasTold old hall made new
  delivered old new hall queue made pair s least all d = elim (comes.delivered link steps law titles Waits fifo old new hall queue made pair s least all d) [
    | inl still ↦ inl still
    | inr come ↦ inr (record { come = come; front = come.front; aside = come.aside; made_is = come.made_is })
  ]
