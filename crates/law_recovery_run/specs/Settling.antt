-- A settle since when nothing is lost, as steps of a pair (X.213, queue model; X.214, queue model).
use Rattle.std.specs.Prelude.{◌≡◌, ◌⊎◌, ℕ, List, []}
use Rattle.std.specs.List.{AllByRecursion}
use Rattle.osi_base.specs.Link.{Link}
use Rattle.osi_base.specs.declared.unit.Unit.{Unit as CarriedUnit}
use Rattle.script_journal.specs.Lawful.{shown, submitted}
use Rattle.script_journal.specs.Partner.{ArePartners}
use Rattle.script_journal.specs.declared.event.Event.{Event}
use Rattle.tp4_conn.specs.declared.states.InOpened.{InOpened}
use Rattle.tp4_conn.specs.declared.states.StateData.TheVariants.{Opened}
use Rattle.law_tp4_pair.specs.Pair.{Comes_back, Comes_forth, Happening, IsIdle, Leads, Pair}
use Rattle.tp4_world.specs.World.{World}
use Rattle.law_calm_run.specs.Run.{HaveEntities}
use Rattle.law_calm_run.proofs.Hall.{AreWaiting, Hall}
use Rattle.law_calm_run.proofs.Posting.{AreKept, IsHall}
use Rattle.law_recovery_run.specs.Following.{IsFollowed, IsLive, Stands}

-- one of the two is neither Opened nor Closing
abbrev pub IsEnded : Pair → Type 0
IsEnded p = IsLive p.calling.stage → IsLive p.called.stage → ⊥

-- the first TPDU that waits for one of the two is handed over
abbrev pub IsHandedOver : Happening → Type 0
IsHandedOver happening = (happening ≡ Comes_forth) ⊎ (happening ≡ Comes_back)

-- The pair went on by what was handed over, and its clock stands: nothing waits any more, and it has the two ends still, with the units of the journal; or one of them is neither Opened nor
-- Closing
pub record HasGoneOn {C : Type 0} (link : C → Link (List ℕ)) (journal : List Event) (new : World C) (x y : ℕ) (p : Pair) : Type 0 where
  pub happenings : List Happening
  pub next : Pair
  pub leads : Leads p happenings next
  pub handed : AllByRecursion IsHandedOver happenings
  pub clock : next.clock ≡ p.clock
  pub goes : (IsIdle next × IsFollowed link journal new [] x y next) ⊎ IsEnded next

-- a network whose queue is this, in which no end is due
pub record IsRunning {C : Type 0} (link : C → Link (List ℕ)) (titles : List (List ℕ)) (Waits : C → List (CarriedUnit (List ℕ)) → Type 0) (world : World C) (hall : Hall)
    (queue : List (CarriedUnit (List ℕ))) : Type 0 where
  pub shows : IsHall link titles Waits world hall queue
  pub kept : AreKept titles hall.entities
  pub have : HaveEntities titles hall.entities
  pub rest : AreWaiting hall.clock hall.entities

-- two partners that are Opened, at the clock of the network, with the units of the journal, where nothing waits between them
pub record AreAtHand {C : Type 0} (link : C → Link (List ℕ)) (journal : List Event) (last : World C) (x y : ℕ) (p : Pair) (o q : InOpened) : Type 0 where
  pub partners : ArePartners journal x y
  pub calling : Stands last x p.calling
  pub called : Stands last y p.called
  pub calling_open : p.calling.stage ≡ Opened o
  pub called_open : p.called.stage ≡ Opened q
  pub clock : p.clock ≡ (link last.carrier).clock
  pub idle : IsIdle p
  pub calling_gave : p.calling_gave ≡ submitted x journal
  pub called_gave : p.called_gave ≡ submitted y journal
  pub calling_showed : p.calling_showed ≡ shown x journal
  pub called_showed : p.called_showed ≡ shown y journal
