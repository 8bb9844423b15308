-- Two partner ends of a network along lines that are settled and lose nothing, as steps of a pair (X.213, queue model; X.214, queue model).
use Rattle.std.specs.Prelude.{◌≡◌, ◌⊎◌, ℕ, ◌+◌, true, List, [], ◌∷◌, ◌++◌, Contains}
use Rattle.std.specs.List.{AllByRecursion}
use Rattle.osi_base.specs.Link.{Link}
use Rattle.script_journal.specs.declared.event.Event.{Event}
use Rattle.script_journal.specs.declared.event.Event.TheVariants as events
use Rattle.tpdu.specs.declared.service.EndTold.TheVariants.{Gone}
use Rattle.tpdu.specs.declared.service.GoneCause.{GoneCause}
use Rattle.tp4_number.specs.Number.{whole}
use Rattle.tp4_conn.specs.End.{End, gone}
use Rattle.tp4_conn.specs.Table.{Ticked, at, stepped}
use Rattle.tp4_conn.specs.declared.states.InOpened.{InOpened}
use Rattle.tp4_conn.specs.declared.timers.Timers.{Timers}
use Rattle.law_tp4_pair.specs.Pair.{Asks_called, Asks_calling, Clock, Happening, IsIdle, Leads, Pair, next as next_pair}
use Rattle.tp4_world.specs.Telling.{call_events}
use Rattle.tp4_world.specs.World.{World}
use Rattle.law_recovery_steps.specs.Going.{AreBothLeft, AreBothOpened, AreTicked, HasParted}
use Rattle.law_recovery_run.specs.Service.{HappensAt}
use Rattle.law_recovery_steps.specs.Resting.{AreLater}
use Rattle.law_recovery_run.specs.Following.{IsFollowed}
use Rattle.law_recovery_run.specs.Settling.{IsEnded}
use Rattle.law_recovery_run.specs.Over.{HaveLeft}

-- The pair went on, with a tick of each end where it is due: nothing waits and no end is due, and it has the two ends still, with the units of the journal; or one of them is frozen. If both of
-- the pair have left, the two ends have left in the network
pub record HasLasted {C : Type 0} (link : C → Link (List ℕ)) (journal : List Event) (new : World C) (x y : ℕ) (p : Pair) : Type 0 where
  pub happenings : List Happening
  pub next : Pair
  pub leads : Leads p happenings next
  pub ticked : AreTicked p happenings
  pub goes : (IsIdle next × AreLater next × IsFollowed link journal new [] x y next) ⊎ IsEnded next
  pub over : AreBothLeft next → HaveLeft new x y

-- Two ends that were Opened as `o` and `q` at the tick of the pair p, at which nothing waited: both are Opened still, where nothing waits and no end is due, with the units of the journal; or the
-- first that left did so for a cause of that tick or before, and both have left in the network
pub record HasPlayed {C : Type 0} (link : C → Link (List ℕ)) (journal : List Event) (new : World C) (x y : ℕ) (t : Timers) (p : Pair) (o q : InOpened) : Type 0 where
  pub happenings : List Happening
  pub next : Pair
  pub leads : Leads p happenings next
  pub ticked : AreTicked p happenings
  pub goes : (AreBothOpened next × IsIdle next × AreLater next × IsFollowed link journal new [] x y next) ⊎ (HasParted t p.clock o q p happenings next × HaveLeft new x y)

-- ---- what the journal tells of a pair

-- an end that its tick makes gone for a cause, and nothing else, is told so in these lines, at that tick
abbrev pub IsGoneTold : (early late : List Event) → (tick number : ℕ) → End → Type 0
IsGoneTold early late tick number e = (cause : GoneCause) → (stepped whole tick e Ticked).events ≡ gone (at tick e.base) cause [] → HappensAt early late tick (events.End number (Gone cause []))

-- of two ends of these numbers: a call of a user has its line, and an end that ticks is told gone
abbrev pub IsTold : (early late : List Event) → (x y : ℕ) → Pair → Happening → Type 0
IsTold early late x y p (Asks_calling call) = AllByRecursion (Contains late) (call_events x call)
IsTold early late x y p (Asks_called call) = AllByRecursion (Contains late) (call_events y call)
IsTold early late x y p (Clock calling called) =
    (calling ≡ true → IsGoneTold early late (p.clock + 1) x p.calling) × (called ≡ true → IsGoneTold early late (p.clock + 1) y p.called)
IsTold early late x y p other = Prim.Unit {0}

abbrev pub AreTold : (early late : List Event) → (x y : ℕ) → Pair → List Happening → Type 0
AreTold early late x y p [] = Prim.Unit {0}
AreTold early late x y p (happening ∷ happenings) = IsTold early late x y p happening × AreTold early late x y (next_pair p happening) happenings

-- the pair lasted so, and the lines tell what happened to it
pub record HasLastedTold {C : Type 0} (link : C → Link (List ℕ)) (early late : List Event) (new : World C) (x y : ℕ) (p : Pair) : Type 0 where
  pub lasted : HasLasted link (early ++ late) new x y p
  pub told : AreTold early late x y p lasted.happenings
