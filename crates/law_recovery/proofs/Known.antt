-- A history that explains a running network, as `law_recovery_world` has it, and two partners since a tick: they are Opened and up to date as long as neither is left, and so many ticks have not
-- passed. No TPDU that is offered is an ER.
use Rattle.std.specs.Prelude.{◌≡◌, ◌<◌, ◌≤◌, ℕ, ◌+◌, ◌*◌, List, ◌++◌}
use Rattle.tp4_flow.specs.declared.step.Sent.{Sent}
use Rattle.tp4_conn.specs.declared.timers.Timers.{Timers}
use Rattle.script_journal.specs.declared.event.Event.{Event}
use Rattle.law_tp4_history.specs.History.{History}
use Rattle.law_tp4_history.specs.Tracks.{Whole}
use Rattle.tp4_world.specs.declared.place.EndAt.{EndAt}
use Rattle.tp4_world.specs.declared.place.Placed.{Placed}
use Rattle.law_recovery_world.proofs.Known as recovery
use Rattle.law_recovery_steps.specs.Ers.{IsNoEr}
use Rattle.law_recovery.specs.Staying.{IsLeftAlone}
use Rattle.law_recovery.proofs.Placing.{IsAt}

-- the tick, the journal up to then, and the two with their places
pub record Two : Type 0 where
  pub since : ℕ
  pub early : List Event
  pub x : ℕ
  pub x_system : ℕ
  pub x_reference : ℕ
  pub y : ℕ
  pub y_system : ℕ
  pub y_reference : ℕ

abbrev pub AreHere : Timers → Two → List Placed → List EndAt → Type 0
AreHere timers two entities ends =
    IsAt timers two.since entities ends two.x two.x_system two.x_reference × IsAt timers two.since entities ends two.y two.y_system two.y_reference

-- neither is left by its user or its system
pub record AreAlone (two : Two) (made : List Event) : Type 0 where
  pub x : IsLeftAlone two.x two.x_system made
  pub y : IsLeftAlone two.y two.y_system made

-- so few ticks have passed
pub record IsSoon (timers : Timers) (since now : ℕ) : Type 0 where
  pub tries : now < since + timers.sendings * timers.t1
  pub idle : now + timers.window ≤ since + timers.inactive

pub record Known (titles : List (List ℕ)) (timers : Timers) (two : Two) (w : Whole) (journal : List Event) (entities : List Placed) (ends : List EndAt) : Type 0 where
  pub steady : recovery.Known titles timers w journal entities ends
  pub made : List Event
  pub journal_is : journal ≡ two.early ++ made
  pub since : two.since ≤ w.base.clock
  pub stay : AreAlone two made → IsSoon timers two.since w.base.clock → AreHere timers two entities ends

-- a TPDU was offered, which is no ER
pub record IsOffered (timers : Timers) (h : History) (tick : ℕ) (own : List ℕ) (sent : Sent) : Type 0 where
  pub steady : recovery.IsOffered timers h tick own sent
  pub none : IsNoEr sent.tpdu
