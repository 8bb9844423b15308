-- All laws of associations together, as the laws of calm runs use them.
use Rattle.std.specs.Prelude.{ℕ, List}
use Rattle.tp4_conn.specs.declared.timers.Timers.{Timers}
use Rattle.tp4_world.specs.declared.place.Placed.{Placed}
use Rattle.law_tp4_associations.specs.Association.{Association, Posted}
use Rattle.law_tp4_associations.specs.Laws.{Addressed, Answerable, Connected, Formatted, Handed, MayAccept, Ticks, WasCalled}

module _ (timers : Timers) (own : ℕ → List ℕ) where
  -- all laws of associations
  pub record Laws (IsTicking : ℕ → List Placed → List Association → List Association → List Posted → Type 0) : Type 0 where
    pub handed : Handed timers own
    pub addressed : Addressed timers own
    pub formatted : Formatted timers own
    pub connects : Connected timers own
    pub calls : WasCalled timers own
    pub ticks : Ticks timers own IsTicking
    pub answerable : Answerable timers own
    pub accepts : MayAccept timers own
