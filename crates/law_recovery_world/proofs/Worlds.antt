-- A history that explains a running network, whose ends are steady and know what their partners offered; each CR and CC that floats gives the credit of the timers
-- (X.224, class 4 procedures).
use Rattle.std.specs.Prelude.{ℕ, List}
use Rattle.osi_base.specs.declared.unit.Unit.{Unit as CarriedUnit}
use Rattle.osi_base.specs.Link.{Link}
use Rattle.tp4_flow.specs.declared.step.Sent.{Sent}
use Rattle.tp4_conn.specs.declared.timers.Timers.{Timers}
use Rattle.tp4_entity.specs.Entity.{Acted, Entity}
use Rattle.script_journal.specs.declared.event.Event.{Event}
use Rattle.law_tp4_history.specs.History.{History}
use Rattle.law_tp4_history.specs.Tracks.{Whole}
use Rattle.tp4_world.specs.World.{World}
use Rattle.tp4_world.specs.declared.place.EndAt.{EndAt}
use Rattle.tp4_world.specs.declared.place.Placed.{Placed}
use Rattle.law_tp4_lawful.proofs.Along as along
use Rattle.law_recovery_world.proofs.Known.{IsOffered, Known}

abbrev pub Follows : List (List ℕ) → Timers → Whole → List Event → List Placed → List EndAt → ℕ → List ℕ → List Event → Acted → Type 0
Follows titles timers = along.Follows timers (Known titles timers) (IsOffered timers)

-- the history follows each step of an entity
abbrev pub Followed : List (List ℕ) → Timers → Type 0
Followed titles timers = along.Followed timers (Known titles timers) (IsOffered timers)

-- what floats
abbrev pub AreOffered : Timers → History → ℕ → List ℕ → List Sent → Type 0
AreOffered timers = along.AreOffered (IsOffered timers)

abbrev pub IsBacked : Timers → History → ℕ → CarriedUnit (List ℕ) → Type 0
IsBacked timers = along.IsBacked (IsOffered timers)

abbrev pub Carries : Timers → History → Link (List ℕ) → Type 0
Carries timers = along.Carries (IsOffered timers) timers.life

-- the network, at rest
abbrev pub Rests : {C : Type 0} → (C → Link (List ℕ)) → (Entity → Type 0) → List (List ℕ) → Timers → List Event → World C → Type 0
Rests {C} link Sound titles timers = along.Rests timers (Known titles timers) (IsOffered timers) link Sound
