-- Calm runs of a network with its transport entities, over any carrier of units: each line that asks something is followed by a `settle`, and nothing is
-- dropped (X.213, queue model; X.214, service primitives).
use Rattle.std.specs.Prelude.{◌≡◌, ◌≤◌, ℕ, List, [], slice_get, Some}
use Rattle.std.specs.List.{AllByRecursion}
use Rattle.osi_base.specs.Calls.{Call}
use Rattle.osi_base.specs.Link.{Link}
use Rattle.osi_base.specs.declared.unit.Unit.{Unit as CarriedUnit}
use Rattle.script_journal.specs.declared.event.Event.{Event}
use Rattle.script_lines.specs.declared.line.Line.{Line}
use Rattle.script_lines.specs.declared.line.Line.TheVariants as lines
use Rattle.tp4_conn.specs.End.{IsTimed}
use Rattle.tp4_conn.specs.declared.timers.Timers.{Timers}
use Rattle.tp4_entity.specs.Entity.{Entity}
use Rattle.law_tp4_pair.specs.CalmScript.{IsSettledScript}
use Rattle.law_tp4_pair.specs.Claim.{IsUndropped}
use Rattle.tp4_world.specs.First.{IsNew}
use Rattle.tp4_world.specs.Run.{RunsLines}
use Rattle.tp4_world.specs.World.{World, entity_at}
use Rattle.tp4_world.specs.declared.place.Placed.{Placed}
use Rattle.law_tp4_lawful.specs.First.{AreDistinct, IsUntouched}
use Rattle.law_tp4_lawful.specs.Limits.{IsProperLine}

-- a raw unit asks for no path
abbrev pub IsUnrouted : Line → Type 0
IsUnrouted (lines.Unit system to wish octets) = wish.path ≡ 0
IsUnrouted line = Prim.Unit {0}

-- each system has an entity
abbrev pub HaveEntities : List (List ℕ) → List Placed → Type 0
HaveEntities titles placed = (system : ℕ) (title : List ℕ) → slice_get titles system ≡ Some title → (entity : Entity) × (entity_at placed system ≡ Some entity)

-- a network before its first line: its entities have no end, all the same timers, and each system has one; and nothing waits
pub record IsStart {C : Type 0} (titles : List (List ℕ)) (timers : Timers) (Waits : C → List (CarriedUnit (List ℕ)) → Type 0) (first : World C) : Type 0 where
  pub timed : IsTimed timers
  pub inactive : 1 ≤ timers.inactive
  pub distinct : AreDistinct titles
  pub entities : AllByRecursion (IsNew titles) first.entities
  pub untouched : AllByRecursion (IsUntouched timers) first.entities
  pub have : HaveEntities titles first.entities
  pub none : first.ends ≡ []
  pub waits : Waits first.carrier []

-- the lines are settled, none asks for a path, and as they run nothing is dropped. `wrap` is what a receiving half keeps of a number
pub record IsCalmRun {C : Type 0} (link : C → Link (List ℕ)) (steps : C → Call (List ℕ) → C → Type 0) (wrap : ℕ → ℕ → ℕ) (titles : List (List ℕ)) (first : World C) (script : List Line) (journal : List Event)
    (last : World C) : Type 0 where
  pub settled : IsSettledScript script
  pub proper : AllByRecursion IsProperLine script
  pub unrouted : AllByRecursion IsUnrouted script
  pub undropped : AllByRecursion IsUndropped journal
  pub runs : RunsLines link steps wrap titles first script journal last
