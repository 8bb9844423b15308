-- A tick of the clock where nothing waits: each end that is due has it once, in any order, and what they send waits then (X.224, class 4 state tables;
-- frozen references).
use Rattle.std.specs.Prelude.{◌≡◌, ℕ, ◌+◌, ◌<◌, Bool, true, false, List, [], length, slice_get, Option, Some, None}
use Rattle.std.specs.List.{AllByRecursion}
use Rattle.tp4_flow.specs.declared.step.Sent.{Sent}
use Rattle.tp4_number.specs.Number.{whole}
use Rattle.tp4_conn.specs.End.{End}
use Rattle.tp4_conn.specs.Proper.{IsProper}
use Rattle.tp4_conn.specs.Table.{Ticked, due, stepped}
use Rattle.tp4_conn.specs.declared.timers.Timers.{Timers}
use Rattle.tp4_entity.specs.Entity.{Entity}
use Rattle.tp4_entity.specs.Step.{kept_end}
use Rattle.tp4_world.specs.World.{entity_at}
use Rattle.tp4_world.specs.declared.place.Placed.{Placed}
use Rattle.law_tp4_associations.specs.Association.{Association, Posted, party, system_of, waiting}
use Rattle.law_tp4_associations.specs.Standing.{AreSystems, IsAssociation, IsParty, StandsAt}

-- an end that has its tick, or has none; where its reference is free then, it is taken out
abbrev pub ticked_end : Bool → ℕ → Option End → Option End
ticked_end ticked now None = None
ticked_end false now (Some end) = Some end
ticked_end true now (Some end) = let m = stepped whole now end Ticked in kept_end m (due m.base m.stage)

-- what it sends then
abbrev pub ticked_tpdus : Bool → ℕ → Option End → List Sent
ticked_tpdus ticked now None = []
ticked_tpdus false now (Some end) = []
ticked_tpdus true now (Some end) = (stepped whole now end Ticked).tpdus

-- an association since the clock went on to this tick: which of its ends ticked, and what waits from each side
pub record HasTicked (timers : Timers) (own : ℕ → List ℕ) (now : ℕ) (before after : Association) (sent : Bool → List Sent) : Type 0 where
  pub stood : IsAssociation timers own now before [] []
  pub proper : (by : Bool) (end : End) → party before by ≡ Some end → IsProper end.base end.stage
  pub ticked : Bool → Bool
  pub from_is : after.from ≡ before.from
  pub to_is : after.to ≡ before.to
  pub party_is : (by : Bool) → party after by ≡ ticked_end (ticked by) (now + 1) (party before by)
  pub sent_is : (by : Bool) → sent by ≡ ticked_tpdus (ticked by) (now + 1) (party before by)

-- some ends ticked at now + 1: `before` are the associations at `now`
pub record IsTicking (timers : Timers) (own : ℕ → List ℕ) (now : ℕ) (entities : List Placed) (before all : List Association) (queue : List Posted) : Type 0 where
  pub systems : AreSystems timers own entities
  pub each : (k : ℕ) (b : Association) → slice_get all k ≡ Some b → (a : Association) × (slice_get before k ≡ Some a) × HasTicked timers own now a b (λ by. waiting k by queue)
  pub there : (k : ℕ) (a : Association) (by : Bool) → slice_get all k ≡ Some a → (e : Entity) × (entity_at entities (system_of a by) ≡ Some e)
  pub stand : (k : ℕ) (by : Bool) (system reference : ℕ) (end : End) → IsParty all k by system reference end → StandsAt entities system reference end
  pub known : (system reference : ℕ) (end : End) → StandsAt entities system reference end → (k : ℕ) × (by : Bool) × IsParty all k by system reference end
  pub apart : (k j : ℕ) (by other : Bool) (system reference : ℕ) (x y : End) → IsParty all k by system reference x → IsParty all j other system reference y → (k ≡ j) × (by ≡ other)
  pub posted : AllByRecursion (λ posted. posted.of < length all) queue
