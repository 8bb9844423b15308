-- The entities of a network, and the associations of the ends that stand in them: each end is of one association, and what waits is what the associations
-- have to hand over (X.224, class 4: association of TPDUs with connections; X.214, queue model).
use Rattle.std.specs.Prelude.{◌≡◌, ℕ, ◌<◌, ◌≤◌, Bool, true, false, List, length, slice_get, Some}
use Rattle.std.specs.List.{AllByRecursion}
use Rattle.tp4_flow.specs.declared.step.Sent.{Sent}
use Rattle.tp4_conn.specs.Agreeing.{proposed_by}
use Rattle.tp4_conn.specs.End.{End, IsSized, IsTimed}
use Rattle.tp4_conn.specs.declared.timers.Timers.{Timers}
use Rattle.tp4_entity.specs.Entity.{Entity, end_at}
use Rattle.tp4_world.specs.World.{entity_at}
use Rattle.tp4_world.specs.declared.place.Placed.{Placed}
use Rattle.law_tp4_associations.specs.Association.{Association, Posted, party, system_of, waiting}
use Rattle.law_tp4_associations.specs.Phase.{Phase}

-- an end stands at a reference of the entity of a system
abbrev pub StandsAt : List Placed → ℕ → ℕ → End → Type 0
StandsAt entities system reference end = (e : Entity) × (entity_at entities system ≡ Some e) × (end_at e reference ≡ Some end)

-- it is an end of that association, with that reference and in that system
pub record IsParty (all : List Association) (k : ℕ) (by : Bool) (system reference : ℕ) (end : End) : Type 0 where
  pub a : Association
  pub is : slice_get all k ≡ Some a
  pub end_is : party a by ≡ Some end
  pub system_is : system_of a by ≡ system
  pub reference_is : end.base.own ≡ reference

-- the systems have different addresses, and all the same timers
pub record AreSystems (timers : Timers) (own : ℕ → List ℕ) (entities : List Placed) : Type 0 where
  pub own_is : (system : ℕ) (e : Entity) → entity_at entities system ≡ Some e → e.own ≡ own system
  pub timers_are : (system : ℕ) (e : Entity) → entity_at entities system ≡ Some e → e.timers ≡ timers
  pub apart : (system other : ℕ) (e f : Entity) → entity_at entities system ≡ Some e → entity_at entities other ≡ Some f → own system ≡ own other → system ≡ other
  pub timed : IsTimed timers
  pub inactive : 1 ≤ timers.inactive

-- what the ends of an association keep for good: the reference is that of the calling end, the address that of the other one's system
pub record IsCaller (timers : Timers) (reference : ℕ) (address : List ℕ) (x : End) : Type 0 where
  pub own_is : x.base.own ≡ reference
  pub to : x.base.to ≡ address
  pub is_called : x.base.is_called ≡ false
  pub timers_are : x.base.timers ≡ timers
  pub size : IsSized x.base.proposed.options
  pub proposed : x.base.proposed ≡ proposed_by x.base.proposed.options

pub record IsCalled (timers : Timers) (reference : ℕ) (address : List ℕ) (y : End) : Type 0 where
  pub partner : y.base.partner ≡ reference
  pub to : y.base.to ≡ address
  pub is_called : y.base.is_called ≡ true
  pub timers_are : y.base.timers ≡ timers

-- the association by itself
pub record IsAssociation (timers : Timers) (own : ℕ → List ℕ) (now : ℕ) (a : Association) (forth back : List Sent) : Type 0 where
  pub phase : Phase timers (own a.from.system) (own a.to) now a forth back
  pub caller : (x : End) → a.calling ≡ Some x → IsCaller timers a.from.reference (own a.to) x
  pub called : (y : End) → a.called ≡ Some y → IsCalled timers a.from.reference (own a.from.system) y
  pub some : 0 < a.from.reference

pub record Standing (timers : Timers) (own : ℕ → List ℕ) (now : ℕ) (entities : List Placed) (all : List Association) (queue : List Posted) : Type 0 where
  pub systems : AreSystems timers own entities
  pub each : (k : ℕ) (a : Association) → slice_get all k ≡ Some a → IsAssociation timers own now a (waiting k true queue) (waiting k false queue)
  pub there : (k : ℕ) (a : Association) (by : Bool) → slice_get all k ≡ Some a → (e : Entity) × (entity_at entities (system_of a by) ≡ Some e)
  pub stand : (k : ℕ) (by : Bool) (system reference : ℕ) (end : End) → IsParty all k by system reference end → StandsAt entities system reference end
  pub known : (system reference : ℕ) (end : End) → StandsAt entities system reference end → (k : ℕ) × (by : Bool) × IsParty all k by system reference end
  pub apart : (k j : ℕ) (by other : Bool) (system reference : ℕ) (x y : End) → IsParty all k by system reference x → IsParty all j other system reference y → (k ≡ j) × (by ≡ other)
  pub posted : AllByRecursion (λ posted. posted.of < length all) queue
