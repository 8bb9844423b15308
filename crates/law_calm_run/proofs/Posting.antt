-- How a network over a carrier shows what waits: each unit in the queue of the carrier is a raw one, or the next TPDU that waits, written
-- (X.213, queue model; X.224, structure and encoding of TPDUs).
use Rattle.std.specs.Prelude.{◌≡◌, ◌⊎◌, ℕ, List, [], ◌∷◌, slice_get, Some}
use Rattle.nsap.specs.Address.{selector_of}
use Rattle.osi_base.specs.Link.{Link}
use Rattle.osi_base.specs.declared.unit.Unit.{Unit as CarriedUnit}
use Rattle.tpdu.specs.Writing.{IsWritten}
use Rattle.tp4_conn.specs.Proper.{IsSendable}
use Rattle.tp4_entity.specs.Entity.{Entity}
use Rattle.law_tp4_proper.specs.Rest.{AreProper}
use Rattle.tp4_world.specs.Run.{transport_address}
use Rattle.tp4_world.specs.World.{World, entity_at}
use Rattle.tp4_world.specs.declared.place.Placed.{Placed}
use Rattle.tp4_world.proofs.Destinations.{EndsFine}
use Rattle.law_calm_run.proofs.Hall.{Hall, IsAddress, Post}

-- the unit is that TPDU, from the entity of its system
pub record IsUnitOf (titles : List (List ℕ)) (unit : CarriedUnit (List ℕ)) (post : Post) : Type 0 where
  pub title : List ℕ
  pub title_is : slice_get titles post.system ≡ Some title
  pub from : unit.from ≡ transport_address title
  pub to : unit.to ≡ post.sent.to
  pub address : IsAddress titles unit.to
  pub sendable : IsSendable post.sent
  pub written : IsWritten post.sent.format post.sent.sum post.sent.tpdu unit.octets

-- the units are raw ones, and the TPDUs that wait, in order
abbrev pub AreUnitsOf : List (List ℕ) → List (CarriedUnit (List ℕ)) → List Post → Type 0
AreUnitsOf titles [] posts = posts ≡ []
AreUnitsOf titles (unit ∷ queue) posts =
    ((selector_of unit.to ≡ 2) × AreUnitsOf titles queue posts)
    ⊎ ((post : Post) × (rest : List Post) × (posts ≡ post ∷ rest) × IsUnitOf titles unit post × AreUnitsOf titles queue rest)

-- the network is this one, over its carrier
pub record IsHall {C : Type 0} (link : C → Link (List ℕ)) (titles : List (List ℕ)) (Waits : C → List (CarriedUnit (List ℕ)) → Type 0) (world : World C) (hall : Hall)
    (queue : List (CarriedUnit (List ℕ))) : Type 0 where
  pub clock : (link world.carrier).clock ≡ hall.clock
  pub entities : world.entities ≡ hall.entities
  pub ends : world.ends ≡ hall.ends
  pub waits : Waits world.carrier queue
  pub units : AreUnitsOf titles queue hall.posts

-- an entity at the address of its system, whose ends are proper and have partners at such addresses
pub record IsKept (titles : List (List ℕ)) (system : ℕ) (entity : Entity) : Type 0 where
  pub title : List ℕ
  pub title_is : slice_get titles system ≡ Some title
  pub own : entity.own ≡ transport_address title
  pub proper : AreProper entity
  pub ends : EndsFine (IsAddress titles) entity.ends

abbrev pub AreKept : List (List ℕ) → List Placed → Type 0
AreKept titles placed = (system : ℕ) (entity : Entity) → entity_at placed system ≡ Some entity → IsKept titles system entity
