-- A network with its transport entities before its first line.
use Rattle.std.specs.Prelude.{◌≡◌, ℕ, List, slice_get, Some, None}
use Rattle.std.specs.List.{AllByRecursion}
use Rattle.osi_base.specs.Link.{Link}
use Rattle.net_world.specs.First.{IsFirst as IsFirstCarrier}
use Rattle.tp4_entity.specs.Entity.{Entity}
use Rattle.tp4_world.specs.Run.{transport_address}
use Rattle.tp4_world.specs.declared.place.Placed.{Placed}

-- no end was made yet
abbrev pub HasNoEnd : Entity → Type 0
HasNoEnd entity = AllByRecursion (λ place. place ≡ None) entity.ends

-- an entity without ends that never began again, at the address of its system's transport users
pub record IsNew (titles : List (List ℕ)) (one : Placed) : Type 0 where
  pub title : List ℕ
  pub title_is : slice_get titles one.system ≡ Some title
  pub own : one.entity.own ≡ transport_address title
  pub none : HasNoEnd one.entity
  pub never : one.entity.restarted ≡ None

-- a network before its first line, with its entities
pub record IsFirst (life : ℕ) (titles : List (List ℕ)) (carrier : Link (List ℕ)) (placed : List Placed) : Type 0 where
  pub carrier_is : IsFirstCarrier life titles carrier
  pub entities : AllByRecursion (IsNew titles) placed
