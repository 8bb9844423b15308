-- The entity of a system is lent out of the list of all.
use Rattle.std.specs.Prelude.{◌≡◌, ℕ, List, Option, Some, None, slice_get, unwrap_or}
use Rattle.std.specs.Borrow.{Fml, MutBor}
use Rattle.std.specs.Global.{Vec}
use Rattle.std.specs.List.{position}
use Rattle.std.specs.Vec.{vec_follows_get}
use Rattle.std.specs.contracts.alloc.Global as global
use Rattle.std.specs.contracts.impls.GlobalAllocator.TheImpl.{ghosts}
use Rattle.tp4_world.specs.World.{is_of}
use Rattle.tp4_world.specs.contracts.place.Placed.{the_row}
use Rattle.tp4_world.specs.declared.place.Placed.{Placed}

-- where the entity of a system stands
abbrev pub spot : ℕ → List Placed → ℕ
spot system placed = unwrap_or (position (is_of system) placed) 0

-- it stands there
pub record IsAt (placed : List Placed) (system : ℕ) (one : Placed) : Type 0 where
  pub place : position (is_of system) placed ≡ Some (spot system placed)
  pub there : slice_get placed (spot system placed) ≡ Some one

-- it is lent, where the system has one
abbrev pub Finds : List Placed → ℕ → Option (MutBor Placed) → Type 0
Finds placed system None = position (is_of system) placed ≡ None
Finds placed system (Some one) = IsAt placed system one.now

-- what is left behind it stands there then
abbrev pub LendsEntity : MutBor (Vec Placed) → ℕ → Option (MutBor Placed) → Fml
LendsEntity entities system one = vec_follows_get the_row global.the_row ghosts entities (spot system entities.now.items) one
