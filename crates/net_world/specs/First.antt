-- A network before its first line.
use Rattle.std.specs.Prelude.{◌≡◌, ℕ, ◌≤◌, true, List, [], slice_get, Some, IsTrue}
use Rattle.nsap.specs.Address.{is_same_system}
use Rattle.osi_base.specs.Link.{Link, IsNote}
use Rattle.std.specs.List.{All}

-- a unit for an address comes to no system but the one whose title is that of the address, but for the selector
pub record IsAtHome (titles : List (List ℕ)) (link : Link (List ℕ)) : Type 0 where
  pub home : (to : List ℕ) (system : ℕ) → IsTrue (link.belongs to system)
      → (title : List ℕ) × (slice_get titles system ≡ Some title) × (is_same_system to title ≡ true)

-- a network before its first line: nothing floats, notes alone wait, nothing was injected, its clock is 0, and a unit floats for
-- the lifetime at most
pub record IsFirst (life : ℕ) (titles : List (List ℕ)) (link : Link (List ℕ)) : Type 0 where
  pub clock : link.clock ≡ 0
  pub none : link.floating ≡ []
  pub notes : All IsNote link.waiting
  pub honest : link.honest ≡ true
  pub bounds : (to : List ℕ) → link.bound to ≤ life
  pub home : IsAtHome titles link
