-- A network of users of datagrams before its first call.
use Rattle.std.specs.Prelude.{◌≡◌, ℕ, ◌≤◌, true, List, []}
use Rattle.std.specs.List.{All}
use Rattle.osi_base.specs.Link.{Link, IsNote}

-- a network before its first call: nothing floats, notes alone wait, nothing was injected, its clock is 0, and a unit floats for the
-- lifetime at most
pub record IsNew (life : ℕ) (link : Link (List ℕ)) : Type 0 where
  pub clock : link.clock ≡ 0
  pub none : link.floating ≡ []
  pub notes : All IsNote link.waiting
  pub honest : link.honest ≡ true
  pub bounds : (to : List ℕ) → link.bound to ≤ life
