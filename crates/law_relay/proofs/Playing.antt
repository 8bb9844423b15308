-- What a network and its relays have in common between two lines.
use Rattle.std.specs.Prelude.{ℕ, ◌≤◌, List}
use Rattle.std.specs.List.{AllByRecursion}
use Rattle.osi_base.specs.Link.{Link}
use Rattle.tp4_relay.specs.Kept.{Kept}
use Rattle.tp4_relay.specs.declared.row.RelayRow.{RelayRow}
use Rattle.tp4_relay.specs.steps.Tables.{IsTidy}
use Rattle.tp4_world.specs.World.{World}
use Rattle.law_relay.specs.Services.{IsInOrder, has_system}
use Rattle.law_relay.proofs.Walks.{Linked}

-- the system of a row is there
abbrev pub HasRow : {C : Type 0} → World C → RelayRow → Type 0
HasRow world row = has_system world row.system

-- nothing waits to be taken up, the ends of the relays wait as they have to, the systems of the rows are there, the first credit is one, and the columns of what
-- is kept rise
pub record Plays {C : Type 0} (link : C → Link (List ℕ)) (world : World C) (kept : Kept) : Type 0 where
  pub order : IsInOrder link world
  pub linked : Linked world.entities world.ends kept
  pub has : AllByRecursion (HasRow world) kept.rows
  pub credit : kept.rules.credit ≤ 255
  pub tidy : IsTidy kept
