-- A unit as far as it was read.
use Rattle.std.specs.Prelude.{◌≡◌, ◌≢◌, ℕ, List, []}
use Rattle.tpdu.specs.Values.{TpduAndSum}
use Rattle.tp4_flow.specs.Told.{Told}
use Rattle.tp4_number.specs.Number.{wire}
use Rattle.tp4_entity.specs.Entity.{Entity, at}
use Rattle.tp4_entity.specs.Step.{DoesSo}
use Rattle.tp4_entity.specs.Unit.{Separates, all_met, extended_of}

pub record Heard (now : ℕ) (old : Entity) (from octets rest : List ℕ) (entity : Entity) (was new : Told) : Type 0 where
  pub tpdus : List TpduAndSum
  pub separates : Separates (extended_of old) octets tpdus rest
  pub does : DoesSo (all_met wire now (at now old) from tpdus) entity was new
  -- as long as octets are left, the formats are those from before the unit
  pub formats : rest ≢ [] → extended_of entity ≡ extended_of old
  pub clock : entity.clock ≡ now
