-- An end of a network that has left, and that it stays so (X.224, class 4 state tables; frozen references).
use Rattle.std.specs.Prelude.{◌≡◌, ℕ, Some}
use Rattle.tp4_conn.specs.End.{End}
use Rattle.tp4_entity.specs.Entity.{Entity, end_at}
use Rattle.law_tp4_pair.specs.Left.{HasLeft}
use Rattle.tp4_world.specs.World.{World, end_numbered, entity_at, latest}

-- the end of the number x was made there, and whatever end of that number stands there has left
pub record HasLeftAt {C : Type 0} (last : World C) (x system reference : ℕ) : Type 0 where
  pub made : end_numbered last.ends x ≡ Some (record { system = system; reference = reference })
  pub left : (entity : Entity) (e : End) → entity_at last.entities system ≡ Some entity → end_at entity reference ≡ Some e → latest last.ends system reference ≡ x → HasLeft e.stage

-- the end of that number has left
pub record HasLeftEnd {C : Type 0} (last : World C) (x : ℕ) : Type 0 where
  pub system : ℕ
  pub reference : ℕ
  pub at : HasLeftAt last x system reference

abbrev pub HaveLeft : {C : Type 0} → World C → ℕ → ℕ → Type 0
HaveLeft last x y = HasLeftEnd last x × HasLeftEnd last y

-- an end that had left has left still
abbrev pub KeepsLeft : {C : Type 0} → World C → World C → Type 0
KeepsLeft old new = (x system reference : ℕ) → HasLeftAt old x system reference → HasLeftAt new x system reference
