-- Two partner ends of a network that go on, and the other ends of their systems: none of these is for the same end (X.224, class 4: association of TPDUs with connections; frozen references).
use Rattle.std.specs.Prelude.{◌≡◌, ℕ, List, None}
use Rattle.script_journal.specs.Partner.{ArePartners}
use Rattle.script_journal.specs.declared.event.Event.{Event}
use Rattle.tp4_conn.specs.End.{End}
use Rattle.tp4_entity.specs.Entity.{Entity}
use Rattle.law_tp4_history.specs.Moves.{stop_of}
use Rattle.tp4_world.specs.World.{World}
use Rattle.law_tp4_lawful.specs.References.{IsEnd}

-- the end of the number y stands, and is not frozen
pub record IsGoing {C : Type 0} (last : World C) (y : ℕ) : Type 0 where
  pub system : ℕ
  pub reference : ℕ
  pub entity : Entity
  pub end : End
  pub is_end : IsEnd last y system entity reference end
  pub goes : stop_of end.stage ≡ None

-- an end that is not frozen, of which the partner is the end of that reference at that address
pub record IsFor {C : Type 0} (last : World C) (x : ℕ) (to : List ℕ) (partner : ℕ) : Type 0 where
  pub going : IsGoing last x
  pub to_is : going.end.base.to ≡ to
  pub partner_is : going.end.base.partner ≡ partner

-- what is for an end that goes on is its partner
abbrev pub HasNoRival : {C : Type 0} → List Event → World C → Type 0
HasNoRival journal last = (x y : ℕ) → (going : IsGoing last y) → IsFor last x going.entity.own going.reference → ArePartners journal x y
