-- What the ends of an entity keep, and when none of them is due (X.224, class 4 state tables; structure and encoding of TPDUs).
use Rattle.std.specs.Prelude.{◌≡◌, ◌≤◌, ℕ, Some, None}
use Rattle.tp4_conn.specs.declared.timers.Timers.{Timers}
use Rattle.tp4_conn.specs.End.{End, IsTimed}
use Rattle.tp4_conn.specs.Living.{IsInTime}
use Rattle.tp4_conn.specs.Proper.{AreSendable, IsProper}
use Rattle.tp4_conn.specs.Table.{due}
use Rattle.tp4_conn.specs.steps.Kept.{IsWaiting}
use Rattle.tp4_entity.specs.Entity.{Acted, Entity, end_at}
use Rattle.tp4_entity.specs.Step.{first_due}

-- an end of an entity with these timers
pub record IsProperEnd (timers : Timers) (e : End) : Type 0 where
  pub proper : IsProper e.base e.stage
  pub timers_are : e.base.timers ≡ timers
  pub waiting : IsWaiting e.base.timers e.stage

pub record AreProper (e : Entity) : Type 0 where
  pub timers : IsTimed e.timers
  pub inactive : 1 ≤ e.timers.inactive
  pub ends : (reference : ℕ) (end : End) → end_at e reference ≡ Some end → IsProperEnd e.timers end

-- no end was due before that tick
abbrev pub AreInTime : ℕ → Entity → Type 0
AreInTime now e = (reference : ℕ) (end : End) → end_at e reference ≡ Some end → IsInTime (due end.base end.stage) now

-- the ends are proper, and none is due
pub record IsAtRest (now : ℕ) (e : Entity) : Type 0 where
  pub proper : AreProper e
  pub idle : first_due now e ≡ None

-- an event leaves the entity at rest, and all that is sent has octets
pub record IsProperStep (now : ℕ) (acted : Acted) : Type 0 where
  pub rest : IsAtRest now acted.entity
  pub tpdus : AreSendable acted.tpdus

-- a tick leaves its ends proper and in time, and all that is sent has octets
pub record IsProperTick (now : ℕ) (acted : Acted) : Type 0 where
  pub proper : AreProper acted.entity
  pub in_time : AreInTime now acted.entity
  pub tpdus : AreSendable acted.tpdus
