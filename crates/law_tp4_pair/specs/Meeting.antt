-- What waits first for an end, in the entity of its system: it is for that end (X.224, class 4: association of TPDUs with connections).
use Rattle.std.specs.Prelude.{◌≡◌, ℕ, Some}
use Rattle.tp4_flow.specs.declared.step.Sent.{Sent}
use Rattle.tp4_number.specs.Number.{whole}
use Rattle.tp4_conn.specs.declared.states.InOpened.{InOpened}
use Rattle.tp4_conn.specs.declared.states.StateData.TheVariants.{Opened}
use Rattle.tp4_conn.specs.End.{End, agreed_format}
use Rattle.tp4_conn.specs.Table.{Took, stepped}
use Rattle.tp4_entity.specs.Association.{met}
use Rattle.tp4_entity.specs.Entity.{Entity, end_at, moved}

-- A TPDU of one end for the other, at this tick. Where the entity hears it from the address of that end, the other one takes it, and it alone; and it is in
-- the format that an Opened end agreed on
pub record IsMet (now : ℕ) (by of : End) (sent : Sent) : Type 0 where
  pub to : sent.to ≡ of.base.to
  pub meets : (e : Entity) → end_at e by.base.own ≡ Some by → met whole now e by.base.to (sent.tpdu, sent.sum) ≡ moved e by.base.own (stepped whole now by (Took sent.tpdu sent.sum))
  pub format : (o : InOpened) → by.stage ≡ Opened o → sent.format ≡ agreed_format by.base.agreed
