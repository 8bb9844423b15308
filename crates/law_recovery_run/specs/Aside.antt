-- Two ends that go on and face each other, and a TPDU that comes to the system of one of them and is not from the one for the other (X.224, class 4: association of TPDUs with connections;
-- response to a TPDU that belongs to no connection).
use Rattle.std.specs.Prelude.{◌≡◌, ℕ, Bool, List, Some}
use Rattle.std.specs.List.{AllByRecursion}
use Rattle.osi_base.specs.Link.{Link}
use Rattle.script_journal.specs.declared.event.Event.{Event}
use Rattle.tpdu.specs.Values.{destination_of, format_for}
use Rattle.tpdu.specs.Writing.{IsAllowed}
use Rattle.tpdu.specs.declared.tpdu.Tpdu.{Tpdu}
use Rattle.tpdu.specs.declared.tpdu.Tpdu.TheVariants.{Cc, Cr, Dr}
use Rattle.tp4_number.specs.Number.{whole}
use Rattle.tp4_flow.specs.declared.step.Sent.{Sent}
use Rattle.tp4_conn.specs.Table.{Took}
use Rattle.tp4_entity.specs.Association.{met}
use Rattle.tp4_entity.specs.Entity.{Acted, Entity, at, end_at}
use Rattle.tp4_entity.specs.Unit.{extended_of}
use Rattle.law_tp4_history.specs.Moves.{IsSourced}
use Rattle.tp4_world.specs.World.{World}
use Rattle.law_recovery_run.specs.Rivals.{IsGoing}

-- it is sent to the end of that reference at that address
pub record IsSentTo (to : List ℕ) (reference : ℕ) (sent : Sent) : Type 0 where
  pub address : sent.to ≡ to
  pub target : destination_of sent.tpdu ≡ Some reference

-- a CR, a CC or a DR of an end of that reference
abbrev pub Names : ℕ → Tpdu → Type 0
Names reference (Cr credit source width calling called size preferred extra version classes ack_time text) = source ≡ reference
Names reference (Cc credit destination source width calling called size preferred extra version classes ack_time text) = source ≡ reference
Names reference (Dr destination source reason info text) = source ≡ reference
Names reference other = ⊥

-- two ends that go on, of which the one has the other as its partner
pub record AreFacing {C : Type 0} (last : World C) (x y : ℕ) : Type 0 where
  pub own : IsGoing last x
  pub theirs : IsGoing last y
  pub to_is : own.end.base.to ≡ theirs.entity.own
  pub partner_is : own.end.base.partner ≡ theirs.reference

-- A TPDU comes to the system of x, as it is read there, which is not from y for x; and it does not name y, as a CR, a CC and a DR of y would
pub record IsBeside {C : Type 0} (last : World C) (x y : ℕ) (f : AreFacing last x y) (from : List ℕ) (t : Tpdu) (sum : Bool) : Type 0 where
  pub other : from ≡ f.theirs.entity.own → destination_of t ≡ Some f.own.reference → ⊥
  pub unnamed : from ≡ f.theirs.entity.own → Names f.theirs.reference t → ⊥
  pub allowed : IsAllowed (format_for (extended_of f.own.entity) (destination_of t)) t
  pub sourced : IsSourced 0 (Took t sum)

-- the end stays as it is, and nothing is sent to its partner
pub record LeavesAside (entity : Entity) (reference : ℕ) (to : List ℕ) (partner : ℕ) (acted : Acted) : Type 0 where
  pub same : end_at acted.entity reference ≡ end_at entity reference
  pub none : AllByRecursion (λ (sent : Sent). IsSentTo to partner sent → ⊥) acted.tpdus

-- whatever else comes
abbrev pub StaysAside : {C : Type 0} → (C → Link (List ℕ)) → List Event → World C → Type 0
StaysAside link journal last = (x y : ℕ) (f : AreFacing last x y) (from : List ℕ) (t : Tpdu) (sum : Bool) → IsBeside last x y f from t sum
    → LeavesAside f.own.entity f.own.reference f.theirs.entity.own f.theirs.reference (met whole (link last.carrier).clock (at (link last.carrier).clock f.own.entity) from (t, sum))
