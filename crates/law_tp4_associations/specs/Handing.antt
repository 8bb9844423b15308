-- What the TPDU that waits first comes to, and what a connect request begins (X.224, class 4: association of TPDUs with connections).
use Rattle.std.specs.Prelude.{◌≡◌, ◌⊎◌, ℕ, ◌+◌, true, not, List, [], ◌∷◌, ◌++◌, map, slice_set, Some, None}
use Rattle.tpdu.specs.Values.{destination_of}
use Rattle.tpdu.specs.declared.kind.Kind.{Kind}
use Rattle.tp4_number.specs.Number.{whole}
use Rattle.tp4_flow.specs.declared.step.EndEvent.{EndEvent}
use Rattle.tp4_flow.specs.declared.step.What.TheVariants.{Unknown}
use Rattle.tp4_conn.specs.End.{End, agreed_format, end_of}
use Rattle.tp4_conn.specs.Making.{connected, indicated}
use Rattle.tp4_conn.specs.Proper.{IsProper}
use Rattle.tp4_conn.specs.Table.{Took, stepped}
use Rattle.tp4_conn.specs.declared.end_record.EndRecord.{EndRecord}
use Rattle.tp4_conn.specs.declared.call.ConnectRequest.{ConnectRequest}
use Rattle.tp4_conn.specs.declared.states.StateData.TheVariants.{UserWait}
use Rattle.tp4_conn.specs.declared.timers.Timers.{Timers}
use Rattle.tp4_entity.specs.Entity.{Acted, Entity, at, end_at, moved}
use Rattle.tp4_entity.specs.References.{least_free}
use Rattle.tp4_entity.specs.Step.{call_of}
use Rattle.law_tp4_pair.specs.Standing.{HasLeft}
use Rattle.tp4_world.specs.World.{with_entity}
use Rattle.tp4_world.specs.declared.place.Placed.{Placed}
use Rattle.law_tp4_associations.specs.Association.{Association, Posted, cleared, party, post, system_of, with_party}
use Rattle.law_tp4_associations.specs.Standing.{Standing, StandsAt}

-- each end that stands is proper
abbrev pub AreProperEnds : List Placed → Type 0
AreProperEnds entities = (system reference : ℕ) (end : End) → StandsAt entities system reference end → IsProper end.base end.stage

-- nothing is told, or a TPDU that belongs to no end
abbrev pub TellsOfNoEnd : List EndEvent → Type 0
TellsOfNoEnd events = (events ≡ []) ⊎ ((kind : Kind) × (events ≡ record { reference = 0; what = Unknown kind } ∷ []))

-- both ends stand, neither has left, and the called one's user has answered
pub record IsBetweenOpen (a : Association) : Type 0 where
  pub x : End
  pub y : End
  pub calling : a.calling ≡ Some x
  pub called : a.called ≡ Some y
  pub stays : HasLeft x.stage ⊎ HasLeft y.stage → ⊥
  pub answered : (since : ℕ) → y.stage ≡ UserWait since → ⊥

-- a TPDU that waits first comes to the entity e of the other side, which does this; the association `a` is `b` then, and `others` are all the associations, but for
-- an end whose reference is given to another one
pub data Takes (own : ℕ → List ℕ) (now : ℕ) (e : Entity) (posted : Posted) (acted : Acted) (all others : List Association) (a b : Association) : Type 0 where
  -- the end takes it
  Taken : (end : End) → party a (not posted.by) ≡ Some end → acted ≡ moved e end.base.own (stepped whole now end (Took posted.sent.tpdu posted.sent.sum))
      → b ≡ with_party a (not posted.by) (Some (end_of (stepped whole now end (Took posted.sent.tpdu posted.sent.sum)))) → others ≡ all → Takes own now e posted acted all others a b
  -- no end does: one of the two has left, or its user has not answered
  Aside : acted.entity ≡ e → TellsOfNoEnd acted.events → b ≡ a → others ≡ all → (IsBetweenOpen a → ⊥) → Takes own now e posted acted all others a b
  -- it is the CR, and the called end is made
  Begins : (reference : ℕ) (base : EndRecord) (octets : List ℕ) → posted.by ≡ true → a.called ≡ None → least_free now e ≡ Some reference → base.own ≡ reference → base.to ≡ own a.from.system
      → base.partner ≡ a.from.reference → acted ≡ moved e reference (indicated base octets) → b ≡ record a { called = Some (end_of (indicated base octets)) }
      → others ≡ map (cleared a.to reference) all → Takes own now e posted acted all others a b

module _ (timers : Timers) (own : ℕ → List ℕ) where
  -- what a TPDU that waits first comes to, after which all associations stand again
  pub record Hands (now : ℕ) (entities : List Placed) (all : List Association) (posted : Posted) (rest : List Posted) (e : Entity) (a : Association) (acted : Acted) : Type 0 where
    pub b : Association
    pub others : List Association
    pub takes : Takes own now (at now e) posted acted all others a b
    pub standing : Standing timers own now (with_entity entities (system_of a (not posted.by)) acted.entity) (slice_set others posted.of b) (rest ++ post posted.of (not posted.by) acted.tpdus)

  -- a DT, ED, AK or EA is in the format that the end at its destination agreed on
  pub record IsFormatted (e : Entity) (posted : Posted) : Type 0 where
    pub reference : ℕ
    pub end : End
    pub destination : destination_of posted.sent.tpdu ≡ Some reference
    pub stands : end_at e reference ≡ Some end
    pub format : posted.sent.format ≡ agreed_format end.base.agreed

  -- the association of a connect request
  abbrev pub requested_by : ℕ → Entity → ℕ → ℕ → ConnectRequest → ℕ → Association
  requested_by now e system reference request to = record {
    from = record { system = system; reference = reference };
    to = to;
    calling = Some (end_of (connected now (call_of e reference request)));
    called = None;
  }
