-- What a step leaves of the ends that stood, and whom it answers (X.224, frozen references; response to a TPDU that belongs to no
-- connection).
use Rattle.std.specs.Prelude.{◌≡◌, ◌≢◌, ◌⊎◌, ◌<◌, ℕ, ◌+◌, true, List, [], ◌∷◌, Option, Some, None}
use Rattle.tpdu.specs.Values.{TpduAndSum}
use Rattle.tpdu.specs.declared.tpdu.Tpdu.{Tpdu}
use Rattle.tpdu.specs.declared.tpdu.Tpdu.TheVariants.{Cr, Cc, Dr, Dc}
use Rattle.tp4_flow.specs.declared.step.Sent.{Sent}
use Rattle.tp4_conn.specs.declared.states.StateData.TheVariants.{Frozen}
use Rattle.tp4_conn.specs.End.{End, end_of, frozen_for}
use Rattle.tp4_conn.specs.Matching.{is_match}
use Rattle.tp4_conn.specs.Table.{Event, Took, stepped}
use Rattle.tp4_entity.specs.Association.{answer, refusal}
use Rattle.tp4_entity.specs.Entity.{Entity, Acted, end_at, moved}

-- no end stands there, or one that entered Frozen at a tick that lies more than F ticks back
pub data IsFreeAt (now : ℕ) (place : Option End) : Type 0 where
  Empty : place ≡ None → IsFreeAt now place
  Over : (end : End) (when : ℕ) → place ≡ Some end → end.stage ≡ Frozen when → when + frozen_for end.base.timers < now → IsFreeAt now place

-- the same end stands there, as it was or after a row of its table
pub data Goes (wrap : ℕ → ℕ → ℕ) (now : ℕ) (end : End) (place : Option End) : Type 0 where
  Stays : place ≡ Some end → Goes wrap now end place
  Moves : (event : Event) → place ≡ Some (end_of (stepped wrap now end event)) → Goes wrap now end place

-- each end that stood goes on where it stood, but for one whose reference was free
abbrev pub KeepsEnds : (ℕ → ℕ → ℕ) → ℕ → Entity → Entity → Type 0
KeepsEnds wrap now old new = (reference : ℕ) (end : End) → end_at old reference ≡ Some end → Goes wrap now end (end_at new reference) ⊎ IsFreeAt now (Some end)

-- the source reference of a CR or a CC
abbrev pub asker : Tpdu → Option ℕ
asker (Cr credit source width calling called size preferred extra version classes ack_time text) = Some source
asker (Cc credit destination source width calling called size preferred extra version classes ack_time text) = Some source
asker other = None

-- an answer to that TPDU: a DR with source 0 to a CR or a CC, a DC to a DR that has a source
pub data IsAnswer (from : List ℕ) (tpdu : Tpdu) (sent : Sent) : Type 0 where
  Refused : (reference reason : ℕ) → asker tpdu ≡ Some reference → sent ≡ refusal from reference reason → IsAnswer from tpdu sent
  Confirmed : (destination source reason : ℕ) (info : Option (List ℕ)) (text : List ℕ) → tpdu ≡ Dr destination source reason info text → source ≢ 0
      → sent ≡ answer from (Dc source destination) → IsAnswer from tpdu sent

-- nothing is sent; one answer is sent, and the ends stay; or the end that the TPDU matches does what its row says
pub data Meets (wrap : ℕ → ℕ → ℕ) (now : ℕ) (e : Entity) (from : List ℕ) (tpdu : TpduAndSum) (acted : Acted) : Type 0 where
  Quiet : acted.tpdus ≡ [] → Meets wrap now e from tpdu acted
  Answers : (sent : Sent) → IsAnswer from tpdu.0 sent → acted.tpdus ≡ sent ∷ [] → acted.entity ≡ e → Meets wrap now e from tpdu acted
  Matches : (reference : ℕ) (end : End) → end_at e reference ≡ Some end → is_match end.base end.stage from tpdu.0 ≡ true
      → acted ≡ moved e reference (stepped wrap now end (Took tpdu.0 tpdu.1)) → Meets wrap now e from tpdu acted
