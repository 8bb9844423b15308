-- A history that explains the ends of a running network: each end that stands at an entity is an end of the history, whose halves stand in the
-- lines of its connection (X.224, class 4 procedures).
use Rattle.std.specs.Prelude.{◌≡◌, ℕ, ◌+◌, ◌-◌, ◌<◌, ◌≤◌, true, false, if◌then◌else◌, List, length, slice_get, Option, Some, None, Contains}
use Rattle.nsap.specs.Address.{is_same_system}
use Rattle.script_journal.specs.declared.event.Event.{Event}
use Rattle.tpdu.specs.Kinds.{has_number}
use Rattle.tpdu.specs.Values.{TpduAndSum, destination_of, format_for}
use Rattle.tpdu.specs.Writing.{IsAllowed, kind_for}
use Rattle.tp4_number.specs.Formats.{block_of}
use Rattle.tp4_flow.specs.declared.step.Sent.{Sent}
use Rattle.tp4_conn.specs.Agreeing.{is_extended}
use Rattle.tp4_conn.specs.End.{End}
use Rattle.tp4_conn.specs.Proper.{IsProper, IsSendable}
use Rattle.tp4_conn.specs.declared.timers.Timers.{Timers}
use Rattle.tp4_entity.specs.Entity.{Entity, end_at}
use Rattle.tp4_entity.specs.Unit.{extended_of}
use Rattle.tp4_entity.specs.Step.{first_due}
use Rattle.law_tp4_history.specs.Ends.{Offer, Terms}
use Rattle.law_tp4_history.specs.History.{History, IsCaller, IsFree, IsPartner}
use Rattle.law_tp4_history.specs.Journals.{Written}
use Rattle.law_tp4_history.specs.Tracks.{Track, Whole}
use Rattle.law_tp4_history.specs.Lines.{Stands}
use Rattle.law_tp4_history.specs.Moves.{Sees, times_of}
use Rattle.law_tp4_history.specs.Seen.{IsNumbered, seen}
use Rattle.tp4_world.specs.World.{entity_at}
use Rattle.tp4_world.specs.declared.place.EndAt.{EndAt}
use Rattle.tp4_world.specs.declared.place.Placed.{Placed}

-- ---- ends

-- an end of the history stands at that reference of the address, and no other one
pub record IsEndAt (h : History) (own : List ℕ) (reference k : ℕ) : Type 0 where
  pub low : k < h.count
  pub address : (h.end k).birth.address ≡ own
  pub reference_is : (h.end k).birth.reference ≡ reference
  pub held : (h.end k).is_out ≡ false
  pub only : (j : ℕ) → j < h.count → (h.end j).birth.address ≡ own → (h.end j).birth.reference ≡ reference → (h.end j).is_out ≡ false → j ≡ k

-- the called end of the two agreed on these terms, if it agreed
pub record AreTerms (h : History) (k z : ℕ) (terms : Terms) : Type 0 where
  pub own : (h.end k).birth.is_called ≡ true → (agreed : Terms) → (h.end k).agreed ≡ Some agreed → agreed ≡ terms
  pub theirs : (h.end z).birth.is_called ≡ true → (agreed : Terms) → (h.end z).agreed ≡ Some agreed → agreed ≡ terms

-- the octets of a piece: the size agreed on, less the header of a DT
abbrev pub piece_by : Terms → ℕ
piece_by terms = terms.size - ((if terms.is_extended then 8 else 5) + (if terms.is_summed then 4 else 0))

-- the line has begun, on these terms
pub record HasBegun (t : Track) (terms : Terms) : Type 0 where
  pub begun : t.is_begun ≡ true
  pub size : t.size ≡ piece_by terms

-- both lines of the two have begun
pub record HaveBegun (w : Whole) (k z : ℕ) (terms : Terms) : Type 0 where
  pub own : HasBegun (w.track k) terms
  pub theirs : HasBegun (w.track z) terms

-- the end of an entity is that one of the history; its halves stand in its line and in that of its partner
pub record IsKnown (w : Whole) (own : List ℕ) (reference : ℕ) (e : End) : Type 0 where
  pub k : ℕ
  pub at : IsEndAt w.base own reference k
  pub sees : Sees (times_of e.base.timers) w.base.clock (w.base.end k) e
  pub proper : IsProper e.base e.stage
  pub stands : (z : ℕ) (terms : Terms) → IsPartner w.base k z → AreTerms w.base k z terms → Stands terms e.base e.stage (w.track k) (w.track z)

-- what stands at a reference
abbrev pub IsThere : Whole → List ℕ → ℕ → Option End → Type 0
IsThere w own reference None = IsFree w.base own reference
IsThere w own reference (Some e) = IsKnown w own reference e

-- the ends of an entity
pub record Holds (timers : Timers) (w : Whole) (entity : Entity) : Type 0 where
  pub timers_are : entity.timers ≡ timers
  pub clock : entity.clock ≤ w.base.clock
  pub there : (reference : ℕ) → IsThere w entity.own reference (end_at entity reference)
  pub theirs : (reference : ℕ) (e : End) → end_at entity reference ≡ Some e → e.base.timers ≡ timers

-- ---- the network

-- the end of the number k + 1 is end k of the history, at the entity of its system
pub record IsListed (h : History) (entities : List Placed) (k : ℕ) (end : EndAt) : Type 0 where
  pub entity : Entity
  pub entity_is : entity_at entities end.system ≡ Some entity
  pub address : (h.end k).birth.address ≡ entity.own
  pub reference : (h.end k).birth.reference ≡ end.reference

-- the entity began again since that tick, at the latest now
pub record BeganBy (now : ℕ) (entity : Entity) (r : ℕ) : Type 0 where
  pub tick : ℕ
  pub began : entity.restarted ≡ Some tick
  pub since : r ≤ tick
  pub past : tick ≤ now

-- of the restarts of addresses those of an entity's own are its own, or came before its last one
abbrev pub AreBegan : ℕ → List (List ℕ × ℕ) → Entity → Type 0
AreBegan now restarts entity = (r : ℕ) → Contains restarts (entity.own, r) → BeganBy now entity r

-- a history with this journal explains these entities, and the ends that were made
pub record Known (titles : List (List ℕ)) (timers : Timers) (w : Whole) (journal : List Event) (entities : List Placed) (ends : List EndAt) : Type 0 where
  pub written : Written (times_of timers) titles w journal
  pub restarts : (system : ℕ) (entity : Entity) → entity_at entities system ≡ Some entity → AreBegan w.base.clock w.base.restarts entity
  pub count : length ends ≡ w.base.count
  pub listed : (k : ℕ) (end : EndAt) → slice_get ends k ≡ Some end → IsListed w.base entities k end
  pub holds : (system : ℕ) (entity : Entity) → entity_at entities system ≡ Some entity → Holds timers w entity
  pub apart : (one other : ℕ) (entity next : Entity) → entity_at entities one ≡ Some entity → entity_at entities other ≡ Some next → entity.own ≡ next.own → one ≡ other
  pub titled : (system : ℕ) (entity : Entity) → entity_at entities system ≡ Some entity
      → (title : List ℕ) × (slice_get titles system ≡ Some title) × (is_same_system title entity.own ≡ true)
  -- where a called end agreed on these terms
  pub begun : (a b : ℕ) (terms : Terms) → IsCaller w.base a b → (w.base.end b).agreed ≡ Some terms → HaveBegun w a b terms

-- no end is due
abbrev pub AreIdle : ℕ → List Placed → Type 0
AreIdle now entities = (system : ℕ) (entity : Entity) → entity_at entities system ≡ Some entity → first_due now entity ≡ None

-- ---- what is afloat

-- a TPDU stands among the offers of the history, as it was sent from there at that tick
pub record IsOffered (h : History) (tick : ℕ) (own : List ℕ) (sent : Sent) : Type 0 where
  pub offer : Offer
  pub n : ℕ
  pub offered : Contains h.offers offer
  pub tick_is : offer.tick ≡ tick
  pub from_is : offer.from ≡ own
  pub to_is : offer.to ≡ sent.to
  pub seen_as : offer.tpdu ≡ seen n sent.tpdu
  pub numbered : IsNumbered (block_of sent.format) n sent.tpdu
  pub format : offer.is_extended ≡ is_extended sent.format
  pub sendable : IsSendable sent

-- the history went on, at the same tick; no offer is taken away
pub record GoesOn (old new : History) : Type 0 where
  pub clock : new.clock ≡ old.clock
  pub offers : (offer : Offer) → Contains old.offers offer → Contains new.offers offer

-- ---- what the steps of entities come to

-- A TPDU that was sent is read by an entity: its kind and destination are as they were sent, and all of it, but for a DT, ED, AK or EA that is
-- read in another format
pub record IsReadAs (entity : Entity) (sent : Sent) (tpdu : TpduAndSum) : Type 0 where
  pub kind : kind_for tpdu.0 ≡ kind_for sent.tpdu
  pub target : destination_of tpdu.0 ≡ destination_of sent.tpdu
  pub control : has_number (kind_for sent.tpdu) ≡ false → tpdu.0 ≡ sent.tpdu
  pub flow : format_for (extended_of entity) (destination_of sent.tpdu) ≡ sent.format → tpdu.0 ≡ sent.tpdu
  pub allowed : IsAllowed (format_for (extended_of entity) (destination_of tpdu.0)) tpdu.0
