-- Two partner ends of a network, of which each is Opened or Closing, and what waits between them in the queue of the carrier (X.224, class 4: association of TPDUs with connections;
-- X.214, queue model).
use Rattle.std.specs.Prelude.{◌≡◌, ◌⊎◌, ℕ, Bool, true, false, ◌==◌, ◌&&◌, nat_eq, if◌then◌else◌, List, [], ◌∷◌, Option, Some, None}
use Rattle.std.specs.Cmp.Lexicographic.{pointwise}
use Rattle.std.specs.List.{AllByRecursion}
use Rattle.osi_base.specs.Link.{Link}
use Rattle.script_journal.specs.Lawful.{Marked, shown, submitted}
use Rattle.script_journal.specs.declared.event.Event.{Event as JournalEvent}
use Rattle.tpdu.specs.Values.{destination_of}
use Rattle.tpdu.specs.Writing.{is_summed}
use Rattle.tpdu.specs.declared.fault.TpduCause.{TpduCause}
use Rattle.tpdu.specs.declared.tpdu.Tpdu.{Tpdu}
use Rattle.tpdu.specs.declared.tpdu.Tpdu.TheVariants.{Cc, Dc, Dr}
use Rattle.tp4_number.specs.Number.{whole}
use Rattle.tp4_flow.specs.declared.step.Sent.{Sent}
use Rattle.tp4_flow.specs.declared.step.What.TheVariants.{BadTpdu}
use Rattle.tp4_conn.specs.End.{End, Moved, agreed_format}
use Rattle.tp4_conn.specs.Matching.{is_source}
use Rattle.tp4_conn.specs.Table.{Event, Took}
use Rattle.tp4_conn.specs.declared.end_record.EndRecord.{EndRecord}
use Rattle.tp4_conn.specs.declared.states.StateData.{StateData}
use Rattle.tp4_conn.specs.declared.states.StateData.TheVariants.{Closing, Opened}
use Rattle.tp4_entity.specs.Association.{met}
use Rattle.tp4_entity.specs.Entity.{Acted, Entity, at}
use Rattle.tp4_entity.specs.Silence.{is_silent}
use Rattle.tp4_entity.specs.Unit.{ignored}
use Rattle.law_tp4_history.specs.Moves.{AreOwn, HasSource}
use Rattle.law_tp4_history.specs.Seen.{seen}
use Rattle.law_tp4_pair.specs.Pair.{Pair}
use Rattle.tp4_world.specs.World.{World}
use Rattle.law_tp4_lawful.specs.References.{IsEnd}
use Rattle.law_tp4_lawful.proofs.Known.{IsReadAs}
use Rattle.law_calm_run.proofs.Hall.{IsReadBy, Post}
use Rattle.law_recovery_run.specs.Aside.{IsSentTo, Names}

-- ---- what waits

abbrev pub is_target : ℕ → Option ℕ → Bool
is_target reference None = false
is_target reference (Some target) = target == reference

-- it is sent to the end of that reference at that address
abbrev pub is_sent_to : List ℕ → ℕ → Sent → Bool
is_sent_to to reference sent = pointwise nat_eq sent.to to && is_target reference (destination_of sent.tpdu)

-- what waits from the entity of a system for the end of that reference at that address, in order
abbrev pub sent_to : ℕ → List ℕ → ℕ → List Post → List Sent
sent_to system to reference [] = []
sent_to system to reference (post ∷ posts) =
    if post.system == system && is_sent_to to reference post.sent then post.sent ∷ sent_to system to reference posts else sent_to system to reference posts

-- ---- what an end says

-- the end is Opened or Closing
abbrev pub IsLive : StateData → Type 0
IsLive (Opened o) = Prim.Unit {0}
IsLive (Closing c) = Prim.Unit {0}
IsLive stage = ⊥

-- the source of a CC, a DR or a DC is that reference
abbrev pub IsBy : ℕ → Tpdu → Type 0
IsBy own (Cc credit destination source width calling called size preferred extra version classes ack_time text) = source ≡ own
IsBy own (Dr destination source reason info text) = source ≡ own
IsBy own (Dc destination source) = source ≡ own
IsBy own other = Prim.Unit {0}

-- an end says it to its partner, as itself, and in the format that was agreed
pub record IsSpoken (b : EndRecord) (sent : Sent) : Type 0 where
  pub to : sent.to ≡ b.to
  pub target : destination_of sent.tpdu ≡ Some b.partner
  pub source : IsBy b.own sent.tpdu
  pub format : sent.format ≡ agreed_format b.agreed

-- what an end is for its partner stays
pub record KeepsParty (old new : EndRecord) : Type 0 where
  pub own : new.own ≡ old.own
  pub to : new.to ≡ old.to
  pub partner : new.partner ≡ old.partner
  pub agreed : new.agreed ≡ old.agreed

-- a row leaves it so, and what it sends is spoken
pub record Speaks (b : EndRecord) (m : Moved) : Type 0 where
  pub keeps : KeepsParty b m.base
  pub tpdus : AllByRecursion (IsSpoken b) m.tpdus

-- what comes is of the partner
abbrev pub IsFromPartner : EndRecord → Event → Type 0
IsFromPartner b (Took tpdu sum) = is_source b tpdu ≡ true
IsFromPartner b event = Prim.Unit {0}

-- the halves of an end that is Opened are its own
abbrev pub HasOwn : EndRecord → StateData → Type 0
HasOwn b (Opened o) = AreOwn b o.halves
HasOwn b stage = Prim.Unit {0}

-- ---- two ends, and what waits between them

-- a TPDU that waits from the system of an end: if it is a CR, CC or DR of that end, it is for its partner
abbrev pub IsForPartner : (system reference : ℕ) → (to : List ℕ) → (partner : ℕ) → Post → Type 0
IsForPartner system reference to partner post = post.system ≡ system → Names reference post.sent.tpdu → IsSentTo to partner post.sent

-- a CC that waits has a source
abbrev pub HasCcSource : Post → Type 0
HasCcSource post = HasSource (seen 0 post.sent.tpdu)

-- the end stands so
pub record Stands {C : Type 0} (last : World C) (x : ℕ) (e : End) : Type 0 where
  pub system : ℕ
  pub reference : ℕ
  pub entity : Entity
  pub is_end : IsEnd last x system entity reference e

-- The one end of the two: it knows the other, and what waits from it for the other is what waits so in the queue, with the units of the journal. No CR, CC or DR of it waits for another end
pub record IsSide {C : Type 0} (journal : List JournalEvent) (last : World C) (posts : List Post) (x y : ℕ) (mine theirs : End) (here : Stands last x mine) (there : Stands last y theirs)
    (waits : List Sent) (gave showed : List Marked) : Type 0 where
  pub to_is : mine.base.to ≡ there.entity.own
  pub partner_is : mine.base.partner ≡ there.reference
  pub waits_are : waits ≡ sent_to here.system there.entity.own there.reference posts
  pub spoken : AllByRecursion (IsSpoken mine.base) waits
  pub named : AllByRecursion (IsForPartner here.system here.reference there.entity.own there.reference) posts
  pub gave_is : gave ≡ submitted x journal
  pub showed_is : showed ≡ shown x journal

-- the pair has these two ends at the clock of the network, and what waits between them
pub record IsFollowed {C : Type 0} (link : C → Link (List ℕ)) (journal : List JournalEvent) (last : World C) (posts : List Post) (x y : ℕ) (p : Pair) : Type 0 where
  pub calling : Stands last x p.calling
  pub called : Stands last y p.called
  pub forth : IsSide journal last posts x y p.calling p.called calling called p.forth p.calling_gave p.calling_showed
  pub back : IsSide journal last posts y x p.called p.calling called calling p.back p.called_gave p.called_showed
  pub apart : x ≡ y → ⊥
  pub format : agreed_format p.calling.base.agreed ≡ agreed_format p.called.base.agreed
  pub clock : p.clock ≡ (link last.carrier).clock
  pub sourced : AllByRecursion HasCcSource posts

-- ---- what an entity hears

-- An entity hears one TPDU that was sent from that address: it takes it as it was sent, where it is not silent and reads it in the format in which it was written; else as it is read, or tells a
-- fault of it, or ignores it, as one does that is silent
pub record IsHeard (now : ℕ) (entity : Entity) (from : List ℕ) (sent : Sent) (acted : Acted) : Type 0 where
  pub as_sent : is_silent now entity ≡ false → IsReadBy entity sent → acted ≡ met whole now (at now entity) from (sent.tpdu, is_summed sent.sum sent.tpdu)
  pub any : ((t : Tpdu) × (sum : Bool) × (acted ≡ met whole now (at now entity) from (t, sum)) × IsReadAs entity sent (t, sum))
      ⊎ (((cause : TpduCause) × (place : ℕ) × (acted ≡ record { entity = at now entity; events = record { reference = 0; what = BadTpdu cause place } ∷ []; tpdus = [] }))
      ⊎ (acted ≡ ignored now entity))
